-- Worked sessions with the gateway.
use Rattle.std.specs.Prelude.{[], ◌∷◌, ◌++◌, codes}
use Rattle.iss_model.specs.run.Runs.{Run, run_after}
use Rattle.iss_book_examples.specs.Scripts as script
use Rattle.iss_book_examples.specs.WorkedRuns.{fresh_device, line}
use Rattle.iss_session.specs.Items.{judges}
use Rattle.iss_session.specs.Sessions.{session_of}
use Rattle.iss_session.specs.Happenings.{session_after}
use Rattle.iss_session_examples.specs.Program.{program_readers}
use Rattle.iss_session_examples.specs.Telling.{WorkedSession, comes, is_ready, time, idle, over, gives, ends, dial_fails, goes_out, asks, sent_to_gateway, purchase, partial_purchase, response, request, partial_request, void, bare_answer, closes, take_fails}

-- a device with instance 7 that holds a product of the gateway, a user and a card
abbrev pub gateway_device : Run
gateway_device = run_after (fresh_device 7 3000) (line script.gateway_product ∷ line script.new_user ∷ line (script.card_of "g") ∷ [])

-- Two purchases wait for the gateway at once. It first funds the second, and then refuses the first. A client that comes and ends changes
-- nothing.
abbrev pub two_in_flight : WorkedSession
two_in_flight =
    record {
      start = session_of gateway_device 1000;
      happenings =
          asks 1 (purchase "a1" "60.00") (judges ∷ sent_to_gateway 1000001
          (asks 2 (purchase "a2" "30.00") (judges ∷ sent_to_gateway 1000002
          (is_ready 1000002
          ∷ gives 1000002 (codes "HTTP/1.1 200 OK\r\nContent-Length: 65\r\n\r\n{\"token\":\"00000000-0007-8000-8000-000000000002\",\"amount\":\"30.00\"}")
          ∷ judges ∷ goes_out 2
          ∷ comes 3 ∷ is_ready 3 ∷ ends 3
          ∷ is_ready 1000001 ∷ gives 1000001 (bare_answer "402 Payment Required")
          ∷ judges ∷ goes_out 1
          ∷ over ∷ []))));
      done =
          request 1000001 "1" "a1" "60.00"
          (request 1000002 "2" "a2" "30.00"
          (closes 1000002
          (response 2 "200 OK" "34" "{\"event\":\"a2\",\"reply\":\"approved\"}"
          (closes 3
          (closes 1000001
          (response 1 "200 OK" "62" "{\"event\":\"a1\",\"reason\":\"GATEWAY_DECLINED\",\"reply\":\"declined\"}" []))))));
      levels = 4 ∷ 5 ∷ 6 ∷ 7 ∷ [];
      records = 7;
    }

-- The gateway can't be reached for a purchase. A notice tells it so, and still waits for its acknowledgement at the end.
abbrev pub unreachable_gateway : WorkedSession
unreachable_gateway =
    record {
      start = session_of gateway_device 1000;
      happenings = asks 1 (purchase "a1" "60.00") (judges ∷ dial_fails ∷ judges ∷ sent_to_gateway 1000001 (goes_out 1 ∷ over ∷ []));
      done =
          void 1000001
          (response 1 "200 OK" "64" "{\"event\":\"a1\",\"reason\":\"GATEWAY_CONNECTION\",\"reply\":\"declined\"}"
          (closes 1000001 []));
      levels = 5 ∷ 5 ∷ [];
      records = 5;
    }

-- a run ends after two requests went out, and closes both clients and both links
abbrev pub stopped_in_flight : WorkedSession
stopped_in_flight =
    record {
      start = session_of gateway_device 1000;
      happenings =
          asks 1 (purchase "a1" "60.00") (judges ∷ sent_to_gateway 1000001
          (asks 2 (purchase "a2" "30.00") (judges ∷ sent_to_gateway 1000002
          (over ∷ []))));
      done =
          request 1000001 "1" "a1" "60.00"
          (request 1000002 "2" "a2" "30.00"
          (closes 1 (closes 2 (closes 1000001 (closes 1000002 [])))));
      levels = 4 ∷ 5 ∷ [];
      records = 5;
    }

-- The next run sends both requests again with the same bytes. It waits once, and nothing comes.
abbrev pub asked_again : WorkedSession
asked_again =
    record {
      start = session_of (session_after program_readers stopped_in_flight.start stopped_in_flight.happenings).run 1;
      happenings = sent_to_gateway 1000001 (sent_to_gateway 1000002 (idle ∷ []));
      done =
          request 1000001 "1" "a1" "60.00"
          (request 1000002 "2" "a2" "30.00"
          (closes 1000001 (closes 1000002 [])));
      levels = 5 ∷ 5 ∷ [];
      records = 5;
    }

-- the gateway's answer comes in three pieces, and after it a time at which nothing is due
abbrev pub answer_in_pieces : WorkedSession
answer_in_pieces =
    record {
      start = session_of gateway_device 1000;
      happenings =
          asks 1 (purchase "a1" "60.00") (judges ∷ sent_to_gateway 1000001
          (is_ready 1000001 ∷ gives 1000001 (codes "HTTP/1.1 ")
          ∷ is_ready 1000001 ∷ gives 1000001 (codes "200 OK\r\nContent-Length: 65\r\n\r\n{\"token\":\"00000000-00")
          ∷ is_ready 1000001 ∷ gives 1000001 (codes "07-8000-8000-000000000001\",\"amount\":\"60.00\"}")
          ∷ judges ∷ goes_out 1
          ∷ time 5000 ∷ judges
          ∷ over ∷ []));
      done =
          request 1000001 "1" "a1" "60.00"
          (closes 1000001
          (response 1 "200 OK" "34" "{\"event\":\"a1\",\"reply\":\"approved\"}" []));
      levels = 4 ∷ 5 ∷ [];
      records = 5;
    }

-- the gateway funds a part of a purchase that permits it, and the client receives how much
abbrev pub funded_in_part : WorkedSession
funded_in_part =
    record {
      start = session_of gateway_device 1000;
      happenings =
          asks 1 (partial_purchase "a1" "60.00") (judges ∷ sent_to_gateway 1000001
          (is_ready 1000001
          ∷ gives 1000001 (codes "HTTP/1.1 200 OK\r\nContent-Length: 65\r\n\r\n{\"token\":\"00000000-0007-8000-8000-000000000001\",\"amount\":\"40.00\"}")
          ∷ judges ∷ goes_out 1
          ∷ over ∷ []));
      done =
          partial_request 1000001 "1" "a1" "60.00"
          (closes 1000001
          (response 1 "200 OK" "50" "{\"amount\":\"40.00\",\"event\":\"a1\",\"reply\":\"partial\"}" []));
      levels = 4 ∷ 5 ∷ [];
      records = 5;
    }

-- the gateway funds a part of a purchase that doesn't permit it: that is no answer, so the call is voided and the purchase declined
abbrev pub part_not_permitted : WorkedSession
part_not_permitted =
    record {
      start = session_of gateway_device 1000;
      happenings =
          asks 1 (purchase "a1" "60.00") (judges ∷ sent_to_gateway 1000001
          (is_ready 1000001
          ∷ gives 1000001 (codes "HTTP/1.1 200 OK\r\nContent-Length: 65\r\n\r\n{\"token\":\"00000000-0007-8000-8000-000000000001\",\"amount\":\"40.00\"}")
          ∷ judges ∷ sent_to_gateway 1000002 (goes_out 1
          ∷ over ∷ [])));
      done =
          request 1000001 "1" "a1" "60.00"
          (closes 1000001
          (void 1000002
          (response 1 "200 OK" "65" "{\"event\":\"a1\",\"reason\":\"GATEWAY_APPLICATION\",\"reply\":\"declined\"}"
          (closes 1000002 []))));
      levels = 4 ∷ 5 ∷ 5 ∷ [];
      records = 5;
    }

-- Before the gateway answers, a time later than the last stamp comes, which counts as the last stamp. The third wait is the last.
abbrev pub too_late : WorkedSession
too_late =
    record {
      start = session_of gateway_device 3;
      happenings =
          asks 1 (purchase "a1" "60.00") (judges ∷ sent_to_gateway 1000001
          (time 999999999999999 ∷ judges ∷ sent_to_gateway 1000002 (goes_out 1 ∷ [])));
      done =
          request 1000001 "1" "a1" "60.00"
          (void 1000002
          (response 1 "200 OK" "61" "{\"event\":\"a1\",\"reason\":\"GATEWAY_TIMEOUT\",\"reply\":\"declined\"}"
          (closes 1000001 (closes 1000002 []))));
      levels = 4 ∷ 5 ∷ 5 ∷ [];
      records = 5;
    }

-- bytes after a whole request, and the end after them, are ignored, and so is a channel that nobody listens to
abbrev pub bytes_behind_a_request : WorkedSession
bytes_behind_a_request =
    record {
      start = session_of gateway_device 1000;
      happenings =
          asks 1 (purchase "a1" "60.00" ++ codes "xyz") (judges ∷ sent_to_gateway 1000001
          (is_ready 1 ∷ gives 1 (codes "more")
          ∷ is_ready 1 ∷ ends 1
          ∷ is_ready 1000001 ∷ gives 1000001 (bare_answer "402 Payment Required")
          ∷ judges ∷ goes_out 1
          ∷ is_ready 9
          ∷ over ∷ []));
      done =
          request 1000001 "1" "a1" "60.00"
          (closes 1000001
          (response 1 "200 OK" "62" "{\"event\":\"a1\",\"reason\":\"GATEWAY_DECLINED\",\"reply\":\"declined\"}" []));
      levels = 4 ∷ 5 ∷ [];
      records = 5;
    }

-- While an event waits for the gateway, the same event again is pending, and another one of its token is in conflict with its record.
abbrev pub pending_and_conflict : WorkedSession
pending_and_conflict =
    record {
      start = session_of gateway_device 1000;
      happenings =
          asks 1 (purchase "a1" "60.00") (judges ∷ sent_to_gateway 1000001
          (asks 2 (purchase "a1" "60.00") (judges ∷ goes_out 2
          ∷ asks 3 (purchase "a1" "50.00") (judges ∷ goes_out 3
          ∷ over ∷ []))));
      done =
          request 1000001 "1" "a1" "60.00"
          (response 2 "200 OK" "33" "{\"event\":\"a1\",\"reply\":\"pending\"}"
          (response 3 "409 Conflict" "45" "{\"event\":\"a1\",\"record\":4,\"reply\":\"conflict\"}"
          (closes 1 (closes 1000001 []))));
      levels = 4 ∷ 4 ∷ 4 ∷ [];
      records = 4;
    }

-- A run on the device that the unreachable gateway left sends the notice again. An answer with another status than 200 leaves it waiting.
abbrev pub notice_refused : WorkedSession
notice_refused =
    record {
      start = session_of (session_after program_readers unreachable_gateway.start unreachable_gateway.happenings).run 1000;
      happenings = sent_to_gateway 1000001 (is_ready 1000001 ∷ gives 1000001 (bare_answer "202 Accepted") ∷ over ∷ []);
      done = void 1000001 (closes 1000001 []);
      levels = 5 ∷ [];
      records = 5;
    }

-- an answer with status 200 acknowledges the notice, by a record of its own
abbrev pub notice_acknowledged : WorkedSession
notice_acknowledged =
    record {
      start = session_of (session_after program_readers unreachable_gateway.start unreachable_gateway.happenings).run 1000;
      happenings = sent_to_gateway 1000001 (is_ready 1000001 ∷ gives 1000001 (bare_answer "200 OK") ∷ judges ∷ over ∷ []);
      done = void 1000001 (closes 1000001 []);
      levels = 5 ∷ [];
      records = 6;
    }

-- an answer can't be understood, so the purchase is declined, and a notice tells the gateway so
abbrev pub garbled_answer : WorkedSession
garbled_answer =
    record {
      start = session_of gateway_device 1000;
      happenings =
          asks 1 (purchase "a1" "60.00") (judges ∷ sent_to_gateway 1000001
          (is_ready 1000001 ∷ gives 1000001 (codes "HTTP/1.1 200 OK\r\nTransfer-Encoding: chunked\r\n\r\n")
          ∷ judges ∷ sent_to_gateway 1000002 (goes_out 1 ∷ over ∷ [])));
      done =
          request 1000001 "1" "a1" "60.00"
          (closes 1000001
          (void 1000002
          (response 1 "200 OK" "65" "{\"event\":\"a1\",\"reason\":\"GATEWAY_APPLICATION\",\"reply\":\"declined\"}"
          (closes 1000002 []))));
      levels = 4 ∷ 5 ∷ 5 ∷ [];
      records = 5;
    }

-- The connection ends amid an answer, which counts as if there were no connection.
abbrev pub answer_cut_short : WorkedSession
answer_cut_short =
    record {
      start = session_of gateway_device 1000;
      happenings =
          asks 1 (purchase "a1" "60.00") (judges ∷ sent_to_gateway 1000001
          (is_ready 1000001 ∷ gives 1000001 (codes "HTTP/1.1 200 OK\r\n")
          ∷ is_ready 1000001 ∷ ends 1000001
          ∷ judges ∷ sent_to_gateway 1000002 (goes_out 1 ∷ over ∷ [])));
      done =
          request 1000001 "1" "a1" "60.00"
          (closes 1000001
          (void 1000002
          (response 1 "200 OK" "64" "{\"event\":\"a1\",\"reason\":\"GATEWAY_CONNECTION\",\"reply\":\"declined\"}"
          (closes 1000002 []))));
      levels = 4 ∷ 5 ∷ 5 ∷ [];
      records = 5;
    }

-- The connection of a client fails while its event waits. The event is decided, and nobody is told.
abbrev pub waiting_client_fails : WorkedSession
waiting_client_fails =
    record {
      start = session_of gateway_device 1000;
      happenings =
          asks 1 (purchase "a1" "60.00") (judges ∷ sent_to_gateway 1000001
          (is_ready 1 ∷ take_fails 1
          ∷ is_ready 1000001 ∷ gives 1000001 (bare_answer "402 Payment Required")
          ∷ judges ∷ over ∷ []));
      done = request 1000001 "1" "a1" "60.00" (closes 1 (closes 1000001 []));
      levels = 4 ∷ [];
      records = 5;
    }
