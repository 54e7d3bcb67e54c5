-- Worked sessions with clients alone.
use Rattle.std.specs.Prelude.{[], ◌∷◌, codes, true, false}
use Rattle.iss_edge.specs.declared.outside.Action.TheVariants.{Emit, Close}
use Rattle.iss_model.specs.run.Runs.{Run, run_after}
use Rattle.iss_book_examples.specs.WorkedRuns.{fresh_device, user_of}
use Rattle.iss_session.specs.Items.{judges}
use Rattle.iss_session.specs.Sessions.{session_of}
use Rattle.iss_session_examples.specs.Telling.{WorkedSession, channel, comes, is_ready, over, gives, gives_no_head, goes_out, tears, asks, post, new_user, response, closes}

-- a device of 3000 bytes that holds nothing
abbrev pub empty_device : Run
empty_device = fresh_device 0 3000

-- a request in three pieces, cut inside its last header line and inside its body, is answered as one in a piece is
abbrev pub three_pieces : WorkedSession
three_pieces =
    record {
      start = session_of empty_device 1000;
      happenings =
          comes 1
          ∷ is_ready 1 ∷ gives 1 (codes "POST /events HTTP/1.1\r\nHost: x\r\nContent-")
          ∷ is_ready 1 ∷ gives 1 (codes "Length: 40\r\n\r\n{\"type")
          ∷ is_ready 1 ∷ gives 1 (codes "\":\"user\",\"token\":\"t1\",\"user\":\"u1\"}")
          ∷ judges ∷ goes_out 1
          ∷ over ∷ [];
      done =
          Emit (channel 1) (codes "HTTP/1.1 200 OK\r\nContent-Type: application/json\r\nContent-Length: 30\r\nConnection: close\r\n\r\n{\"event\":\"t1\",\"reply\":\"done\"}\n") true
          ∷ Close (channel 1) ∷ [];
      levels = 1 ∷ [];
      records = 1;
    }

-- a body with a transfer coding is refused by name
abbrev pub chunked_body : WorkedSession
chunked_body =
    record {
      start = session_of empty_device 1000;
      happenings = asks 1 (codes "POST /events HTTP/1.1\r\nTransfer-Encoding: chunked\r\n\r\n") (goes_out 1 ∷ over ∷ []);
      done = response 1 "400 Bad Request" "34" "{\"fault\":\"CODING\",\"reply\":\"http\"}" [];
      levels = 0 ∷ [];
      records = 0;
    }

-- a body of one byte more than there may be is refused before it comes
abbrev pub long_body : WorkedSession
long_body =
    record {
      start = session_of empty_device 1000;
      happenings = asks 1 (codes "POST /events HTTP/1.1\r\nContent-Length: 16385\r\n\r\n") (goes_out 1 ∷ over ∷ []);
      done = response 1 "400 Bad Request" "37" "{\"fault\":\"BODY_LONG\",\"reply\":\"http\"}" [];
      levels = 0 ∷ [];
      records = 0;
    }

-- there is one path
abbrev pub another_path : WorkedSession
another_path =
    record {
      start = session_of empty_device 1000;
      happenings = asks 1 (codes "POST /x HTTP/1.1\r\nContent-Length: 1\r\n\r\n") (goes_out 1 ∷ over ∷ []);
      done = response 1 "404 Not Found" "32" "{\"fault\":\"PATH\",\"reply\":\"http\"}" [];
      levels = 0 ∷ [];
      records = 0;
    }

-- no head begins with a space, and that is answered at once
abbrev pub space_before_the_head : WorkedSession
space_before_the_head =
    record {
      start = session_of empty_device 1000;
      happenings = comes 1 ∷ is_ready 1 ∷ gives_no_head 1 (codes " POST /events HTTP/1.1\r\nContent-Length: 1\r\n\r\n") ∷ goes_out 1 ∷ over ∷ [];
      done = response 1 "400 Bad Request" "32" "{\"fault\":\"HEAD\",\"reply\":\"http\"}" [];
      levels = 0 ∷ [];
      records = 0;
    }

-- an event, the same again, and a line with the time, which no client may send: one record
abbrev pub three_clients : WorkedSession
three_clients =
    record {
      start = session_of empty_device 1000;
      happenings =
          asks 1 new_user (judges ∷ goes_out 1
          ∷ asks 2 new_user (judges ∷ goes_out 2
          ∷ asks 3 (post "24" "{\"type\":\"time\",\"at\":\"1\"}") (goes_out 3
          ∷ over ∷ [])));
      done =
          response 1 "200 OK" "30" "{\"event\":\"t1\",\"reply\":\"done\"}"
          (response 2 "200 OK" "30" "{\"event\":\"t1\",\"reply\":\"done\"}"
          (response 3 "400 Bad Request" "48" "{\"fault\":\"FIELD\",\"field\":\"type\",\"reply\":\"form\"}" []));
      levels = 1 ∷ 1 ∷ 1 ∷ [];
      records = 1;
    }

-- a response of which three bytes go out: the channel is closed, and the record stands
abbrev pub torn_response : WorkedSession
torn_response =
    record {
      start = session_of empty_device 1000;
      happenings = asks 1 new_user (judges ∷ tears 1 (codes "HTT") ∷ over ∷ []);
      done = Emit (channel 1) (codes "HTT") false ∷ Close (channel 1) ∷ [];
      levels = 1 ∷ [];
      records = 1;
    }

-- a third user doesn't fit on a device of 75 bytes, which a client is told with what is free and what is needed
abbrev pub full_device : WorkedSession
full_device =
    record {
      start = session_of (run_after (fresh_device 0 75) (user_of "t1" "u1" ∷ user_of "t2" "u2" ∷ [])) 1000;
      happenings = asks 1 (post "40" "{\"type\":\"user\",\"token\":\"t3\",\"user\":\"u3\"}") (judges ∷ goes_out 1 ∷ over ∷ []);
      done = response 1 "507 Insufficient Storage" "37" "{\"free\":18,\"need\":20,\"reply\":\"full\"}" [];
      levels = 2 ∷ [];
      records = 2;
    }

-- a client whose request isn't whole when the run is over: its channel is closed without an answer
abbrev pub half_a_request : WorkedSession
half_a_request =
    record {
      start = session_of empty_device 3;
      happenings = comes 1 ∷ is_ready 1 ∷ gives 1 (codes "POST /events HTTP/1.1\r\n") ∷ comes 2 ∷ [];
      done = closes 1 (closes 2 []);
      levels = [];
      records = 0;
    }
