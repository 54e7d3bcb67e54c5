-- Runs on devices: their lines, and the texts that they write, each with its level.
use Rattle.std.specs.Prelude.{◌≡◌, ℕ, pos, neg_ℤ, false, List, [], ◌∷◌, ◌++◌, codes, Some, None}
use Prim.Native.String.{String}
use Rattle.iss_model.specs.declared.currency.Currency.{Currency}
use Rattle.iss_model.specs.declared.currency.Currency.TheVariants.{Usd, Jpy, Kwd}
use Rattle.iss_model.specs.declared.call.Method.TheVariants as method
use Rattle.iss_model.specs.declared.call.Opened.{Opened}
use Rattle.iss_model.specs.declared.input.Outcome.TheVariants as outcome
use Rattle.iss_model.specs.declared.input.Input.{Input}
use Rattle.iss_model.specs.declared.input.Input.TheVariants as input
use Rattle.iss_model.specs.rules.Histories.{nothing_yet}
use Rattle.iss_model.specs.run.Rooms.{one_journal}
use Rattle.iss_model.specs.run.Transcripts.{Reading, sound, Text}
use Rattle.iss_model.specs.run.Runs.{Run, run_after, transcript_of}
use Rattle.iss_model.specs.texts.DrillLines.{DrillTotals}
use Rattle.iss_model.specs.texts.BalanceLines.{balance_lines}
use Rattle.iss_book_examples.specs.Scripts.{Script, history_after, call_number, gateway_product, new_user, card_of, purchase, gateway_answer}

-- a device of this size and instance that holds no record
abbrev pub fresh_device : ℕ → ℕ → Run
fresh_device instance size = record { instance = instance; room = Some (one_journal size); history = nothing_yet }

-- a line without a stamp
abbrev pub line : Input → Reading
line i = sound i None

-- a line with a stamp
abbrev pub line_at : ℕ → Input → Reading
line_at at i = sound i (Some at)

-- a line that goes out at a level
abbrev pub text_at : ℕ → String → Text
text_at level text = record { level = level; bytes = codes text ++ 10 ∷ [] }

-- these lines make a run write these texts
abbrev pub Writes : Run → List Reading → List Text → Type 0
Writes s lines texts = transcript_of s lines ≡ texts

-- a user with a token
abbrev pub user_of : String → String → Reading
user_of token user = line (input.User (codes token) (codes user))

-- a load of a user
abbrev pub load_of : String → String → Currency → ℕ → Reading
load_of token user currency amount = line (input.Load (codes token) (codes user) currency amount)

-- six users for a device of 75 bytes
abbrev pub six_users : List Reading
six_users =
    user_of "t1" "u1"
    ∷ user_of "t2" "u2"
    ∷ user_of "t3" "u3"
    ∷ user_of "x" "y"
    ∷ user_of "t3" "u3"
    ∷ user_of "t1" "u1"
    ∷ []

-- two of them fit, and then a shorter one, which leaves no room
abbrev pub six_users_told : List Text
six_users_told =
    text_at 1 "{\"event\":\"t1\",\"reply\":\"done\"}"
    ∷ text_at 2 "{\"event\":\"t2\",\"reply\":\"done\"}"
    ∷ text_at 2 "{\"free\":18,\"need\":20,\"reply\":\"full\"}"
    ∷ text_at 3 "{\"event\":\"x\",\"reply\":\"done\"}"
    ∷ text_at 3 "{\"free\":0,\"need\":20,\"reply\":\"full\"}"
    ∷ text_at 3 "{\"event\":\"t1\",\"reply\":\"done\"}"
    ∷ []

-- a device of instance 7 after a purchase that the gateway is asked for
abbrev pub asked_device : Run
asked_device =
    run_after (fresh_device 7 1000)
    (line gateway_product ∷ line new_user ∷ line (card_of "g") ∷ line_at 1000 (purchase "a1" 6000) ∷ [])

-- the request that is sent then, and again by each run until it is answered
abbrev pub request_again : Text
request_again =
    text_at 4 "{\"amount\":\"60.00\",\"card\":\"c1\",\"currency\":\"USD\",\"event\":\"a1\",\"mcc\":\"5411\",\"method\":\"pgfs.authorization\",\"mid\":\"m1\",\"number\":1,\"token\":\"00000000-0007-8000-8000-000000000001\",\"txn\":\"a1\",\"user\":\"u1\"}"

-- the gateway funds that call
abbrev pub funded_answer : List Reading
funded_answer = line (gateway_answer 1 outcome.Funded) ∷ []

-- the call's deadline goes by, and then its answer comes
abbrev pub late_answer : List Reading
late_answer = line_at 4000 (gateway_answer 1 outcome.Funded) ∷ []

-- the same device with no room for one more byte
abbrev pub without_room : Run → Run
without_room s = record s { room = Some (one_journal 128) }

-- lines of a report
abbrev pub report_line : String → List ℕ
report_line text = codes text ++ 10 ∷ []

-- the report of a script, when it is over
abbrev pub Reports : Script → List (List ℕ) → Type 0
Reports script lines = balance_lines (history_after nothing_yet script.steps) ≡ lines

-- a purchase of 20.00 that was cleared for 22.00
abbrev pub cleared_report : List (List ℕ)
cleared_report =
    report_line "{\"account\":\"gateway\",\"balance\":\"-20.00\",\"currency\":\"USD\"}"
    ∷ report_line "{\"account\":\"network\",\"balance\":\"22.00\",\"currency\":\"USD\"}"
    ∷ report_line "{\"account\":\"programme\",\"balance\":\"-2.00\",\"currency\":\"USD\"}"
    ∷ report_line "{\"account\":\"user\",\"balance\":\"0.00\",\"currency\":\"USD\",\"held\":\"0.00\",\"user\":\"u1\"}"
    ∷ report_line "{\"calls\":0,\"notices\":2,\"records\":7}"
    ∷ []

-- two users, u10 first, with loads in three currencies
abbrev pub loads_of_two : List Reading
loads_of_two =
    user_of "t1" "u10"
    ∷ user_of "t2" "u1"
    ∷ load_of "l1" "u10" Usd 100
    ∷ load_of "l2" "u1" Kwd 1234
    ∷ load_of "l3" "u1" Jpy 1500
    ∷ []

-- their report: by account, then by the bytes of the name, then by the currency's number
abbrev pub loads_report : List (List ℕ)
loads_report =
    report_line "{\"account\":\"programme\",\"balance\":\"-1500\",\"currency\":\"JPY\"}"
    ∷ report_line "{\"account\":\"programme\",\"balance\":\"-1.234\",\"currency\":\"KWD\"}"
    ∷ report_line "{\"account\":\"programme\",\"balance\":\"-1.00\",\"currency\":\"USD\"}"
    ∷ report_line "{\"account\":\"user\",\"balance\":\"1500\",\"currency\":\"JPY\",\"held\":\"0\",\"user\":\"u1\"}"
    ∷ report_line "{\"account\":\"user\",\"balance\":\"1.234\",\"currency\":\"KWD\",\"held\":\"0.000\",\"user\":\"u1\"}"
    ∷ report_line "{\"account\":\"user\",\"balance\":\"1.00\",\"currency\":\"USD\",\"held\":\"0.00\",\"user\":\"u10\"}"
    ∷ report_line "{\"calls\":0,\"notices\":0,\"records\":5}"
    ∷ []

-- the totals of a drill of three events
abbrev pub drill_of_three : DrillTotals
drill_of_three =
    record {
      approved = 1;
      declined = 2;
      gateway = neg_ℤ (pos 114);
      held = pos 114;
      lines = 27;
      network = pos 0;
      notices = 0;
      programme = pos 0;
      records = 27;
      repeats = 0;
    }

-- the line of the totals of a drill of three events
abbrev pub line_of_three : List ℕ
line_of_three =
    report_line "{\"approved\":1,\"declined\":2,\"gateway\":\"-1.14\",\"held\":\"1.14\",\"lines\":27,\"network\":\"0.00\",\"notices\":0,\"programme\":\"0.00\",\"records\":27,\"repeats\":0}"

-- the call of a purchase
abbrev pub first_call : Opened
first_call =
    record {
      call = call_number 1;
      event = codes "a1";
      txn = codes "a1";
      method = method.Authorization;
      card = codes "c1";
      user = codes "u1";
      currency = Usd;
      mcc = 5411;
      mid = codes "m1";
      amount = 6000;
      partial = false;
      at = 1000;
      deadline = 4000;
    }
