-- What the customer's gateway is sent: a request for each call, and notices that need no answer but an acknowledgement.
use Rattle.std.specs.Prelude.{ℕ, pos, Bool, true, false, List, [], ◌∷◌, ◌++◌, codes, Option, Some, None}
use Rattle.iss_model.specs.declared.call.CallId.{CallId}
use Rattle.iss_model.specs.declared.call.Method.{Method}
use Rattle.iss_model.specs.declared.call.Method.TheVariants as method
use Rattle.iss_model.specs.declared.call.Opened.{Opened}
use Rattle.iss_model.specs.declared.call.Notice.{Notice}
use Rattle.iss_model.specs.Currencies.{currency_code}
use Rattle.iss_model.specs.Amounts.{amount_text, last_digits}
use Rattle.iss_model.specs.texts.CallTokens.{call_uuid, uuid_text}
use Rattle.iss_model.specs.texts.Wordings.{Member, with_text, with_number, with_true, object_text}

-- the name of what a message is about
abbrev pub method_text : Method → List ℕ
method_text method.Authorization = codes "pgfs.authorization"
method_text method.Incremental = codes "pgfs.authorization.incremental"
method_text method.Void = codes "x.void"
method_text method.StandIn = codes "x.standin"
method_text method.Reversal = codes "pgfs.authorization.reversal"
method_text method.Capture = codes "pgfs.authorization.capture"
method_text method.Refund = codes "pgfs.refund"
method_text method.Expiry = codes "x.expiry"

-- a call's token at an instance
abbrev pub token_text : ℕ → ℕ → List ℕ
token_text instance number = uuid_text (call_uuid instance number)

-- the member of a call that permits a part
abbrev pub partial_members : Bool → List Member
partial_members false = []
partial_members true = with_true (codes "partial") ∷ []

-- the members of a request to the gateway
abbrev pub request_members : ℕ → Opened → List Member
request_members instance o =
    with_text (codes "amount") (amount_text (pos o.amount) o.currency)
    ∷ with_text (codes "card") o.card
    ∷ with_text (codes "currency") (currency_code o.currency)
    ∷ with_text (codes "event") o.event
    ∷ with_text (codes "mcc") (last_digits 4 o.mcc)
    ∷ with_text (codes "method") (method_text o.method)
    ∷ with_text (codes "mid") o.mid
    ∷ with_number (codes "number") o.call.0
    ∷ partial_members o.partial
    ++ with_text (codes "token") (token_text instance o.call.0)
    ∷ with_text (codes "txn") o.txn
    ∷ with_text (codes "user") o.user
    ∷ []

-- the token of the call that a notice ends, if it ends one
abbrev pub token_members : ℕ → Option CallId → List Member
token_members instance None = []
token_members instance (Some call) = with_text (codes "token") (token_text instance call.0) ∷ []

-- the members of a notice to the gateway
abbrev pub notice_members : ℕ → Notice → List Member
notice_members instance n =
    with_text (codes "amount") (amount_text (pos n.amount) n.currency)
    ∷ with_text (codes "currency") (currency_code n.currency)
    ∷ with_text (codes "gateway") (amount_text (pos n.gateway) n.currency)
    ∷ with_text (codes "method") (method_text n.method)
    ∷ with_number (codes "notice") n.number
    ∷ token_members instance n.call
    ++ with_text (codes "txn") n.txn
    ∷ with_text (codes "user") n.user
    ∷ []

-- the text of a request, with no line feed
unfoldable pub request_text : ℕ → Opened → List ℕ
request_text instance o = object_text (request_members instance o)

-- the text of a notice, with no line feed
unfoldable pub notice_text : ℕ → Notice → List ℕ
notice_text instance n = object_text (notice_members instance n)
