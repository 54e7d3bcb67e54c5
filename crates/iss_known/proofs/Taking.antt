-- An event taken up in steps: its setting, then its transaction, and then its call.
use Rattle.std.proofs.Common.{◌≡◌, ◌∙◌, ◌++◌, ℕ, ap, Bool, List, refl, sym, true}
use Rattle.std.specs.Prelude.{Option, Some, None, is_none, is_some, option_and_then, option_map}
use Rattle.std.specs.List.{list_all}
use Rattle.std.proofs.lemmas.Bool.{and_parts}
use Rattle.iss_model.specs.declared.call.CallState.{CallState}
use Rattle.iss_model.specs.declared.currency.Currency.{Currency}
use Rattle.iss_model.specs.declared.input.Input.{Input}
use Rattle.iss_model.specs.declared.input.Input.TheVariants as input
use Rattle.iss_model.specs.declared.setting.Card.{Card}
use Rattle.iss_model.specs.declared.setting.Product.{Product}
use Rattle.iss_model.specs.declared.state.Seen.{Seen}
use Rattle.iss_model.specs.declared.txn.Txn.{Txn}
use Rattle.iss_model.specs.Forms.{is_in_form, is_stamp}
use Rattle.iss_model.specs.Inputs.{event_token}
use Rattle.iss_model.specs.Tokens.{is_token}
use Rattle.iss_model.specs.rules.Activity.{CallNow, TxnNow, txn_named}
use Rattle.iss_model.specs.rules.Asks.{Ask, txn_begun}
use Rattle.iss_model.specs.rules.CardReasons.{first_ask, further_ask, txn_asked}
use Rattle.iss_model.specs.rules.Facts.{Facts}
use Rattle.iss_model.specs.rules.Settings.{card_named, product_named}
use Rattle.iss_model.specs.rules.Stepping.{authorization_ask}
use Rattle.iss_model.specs.texts.Spelling.{has_spelling, is_record, tokens_of}
use Rattle.iss_states.specs.Order.{is_event_record}
use Rattle.iss_states.specs.Rebuilding.{ask_of_event}
use Rattle.iss_rebuilt.proofs.MadeShown.{first_named}
use Rattle.iss_known.specs.Known.{KnownNow}
use Rattle.iss_known.specs.Reading.{ask_known, begun_by, called_by, facts_known, is_of_call, known_after, makes_its_call, settled_known, with_ask}
use Rattle.iss_known.proofs.Fresh.{settled_txns}
use Rattle.iss_known.proofs.ShownAgain.{token_of}

-- forms ----

pub its_stamp : (e : Seen) → is_event_record e ≡ true → is_stamp e.body.at ≡ true
its_stamp e form = (and_parts (is_stamp e.body.at) (has_spelling e.body.input) (and_parts (is_some (event_token e.body.input)) (is_record e.body) form).1).0

pub its_input : (e : Seen) → is_event_record e ≡ true → is_in_form e.body.input ≡ true
its_input e form =
    (and_parts (is_in_form e.body.input) (list_all is_token (tokens_of e.body.input))
    (and_parts (is_stamp e.body.at) (has_spelling e.body.input) (and_parts (is_some (event_token e.body.input)) (is_record e.body) form).1).1).0

-- asks ----

-- an authorisation of a known card whose product isn't known asks nothing
pub no_product : (f : Facts) (token card : List ℕ) (currency : Currency) (amount mcc : ℕ) (mid : List ℕ) (partial : Bool) (at : ℕ) (x : Card) → Some x ≡ card_named card f.cards → None ≡ product_named x.product f.products
    → None ≡ authorization_ask f token card currency amount mcc mid partial at
no_product f token card currency amount mcc mid partial at x known none =
    ap (λ (o : Option Product). option_map (first_ask token amount partial at) (option_map (λ product. txn_begun f x product token currency mcc mid at) o)) none
    ∙ ap (λ (o : Option Card). option_map (first_ask token amount partial at) (option_and_then (λ c. option_map (λ product. txn_begun f c product token currency mcc mid at) (product_named c.product f.products)) o)) known

-- one of a known card and a known product asks for the transaction that it begins
pub product_sold : (f : Facts) (token card : List ℕ) (currency : Currency) (amount mcc : ℕ) (mid : List ℕ) (partial : Bool) (at : ℕ) (x : Card) (p : Product) → Some x ≡ card_named card f.cards → Some p ≡ product_named x.product f.products
    → Some (first_ask token amount partial at (txn_begun f x p token currency mcc mid at)) ≡ authorization_ask f token card currency amount mcc mid partial at
product_sold f token card currency amount mcc mid partial at x p known sold =
    ap (λ (o : Option Product). option_map (first_ask token amount partial at) (option_map (λ product. txn_begun f x product token currency mcc mid at) o)) sold
    ∙ ap (λ (o : Option Card). option_map (first_ask token amount partial at) (option_and_then (λ c. option_map (λ product. txn_begun f c product token currency mcc mid at) (product_named c.product f.products)) o)) known

-- an ask has the stamp of its event
pub asked_at : (f : Facts) (at : ℕ) (i : Input) (x : Ask) → Some x ≡ ask_of_event f at i → x.at ≡ at
asked_at f at (input.Authorization token card currency amount mcc mid partial) x e = by (txn_asked f token card currency mcc mid at) e
  where
    by : (o : Option Txn) → Some x ≡ option_map (first_ask token amount partial at) o → x.at ≡ at
    by None e = cc
    by (Some t) e = cc
asked_at f at (input.Increment token txn currency amount) x e = by (txn_named txn f.txns) e
  where
    by : (o : Option TxnNow) → Some x ≡ option_map (λ now. further_ask token amount at now.txn) o → x.at ≡ at
    by None e = cc
    by (Some now) e = cc
asked_at f at _ x e = cc

-- steps ----

module _ (live : List ℕ → Option Bool) (k : KnownNow) (e : Seen) where
  abbrev settled : KnownNow
  settled = settled_known k e.verdict e.body.input

  pub taken_none : (after : KnownNow) → after ≡ settled → None ≡ ask_known after e → after ≡ known_after live k e
  taken_none after same none = same ∙ ap (with_ask live settled e.mark) (none ∙ ap (λ (s : KnownNow). ask_known s e) same)

  pub called_none : (after : KnownNow) (called : Bool) → after ≡ settled → None ≡ ask_known after e → called ≡ is_none e.mark → called ≡ makes_its_call k e
  called_none after called same none is = is ∙ by e.mark ∙ ap (is_of_call settled e.mark) (none ∙ ap (λ (s : KnownNow). ask_known s e) same)
    where
      by : (mark : Option CallState) → is_none mark ≡ is_of_call settled mark None
      by None = refl
      by (Some mark) = refl

  module _ (after begun : KnownNow) (x : Ask) (same : after ≡ settled) (asks : Some x ≡ ask_known after e) (begins : begun ≡ record after { txns = after.txns ++ begun_by live x }) where
    begun_is : begun ≡ record settled { txns = settled.txns ++ begun_by live x }
    begun_is = begins ∙ ap (λ (s : KnownNow). record s { txns = s.txns ++ begun_by live x }) same

    asks_too : Some x ≡ ask_known settled e
    asks_too = asks ∙ ap (λ (s : KnownNow). ask_known s e) same

    calls_alike : (mark : Option CallState) → called_by (record settled { txns = settled.txns ++ begun_by live x }) mark x ≡ called_by settled mark x
    calls_alike None = refl
    calls_alike (Some mark) = refl

    pub taken_some : (last : KnownNow) → last ≡ record begun { calls = begun.calls ++ called_by begun e.mark x } → last ≡ known_after live k e
    taken_some last is =
        is
        ∙ ap (λ (s : KnownNow). record s { calls = s.calls ++ called_by s e.mark x }) begun_is
        ∙ ap (λ (xs : List CallNow). record settled { txns = settled.txns ++ begun_by live x; calls = settled.calls ++ xs }) (calls_alike e.mark)
        ∙ ap (with_ask live settled e.mark) asks_too

    pub called_some : (called : Bool) → called ≡ is_of_call begun e.mark (Some x) → called ≡ makes_its_call k e
    called_some called is =
        is
        ∙ ap (λ (s : KnownNow). is_of_call s e.mark (Some x)) begun_is
        ∙ by e.mark
        ∙ ap (is_of_call settled e.mark) asks_too
      where
        by : (mark : Option CallState) → is_of_call (record settled { txns = settled.txns ++ begun_by live x }) mark (Some x) ≡ is_of_call settled mark (Some x)
        by None = refl
        by (Some mark) = refl

  -- the transaction of an authorisation isn't known yet
  pub new_txn : (after : KnownNow) (x : Ask) → after ≡ settled → Some x ≡ ask_known after e → txn_named (token_of e) k.txns ≡ None → x.is_first ≡ true → txn_named x.txn.token after.txns ≡ None
  new_txn after x same asks fresh first =
      ap (λ (t : List ℕ). txn_named t after.txns) (first_named (facts_known after e.number) e.body.at e.body.input x (sym asks) first)
      ∙ ap (λ (s : KnownNow). txn_named (token_of e) s.txns) same
      ∙ ap (λ (ts : List TxnNow). txn_named (token_of e) ts) (settled_txns k e)
      ∙ fresh
