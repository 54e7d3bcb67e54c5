-- What a pass reads in turn is what is read by the list of transactions.
use Rattle.std.proofs.Common.{◌≡◌, ◌∙◌, ap, Bool, cond, false, List, sym, true}
use Rattle.std.specs.Prelude.{Option, Some, None}
use Rattle.std.specs.List.{list_all}
use Rattle.iss_model.specs.declared.state.Carried.{Carried}
use Rattle.iss_model.specs.declared.state.Seen.{Seen}
use Rattle.iss_states.specs.Order.{have_tokens_of_their_own, is_event_record}
use Rattle.iss_known.specs.Known.{KnownNow}
use Rattle.iss_known.specs.Reading.{are_listed, if_listed, known_in_turn, nothing_known, read_by}
use Rattle.iss_known.proofs.InTurn.{turn_is_listed}

module _ (es : List Seen) (ts : List Carried) (own : have_tokens_of_their_own es ≡ true) (forms : list_all is_event_record es ≡ true) where
  by_list : (o : Option KnownNow) → o ≡ known_in_turn ts nothing_known es → if_listed ts o ≡ read_by es ts
  by_list o is = ap (if_listed ts) is ∙ turn_is_listed es ts own forms

  pub read_none : None ≡ known_in_turn ts nothing_known es → None ≡ read_by es ts
  read_none is = by_list None is

  pub read_listed : (k : KnownNow) → Some k ≡ known_in_turn ts nothing_known es → are_listed ts k.txns ≡ true → Some k ≡ read_by es ts
  read_listed k is listed = sym (ap (λ (b : Bool). cond b (Some k) None) listed) ∙ by_list (Some k) is

  pub read_unlisted : (k : KnownNow) → Some k ≡ known_in_turn ts nothing_known es → are_listed ts k.txns ≡ false → None ≡ read_by es ts
  read_unlisted k is listed = sym (ap (λ (b : Bool). cond b (Some k) None) listed) ∙ by_list (Some k) is
