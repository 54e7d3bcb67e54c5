-- Histories: their first records, and one record more.
use Rattle.std.proofs.Common.{◌≡◌, ℕ, ◌+◌, true, List, [], ◌∷◌, ◌++◌, length, take, drop, fold, refl, sym, ap, subst, ◌∙◌, append_assoc, length-append}
use Rattle.std.specs.List.{list_all}
use Rattle.std.proofs.lemmas.Bool.{and_parts}
use Rattle.std.proofs.lemmas.List.{take-append-drop}
use Rattle.std.proofs.lemmas.List.Folds.{list_all-append}
use Rattle.std.proofs.Math.Seq.{take-append_seam}
use Rattle.iss_model.specs.declared.input.Record.{Record}
use Rattle.iss_model.specs.texts.Spelling.{is_record}
use Rattle.iss_model.specs.rules.Stepping.{step}
use Rattle.iss_model.specs.rules.Histories.{History, Follows, IsLegalAfter, history_keeper, history_of, nothing_yet}
use Rattle.iss_standing.specs.Standing.{AreHistory}
use Rattle.iss_standing.specs.Goings.{AreFirstOf}

-- this record after those
abbrev pub with_record : List Record → Record → List Record
with_record rs r = rs ++ r ∷ []

pub one_more : (rs : List Record) (r : Record) → length (with_record rs r) ≡ length rs + 1
one_more rs r = length-append {A = Record} rs (r ∷ [])

abbrev pub first_one : (rs : List Record) (r : Record) → AreFirstOf rs (with_record rs r)
first_one rs r = record { later = r ∷ []; cut = refl }

-- ---- the record that comes next

-- if these records and this one are the first of all, it comes next after the first ones
pub comes_next : (rs all : List Record) (r : Record) → AreFirstOf (with_record rs r) all → (take (length rs) all ≡ rs) × (take (length rs + 1) all ≡ with_record rs r)
comes_next rs all r first =
    let cut : all ≡ rs ++ (r ∷ first.later) = first.cut ∙ append_assoc rs (r ∷ []) first.later in (
      ap (λ (l : List Record). take (length rs) l) cut ∙ take-append_seam rs (r ∷ first.later),
      ap (λ (n : ℕ). take n all) (sym (one_more rs r)) ∙ ap (λ (l : List Record). take (length (with_record rs r)) l) first.cut ∙ take-append_seam (with_record rs r) first.later,
    )

-- ---- records that are legal, and more that are legal after them

pub legal_append : (h : History) (xs ys : List Record) → IsLegalAfter h xs → IsLegalAfter (fold (λ (k : History) (r : Record). (step history_keeper k r).world) h xs) ys → IsLegalAfter h (xs ++ ys)
legal_append h [] ys legal more = more
legal_append h (x ∷ xs) ys legal more = (legal.0, legal_append (step history_keeper h x).world xs ys legal.1 more)

legal_more : (h : History) (rs : List Record) (r : Record) → IsLegalAfter h rs → Follows (fold (λ x y. (step history_keeper x y).world) h rs) r → IsLegalAfter h (rs ++ r ∷ [])
legal_more h [] r legal follows = (follows, tt)
legal_more h (x ∷ xs) r legal follows = (legal.0, legal_more (step history_keeper h x).world xs r legal.1 follows)

pub history_more : (rs : List Record) (r : Record) → AreHistory rs → Follows (history_of rs) r → is_record r ≡ true → AreHistory (rs ++ r ∷ [])
history_more rs r history follows spelled =
    record {
      legal = legal_more nothing_yet rs r history.legal follows;
      spelled = list_all-append is_record rs (r ∷ []) ∙ rw (history.spelled, spelled) refl;
    }

legal_first : (h : History) (xs ys : List Record) → IsLegalAfter h (xs ++ ys) → IsLegalAfter h xs
legal_first h [] ys legal = tt
legal_first h (x ∷ xs) ys legal = (legal.0, legal_first (step history_keeper h x).world xs ys legal.1)

-- the first ones of a history are one
pub history_first : (xs ys : List Record) → AreHistory (xs ++ ys) → AreHistory xs
history_first xs ys history =
    record {
      legal = legal_first nothing_yet xs ys history.legal;
      spelled = (and_parts (list_all is_record xs) (list_all is_record ys) (sym (list_all-append is_record xs ys) ∙ history.spelled)).0;
    }

pub history_taken : (i : ℕ) (rs : List Record) → AreHistory rs → AreHistory (take i rs)
history_taken i rs history = history_first (take i rs) (drop i rs) (subst AreHistory (sym (take-append-drop i rs)) history)
