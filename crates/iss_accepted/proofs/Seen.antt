-- The rows as they stand are the events with their verdicts.
use Rattle.std.proofs.Common.{◌≡◌, ℕ, zero, suc, ◌+◌, ◌≤◌, cond, List, [], ◌∷◌, ◌++◌, length, drop, slice_get, map, Option, Some, None, refl, sym, ap, ap₂, subst, ◌∙◌, arith, append_assoc}
use Rattle.std.specs.Prelude.{option_map, unwrap_or}
use Rattle.std.specs.BTreeMap.{BTreeMap, get}
use Rattle.std.specs.Cmp.Lexicographic.{slice_cmp}
use Rattle.std.specs.List.{AllByRecursion, IsDistinct}
use Rattle.std.specs.Option.{option_and_then}
use Rattle.std.specs.Ordering.{nat_cmp}
use Rattle.std.specs.Str.{bytes_eq}
use Rattle.std.proofs.lemmas.List.{append-nil, drop_all}
use Rattle.std.proofs.lemmas.Option.{same_Some}
use Rattle.iss_model.specs.declared.call.CallState.{CallState}
use Rattle.iss_model.specs.declared.decision.Verdict.{Verdict}
use Rattle.iss_model.specs.declared.state.Seen.{Seen}
use Rattle.iss_model.specs.Inputs.{event_token}
use Rattle.iss_model.specs.rules.Facts.{Decision, verdict_in}
use Rattle.iss_model.proofs.Names.{its_name}
use Rattle.iss_index.proofs.Placed.{Lacks, first_lacks, rest_apart}
use Rattle.iss_accepted.specs.declared.row.EventRow.{EventRow}
use Rattle.iss_accepted.specs.Values.{EventsNow, seen_among}
use Rattle.iss_accepted.specs.Standing.{Standing, name_of, token_or_none, standing_named, decision_made, decisions_at, AreDecided}
use Rattle.iss_accepted.proofs.Found.{verdict_of}
use Rattle.iss_accepted.specs.Kept.{event_of, events_now, row_seen, standing_of, standings_of, IsKept}

-- an event is the first of its name
abbrev IsFirst : List Standing → Standing → Type 0
IsFirst ss s = standing_named (name_of s) ss ≡ Some s

past : (s : Standing) (ss ts : List Standing) → Lacks (name_of s) (map name_of ts) → AllByRecursion (IsFirst ss) ts → AllByRecursion (IsFirst (s ∷ ss)) ts
past s ss [] lacks first = tt
past s ss (t ∷ ts) lacks first =
    (ap (λ b. cond b (Some s) (standing_named (name_of t) ss)) lacks.0 ∙ first.0, past s ss ts lacks.1 first.1)

all_first : (ss : List Standing) → IsDistinct bytes_eq (map name_of ss) → AllByRecursion (IsFirst ss) ss
all_first [] apart = tt
all_first (s ∷ ss) apart = (
  ap (λ b. cond b (Some s) (standing_named (name_of s) ss)) (its_name (name_of s)),
  past s ss ss (first_lacks (name_of s) (map name_of ss) apart) (all_first ss (rest_apart (name_of s) (map name_of ss) apart)),
)

same_name : (o : Option (List ℕ)) → token_or_none o ≡ unwrap_or o []
same_name None = refl
same_name (Some token) = refl

made_again : (name : List ℕ) (o : Option Verdict) → option_map (λ (d : Decision). d.verdict) (option_map (λ (v : Verdict). verdict_of name v) o) ≡ o
made_again name None = refl
made_again name (Some v) = refl

module _ (bytes : List ℕ) (decided : List ℕ) (marks : BTreeMap (List ℕ) CallState) (all : List Standing) (known : AreDecided all decided) where
  verdict_is : (s : Standing) → IsFirst all s → s.verdict ≡ verdict_in (decisions_at all decided) (name_of s)
  verdict_is s first =
      sym (made_again (name_of s) s.verdict)
      ∙ ap (λ (o : Option Standing). option_map (λ (d : Decision). d.verdict) (option_and_then decision_made o)) (sym first)
      ∙ ap (option_map (λ (d : Decision). d.verdict)) (sym (known.found (name_of s)))

  row_is : (row : EventRow) → IsFirst all (standing_of bytes row) → row_seen bytes marks row ≡ seen_among (events_now all decided) marks (event_of bytes row)
  row_is row first =
      let token = same_name (event_token (event_of bytes row).input) in
      λ i. record (row_seen bytes marks row) {
        verdict = (verdict_is (standing_of bytes row) first ∙ ap (verdict_in (decisions_at all decided)) token) i;
        mark = get (slice_cmp nat_cmp) marks (token i);
      }

  rows_are : (rows : List EventRow) → AllByRecursion (IsFirst all) (standings_of bytes rows)
      → map (row_seen bytes marks) rows ≡ map (seen_among (events_now all decided) marks) (map (λ (s : Standing). s.event) (standings_of bytes rows))
  rows_are [] first = refl
  rows_are (row ∷ rows) first = ap₂ (λ (s : Seen) (ss : List Seen). s ∷ ss) (row_is row first.0) (rows_are rows first.1)

pub rows_seen : (bytes : List ℕ) (rows : List EventRow) (names : List (List ℕ)) (decided : List ℕ) (value : EventsNow) (marks : BTreeMap (List ℕ) CallState) (seen : List Seen)
    → IsKept bytes rows names decided → events_now (standings_of bytes rows) decided ≡ value → seen ≡ map (row_seen bytes marks) rows
    → seen ≡ map (seen_among value marks) value.accepted
rows_seen bytes rows names decided value marks seen kept view is =
    is
    ∙ rows_are bytes decided marks (standings_of bytes rows) kept.verdicts rows (all_first (standings_of bytes rows) (subst (IsDistinct bytes_eq) kept.placed kept.apart))
    ∙ ap (λ (e : EventsNow). map (seen_among e marks) e.accepted) view

-- what is left from a place on begins with what stands there
rest_at : (rows : List EventRow) (place : ℕ) (row : EventRow) → slice_get rows place ≡ Some row → drop place rows ≡ row ∷ drop (suc place) rows
rest_at [] place row here = cc
rest_at (r ∷ rows) zero row here = ap (λ (x : EventRow). x ∷ rows) (same_Some r row here)
rest_at (r ∷ rows) (suc place) row here = rest_at rows place row here

-- the rows are told one after the other
module _ (bytes : List ℕ) (marks : BTreeMap (List ℕ) CallState) (rows : List EventRow) (place : ℕ) (seen : List Seen)
    (told : seen ++ map (row_seen bytes marks) (drop place rows) ≡ map (row_seen bytes marks) rows) where
  pub one_seen : (row : EventRow) (s : Seen) (now : List Seen) → slice_get rows place ≡ Some row → s ≡ row_seen bytes marks row → now ≡ seen ++ s ∷ []
      → now ++ map (row_seen bytes marks) (drop (place + 1) rows) ≡ map (row_seen bytes marks) rows
  one_seen row s now here is pushed =
      let next : place + 1 ≡ suc place = omega arith in
      ap₂ (λ (ss : List Seen) (n : ℕ). ss ++ map (row_seen bytes marks) (drop n rows)) pushed next
      ∙ append_assoc seen (s ∷ []) (map (row_seen bytes marks) (drop (suc place) rows))
      ∙ ap (λ (x : Seen). seen ++ (x ∷ map (row_seen bytes marks) (drop (suc place) rows))) is
      ∙ ap (λ (rs : List EventRow). seen ++ map (row_seen bytes marks) rs) (sym (rest_at rows place row here))
      ∙ told

  pub all_seen : length rows ≤ place → seen ≡ map (row_seen bytes marks) rows
  all_seen past =
      sym (append-nil seen)
      ∙ ap (λ (rs : List EventRow). seen ++ map (row_seen bytes marks) rs) (sym (drop_all place rows past))
      ∙ told
