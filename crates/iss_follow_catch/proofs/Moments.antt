-- Whether the core of another device stood on a device that stands for records, by what was read of it.
use Rattle.std.proofs.Common.{◌≡◌, ℕ, ◌+◌, ◌-◌, ◌≤◌, Bool, true, false, List, ◌++◌, length, take, drop, sym, ap, subst, ◌∙◌, append_assoc, length-append, arith}
use Rattle.std.proofs.lemmas.List.{take-append-drop, length-take-le, length-drop, take_at, drop_at}
use Rattle.iss_edge.specs.World.{World}
use Rattle.iss_halves.specs.Forms.{Seat}
use Rattle.iss_model.specs.declared.input.Record.{Record}
use Rattle.iss_core.specs.Values.{CoreNow, CoreStandsFor}
use Rattle.iss_standing.specs.Standing.{image_after}
use Rattle.iss_opening.specs.Values.{StoreNow}
use Rattle.iss_opening.specs.Reading.{core_after}
use Rattle.iss_opening.proofs.Afters.{after_count, stands_after}
use Rattle.iss_opening.proofs.Stands.{all_later, point_is, start_stands}
use Rattle.iss_follow_runs.specs.Holdings.{image_of}
use Rattle.iss_follow_runs.proofs.Images.{image_stands}
use Rattle.iss_follow_catch.specs.Behind.{HasMet, HasNotMet, KnowsMet, AllBeside, IsPastCore, FindsCore, FindsBehind}

-- the core after the first p records and some more, by all of them
record IsAfter (start : CoreNow) (rs first rest : List Record) (p : ℕ) : Type 0 where
  count : (core_after start first).state.count ≡ p + length first
  within : p + length first ≤ length rs
  image : image_of (core_after start first) ≡ image_after (take (p + length first) rs)
  later : rest ≡ drop (p + length first) rs

after_first : (start : CoreNow) (rs first rest : List Record) (p : ℕ) → CoreStandsFor start (take p rs) → p ≡ start.state.count → p ≤ length rs → drop p rs ≡ first ++ rest → IsAfter start rs first rest p
after_first start rs first rest p stands count low cut =
    let n : ℕ = p + length first in
    let whole : rs ≡ (take p rs ++ first) ++ rest =
    sym (take-append-drop p rs) ∙ ap (λ (l : List Record). take p rs ++ l) cut ∙ sym (append_assoc (take p rs) first rest) in
    let long : length (take p rs ++ first) ≡ p + length first =
    length-append (take p rs) first ∙ ap (λ (k : ℕ). k + length first) (length-take-le p rs low) in
    let all : length rs ≡ length (take p rs ++ first) + length rest = ap (λ (l : List Record). length l) whole ∙ length-append (take p rs ++ first) rest in
    let taken : take (p + length first) rs ≡ take p rs ++ first =
    ap (λ (l : List Record). take (p + length first) l) whole ∙ take_at (take p rs ++ first) rest (p + length first) long in
    record {
      count = after_count start first ∙ ap (λ (k : ℕ). k + length first) (sym count);
      within = omega (arith, all, long);
      image =
          image_stands (core_after start first) (take p rs ++ first) (stands_after start (take p rs) first stands)
          ∙ ap image_after (sym taken);
      later =
          sym (ap (λ (l : List Record). drop (p + length first) l) whole ∙ drop_at (take p rs ++ first) rest (p + length first) long);
    }

module _ (core start other : CoreNow) (read rs : List Record) (seat : Seat) (core_is : core ≡ core_after start read) (stands : CoreStandsFor start (take seat.point rs)) (point : seat.point ≡ start.state.count) (low : seat.point ≤ length rs) (later_are : read ≡ drop seat.point rs) where
  past_met : (later : List Record) → HasMet start read other later → FindsCore core other seat rs true later
  past_met later met =
      let at = after_first start rs met.first later seat.point stands point low (sym later_are ∙ met.cut) in
      let count : other.state.count ≡ seat.point + length met.first = sym met.same.count ∙ at.count in (
        record {
          instance = ap (λ (c : CoreNow). c.instance) core_is ∙ met.same.instance;
          low = omega (arith, count);
          high = omega (arith, count, at.within);
          image = sym met.same.image ∙ at.image ∙ ap (λ (n : ℕ). image_after (take n rs)) (sym count);
        },
        at.later ∙ ap (λ (n : ℕ). drop n rs) (sym count),
      )

  not_past : HasNotMet start read other → IsPastCore core other seat rs → ⊥
  not_past never past =
      let k : ℕ = other.state.count - seat.point in
      let cut : drop seat.point rs ≡ take (other.state.count - seat.point) (drop seat.point rs) ++ drop (other.state.count - seat.point) (drop seat.point rs) =
      sym (take-append-drop (other.state.count - seat.point) (drop seat.point rs)) in
      let long : length (drop seat.point rs) ≡ length rs - seat.point = length-drop seat.point rs in
      let few : other.state.count - seat.point ≤ length (drop seat.point rs) = omega (arith, long, past.high, past.low, low) in
      let size : length (take (other.state.count - seat.point) (drop seat.point rs)) ≡ other.state.count - seat.point = length-take-le (other.state.count - seat.point) (drop seat.point rs) few in
      let at =
      after_first start rs (take (other.state.count - seat.point) (drop seat.point rs)) (drop (other.state.count - seat.point) (drop seat.point rs)) seat.point stands point low cut in
      let count : seat.point + length (take (other.state.count - seat.point) (drop seat.point rs)) ≡ other.state.count = omega (arith, size, past.low) in
      never (take (other.state.count - seat.point) (drop seat.point rs)) (drop (other.state.count - seat.point) (drop seat.point rs)) (later_are ∙ cut)
      (record {
        instance = sym (ap (λ (c : CoreNow). c.instance) core_is) ∙ past.instance;
        count = at.count ∙ count;
        image = at.image ∙ ap (λ (n : ℕ). image_after (take n rs)) count ∙ sym past.image;
      })

  finds_core : (met : Bool) (later : List Record) → KnowsMet start read other met later → FindsCore core other seat rs met later
  finds_core true later known = past_met later known
  finds_core false later known = not_past known.1

pub finds_behind : (s : StoreNow) (other : CoreNow) (met : Bool) (later : List Record) (a b : World) → AllBeside s other met later a b → FindsBehind s.core other met later a
finds_behind s other met later a b all form seat rs stands =
    let these = all.beside.read in
    let read = these.read in
    let core : s.core ≡ core_after all.beside.start all.beside.rs = read.core ∙ (λ i. core_after (these.from i) (these.these i)) in
    let start : CoreStandsFor all.beside.start (take seat.point rs) =
    subst (λ (c : CoreNow). CoreStandsFor c (take seat.point rs)) these.from
    (start_stands s.layout read.image read.start a.device read.reads.begins form seat rs stands) in
    let point : seat.point ≡ all.beside.start.state.count =
    point_is s.layout read.image read.start a.device read.reads.begins form seat rs stands
    ∙ ap (λ (c : CoreNow). c.state.count) these.from in
    let later_are : all.beside.rs ≡ drop seat.point rs =
    sym these.these
    ∙ all_later s.layout read.image read.start a.device read.reads.begins form seat rs stands read.rs s.place read.reads all.shut in
    finds_core s.core all.beside.start other all.beside.rs rs seat core start point stands.low later_are met later all.beside.known
