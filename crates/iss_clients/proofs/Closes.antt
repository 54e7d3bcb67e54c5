-- Channels are closed, one after the other.
use Rattle.std.proofs.Common.{◌≡◌, ℕ, ◌+◌, ◌<◌, List, [], ◌∷◌, ◌++◌, length, map, drop, get_or, Option, refl, sym, ap, subst, ◌∙◌, append-nil, append_assoc}
use Rattle.std.proofs.lemmas.List.{map-append, drop_more}
use Rattle.iss_edge.specs.declared.outside.Channel.{Channel}
use Rattle.iss_edge.specs.declared.outside.Action.{Action}
use Rattle.iss_edge.specs.declared.outside.Action.TheVariants.{Close}
use Rattle.iss_edge.specs.Outer.{Outer, Adds}
use Rattle.iss_edge.specs.World.{Told}
use Rattle.iss_edge.proofs.Outers.{adds_then}
use Rattle.iss_edge.proofs.Tolds.{told_then, told_self}

-- some first ones of these channels were closed, and these are left
pub record ClosedUpTo (all rest : List Channel) (x y : Option Outer) : Type 0 where
  pub front : List Channel
  pub cut : all ≡ front ++ rest
  pub told : Told (Adds (map Close front) []) x y

unchanged : (a : Outer) → Adds [] [] a a
unchanged a = record { device = refl; trace = sym (append-nil a.world.trace); heard = sym (append-nil a.heard) }

pub closed_to_begin : (all : List Channel) (x : Option Outer) → ClosedUpTo all all x x
closed_to_begin all x = record { front = []; cut = refl; told = told_self (Adds [] []) x unchanged }

pub told_adds_then : (xs ys : List Action) (x y z : Option Outer) → Told (Adds xs []) x y → Told (Adds ys []) y z → Told (Adds (xs ++ ys) []) x z
told_adds_then xs ys x y z p q = told_then (Adds xs []) (Adds ys []) (Adds (xs ++ ys) []) x y z (adds_then xs ys [] []) p q

pub closed_to_next : (all rest : List Channel) (ch : Channel) (x y z : Option Outer) → ClosedUpTo all (ch ∷ rest) x y → Told (Adds (Close ch ∷ []) []) y z → ClosedUpTo all rest x z
closed_to_next all rest ch x y z p q =
    record {
      front = p.front ++ ch ∷ [];
      cut = p.cut ∙ sym (append_assoc p.front (ch ∷ []) rest);
      told =
          subst (λ (l : List Action). Told (Adds l []) x z) (sym (map-append Close p.front (ch ∷ [])))
          (told_adds_then (map Close p.front) (Close ch ∷ []) x y z p.told q);
    }

pub closed_to_end : (all : List Channel) (x y : Option Outer) → ClosedUpTo all [] x y → Told (Adds (map Close all) []) x y
closed_to_end all x y p = subst (λ (l : List Channel). Told (Adds (map Close l) []) x y) (sym (p.cut ∙ append-nil p.front)) p.told

pub next_channel : (all : List Channel) (i : ℕ) (ch : Channel) → i < length all → ch ≡ get_or all i ch → drop i all ≡ ch ∷ drop (i + 1) all
next_channel all i ch within is = drop_more all i ch within ∙ ap (λ (c : Channel). c ∷ drop (i + 1) all) (sym is)
