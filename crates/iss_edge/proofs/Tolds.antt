-- What holds of one call after another: of what is told, of the counts, and of the bytes that went out.
use Rattle.std.proofs.Common.{◌≡◌, ℕ, ◌≤◌, inl, inr, List, [], ◌∷◌, ◌++◌, Bool, true, false, cond, Option, Some, None, refl, sym, ap, ◌∙◌, append_assoc, append-nil, eq-eqb, arith}
use Rattle.std.proofs.Math.Nat.{eq-or-lt_of_le}
use Rattle.iss_edge.specs.declared.outside.Channel.{Channel}
use Rattle.iss_edge.specs.declared.outside.Action.{Action}
use Rattle.iss_edge.specs.declared.outside.Action.TheVariants.{Emit}
use Rattle.iss_edge.specs.World.{World, Told, Faults, Later, Rose, sent_by, sent_on}
use Rattle.iss_edge.specs.Calls.{Same, Emits, EmitsPart}

-- what follows from a relation holds of what is told
pub told_map : {W : Type 0} (R S : W → W → Type 0) (x y : Option W) → ((a b : W) → R a b → S a b) → Told R x y → Told S x y
told_map R S None None f p = tt
told_map R S (Some a) None f p = tt
told_map R S None (Some b) f p = absurd p
told_map R S (Some a) (Some b) f p = f a b p

-- two steps, one after the other
pub told_then : {W : Type 0} (R S T : W → W → Type 0) (x y z : Option W) → ((a b c : W) → R a b → S b c → T a c) → Told R x y → Told S y z → Told T x z
told_then R S T None None None f p q = tt
told_then R S T (Some a) None None f p q = tt
told_then R S T None None (Some c) f p q = absurd q
told_then R S T (Some a) None (Some c) f p q = absurd q
told_then R S T None (Some b) z f p q = absurd p
told_then R S T (Some a) (Some b) None f p q = tt
told_then R S T (Some a) (Some b) (Some c) f p q = f a b c p q

-- no step at all
pub told_self : {W : Type 0} (R : W → W → Type 0) (x : Option W) → ((a : W) → R a a) → Told R x x
told_self R None f = tt
told_self R (Some a) f = f a

pub same_self : (a : World) → Same a a
same_self a = record { device = refl; left = refl; arrivals = refl; trace = refl }

pub same_then : (a b c : World) → Same a b → Same b c → Same a c
same_then a b c p q =
    record { device = q.device ∙ p.device; left = q.left ∙ p.left; arrivals = q.arrivals ∙ p.arrivals; trace = q.trace ∙ p.trace }

pub later_self : (a : Faults) → Later a a
later_self a =
    record { disk = omega arith; input = omega arith; output = omega arith; peer = omega arith; link = omega arith }

pub later_then : (a b c : Faults) → Later a b → Later b c → Later a c
later_then a b c p q =
    record { disk = omega arith; input = omega arith; output = omega arith; peer = omega arith; link = omega arith }

-- a count that rose in a part of a run rose in the whole
pub rose_later : (a b c d : ℕ) → a ≤ b → b ≤ c → c ≤ d → Rose b c → Rose a d
rose_later a b c d before part after (inl rose) = inl (omega arith)
rose_later a b c d before part after (inr last) =
    let whole : a ≤ d = omega arith in
    elim (eq-or-lt_of_le whole) [ inl same ↦ inr (omega arith) | inr rose ↦ inl rose ]

-- the bytes of one action after others
pub sent_on-append : (ch : ℕ) (xs ys : List Action) → sent_on ch (xs ++ ys) ≡ sent_on ch xs ++ sent_on ch ys
sent_on-append ch [] ys = refl
sent_on-append ch (x ∷ xs) ys =
    ap (λ (rest : List ℕ). sent_by ch x ++ rest) (sent_on-append ch xs ys)
    ∙ sym (append_assoc (sent_by ch x) (sent_on ch xs) (sent_on ch ys))

-- what one more emit sends on its channel
pub sent_on-emit : (ch : Channel) (bytes : List ℕ) (ok : Bool) (actions : List Action) → sent_on ch.0 (actions ++ Emit ch bytes ok ∷ []) ≡ sent_on ch.0 actions ++ bytes
sent_on-emit ch bytes ok actions =
    sent_on-append ch.0 actions (Emit ch bytes ok ∷ [])
    ∙ ap (λ (more : List ℕ). sent_on ch.0 actions ++ more)
    (append-nil (sent_by ch.0 (Emit ch bytes ok))
    ∙ ap (λ (b : Bool). cond b bytes []) (eq-eqb ch.0 ch.0 refl))

-- an emit that succeeded sent its bytes
pub emits-sent : (ch : Channel) (bytes : List ℕ) (a b : World) → Emits ch bytes a b → sent_on ch.0 b.trace ≡ sent_on ch.0 a.trace ++ bytes
emits-sent ch bytes a b p = ap (sent_on ch.0) p.trace ∙ sent_on-emit ch bytes true a.trace

-- the bytes that went out, and those that did not
pub record SentPart (ch : ℕ) (bytes : List ℕ) (before now : List Action) : Type 0 where
  pub prefix : List ℕ
  pub back : List ℕ
  pub cut : bytes ≡ prefix ++ back
  pub sent : sent_on ch now ≡ sent_on ch before ++ prefix

-- an emit that failed sent a prefix of its bytes
pub emits_part-sent : (ch : Channel) (bytes : List ℕ) (a b : World) → EmitsPart ch bytes a b → SentPart ch.0 bytes a.trace b.trace
emits_part-sent ch bytes a b p =
    elim p.trace [
      | inl same ↦
          record {
            prefix = [];
            back = bytes;
            cut = refl;
            sent = ap (sent_on ch.0) same ∙ sym (append-nil (sent_on ch.0 a.trace));
          }
      | inr sends ↦
          record {
            prefix = sends.prefix;
            back = sends.back;
            cut = sends.cut;
            sent = ap (sent_on ch.0) sends.added ∙ sent_on-emit ch sends.prefix false a.trace;
          }
    ]
