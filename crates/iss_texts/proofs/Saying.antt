-- What went out, one text after another.
use Rattle.std.proofs.Common.{◌≡◌, ℕ, true, false, inl, inr, List, [], ◌∷◌, ◌++◌, refl, sym, ap, subst, ◌∙◌, append-nil, append_assoc}
use Rattle.std.proofs.lemmas.List.{map-append}
use Rattle.iss_edge.specs.declared.outside.Action.{Action}
use Rattle.iss_edge.specs.declared.outside.Action.TheVariants.{Emit}
use Rattle.iss_edge.specs.declared.outside.Answered.{Answered}
use Rattle.iss_edge.specs.declared.outside.Answered.TheVariants.{Emitted}
use Rattle.iss_edge.specs.World.{World}
use Rattle.iss_edge.specs.Calls.{Emits, SendsPrefix, EmitsPart}
use Rattle.iss_edge.specs.Outer.{Outer, Tears}
use Rattle.iss_edge.proofs.Outers.{adds_then}
use Rattle.iss_texts.specs.Sending.{emits, FailsAt, GoOut, SendsEach, SendsSome, Says, SaysSome, emitted, SentEach, StopsAt, AreFirst}

-- ---- each text

emits-append : (xs ys : List (List ℕ)) → emits (xs ++ ys) ≡ emits xs ++ emits ys
emits-append xs ys = map-append (λ (text : List ℕ). Emit (record { 0 = 0 }) text true) xs ys

pub sends_nothing : (a : World) → SendsEach [] a a
sends_nothing a = record { device = refl; grew = sym (append-nil a.trace) }

pub says_nothing : (a : World) → Says [] a a
says_nothing a = record { left = refl; arrivals = refl; sends = sends_nothing a }

pub sends_then : (xs ys : List (List ℕ)) (a b c : World) → SendsEach xs a b → SendsEach ys b c → SendsEach (xs ++ ys) a c
sends_then xs ys a b c p q =
    record {
      device = q.device ∙ p.device;
      grew =
          q.grew
          ∙ ap (λ (t : List Action). t ++ emits ys) p.grew
          ∙ append_assoc a.trace (emits xs) (emits ys)
          ∙ ap (λ (t : List Action). a.trace ++ t) (sym (emits-append xs ys));
    }

-- a step that leaves the device and does nothing sends nothing
pub sends_on : (xs : List (List ℕ)) (a b c : World) → SendsEach xs a b → c.device ≡ b.device → c.trace ≡ b.trace → SendsEach xs a c
sends_on xs a b c p device trace = record { device = device ∙ p.device; grew = trace ∙ p.grew }

pub says_then : (xs ys : List (List ℕ)) (a b c : World) → Says xs a b → Says ys b c → Says (xs ++ ys) a c
says_then xs ys a b c p q = record { left = q.left ∙ p.left; arrivals = q.arrivals ∙ p.arrivals; sends = sends_then xs ys a b c p.sends q.sends }

pub says_emitted : (text : List ℕ) (a b : World) → Emits (record { 0 = 0 }) text a b → Says (text ∷ []) a b
says_emitted text a b e = record { left = e.left; arrivals = e.arrivals; sends = record { device = e.device; grew = e.trace } }

-- ---- some of them

fails_before : (xs ys : List (List ℕ)) (last : List Action) → FailsAt xs last → FailsAt (xs ++ ys) last
fails_before xs ys last f =
    record {
      text = f.text;
      others = f.others ++ ys;
      first = ap (λ (t : List (List ℕ)). t ++ ys) f.first;
      prefix = f.prefix;
      back = f.back;
      cut = f.cut;
      action = f.action;
    }

-- nothing was done
pub nothing_sent : (xs : List (List ℕ)) (a b : World) → b.device ≡ a.device → b.trace ≡ a.trace → SendsSome xs a b
nothing_sent xs a b device trace =
    record {
      device = device;
      actions = [];
      grew = trace ∙ sym (append-nil a.trace);
      out = record { whole = []; rest = xs; cut = refl; last = []; done = refl; ended = inl refl };
    }

pub all_out : (xs : List (List ℕ)) → GoOut xs (emits xs)
all_out xs = record { whole = xs; rest = []; cut = sym (append-nil xs); last = []; done = sym (append-nil (emits xs)); ended = inl refl }

-- all were sent
pub all_sent : (xs : List (List ℕ)) (a b : World) → SendsEach xs a b → SendsSome xs a b
all_sent xs a b p =
    record {
      device = p.device;
      actions = emits xs;
      grew = p.grew;
      out = all_out xs;
    }

-- some of these after all of those
pub then_some : (xs ys : List (List ℕ)) (a b c : World) → SendsEach xs a b → SendsSome ys b c → SendsSome (xs ++ ys) a c
then_some xs ys a b c p q =
    record {
      device = q.device ∙ p.device;
      actions = emits xs ++ q.actions;
      grew = q.grew ∙ ap (λ (t : List Action). t ++ q.actions) p.grew ∙ append_assoc a.trace (emits xs) q.actions;
      out =
          record {
            whole = xs ++ q.out.whole;
            rest = q.out.rest;
            cut = ap (λ (t : List (List ℕ)). xs ++ t) q.out.cut ∙ sym (append_assoc xs q.out.whole q.out.rest);
            last = q.out.last;
            done =
                ap (λ (t : List Action). emits xs ++ t) q.out.done
                ∙ sym (append_assoc (emits xs) (emits q.out.whole) q.out.last)
                ∙ ap (λ (t : List Action). t ++ q.out.last) (sym (emits-append xs q.out.whole));
            ended = q.out.ended;
          };
    }

-- some of the first are some of all
pub some_first : (xs whole : List (List ℕ)) (a b : World) → AreFirst xs whole → SendsSome xs a b → SendsSome whole a b
some_first xs whole a b first p =
    record {
      device = p.device;
      actions = p.actions;
      grew = p.grew;
      out =
          record {
            whole = p.out.whole;
            rest = p.out.rest ++ first.back;
            cut = first.cut ∙ ap (λ (t : List (List ℕ)). t ++ first.back) p.out.cut ∙ append_assoc p.out.whole p.out.rest first.back;
            last = p.out.last;
            done = p.out.done;
            ended = elim p.out.ended [ inl none ↦ inl none | inr failed ↦ inr (fails_before p.out.rest first.back p.out.last failed) ];
          };
    }

-- a step that leaves the device and does nothing sends nothing
pub some_on : (xs : List (List ℕ)) (a b c : World) → SendsSome xs a b → c.device ≡ b.device → c.trace ≡ b.trace → SendsSome xs a c
some_on xs a b c p device trace =
    record { device = device ∙ p.device; actions = p.actions; grew = trace ∙ p.grew; out = p.out }

pub says_none : (xs : List (List ℕ)) (a : World) → SaysSome xs a a
says_none xs a = record { left = refl; arrivals = refl; sends = nothing_sent xs a a refl refl }

pub says_all : (xs : List (List ℕ)) (a b : World) → Says xs a b → SaysSome xs a b
says_all xs a b p = record { left = p.left; arrivals = p.arrivals; sends = all_sent xs a b p.sends }

pub says_then_some : (xs ys : List (List ℕ)) (a b c : World) → Says xs a b → SaysSome ys b c → SaysSome (xs ++ ys) a c
says_then_some xs ys a b c p q = record { left = q.left ∙ p.left; arrivals = q.arrivals ∙ p.arrivals; sends = then_some xs ys a b c p.sends q.sends }

pub says_first : (xs whole : List (List ℕ)) (a b : World) → AreFirst xs whole → SaysSome xs a b → SaysSome whole a b
says_first xs whole a b first p = record { left = p.left; arrivals = p.arrivals; sends = some_first xs whole a b first p.sends }

prefix_sent : (text : List ℕ) (a b : World) → EmitsPart (record { 0 = 0 }) text a b → SendsPrefix (record { 0 = 0 }) text a.trace b.trace → SaysSome (text ∷ []) a b
prefix_sent text a b e s =
    record {
      left = e.left;
      arrivals = e.arrivals;
      sends =
          record {
            device = e.device;
            actions = Emit (record { 0 = 0 }) s.prefix false ∷ [];
            grew = s.added;
            out =
                record {
                  whole = [];
                  rest = text ∷ [];
                  cut = refl;
                  last = Emit (record { 0 = 0 }) s.prefix false ∷ [];
                  done = refl;
                  ended = inr (record { text = text; others = []; first = refl; prefix = s.prefix; back = s.back; cut = s.cut; action = refl });
                };
          };
    }

pub says_prefix : (text : List ℕ) (a b : World) → EmitsPart (record { 0 = 0 }) text a b → SaysSome (text ∷ []) a b
says_prefix text a b e =
    elim e.trace [
      | inl same ↦ record { left = e.left; arrivals = e.arrivals; sends = nothing_sent (text ∷ []) a b e.device same }
      | inr sends ↦ prefix_sent text a b e sends
    ]

-- ---- with what was heard

pub sent_nothing : (a : Outer) → SentEach [] a a
sent_nothing a =
    record { device = refl; trace = sym (append-nil a.world.trace); heard = sym (append-nil a.heard) }

pub sent_then : (xs ys : List (List ℕ)) (a b c : Outer) → SentEach xs a b → SentEach ys b c → SentEach (xs ++ ys) a c
sent_then xs ys a b c p q =
    let both = adds_then (emits xs) (emits ys) (emitted xs) (emitted ys) a b c p q in
    record {
      device = both.device;
      trace = both.trace ∙ ap (λ (t : List Action). a.world.trace ++ t) (sym (emits-append xs ys));
      heard = both.heard ∙ ap (λ (t : List Answered). a.heard ++ t) (sym (map-append (λ (text : List ℕ). Emitted (record { 0 = 0 }) true) xs ys));
    }

-- ---- one after the other

-- all of these texts but the rest went out, in the sense of this relation
pub record UpTo {W : Type 0} (R : List (List ℕ) → W → W → Type 0) (texts rest : List (List ℕ)) (a b : W) : Type 0 where
  pub first : List (List ℕ)
  pub went : R first a b
  pub cut : texts ≡ first ++ rest

-- texts that went out one list after the other went out in a row
abbrev pub GoesInARow : {W : Type 0} → (List (List ℕ) → W → W → Type 0) → Type 0
GoesInARow {W} R = (xs ys : List (List ℕ)) (a b c : W) → R xs a b → R ys b c → R (xs ++ ys) a c

pub upto_begins : {W : Type 0} (R : List (List ℕ) → W → W → Type 0) → ((a : W) → R [] a a) → (texts : List (List ℕ)) (a : W) → UpTo R texts texts a a
upto_begins R none texts a = record { first = []; went = none a; cut = refl }

pub upto_next : {W : Type 0} (R : List (List ℕ) → W → W → Type 0) → GoesInARow R → (texts rest : List (List ℕ)) (text : List ℕ) (a b c : W)
    → UpTo R texts (text ∷ rest) a b → R (text ∷ []) b c → UpTo R texts rest a c
upto_next R in_row texts rest text a b c p q =
    record {
      first = p.first ++ text ∷ [];
      went = in_row p.first (text ∷ []) a b c p.went q;
      cut = p.cut ∙ sym (append_assoc p.first (text ∷ []) rest);
    }

pub upto_ends : {W : Type 0} (R : List (List ℕ) → W → W → Type 0) (texts : List (List ℕ)) (a b : W) → UpTo R texts [] a b → R texts a b
upto_ends R texts a b p = subst (λ (xs : List (List ℕ)). R xs a b) (sym (p.cut ∙ append-nil p.first)) p.went

pub upto_fails : (texts rest : List (List ℕ)) (text : List ℕ) (a b c : World) → UpTo Says texts (text ∷ rest) a b → SaysSome (text ∷ []) b c → SaysSome texts a c
upto_fails texts rest text a b c p q =
    says_first (p.first ++ text ∷ []) texts a c
    (record { back = rest; cut = p.cut ∙ sym (append_assoc p.first (text ∷ []) rest) })
    (says_then_some p.first (text ∷ []) a b c p.went q)

pub upto_stops : (texts rest : List (List ℕ)) (text : List ℕ) (a b c : Outer) → UpTo SentEach texts (text ∷ rest) a b → Tears (record { 0 = 0 }) text b c → StopsAt texts a c
upto_stops texts rest text a b c p q =
    record { whole = p.first; text = text; rest = rest; cut = p.cut; between = b; sent = p.went; torn = q }
