-- What the loops of a run that serves carry on.
use Rattle.std.proofs.Common.{◌≡◌, ℕ, suc, ◌+◌, ◌<◌, ◌⊎◌, inl, inr, List, [], ◌∷◌, ◌++◌, length, drop, get_or, refl, sym, ap, subst, ◌∙◌, append_assoc, append-nil, arith}
use Rattle.std.specs.Prelude.{IsTrue}
use Rattle.std.specs.List.{flat_map}
use Rattle.std.proofs.lemmas.List.{drop_more}
use Rattle.iss_model.specs.declared.call.CallId.{CallId}
use Rattle.iss_session.specs.Desks.{Waiter}
use Rattle.iss_session.specs.Links.{Link}
use Rattle.iss_session.specs.Hearings.{links_of}
use Rattle.iss_link.specs.declared.gone.Gone as link
use Rattle.iss_link.specs.Values.{gone_as}
use Rattle.iss_model.specs.Forms.{is_stamp}
use Rattle.iss_opening.specs.Values.{StoreNow}
use Rattle.iss_store.specs.Serving.{all_gone}
use Rattle.iss_serve.specs.declared.held.Held.{Held}
use Rattle.iss_serve.specs.Held.{HeldNow, IsHeld, IsStillHeld, IsOf, noted, call_unreached, records_left}
use Rattle.iss_serve.specs.Judged.{Judges}

-- ---- judging

pub judges_self : (s : StoreNow) (h : Held) → IsHeld h → IsOf s h → Judges s s h h
judges_self s h held own = record { held = held; instance = own; turns = refl; size = refl; moves = inr (refl, refl) }

pub judges_then : (s t u : StoreNow) (f g h : Held) → Judges s t f g → Judges t u g h → Judges s u f h
judges_then s t u f g h p q =
    record {
      held = q.held;
      instance = q.instance;
      turns = q.turns ∙ p.turns;
      size = q.size ∙ p.size;
      moves = moves_then p.moves q.moves;
    }
  where
    moves_then : (records_left t < records_left s) ⊎ ((records_left t ≡ records_left s) × (g.unreached.items ≡ f.unreached.items))
        → (records_left u < records_left t) ⊎ ((records_left u ≡ records_left t) × (h.unreached.items ≡ g.unreached.items))
        → (records_left u < records_left s) ⊎ ((records_left u ≡ records_left s) × (h.unreached.items ≡ f.unreached.items))
    moves_then (inl less) (inl more) = inl (omega (arith, less, more))
    moves_then (inl less) (inr same) = inl (omega (arith, less, same.0))
    moves_then (inr same) (inl more) = inl (omega (arith, same.0, more))
    moves_then (inr same) (inr too) = inr (too.0 ∙ same.0, too.1 ∙ same.1)

-- what is left to be done: as long as no record is made, one round over the calls that weren't reached
abbrev pub work_left : ℕ → List CallId → ℕ
work_left left [] = left + left
work_left left (call ∷ calls) = suc (left + left)

pub work_falls : (before after : ℕ) (calls more : List CallId) → 0 < length calls
    → (after < before) ⊎ ((after ≡ before) × (more ≡ [])) → work_left after more < work_left before calls
work_falls before after [] more some moved = absurd (none some)
  where
    none : 0 < 0 → ⊥
    none m = omega (arith, m)
work_falls before after (call ∷ calls) [] some (inl less) = omega (arith, less)
work_falls before after (call ∷ calls) (other ∷ more) some (inl less) = omega (arith, less)
work_falls before after (call ∷ calls) [] some (inr same) = omega (arith, same.0)
work_falls before after (call ∷ calls) (other ∷ more) some (inr same) = absurd (not_empty other more same.1)
  where
    not_empty : (c : CallId) (cs : List CallId) → c ∷ cs ≡ [] → ⊥
    not_empty c cs e = cc

pub next_call : (calls : List CallId) (i : ℕ) (d : CallId) → i < length calls → drop i calls ≡ get_or calls i d ∷ drop (i + 1) calls
next_call calls i d within = drop_more calls i d within

-- ---- what became of messages

pub still_self : (h : Held) → IsStillHeld h h
still_self h = record { routes = refl; clock = refl; room = refl; instance = refl; turns = refl; calls = λ k. k; links = λ k. k }

pub still_then : (f g h : Held) → IsStillHeld f g → IsStillHeld g h → IsStillHeld f h
still_then f g h p q =
    record {
      routes = q.routes ∙ p.routes;
      clock = q.clock ∙ p.clock;
      room = q.room ∙ p.room;
      instance = q.instance ∙ p.instance;
      turns = q.turns ∙ p.turns;
      calls = λ k. q.calls (p.calls k);
      links = λ k. q.links (p.links k);
    }

pub still_is : (f g : Held) → IsHeld f → IsStillHeld f g → IsHeld g
still_is f g p q =
    record {
      routes = q.routes ∙ p.routes;
      clock = subst (λ (n : ℕ). IsTrue (is_stamp n)) (sym q.clock) p.clock;
      room = q.room ∙ p.room;
      calls = q.calls p.calls;
      links = q.links p.links;
    }

abbrev with_noted : HeldNow → List Link → List CallId → HeldNow
with_noted h links calls = record h { links = record h.links { links = links }; unreached = calls }

pub noted_none : (h : HeldNow) → noted [] h ≡ h
noted_none h = λ i. with_noted h (append-nil h.links.links i) (append-nil h.unreached i)

one_noted : (a b : List Link) (c : List Link) → a ++ (b ++ []) ++ c ≡ a ++ (b ++ c)
one_noted a b c = ap (λ (l : List Link). a ++ l ++ c) (append-nil b) ∙ append_assoc a b c

one_missed : (a b : List CallId) (c : List CallId) → a ++ (b ++ []) ++ c ≡ a ++ (b ++ c)
one_missed a b c = ap (λ (l : List CallId). a ++ l ++ c) (append-nil b) ∙ append_assoc a b c

pub noted_next : (g : link.Gone) (gone : List link.Gone) (h : HeldNow) → noted gone (noted (g ∷ []) h) ≡ noted (g ∷ gone) h
noted_next g gone h =
    λ i.
    with_noted h (one_noted h.links.links (links_of (gone_as g)) (flat_map links_of (all_gone gone)) i)
    (one_missed h.unreached (call_unreached g) (flat_map call_unreached gone) i)

-- what was noted after a call that left those who wait as they were
pub noted_still : (h now : HeldNow) (waiting : List Waiter) (gone all : List link.Gone) → waiting ≡ h.served → all ≡ gone → now ≡ noted all (record h { served = waiting }) → now ≡ noted gone (record h { served = h.served })
noted_still h now waiting gone all still same is =
    subst (λ (ws : List Waiter). now ≡ noted gone (record h { served = ws })) still (subst (λ (l : List link.Gone). now ≡ noted l (record h { served = waiting })) same is)

pub next_gone : (gone : List link.Gone) (i : ℕ) (g : link.Gone) → i < length gone → g ≡ get_or gone i g → drop i gone ≡ g ∷ drop (i + 1) gone
next_gone gone i g within is = drop_more gone i g within ∙ ap (λ (x : link.Gone). x ∷ drop (i + 1) gone) (sym is)
