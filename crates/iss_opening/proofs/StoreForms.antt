-- What holds of every store holds of one that begins to be read, and after each record.
use Rattle.std.proofs.Common.{◌≡◌, ℕ, ◌+◌, ◌<◌, ◌≤◌, Bool, true, false, List, [], ◌∷◌, length, sym, ap, subst, ◌∙◌, arith}
use Rattle.std.specs.Prelude.{Option, Some, Ok, IfSome}
use Rattle.iss_journal.specs.Opening.{MovesOn}
use Rattle.iss_journal.specs.Place.{Place}
use Rattle.iss_halves.specs.Forms.{Layout, IsLayout}
use Rattle.iss_halves.specs.Standing.{end_of, gate_after}
use Rattle.iss_halves.proofs.Turns.{half_within}
use Rattle.iss_core.specs.Values.{CoreNow}
use Rattle.iss_snapshot.specs.Loaded.{IsLoaded}
use Rattle.iss_opening.specs.declared.taking.Taken.{Taken}
use Rattle.iss_opening.specs.Numbers.{IsNumbered}
use Rattle.iss_opening.specs.Values.{StoreNow, IsStore}
use Rattle.iss_opening.specs.Reading.{core_after}
use Rattle.iss_opening.specs.Taking.{TakesUp}
use Rattle.iss_opening.proofs.Afters.{after_count, count_on_book}
use Rattle.iss_opening.proofs.Images.{loaded_few, loaded_numbered}
use Rattle.iss_opening.proofs.Numbered.{step_numbered}
use Rattle.iss_opening.proofs.Stands.{stands_for_none}

-- the journal ends within the device
end_within : (halved : Bool) (size : ℕ) (second : Bool) → 17 ≤ size → end_of halved size second ≤ size
end_within true size second least = half_within size second least
end_within false size second least = omega arith

pub ends_within : (s : StoreNow) (extent : ℕ) → IsStore s → s.layout.size ≡ extent → s.place.to ≤ extent
ends_within s extent is size =
    omega (arith, is.to, end_within s.layout.halved s.layout.size s.layout.second is.layout_is.least, size)

pub begins_sound : (s : StoreNow) (image : List ℕ) → s.place.gate < s.place.to → s.place.to ≡ end_of s.layout.halved s.layout.size s.layout.second → IsLayout s.layout → (s.layout.halved ≡ false → image ≡ [])
    → IsLoaded image s.layout.instance s.core → s.point ≡ s.core.state.count → IsStore s
begins_sound s image within to layout_is none loaded point =
    record {
      within = within;
      to = to;
      layout_is = layout_is;
      instance = loaded.instance;
      few = loaded_few image s.layout.instance s.core loaded;
      low = omega (arith, point);
      no_image = λ one. point ∙ count_on_book s.core [] (stands_for_none image s.layout.instance s.core (none one) loaded);
      numbered = loaded_numbered image s.layout.instance s.core loaded;
    }

pub more_sound : (before after : StoreNow) (body : List ℕ) (t : Taken) → IsStore before → TakesUp before.core after.core body t → after.layout ≡ before.layout → after.point ≡ before.point → after.place.to ≡ before.place.to
    → after.place.gate < after.place.to → IsStore after
more_sound before after body t is takes layout point to within =
    let more : (core_after before.core (takes.r ∷ [])).state.count ≡ before.core.state.count + 1 = after_count before.core (takes.r ∷ []) in
    let count : after.core.state.count ≡ before.core.state.count + 1 = ap (λ (c : CoreNow). c.state.count) takes.core ∙ more in
    record {
      within = within;
      to = to ∙ is.to ∙ ap (λ (l : Layout). end_of l.halved l.size l.second) (sym layout);
      layout_is = subst IsLayout (sym layout) is.layout_is;
      instance = ap (λ (c : CoreNow). c.instance) takes.core ∙ is.instance ∙ ap (λ (l : Layout). l.instance) (sym layout);
      few = omega (arith, count, takes.room);
      low = omega (arith, count, point, is.low);
      no_image = λ one. point ∙ is.no_image (ap (λ (l : Layout). l.halved) (sym layout) ∙ one);
      numbered = subst (λ (c : CoreNow). IsNumbered c.state) (sym takes.core) (step_numbered before.core.state takes.r is.numbered);
    }

-- ---- the same by what was called

pub loaded_so : (image slice : List ℕ) (own instance : ℕ) (found : Option CoreNow) (c : CoreNow) → slice ≡ image → own ≡ instance → found ≡ Some c → IfSome found (IsLoaded slice own) → IsLoaded image instance c
loaded_so image slice own instance found c is its made loaded =
    subst (λ (n : ℕ). IsLoaded image n c) its
    (subst (λ (l : List ℕ). IsLoaded l own c) is (subst (λ (o : Option CoreNow). IfSome o (IsLoaded slice own)) made loaded))

pub start_sound : (s : StoreNow) (image slice : List ℕ) (from to own : ℕ) (found : Option CoreNow) → s.place ≡ record { gate = from; to = to } → from < to → to ≡ end_of s.layout.halved s.layout.size s.layout.second → IsLayout s.layout
    → (s.layout.halved ≡ false → image ≡ []) → slice ≡ image → own ≡ s.layout.instance → found ≡ Some s.core → IfSome found (IsLoaded slice own) → s.point ≡ s.core.state.count → IsStore s
start_sound s image slice from to own found place within last layout_is none is its made loaded point =
    let gate : s.place.gate ≡ from = ap (λ (p : Place). p.gate) place in
    let ends : s.place.to ≡ to = ap (λ (p : Place). p.to) place in
    begins_sound s image (omega (arith, gate, ends, within)) (ends ∙ last) layout_is none (loaded_so image slice own s.layout.instance found s.core is its made loaded) point

pub gate_moves : (before now : Place) (next : Option (List ℕ)) (body : List ℕ) (gate len : ℕ) → next ≡ Some body → MovesOn before now (Ok next) → gate ≡ before.gate → len ≡ length body → gate + (5 + len) ≡ now.gate
gate_moves before now next body gate len is moves here lengths =
    let moved : MovesOn before now (Ok (Some body)) = subst (λ (o : Option (List ℕ)). MovesOn before now (Ok o)) is moves in
    omega (arith, here, lengths, ap (λ (p : Place). p.gate) moved.2)

pub begins_after : (from len : ℕ) (layout : Layout) (image : List ℕ) → from ≡ gate_after layout.halved layout.size layout.second len → len ≡ length image → from ≡ gate_after layout.halved layout.size layout.second (length image)
begins_after from len layout image is lengths =
    is ∙ ap (λ (n : ℕ). gate_after layout.halved layout.size layout.second n) lengths
