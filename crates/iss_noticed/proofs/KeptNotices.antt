-- A test of notices that each entry leaves as it was passes for all that wait, if each notice passes that is made.
use Rattle.std.proofs.Common.{◌≡◌, ◌∙◌, ◌++◌, ◌∷◌, ◌&&◌, ◌==◌, ap, Bool, false, fold, List, [], not, refl, true}
use Rattle.std.specs.List.{list_all}
use Rattle.std.proofs.lemmas.Bool.{and_parts}
use Rattle.std.proofs.lemmas.List.Folds.{list_all-append}
use Rattle.iss_model.specs.declared.call.Notice.{Notice}
use Rattle.iss_model.specs.declared.entry.Entry.{Entry}
use Rattle.iss_model.specs.declared.entry.Entry.TheVariants as entry
use Rattle.iss_model.specs.rules.Acts.{Act, act_entries}
use Rattle.iss_model.specs.state.Cores.{CoreState, Outbox, after_entry}
use Rattle.iss_model.proofs.Lists.{all_weaker}
use Rattle.iss_acts.specs.Items.{Item, StandTelling, Telling, Voiding, has_item, item_entry, may_tell, may_tell_stand_in, may_void}
use Rattle.iss_acts.proofs.Passing.{EachPasses, act_passes}
use Rattle.iss_state.proofs.docket.Lists.{both_so, not_both}
use Rattle.iss_well_formed.proofs.NoticeSteps.{all_filtered, setting_outbox}

-- an entry's notice passes a test
abbrev pub tells : (Notice → Bool) → Entry → Bool
tells p (entry.Notice n) = p n
tells p _ = true

-- an act that tells nothing passes any such test
silent_item : (p : Notice → Bool) (a : Act) → may_void a ≡ false → may_tell_stand_in a ≡ false → may_tell a ≡ false → (x : Item) → has_item a x ≡ true → tells p (item_entry x) ≡ true
silent_item p a voids stands tells (Voiding number t o) has = not_both (may_void a) has voids
silent_item p a voids stands tells (StandTelling number t amount) has = not_both (may_tell_stand_in a) has stands
silent_item p a voids stands tells (Telling number news t amount gateway) has = not_both (may_tell a) has tells
silent_item p a voids stands tells _ has = refl

pub silent_passes : (p : Notice → Bool) (a : Act) → may_void a ≡ false → may_tell_stand_in a ≡ false → may_tell a ≡ false → EachPasses (tells p) (act_entries a)
silent_passes p a voids stands tells = act_passes a (silent_item p a voids stands tells)

-- a test of notices on what stands
module _ (test : CoreState → Notice → Bool) where
  -- each notice that waits passes
  abbrev pub AllPass : CoreState → Type 0
  AllPass s = list_all (test s) s.outbox.pending ≡ true

  -- the notice of each entry passes on what stands before the entry
  abbrev pub AllTold : CoreState → List Entry → Type 0
  AllTold s [] = Unit {0}
  AllTold s (e ∷ es) = (tells (test s) e ≡ true) × AllTold (after_entry s e) es

  -- what passes before an entry passes after it
  abbrev pub Lasts : Type 0
  Lasts = (s : CoreState) (e : Entry) (n : Notice) → test s n ≡ true → test (after_entry s e) n ≡ true

  pub told_append : (s : CoreState) (xs ys : List Entry) → AllTold s xs → AllTold (fold after_entry s xs) ys → AllTold s (xs ++ ys)
  told_append s [] ys h k = k
  told_append s (x ∷ xs) ys h k = (h.0, told_append (after_entry s x) xs ys h.1 k)

  module _ (lasts : Lasts) where
    pub lasts_on : (s : CoreState) (es : List Entry) (n : Notice) → test s n ≡ true → test (fold after_entry s es) n ≡ true
    lasts_on s [] n h = h
    lasts_on s (e ∷ es) n h = lasts_on (after_entry s e) es n (lasts s e n h)

    still_tells : (s : CoreState) (e x : Entry) → tells (test s) x ≡ true → tells (test (after_entry s e)) x ≡ true
    still_tells s e (entry.Notice n) h = lasts s e n h
    still_tells s e _ h = refl

    -- what passes on what stands before all of the entries
    told_at_once : (s : CoreState) (es : List Entry) → list_all (tells (test s)) es ≡ true → AllTold s es
    told_at_once s [] h = tt
    told_at_once s (e ∷ es) h =
        let both = and_parts (tells (test s) e) (list_all (tells (test s)) es) h in
        (both.0, told_at_once (after_entry s e) es (all_weaker (tells (test s)) (tells (test (after_entry s e))) (still_tells s e) es both.1))

    pub passes_told : (s : CoreState) (es : List Entry) → EachPasses (tells (test s)) es → AllTold s es
    passes_told s es h = told_at_once s es h.all

    still_pass : (s : CoreState) (e : Entry) (ns : List Notice) → list_all (test s) ns ≡ true → list_all (test (after_entry s e)) ns ≡ true
    still_pass s e ns h = all_weaker (test s) (test (after_entry s e)) (lasts s e) ns h

    entry_passes : (s : CoreState) (e : Entry) → tells (test s) e ≡ true → AllPass s → AllPass (after_entry s e)
    entry_passes s (entry.Notice n) told h =
        let later : CoreState = after_entry s (entry.Notice n) in
        list_all-append (test later) s.outbox.pending (n ∷ [])
        ∙ both_so (list_all (test later) s.outbox.pending) (test later n && true) (still_pass s (entry.Notice n) s.outbox.pending h) (both_so (test later n) true (lasts s (entry.Notice n) n told) refl)
    entry_passes s (entry.Acked k) told h =
        let later : CoreState = after_entry s (entry.Acked k) in
        all_filtered (λ (n : Notice). not (k == n.number)) (test later) s.outbox.pending (still_pass s (entry.Acked k) s.outbox.pending h)
    entry_passes s (entry.Conf i) told h =
        let later : CoreState = after_entry s (entry.Conf i) in
        ap (λ (o : Outbox). list_all (test later) o.pending) (setting_outbox s i) ∙ still_pass s (entry.Conf i) s.outbox.pending h
    entry_passes s e told h = still_pass s e s.outbox.pending h

    pub entries_pass : (s : CoreState) (es : List Entry) → AllTold s es → AllPass s → AllPass (fold after_entry s es)
    entries_pass s [] told h = h
    entries_pass s (e ∷ es) told h = entries_pass (after_entry s e) es told.1 (entry_passes s e told.0 h)
