-- Sending on channels leaves the device as it is, at each moment.
use Rattle.std.proofs.Common.{◌≡◌, ℕ, inl, inr, List, [], ◌∷◌, ◌++◌, Option, refl, sym, ap, subst, ◌∙◌, append_assoc, append-nil}
use Rattle.iss_edge.specs.declared.outside.Action.{Action}
use Rattle.iss_edge.specs.declared.outside.Action.TheVariants.{Dial, Close}
use Rattle.iss_edge.specs.declared.outside.Channel.{Channel}
use Rattle.iss_edge.specs.Calls.{Same, Emits, EmitsPart, Dials, ClosesUnnoted}
use Rattle.iss_edge.specs.World.{World, Told}
use Rattle.iss_edge.specs.Stretches.{AreStill}
use Rattle.iss_edge.proofs.StretchLemmas.{emit_still, emit_failed_still, still_append, still_goes_on}
use Rattle.iss_edge.proofs.Tolds.{told_map, told_then}
use Rattle.iss_standing.specs.Standing.{RestsAt, StandsAt}
use Rattle.iss_standing.proofs.Holds.{rests_stand}
use Rattle.iss_store.specs.Saying.{StaysGood}

stays_still : (a b : World) (added : List Action) → b.device ≡ a.device → b.trace ≡ a.trace ++ added → AreStill added → StaysGood a b
stays_still a b added device grew still =
    record {
      device = device;
      added = added;
      grew = grew;
      still = still;
      goes_on =
          λ form seat rs j steps e sent.
          still_goes_on (RestsAt form seat rs) (StandsAt form rs) j steps (λ bytes rests. rests_stand form seat rs bytes j rests)
          (subst AreStill (sym e) still) sent;
    }

pub stays_then : (a b c : World) → StaysGood a b → StaysGood b c → StaysGood a c
stays_then a b c p q =
    stays_still a c (p.added ++ q.added) (q.device ∙ p.device)
    (q.grew ∙ ap (λ (t : List Action). t ++ q.added) p.grew ∙ append_assoc a.trace p.added q.added) (still_append p.added q.added p.still q.still)

pub told_stays_then : (x y z : Option World) → Told StaysGood x y → Told StaysGood y z → Told StaysGood x z
told_stays_then x y z p q = told_then StaysGood StaysGood StaysGood x y z stays_then p q

dialled_stays : (ch : Channel) (a b : World) → Dials ch a b → StaysGood a b
dialled_stays ch a b dials = stays_still a b (Dial ch ∷ []) dials.device dials.trace (refl, tt)

same_stays : (a b : World) → Same a b → StaysGood a b
same_stays a b same = stays_still a b [] same.device (same.trace ∙ sym (append-nil a.trace)) tt

emitted_stays : (ch : Channel) (text : List ℕ) (a b : World) → Emits ch text a b → StaysGood a b
emitted_stays ch text a b emits = let adds = emit_still ch text a b emits in stays_still a b adds.added adds.device adds.grew adds.still

torn_stays : (ch : Channel) (text : List ℕ) (a b : World) → EmitsPart ch text a b → StaysGood a b
torn_stays ch text a b part = let adds = emit_failed_still ch text a b part in stays_still a b adds.added adds.device adds.grew adds.still

closed_stays : (ch : Channel) (a b : World) → ClosesUnnoted ch a b → StaysGood a b
closed_stays ch a b closed =
    elim closed [
      | inl closes ↦ stays_still a b (Close ch ∷ []) closes.device closes.trace (refl, tt)
      | inr same ↦ same_stays a b same
    ]

pub told_undialled_stays : (x y : Option World) → Told Same x y → Told StaysGood x y
told_undialled_stays x y same = told_map Same StaysGood x y same_stays same

pub told_sent_stays : (ch : Channel) (text : List ℕ) (x y z : Option World) → Told (Dials ch) x y → Told (Emits ch text) y z → Told StaysGood x z
told_sent_stays ch text x y z dials emits =
    told_stays_then x y z (told_map (Dials ch) StaysGood x y (dialled_stays ch) dials) (told_map (Emits ch text) StaysGood y z (emitted_stays ch text) emits)

pub told_torn_stays : (ch : Channel) (text : List ℕ) (x y z w : Option World) → Told (Dials ch) x y → Told (EmitsPart ch text) y z → Told (ClosesUnnoted ch) z w → Told StaysGood x w
told_torn_stays ch text x y z w dials part closed =
    told_stays_then x y w (told_map (Dials ch) StaysGood x y (dialled_stays ch) dials)
    (told_stays_then y z w (told_map (EmitsPart ch text) StaysGood y z (torn_stays ch text) part) (told_map (ClosesUnnoted ch) StaysGood z w (closed_stays ch) closed))

pub told_replied_stays : (ch : Channel) (text : List ℕ) (x y z : Option World) → Told (Emits ch text) x y → Told (ClosesUnnoted ch) y z → Told StaysGood x z
told_replied_stays ch text x y z emits closed =
    told_stays_then x y z (told_map (Emits ch text) StaysGood x y (emitted_stays ch text) emits) (told_map (ClosesUnnoted ch) StaysGood y z (closed_stays ch) closed)

pub told_torn_reply_stays : (ch : Channel) (text : List ℕ) (x y z : Option World) → Told (EmitsPart ch text) x y → Told (ClosesUnnoted ch) y z → Told StaysGood x z
told_torn_reply_stays ch text x y z part closed =
    told_stays_then x y z (told_map (EmitsPart ch text) StaysGood x y (torn_stays ch text) part) (told_map (ClosesUnnoted ch) StaysGood y z (closed_stays ch) closed)
