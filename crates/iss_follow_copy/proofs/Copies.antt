-- What making a device leaves is a copy, if the image is that of a history.
use Rattle.std.proofs.Common.{◌≡◌, ◌^◌, ◌<◌, ◌≤◌, ℕ, zero, suc, inl, inr, Bool, true, false, List, [], ◌∷◌, ◌++◌, length, take, drop, refl, sym, ap, subst, ◌∙◌, append-nil, arith}
use Rattle.std.proofs.Math.Seq.{take-length, drop-length}
use Rattle.iss_edge.specs.declared.outside.Action.{Action}
use Rattle.iss_edge.specs.World.{World}
use Rattle.iss_edge.specs.Disk.{Disk, after_actions, IsAtRest, IsImage}
use Rattle.iss_edge.specs.Puts.{syncs_after}
use Rattle.iss_edge.proofs.Images.{rest_image}
use Rattle.iss_journal.specs.Region.{Shows, ShowsClosed}
use Rattle.iss_journal.proofs.Closings.{shows_closed}
use Rattle.iss_halves.specs.Finding.{HasKind}
use Rattle.iss_halves.specs.Forms.{in_halves, seat_at}
use Rattle.iss_halves.specs.Halves.{IsHalvesSize, HalfRests}
use Rattle.iss_halves.specs.Making.{MakingLeaves, Makes, MakesGood}
use Rattle.iss_halves.specs.Standing.{JournalHolds}
use Rattle.iss_model.specs.declared.input.Record.{Record}
use Rattle.iss_model.specs.declared.limits.TheConstants.{MOST_RECORDS}
use Rattle.iss_core.specs.Values.{CoreNow}
use Rattle.iss_standing.specs.Standing.{AreHistory, IsForm, bodies_of, image_after}
use Rattle.iss_device.proofs.Devices.{shows_stands}
use Rattle.iss_standing.proofs.Holds.{holds_map}
use Rattle.iss_opening.specs.Values.{StoreNow}
use Rattle.iss_opening.specs.Opening.{OpensStore}
use Rattle.iss_follow_copy.specs.Copies.{IsCopy, CopyLeaves, CopiesGood, CopyMade, MakesPart}

module _ (instance : ℕ) (rs : List Record) (small : instance < 2 ^ 48) (history : AreHistory rs) (few : length rs ≤ MOST_RECORDS) where
  module _ (size : ℕ) (sized : IsHalvesSize size) where
    copy_form : IsForm (in_halves instance size)
    copy_form = record { least = omega (arith, sized.least); least_halves = λ e. sized.least; most = sized.most; small = small }

    is_copy : (device : List ℕ) → HalfRests instance size false (image_after rs) [] device → IsCopy instance size rs device
    is_copy device rests =
        let form = in_halves instance size in
        let seat = seat_at false (length rs) in
        let own = image_after (take (length rs) rs) in
        let bodies = bodies_of (drop (length rs) rs) in
        let none : bodies ≡ [] = ap bodies_of (drop-length rs) in
        let image : own ≡ image_after rs = ap image_after (take-length rs) in
        let closed : JournalHolds form seat own (λ region. ShowsClosed region bodies device) =
        subst (λ (l : List ℕ). JournalHolds form seat l (λ region. ShowsClosed region bodies device)) (sym image)
        (subst (λ (l : List (List ℕ)). JournalHolds form seat (image_after rs) (λ region. ShowsClosed region l device)) (sym none) rests) in
        let shows : JournalHolds form seat own (λ region. Shows region bodies device) =
        holds_map form seat own (λ region. ShowsClosed region bodies device) (λ region. Shows region bodies device) (λ region c. shows_closed region bodies device c) closed in
        record {
          stands = shows_stands form seat rs device copy_form history (λ e. few) (omega arith) shows;
          firm = inl closed;
        }

  leaves_copy : (start : List ℕ) (syncs : ℕ) (device : List ℕ) → IsHalvesSize (length start) → MakingLeaves instance (image_after rs) start syncs device → CopyLeaves instance rs start syncs device
  leaves_copy start zero device sized leaves = leaves
  leaves_copy start (suc syncs) device sized leaves =
      elim leaves [
        | inl none ↦ inl none
        | inr rests ↦ inr (is_copy (length start) sized device rests)
      ]

  pub copies_good : (a b : World) → IsHalvesSize (length a.device) → MakesGood instance (image_after rs) a b → CopiesGood instance rs a b
  copies_good a b sized good =
      record {
        part = good.part;
        each = λ d calm same before rest cut device is.
            leaves_copy a.device (syncs_after 0 before) device sized (good.each d calm same before rest cut device is);
      }

  pub copy_made : (a b : World) → IsHalvesSize (length a.device) → Makes instance (image_after rs) a b → CopyMade instance rs a b
  copy_made a b sized makes =
      record { made = makes.made; is_copy = is_copy (length a.device) sized b.device makes.shows; lasts = makes.lasts }

-- before anything is done, a stop leaves the device as it is
untouched : (instance : ℕ) (rs : List Record) (a : World) (d : Disk) → IsAtRest d → d.bytes ≡ a.device → (before rest : List Action) → [] ≡ before ++ rest
    → (image : List ℕ) → IsImage (after_actions d before) image → CopyLeaves instance rs a.device (syncs_after 0 before) image
untouched instance rs a d rest same [] after cut image is = ap (λ (l : List ℕ). drop 1 l) (rest_image d image rest is ∙ same)
untouched instance rs a d rest same (x ∷ xs) after cut image is = absurd cc

pub nothing_copied : (instance : ℕ) (rs : List Record) (a : World) → CopiesGood instance rs a a
nothing_copied instance rs a =
    record {
      part = record { left = refl; actions = []; trace = sym (append-nil a.trace); ran = tt };
      each = untouched instance rs a;
    }

-- nothing is a part of what makes a device
pub nothing_made : (a : World) → MakesPart a a
nothing_made a =
    record {
      instance = 0;
      image = [];
      part = record { left = refl; actions = []; trace = sym (append-nil a.trace); ran = tt };
    }

-- ---- the instance of a store that was opened

kind_small : (halved : Bool) (instance : ℕ) (second : Bool) (device : List ℕ) → HasKind halved instance second device → instance < 2 ^ 48
kind_small true instance second device has = has.0.small
kind_small false instance second device has = has.small

pub instance_small : (s : StoreNow) (device : List ℕ) → OpensStore s device → s.core.instance < 2 ^ 48
instance_small s device opens =
    let small : s.layout.instance < 2 ^ 48 =
    kind_small s.layout.halved s.layout.instance s.layout.second device opens.reads.begins.found.has.kind in
    let own : s.core.instance ≡ s.layout.instance =
    ap (λ (c : CoreNow). c.instance) opens.core ∙ opens.reads.begins.loaded.instance in
    subst (λ (n : ℕ). n < 2 ^ 48) (sym own) small
