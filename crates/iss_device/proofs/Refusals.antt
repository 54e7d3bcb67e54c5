-- A device on which no store can be opened is refused, and no other is.
use Rattle.std.proofs.Common.{◌≡◌, ℕ, inl, inr, Option, Err, refl}
use Rattle.iss_edge.specs.World.{World, Told}
use Rattle.iss_edge.proofs.Tolds.{told_map}
use Rattle.iss_opening.specs.declared.fault.OpenFault.{OpenFault}
use Rattle.iss_opening.specs.declared.fault.OpenFault.TheVariants.{Disk, NotFormatted, BadImage, BadRecord, BadSpelling, BadHistory, OutOfMemory}
use Rattle.iss_opening.specs.Values.{StoreNow}
use Rattle.iss_opening.specs.Opening.{Opens, OpensStore, OpensGood, ReadsAlone, OnRefused}
use Rattle.iss_opening.proofs.GoodDevices.{opened_device}
use Rattle.iss_opening.proofs.Telling.{told_both}
use Rattle.iss_device.specs.Refusals.{IsNoStore, OnDeviceAlone, RefusesExactly, opening_status}

-- what an opening did is on the device alone
pub opens_alone : (a b : World) → OpensGood a b → OnDeviceAlone a b
opens_alone a b good =
    record { left = good.left; actions = good.added; grew = good.grew; on_device = good.on_device; opening = good.syncs }

refuses : (a b : World) → IsNoStore a.device → OpensGood a b → ReadsAlone a b → RefusesExactly 4 a b
refuses a b none good reads =
    record {
      only = λ e. (none, reads);
      there = λ found. inl refl;
      untouched = λ found. opens_alone a b good;
      as_before = λ found six. reads;
      others = λ four six seven. absurd (four refl);
    }

-- a fault of the disk or of memory may come on any device
disk_refuses : (a b : World) → OpensGood a b → RefusesExactly 6 a b
disk_refuses a b good =
    record {
      only = λ e. cc;
      there = λ found. inr (inl refl);
      untouched = λ found. opens_alone a b good;
      as_before = λ found six. absurd (six refl);
      others = λ four six seven. absurd (six refl);
    }

memory_refuses : (a b : World) → OpensGood a b → ReadsAlone a b → RefusesExactly 7 a b
memory_refuses a b good reads =
    record {
      only = λ e. cc;
      there = λ found. inr (inr refl);
      untouched = λ found. opens_alone a b good;
      as_before = λ found six. reads;
      others = λ four six seven. absurd (seven refl);
    }

-- a fault that says that no store can be opened on the device
told_none : (fault : OpenFault) (x y : Option World) → ((a : World) → Opens (Err fault) a a → IsNoStore a.device) → ((a b : World) → Opens (Err fault) a b → Opens (Err fault) a a) → Told (Opens (Err fault)) x y → Told OpensGood x y → Told ReadsAlone x y
    → Told (RefusesExactly 4) x y
told_none fault x y none same opens good reads =
    told_map (λ a b. (Opens (Err fault) a b × OpensGood a b) × ReadsAlone a b) (RefusesExactly 4) x y (λ a b p. refuses a b (none a (same a b p.0.0)) p.0.1 p.1)
    (told_both (λ a b. Opens (Err fault) a b × OpensGood a b) ReadsAlone x y (told_both (Opens (Err fault)) OpensGood x y opens good) reads)

pub told_refuses : (fault : OpenFault) (x y : Option World) → Told (Opens (Err fault)) x y → Told OpensGood x y → OnRefused {T = StoreNow} (Err fault) (Told ReadsAlone x y)
    → Told (RefusesExactly (opening_status fault)) x y
told_refuses Disk x y opens good reads = told_map OpensGood (RefusesExactly 6) x y disk_refuses good
told_refuses OutOfMemory x y opens good reads =
    told_map (λ a b. OpensGood a b × ReadsAlone a b) (RefusesExactly 7) x y (λ a b p. memory_refuses a b p.0 p.1) (told_both OpensGood ReadsAlone x y good reads)
told_refuses NotFormatted x y opens good reads = told_none NotFormatted x y (λ a found. inl found) (λ a b found. found) opens good reads
told_refuses (BadImage place) x y opens good reads = told_none (BadImage place) x y (λ a found. inr (place, inl found)) (λ a b found. found) opens good reads
told_refuses (BadRecord place) x y opens good reads = told_none (BadRecord place) x y (λ a found. inr (place, inr (inl found))) (λ a b found. found) opens good reads
told_refuses (BadSpelling gate) x y opens good reads = told_none (BadSpelling gate) x y (λ a found. inr (gate, inr (inr (inl found)))) (λ a b found. found) opens good reads
told_refuses (BadHistory gate) x y opens good reads = told_none (BadHistory gate) x y (λ a found. inr (gate, inr (inr (inr found)))) (λ a b found. found) opens good reads

-- on a device that opens there is no such fault
not_none : (s : StoreNow) (a b : World) → OpensStore s a.device → IsNoStore a.device → ⊥
not_none s a b opens none =
    elim none [
      | inl unformatted ↦ opened_device s NotFormatted a b opens unformatted
      | inr found ↦
          elim found.1 [
            | inl image_bad ↦ opened_device s (BadImage found.0) a b opens image_bad
            | inr others ↦
                elim others [
                  | inl record_bad ↦ opened_device s (BadRecord found.0) a b opens record_bad
                  | inr more ↦
                      elim more [
                        | inl spelling_bad ↦ opened_device s (BadSpelling found.0) a b opens spelling_bad
                        | inr history_bad ↦ opened_device s (BadHistory found.0) a b opens history_bad
                      ]
                ]
          ]
    ]

pub opened_refuses : (n : ℕ) (s : StoreNow) (a b : World) → (n ≡ 4 → ⊥) → OpensStore s a.device → RefusesExactly n a b
opened_refuses n s a b not_device opens =
    record {
      only = λ e. absurd (not_device e);
      there = λ found. absurd (not_none s a b opens found);
      untouched = λ found. absurd (not_none s a b opens found);
      as_before = λ found six. absurd (not_none s a b opens found);
      others = λ four six seven. record { store = s; opens = opens };
    }
