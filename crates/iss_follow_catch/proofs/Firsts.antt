-- What holds of the second device whatever the first one stands for.
use Rattle.std.proofs.Common.{◌≡◌, inl, inr, List, [], ◌++◌, Option, sym, ap, subst, append-nil}
use Rattle.iss_edge.specs.World.{World, Told}
use Rattle.iss_edge.proofs.Tolds.{told_map}
use Rattle.iss_halves.specs.Forms.{Form, Seat}
use Rattle.iss_model.specs.declared.input.Record.{Record}
use Rattle.iss_standing.specs.Goings.{channel_steps, StepsGoPart}
use Rattle.iss_standing.specs.Standing.{DeviceStandsFor}
use Rattle.iss_opening.specs.Values.{StoreNow, form_under, seat_under}
use Rattle.iss_opening.specs.Opening.{OpenedAs}
use Rattle.iss_opening.proofs.Stores.{opened_stand}
use Rattle.iss_opening.proofs.Telling.{told_both}
use Rattle.iss_follow_runs.specs.Moments.{MomentsOf, KeepsMoments, EndsWith, EndsKept}
use Rattle.iss_follow_runs.proofs.Openings.{moments_part, ends_so}
use Rattle.iss_follow_catch.specs.Committing.{LastsSome}
use Rattle.iss_follow_catch.specs.Writing.{WrotePart}
use Rattle.iss_follow_catch.specs.Catching.{KeepsFirst, EndsFirst}
use Rattle.iss_follow_catch.proofs.Writes.{alone_part, alone_wrote, wrote_part, wrote_whole}

pub keeps_first : (c d : World) → KeepsMoments c d → KeepsFirst c d
keeps_first c d keeps form seat rs stands =
    let m = keeps form seat rs stands in
    (rs, (m.0, (ap channel_steps m.1, alone_part form seat rs m.0.more.later c d m)))

-- a part that says nothing, after an opening
pub quiet_part : (t : StoreNow) (c d e : World) (opened : OpenedAs t c d) (form : Form) (seat : Seat) (rs : List Record) (stands : DeviceStandsFor form seat rs c.device) (made : List Record) (part : StepsGoPart (form_under t) (seat_under t) rs made [] d e)
    → (moments : MomentsOf form rs made c e) × ((channel_steps moments.later ≡ []) × WrotePart form seat rs moments.more.later c e)
unfolding moments_part
quiet_part t c d e opened form seat rs stands made part =
    (moments_part form seat rs t c d e opened stands made [] part, (part.done, wrote_part t c d e opened form seat rs stands made part))

-- where it ends
first_kept : (c d : World) → KeepsMoments c d → EndsKept c d → EndsFirst c d
first_kept c d keeps kept form seat rs stands =
    elim (kept form seat rs stands) [
      | inl reads ↦ inl reads
      | inr ends ↦
          inr (record {
            later = [];
            ends = subst (λ (l : List Record). EndsWith form rs l c d) (sym (append-nil rs)) ends;
            wrote = alone_wrote form seat rs c d (keeps form seat rs stands);
          })
    ]

pub first_some : (t : StoreNow) (c d e : World) → OpenedAs t c d → LastsSome t d e → EndsFirst c e
first_some t c d e opened some form seat rs stands =
    let last = some rs (opened_stand t c.device form seat rs opened.opens stands).stands in
    inr (record {
      later = last.done;
      ends = ends_so form seat rs t c d e opened stands last.to (rs ++ last.done) [] last.goes;
      wrote = wrote_whole t c d e opened form seat rs stands last.to last.done last.goes;
    })

pub told_first_kept : (z w : Option World) → Told KeepsMoments z w → Told EndsKept z w → Told EndsFirst z w
told_first_kept z w keeps kept =
    told_map (λ c d. KeepsMoments c d × EndsKept c d) EndsFirst z w (λ c d p. first_kept c d p.0 p.1) (told_both KeepsMoments EndsKept z w keeps kept)
