-- What a run on the store that was opened writes to the device.
use Rattle.std.proofs.Common.{◌≡◌, ℕ, List, ◌++◌, sym, ap, subst, ◌∙◌}
use Rattle.std.proofs.lemmas.List.{append_cancel_left}
use Rattle.iss_edge.specs.declared.outside.Action.{Action}
use Rattle.iss_edge.specs.World.{World}
use Rattle.iss_edge.specs.Puts.{Put, actions_of_puts, Ran}
use Rattle.iss_edge.specs.Stretches.{Step, actions_of}
use Rattle.iss_halves.specs.Forms.{Form, Seat}
use Rattle.iss_model.specs.declared.input.Record.{Record}
use Rattle.iss_standing.specs.Writes.{device_actions, records_puts, WritesRecords, WritesRecordsPart}
use Rattle.iss_standing.specs.Goings.{AreFirstOf, StepsGo, StepsGoPart}
use Rattle.iss_standing.proofs.Rewritten.{same_room_puts}
use Rattle.iss_opening.specs.Values.{StoreNow, form_under, seat_under}
use Rattle.iss_opening.specs.Standing.{IsOpenedOn}
use Rattle.iss_device.specs.Writes.{WroteAt}

module _ (form : Form) (seat : Seat) (rs made all : List Record) (is : all ≡ rs ++ made) (s : StoreNow) (opened : IsOpenedOn form seat rs s) (b d : World) (said : List Step) where
  -- the puts of these records on the store are those on the device
  puts_made : (first : AreFirstOf rs all) → records_puts (form_under s) (seat_under s) rs first.later ≡ records_puts form seat rs made
  puts_made first =
      ap (λ (l : List Record). records_puts (form_under s) (seat_under s) rs l) (append_cancel_left rs first.later made (sym first.cut ∙ is))
      ∙ same_room_puts (form_under s) form (seat_under s) seat rs made opened.form_is opened.room_is

  pub part_writes : (part : StepsGoPart (form_under s) (seat_under s) rs all said b d) → WritesRecordsPart form seat rs made (actions_of part.steps)
  part_writes part = subst (λ (p : List Put). Ran p (device_actions (actions_of part.steps))) (puts_made part.more) part.made

  pub goes_writes : (to : Seat) (actions : List Action) → d.trace ≡ b.trace ++ actions → StepsGo (form_under s) (seat_under s) to rs all said b d → WritesRecords form seat rs made actions
  goes_writes to actions grew goes =
      ap device_actions (append_cancel_left b.trace actions (actions_of goes.steps) (sym grew ∙ goes.grew))
      ∙ goes.made ∙ ap actions_of_puts (puts_made goes.more)

  -- a run on its way, which might have gone on unless a call on the device failed
  pub wrote_at : (status : ℕ) (part : StepsGoPart (form_under s) (seat_under s) rs all said b d)
      → ((status ≡ 6 → ⊥) → (to : Seat) × StepsGo (form_under s) (seat_under s) to rs all said b d) → WroteAt status form seat rs made (actions_of part.steps)
  wrote_at status part goes =
      record {
        whole = λ other. goes_writes (goes other).0 (actions_of part.steps) part.grew (goes other).1;
        part = part_writes part;
      }
