-- A report of what stands on a device: what went out, and each moment.
use Rattle.std.proofs.Common.{◌≡◌, ℕ, inl, inr, List, [], ◌++◌, length, refl, sym, ap, subst, ◌∙◌, append-nil, append_assoc, arith}
use Rattle.std.proofs.lemmas.List.{append_cancel_left}
use Rattle.iss_edge.specs.declared.outside.Action.{Action}
use Rattle.iss_edge.specs.World.{World}
use Rattle.iss_edge.specs.Stretches.{with_levels, actions_of}
use Rattle.iss_model.specs.declared.input.Record.{Record}
use Rattle.iss_model.specs.rules.Histories.{IsLegal}
use Rattle.iss_halves.specs.Forms.{Form, Seat}
use Rattle.iss_standing.specs.Standing.{DeviceStandsFor}
use Rattle.iss_standing.specs.Rooms.{room_in}
use Rattle.iss_opening.specs.Values.{StoreNow, form_under, seat_under}
use Rattle.iss_opening.specs.Standing.{IsOpenedOn}
use Rattle.iss_opening.specs.Opening.{OpensGood, OpenedAs, ReadsAlone}
use Rattle.iss_standing.specs.Goings.{StepsGo}
use Rattle.iss_standing.proofs.Goings.{no_work}
use Rattle.iss_texts.specs.Sending.{emits, Says, SaysSome}
use Rattle.iss_texts.proofs.Saying.{all_out, says_all}
use Rattle.iss_standing.proofs.Bodies.{first_self}
use Rattle.iss_device.specs.Moments.{EndsAtRest}
use Rattle.iss_device.proofs.Devices.{stands_opened, rests_stands}
use Rattle.iss_device.proofs.Moments.{ends_at_rest}
use Rattle.iss_top.specs.Replays.{MomentsOf}
use Rattle.iss_top.specs.Reports.{report_lines, report_texts, ReportOn}
use Rattle.iss_top.proofs.Goings.{emits_still, still_out, some_goes, says_goes_part}
use Rattle.iss_top.proofs.Moments.{moments_unopened, moments_opened}
use Rattle.iss_top.proofs.Seats.{same_room_stands}

-- no more records than those that stood
no_more : (form : Form) (rs : List Record) (a d : World) → MomentsOf form rs (rs ++ []) (report_texts rs) a d → MomentsOf form rs rs (report_texts rs) a d
no_more form rs a d moments =
    subst (λ (l : List Record). MomentsOf form rs l (report_texts rs) a d) (append-nil rs) moments

legal_still : (form : Form) (seat : Seat) (rs : List Record) (device : List ℕ) → DeviceStandsFor form seat rs device → IsLegal (rs ++ [])
legal_still form seat rs device stands = subst IsLegal (sym (append-nil rs)) stands.history.legal

-- ---- the device didn't open

pub unopened_report_on : (status : ℕ) (form : Form) (seat : Seat) (rs : List Record) (a b : World) → (status ≡ 0 → ⊥) → (status ≡ 4 → ⊥) → (status ≡ 5 → ⊥) → OpensGood a b → ((status ≡ 6 → ⊥) → ReadsAlone a b) → ReportOn status form seat rs a b
unopened_report_on status form seat rs a b not_done not_device not_output good reads =
    record {
      left = good.left;
      opening = good.added;
      sent = [];
      grew = good.grew ∙ ap (λ (l : List Action). a.trace ++ l) (sym (append-nil good.added));
      on_device = good.on_device;
      opening_is = good.syncs;
      opening_gate = good.gate form rs;
      wrote = refl;
      out = record { whole = []; rest = report_lines rs; cut = refl; last = []; done = refl; ended = inl refl };
      whole = λ e. absurd (not_done e);
      stands = λ e. elim e [ inl done ↦ absurd (not_done done) | inr failed ↦ absurd (not_output failed) ];
      ends = λ e. elim e [ inl done ↦ absurd (not_done done) | inr failed ↦ absurd (not_output failed) ];
      ended = λ e. inl (reads (λ six. absurd (omega (arith, e, six))));
      other_device = not_device;
    }

pub unopened_report_moments : (form : Form) (seat : Seat) (rs : List Record) (a b : World) → OpensGood a b → DeviceStandsFor form seat rs a.device → MomentsOf form rs rs (report_texts rs) a b
unopened_report_moments form seat rs a b good stands =
    no_more form rs a b (moments_unopened form seat rs [] (report_texts rs) a b good stands (legal_still form seat rs a.device stands))

-- ---- the device opened

module _ (form : Form) (seat : Seat) (rs : List Record) (s : StoreNow) (a b d : World) (opening : OpenedAs s a b) (stands : DeviceStandsFor form seat rs a.device) where
  opened : IsOpenedOn form seat rs s
  opened = stands_opened form seat rs s a b opening stands

  -- it stands at the seat of the store, which has the same room
  still_stands : DeviceStandsFor form seat rs b.device
  still_stands =
      let here : DeviceStandsFor form (seat_under s) rs b.device =
      rests_stands form (seat_under s) rs b.device stands.form_is stands.history stands.few (opening.going.rests form seat rs stands) in
      let same : room_in form (seat_under s) ≡ room_in form seat =
      ap (λ (f : Form). room_in f (seat_under s)) (sym opened.form_is) ∙ opened.room_is in
      same_room_stands form (seat_under s) seat rs b.device same here

  behind_opening : (sent : List Action) → d.trace ≡ b.trace ++ sent → d.trace ≡ a.trace ++ (opening.good.added ++ sent)
  behind_opening sent grew =
      grew ∙ ap (λ (l : List Action). l ++ sent) opening.good.grew ∙ append_assoc a.trace opening.good.added sent

  -- where it ends, whatever went out
  still_ends : (says : SaysSome (report_lines rs) b d) → EndsAtRest form rs rs (opening.good.added ++ says.sends.actions) a d
  still_ends says =
      let going : StepsGo (form_under s) (seat_under s) (seat_under s) rs rs (with_levels (length rs) says.sends.actions) b d = some_goes (form_under s) (seat_under s) rs (report_lines rs) b d says in
      let same : actions_of going.steps ≡ says.sends.actions = append_cancel_left b.trace (actions_of going.steps) says.sends.actions (sym going.grew ∙ says.sends.grew) in
      subst (λ (l : List Action). EndsAtRest form rs rs (opening.good.added ++ l) a d) same
      (ends_at_rest form seat rs s a b opening stands (seat_under s) rs (with_levels (length rs) says.sends.actions) d going)

  all_ends : (says : Says (report_lines rs) b d) → EndsAtRest form rs rs (opening.good.added ++ emits (report_lines rs)) a d
  all_ends says =
      let sent : SaysSome (report_lines rs) b d =
      record {
        left = says.left;
        arrivals = says.arrivals;
        sends = record { device = says.sends.device; actions = emits (report_lines rs); grew = says.sends.grew; out = all_out (report_lines rs) };
      } in
      still_ends sent

  -- some of the lines went out
  pub part_on : (status : ℕ) → (status ≡ 0 → ⊥) → (status ≡ 4 → ⊥) → SaysSome (report_lines rs) b d → ReportOn status form seat rs a d
  part_on status not_done not_device says =
      record {
        left = says.left ∙ opening.good.left;
        opening = opening.good.added;
        sent = says.sends.actions;
        grew = behind_opening says.sends.actions says.sends.grew;
        on_device = opening.good.on_device;
        opening_is = opening.good.syncs;
        opening_gate = opening.good.gate form rs;
        wrote = no_work says.sends.actions (still_out (report_lines rs) says.sends.actions says.sends.out);
        out = says.sends.out;
        whole = λ e. absurd (not_done e);
        stands = λ e. subst (λ (device : List ℕ). DeviceStandsFor form seat rs device) (sym says.sends.device) still_stands;
        ends = λ e. still_ends says;
        ended = λ e. inr (still_ends says);
        other_device = not_device;
      }

  -- all of them did
  pub whole_on : (status : ℕ) → (status ≡ 4 → ⊥) → Says (report_lines rs) b d → ReportOn status form seat rs a d
  whole_on status not_device says =
      record {
        left = says.left ∙ opening.good.left;
        opening = opening.good.added;
        sent = emits (report_lines rs);
        grew = behind_opening (emits (report_lines rs)) says.sends.grew;
        on_device = opening.good.on_device;
        opening_is = opening.good.syncs;
        opening_gate = opening.good.gate form rs;
        wrote = no_work (emits (report_lines rs)) (emits_still (report_lines rs));
        out = all_out (report_lines rs);
        whole = λ e. refl;
        stands = λ e. subst (λ (device : List ℕ). DeviceStandsFor form seat rs device) (sym says.sends.device) still_stands;
        ends = λ e. all_ends says;
        ended = λ e. inr (all_ends says);
        other_device = not_device;
      }

  pub part_moments : SaysSome (report_lines rs) b d → MomentsOf form rs rs (report_texts rs) a d
  part_moments says =
      moments_opened ⊥ form seat rs rs rs (report_texts rs) s a b d opening stands stands.history.legal (first_self rs) (says_goes_part ⊥ (form_under s) (seat_under s) rs (report_lines rs) b d says)

  pub whole_moments : Says (report_lines rs) b d → MomentsOf form rs rs (report_texts rs) a d
  whole_moments says = part_moments (says_all (report_lines rs) b d says)
