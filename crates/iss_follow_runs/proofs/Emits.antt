-- A text that goes out after an opening.
use Rattle.std.proofs.Common.{◌≡◌, ℕ, inl, inr, Bool, true, false, List, [], ◌∷◌, ◌++◌, length, refl, subst}
use Rattle.std.specs.Prelude.{◌⊎◌}
use Rattle.iss_edge.specs.declared.outside.Action.{Action}
use Rattle.iss_edge.specs.declared.outside.Action.TheVariants.{Emit}
use Rattle.iss_edge.specs.declared.outside.Channel.{Channel}
use Rattle.iss_edge.specs.World.{World}
use Rattle.iss_edge.specs.Calls.{Emits, EmitsPart, SendsPrefix}
use Rattle.iss_edge.specs.Stretches.{Step, with_levels}
use Rattle.iss_edge.proofs.StretchLemmas.{sent_leveled}
use Rattle.iss_halves.specs.Forms.{Form, Seat}
use Rattle.iss_model.specs.declared.input.Record.{Record}
use Rattle.iss_standing.specs.Goings.{StepsGo}
use Rattle.iss_standing.proofs.Goings.{goes_part, goes_still, nothing_goes, still_goes}
use Rattle.iss_opening.specs.Values.{StoreNow, form_under, seat_under}
use Rattle.iss_opening.specs.Opening.{OpenedAs}
use Rattle.iss_follow_runs.specs.Moments.{TellsMoments, KeepsRecords}
use Rattle.iss_follow_runs.specs.Sendings.{SendsPart}
use Rattle.iss_follow_runs.proofs.Openings.{moments_part, ends_so}

abbrev emit_steps : ℕ → Channel → List ℕ → Bool → List Step
emit_steps n ch bytes ok = with_levels n (Emit ch bytes ok ∷ [])

unfoldable emit_goes : (form : Form) (seat : Seat) (rs : List Record) (ch : Channel) (bytes : List ℕ) (ok : Bool) (b d : World) → d.device ≡ b.device → d.trace ≡ b.trace ++ Emit ch bytes ok ∷ [] → StepsGo form seat seat rs rs (emit_steps (length rs) ch bytes ok) b d
emit_goes form seat rs ch bytes ok b d device trace =
    still_goes form seat rs (emit_steps (length rs) ch bytes ok) b d (refl, tt) (sent_leveled (length rs) (Emit ch bytes ok ∷ [])) device trace

module _ (s : StoreNow) (a b d : World) (opening : OpenedAs s a b) (ch : Channel) (bytes : List ℕ) where
  -- it went out
  pub emitted_moments : Emits ch bytes b d → TellsMoments a d
  unfolding moments_part goes_part emit_goes still_goes
  emitted_moments emits form seat rs stands =
      let f = form_under s in
      let x = seat_under s in
      (moments_part form seat rs s a b d opening stands rs (emit_steps (length rs) ch bytes true) (goes_part f x x rs rs (emit_steps (length rs) ch bytes true) b d (emit_goes f x rs ch bytes true b d emits.device emits.trace)), (refl, refl))

  pub emitted_records : Emits ch bytes b d → KeepsRecords a d
  emitted_records emits form seat rs stands =
      ends_so form seat rs s a b d opening stands (seat_under s) rs (emit_steps (length rs) ch bytes true) (emit_goes (form_under s) (seat_under s) rs ch bytes true b d emits.device emits.trace)

  -- a part of it did, or nothing
  pub torn_moments : EmitsPart ch bytes b d → TellsMoments a d
  unfolding moments_part goes_part goes_still nothing_goes emit_goes still_goes
  torn_moments part form seat rs stands =
      let f = form_under s in
      let x = seat_under s in
      elim part.trace [
        | inl same ↦
            (moments_part form seat rs s a b d opening stands rs [] (goes_part f x x rs rs [] b d (goes_still f x x rs rs [] b b d (nothing_goes f x rs b) part.device same)), tt)
        | inr sends ↦
            (moments_part form seat rs s a b d opening stands rs (emit_steps (length rs) ch sends.prefix false) (goes_part f x x rs rs (emit_steps (length rs) ch sends.prefix false) b d (emit_goes f x rs ch sends.prefix false b d part.device sends.added)), (refl, refl))
      ]

  pub torn_records : EmitsPart ch bytes b d → KeepsRecords a d
  torn_records part form seat rs stands =
      let f = form_under s in
      let x = seat_under s in
      elim part.trace [
        | inl same ↦ ends_so form seat rs s a b d opening stands x rs [] (goes_still f x x rs rs [] b b d (nothing_goes f x rs b) part.device same)
        | inr sends ↦
            ends_so form seat rs s a b d opening stands x rs (emit_steps (length rs) ch sends.prefix false) (emit_goes f x rs ch sends.prefix false b d part.device sends.added)
      ]

  -- and that was a part of this line, on channel 0
  pub sends_part : (line : List ℕ) → ch ≡ record { 0 = 0 } → bytes ≡ line → EmitsPart ch bytes b d → SendsPart line a d
  sends_part line standard is part =
      let sends : (d.trace ≡ a.trace ++ opening.good.added) ⊎ SendsPrefix ch bytes (a.trace ++ opening.good.added) d.trace =
      subst (λ (t : List Action). (d.trace ≡ t) ⊎ SendsPrefix ch bytes t d.trace) opening.good.grew part.trace in
      record {
        opening = opening.good.added;
        on_device = opening.good.on_device;
        opening_is = opening.good.syncs;
        how =
            subst (λ (c : Channel). (d.trace ≡ a.trace ++ opening.good.added) ⊎ SendsPrefix c line (a.trace ++ opening.good.added) d.trace) standard
            (subst (λ (l : List ℕ). (d.trace ≡ a.trace ++ opening.good.added) ⊎ SendsPrefix ch l (a.trace ++ opening.good.added) d.trace) is sends);
      }
