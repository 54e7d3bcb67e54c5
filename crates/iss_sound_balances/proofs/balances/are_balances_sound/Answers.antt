use Rattle.std.proofs.Common.{rules, ◌≡◌, ◌+◌, ap, arith, false, true}
use Rattle.iss_model.specs.declared.state.State.{State}
use Rattle.iss_states.specs.Rebuilding.{rebuilt}
use Rattle.iss_bounded.specs.Bounds.{asked_number}
use Rattle.iss_bounded.specs.Many.{live_number}
use Rattle.iss_sound_balances.proofs.MovesTotal.{owed_small}
use Rattle.iss_sound_balances.proofs.SoundTest.{sound_by, unsound_by}
use Rattle.iss_sound_balances.proofs.balances.are_balances_sound.Goals as goal

pub returns-then-not-are_listed_well : goal.returns-then-not-are_listed_well
returns-then-not-are_listed_well c =
    let s = c.args.state.now in
    let listed = c.as_slice-balances.result.now in
    let number : c.state.inside.0.0 ≡ s.records = ap (λ (x : State). x.records) c.state.view_is in
    let same : listed ≡ s.balances = search rules in
    let counted : c.from.result + c.from-2.result ≡ asked_number (rebuilt s).calls + live_number (rebuilt s).holdings.txns =
    omega (arith, c.from.ensures, c.from-2.ensures, c.requires.asked, c.requires.live) in
    let badly : c.are_listed_well.result ≡ false = search rules in
    unsound_by s c.args.known.now c.requires.known (c.from.result + c.from-2.result) counted c.state.inside.0.0 listed c.are_listed_well.result number same c.are_listed_well.ensures badly

pub owed_balances-requires : goal.owed_balances-requires
owed_balances-requires c =
    owed_small c.args.known.now.txns c.args.state.now c.requires.order c.requires.parts c.requires.done c.requires.fair c.requires.approved c.requires.again.begun

pub returns : goal.returns
returns c =
    let s = c.args.state.now in
    let listed = c.as_slice-balances.result.now in
    let number : c.state.inside.0.0 ≡ s.records = ap (λ (x : State). x.records) c.state.view_is in
    let same : listed ≡ s.balances = search rules in
    let counted : c.from.result + c.from-2.result ≡ asked_number (rebuilt s).calls + live_number (rebuilt s).holdings.txns =
    omega (arith, c.from.ensures, c.from-2.ensures, c.requires.asked, c.requires.live) in
    let well : c.are_listed_well.result ≡ true = search rules in
    sound_by s c.args.known.now c.requires.known (c.from.result + c.from-2.result) counted c.state.inside.0.0 listed c.in_ok-owed.owed c.are_listed_well.result c.take_out.result
    number same c.in_ok-owed.ensures c.are_listed_well.ensures well c.take_out.ensures
