-- The rules of a sound state, as they are tested: part after part, each beside what earlier ones have shown.
use Rattle.std.specs.Prelude.{◌≤◌}
use Rattle.iss_model.specs.declared.state.State.{State}
use Rattle.iss_noticed.specs.Commitments.{most_of_records}
use Rattle.iss_bounded.specs.Bounds.{open_amount}
use Rattle.iss_known.specs.Known.{IsReadAgain}
use Rattle.iss_sound_balances.specs.Sound.{AreBalancesSound}
use Rattle.iss_sound_parts.specs.SoundCounters.{AreCountersSound}
use Rattle.iss_sound_events.specs.Alone.{AreSoundAlone}
use Rattle.iss_sound_events.specs.Done.{HasSumsDone}
use Rattle.iss_sound_parts.specs.SoundNotices.{AreNoticesSound, AreStandInsSound}
use Rattle.iss_sound_parts.specs.Txns.{AreTxnsSound}
use Rattle.iss_sound_parts.specs.SoundVerdicts.{AreVerdictsSound}

-- The lists of sums and the notices of a state are sound.
pub record AreListsSound (s : State) : Type 0 where
  pub counters : AreCountersSound s
  pub stand_ins : AreStandInsSound s
  pub notices : AreNoticesSound s
  pub balances : AreBalancesSound s

-- Transactions and verdicts are sound, no more is open than the records may come to, and the lists are sound.
pub record IsSoundBeside (s : State) : Type 0 where
  pub txns : AreTxnsSound s
  pub verdicts : AreVerdictsSound s
  pub opened : open_amount s ≤ most_of_records s.records
  pub lists : AreListsSound s

-- Events are sound alone, sums are what was done, what events say is read again, and all is sound beside that.
pub record IsSoundInParts (s : State) : Type 0 where
  pub alone : AreSoundAlone s
  pub done : HasSumsDone s
  pub again : IsReadAgain s
  pub beside : IsSoundBeside s
