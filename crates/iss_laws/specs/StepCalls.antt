-- What a record's entries do to calls.
use Rattle.std.specs.Prelude.{◌≡◌, ℕ, ◌+◌, true, fold}
use Rattle.std.specs.List.{list_all}
use Rattle.iss_model.specs.declared.input.Record.{Record}
use Rattle.iss_model.specs.rules.Facts.{Facts}
use Rattle.iss_model.specs.state.Cores.{CoreState}
use Rattle.iss_agreement.specs.Stepped.{core_after, core_entries}
use Rattle.iss_laws.specs.CallEntries.{closes, closes_void, opens, opens_none, times_among, voids}
use Rattle.iss_laws.specs.Pairs.{paired, pairing_after}
use Rattle.iss_laws.specs.Payable.{ArePayable, CallsStand, asked_at}

-- a record closes the call of a number as often as it was asked before or is opened there, and isn't asked after
abbrev pub IsClosedAsOpened : CoreState → Record → ℕ → Type 0
IsClosedAsOpened s r n =
    times_among (closes n) (core_entries s r) + asked_at (core_after s r).calls n
    ≡ asked_at s.calls n + times_among (opens n) (core_entries s r)

-- it voids the call as often as it closes it as failed or abandoned
abbrev pub IsVoidedAsClosed : CoreState → Record → ℕ → Type 0
IsVoidedAsClosed s r n = times_among (voids n) (core_entries s r) ≡ times_among (closes_void n) (core_entries s r)

-- no entry of a record opens a call
abbrev pub OpensNone : CoreState → Record → Type 0
OpensNone s r = list_all opens_none (core_entries s r) ≡ true

-- If calls can be paid, each closing in a record's entries that funds a call or a part of it has its post. That is so by facts whose
-- calls go on from the record's. No other post comes from the gateway.
abbrev pub ArePaid : Facts → ℕ → CoreState → Record → Type 0
ArePaid f number s r =
    ArePayable s → CallsStand (core_after s r).calls f.calls → fold (pairing_after f number) paired (core_entries s r) ≡ paired
