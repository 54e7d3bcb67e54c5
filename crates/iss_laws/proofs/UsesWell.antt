-- At the time of every legal book what is open of counted use was counted, so no control has counted less than nothing.
use Rattle.std.proofs.Common.{◌≡◌, ℕ, zero, suc, ℤ, pos, negsuc, ◌+ℤ◌, ◌≤◌, max, Bool, true, false, cond, ◌&&◌, List, [], ◌∷◌, ◌++◌, fold, append_assoc, refl, sym, ap, subst, ◌∙◌, arith}
use Rattle.std.proofs.lemmas.Int.{ints}
use Rattle.std.proofs.lemmas.List.{append-nil}
use Rattle.std.proofs.lemmas.List.Folds.{list_all-map}
use Rattle.std.specs.Prelude.{◌≤ℤ◌, replicate, Some, None}
use Rattle.std.specs.List.{list_all}
use Rattle.std.specs.Str.{bytes_eq}
use Rattle.iss_model.specs.declared.entry.Entry.{Entry}
use Rattle.iss_model.specs.declared.entry.Entry.TheVariants as entry
use Rattle.iss_model.specs.declared.input.Input.{Input}
use Rattle.iss_model.specs.declared.input.Record.{Record}
use Rattle.iss_model.specs.declared.setting.Window.{Window}
use Rattle.iss_model.specs.declared.setting.Window.TheVariants as window
use Rattle.iss_model.specs.declared.txn.Txn.{Txn}
use Rattle.iss_model.specs.declared.txn.UsageRow.{UsageRow}
use Rattle.iss_model.specs.Calendar.{window_at}
use Rattle.iss_model.specs.Sums.{changed_at, int_key, sum_at}
use Rattle.iss_model.specs.rules.Activity.{TxnNow}
use Rattle.iss_model.specs.rules.Asks.{usage_of, used_by}
use Rattle.iss_model.specs.rules.Controls.{ControlPut, Group, control_puts_of, counted_changes, counted_control, counts, groups_of, span_key, window_key}
use Rattle.iss_model.specs.rules.Due.{thing_entries}
use Rattle.iss_model.specs.rules.Facts.{Facts}
use Rattle.iss_model.specs.rules.Histories.{History, IsLegal, IsLegalAfter, history_facts, history_of}
use Rattle.iss_model.specs.rules.Stepping.{entries_of, step}
use Rattle.iss_model.specs.state.Cores.{CoreState, after_entry, core_facts, core_keeper, core_of, no_core, with_record}
use Rattle.iss_agreement.proofs.CoreOfBook.{core_step, facts_history, judge_history}
use Rattle.iss_state.specs.Sound.{IsNewEvent}
use Rattle.iss_state.proofs.invariants.NewEvents.{judged_new}
use Rattle.iss_state.specs.Pending.{HasTakenUp, IsWell}
use Rattle.iss_state.proofs.calls.Legal.{nothing_well}
use Rattle.iss_state.proofs.calls.Steps.{ready_settled, ready_taken, step_well}
use Rattle.iss_state.specs.Holdings.{AllKeepHeld, BegunBy, IsHeldWell}
use Rattle.iss_state.proofs.held.Inputs.{own_keeps, thing_keeps}
use Rattle.iss_state.proofs.held.Steps.{HoldsWell, nothing_held, step_held, thing_held}
use Rattle.iss_state.proofs.held.Times.{entries_begun, entries_now}
use Rattle.iss_acts.proofs.Stepping.{GoesThrough, step_leads}
use Rattle.iss_model.proofs.Names.{one_name}
use Rattle.iss_laws.specs.Uses.{counts_txn_well, counts_well, has_counted_well, is_use, use_is_not_negative, used_of}
use Rattle.iss_laws.proofs.HoldsWell.{is_not_negative}
use Rattle.iss_laws.proofs.OpenInputs.{CountsOn, input_uses, thing_uses}
use Rattle.iss_laws.proofs.OpenUse.{Pays}
use Rattle.iss_laws.proofs.OpenCalls.{Counting, IsCounting, is_usage, open_use, used}
use Rattle.iss_agreement.proofs.Records.{history_more}
use Rattle.iss_agreement.proofs.StepSums.{among_summed}
use Rattle.iss_laws.proofs.Rows.{next_summed}
use Rattle.iss_laws.proofs.Windows.{window_grows}

-- a step ----

later_begun : (now last : ℕ) (s : CoreState) → now ≤ last → BegunBy now s.holdings.txns → BegunBy last s.holdings.txns
later_begun now last s le begun token t e = omega (arith, begun token t e, le)

-- it is the time of a record that was taken up, all is held well, and transactions began by then
record IsUseReady (i : Input) (at : ℕ) (s : CoreState) : Type 0 where
  now_is : s.now ≡ at
  taken : HasTakenUp s i
  held : IsHeldWell s
  begun : BegunBy s.now s.holdings.txns

-- no more was opened than counted, transactions began by now, and the time is the same
record Uses (at : ℕ) (s : CoreState) (es : List Entry) (later : CoreState) : Type 0 where
  opened : (k : Counting) (last : ℕ) → IsCounting k → CountsOn k last → at ≤ last → pos (open_use k later) ≤ℤ (pos (open_use k s) +ℤ used k es)
  begun : BegunBy s.now s.holdings.txns → BegunBy later.now later.holdings.txns
  now_stays : later.now ≡ s.now

-- entries that open no more than they count, and keep what is held
entries_use : (at : ℕ) (s : CoreState) (es : List Entry) → ((k : Counting) (last : ℕ) → IsCounting k → CountsOn k last → at ≤ last → Pays k s es) → AllKeepHeld s es → Uses at s es (fold after_entry s es)
entries_use at s es pays keeps =
    record {
      opened = λ k last counting on by_last. omega (arith, ints, (pays k last counting on by_last).le);
      begun = entries_begun s es keeps;
      now_stays = entries_now s es;
    }

uses_through : (i : Input) (at : ℕ) → GoesThrough (IsUseReady i at) (Uses at) i at
uses_through i at =
    record {
      none = λ s. record { opened = λ k last counting on by_last. omega (arith, ints); begun = λ begun. begun; now_stays = refl };
      then = λ s t u xs ys h l. record {
        opened = λ k last counting on by_last.
            chain (open_use k u) (open_use k t) (open_use k s) (used k xs) (used k ys) (used k (xs ++ ys)) (among_summed k.changes k.key xs ys) (h.opened k last counting on by_last)
            (l.opened k last counting on by_last);
        begun = λ begun. l.begun (h.begun begun);
        now_stays = l.now_stays ∙ h.now_stays;
      };
      due = λ s thing ready.
          entries_use at s (thing_entries thing at (core_facts s)) (λ k last counting on by_last. thing_uses k counting ready.taken.before s thing at ready.taken.well ready.held)
          (thing_keeps ready.taken.before s thing at ready.taken.well ready.held);
      own = λ s ready.
          entries_use at s (entries_of i at (core_facts s))
          (λ k last counting on by_last. input_uses k counting last on s i at (omega (arith, ready.now_is)) by_last ready.taken ready.held ready.begun)
          (own_keeps s i at (omega (arith, sym ready.now_is)) ready.taken ready.held);
      stays = λ s thing ready.
          let es : List Entry = thing_entries thing at (core_facts s) in
          record {
            now_is = entries_now s es ∙ ready.now_is;
            taken = ready_settled s i thing at ready.taken;
            held = thing_held s i thing at ready.taken ready.held;
            begun = entries_begun s es (thing_keeps ready.taken.before s thing at ready.taken.well ready.held) ready.begun;
          };
    }
  where
    chain : (z y x : ℕ) (u v w : ℤ) → w ≡ u +ℤ v → pos y ≤ℤ (pos x +ℤ u) → pos z ≤ℤ (pos y +ℤ v) → pos z ≤ℤ (pos x +ℤ w)
    chain z y x u v w e h k = omega (arith, ints, e, h, k)

step_uses : (s : CoreState) (r : Record) → s.now ≤ r.at → IsNewEvent s r.input → IsWell s → IsHeldWell s → BegunBy (max s.now r.at) s.holdings.txns
    → Uses r.at (with_record s r) (step core_keeper s r).entries (step core_keeper s r).world
step_uses s r early new well held begun =
    step_leads s r (uses_through r.input r.at) (record { now_is = omega (arith, early); taken = ready_taken s r well new; held = held; begun = begun })

-- over all records, by their stamps ----

-- what is open was counted
record IsCounted (rs : List Record) (s : CoreState) : Type 0 where
  holds : HoldsWell s
  begun : BegunBy s.now s.holdings.txns
  counted : (k : Counting) (last : ℕ) → IsCounting k → CountsOn k last → s.now ≤ last → pos (open_use k s) ≤ℤ sum_at k.changes k.key (history_of rs).rows

counted_step : (rs : List Record) (r : Record) → (core_of rs).now ≤ r.at → IsNewEvent (core_of rs) r.input → IsCounted rs (core_of rs) → IsCounted (rs ++ r ∷ []) (step core_keeper (core_of rs) r).world
counted_step rs r early new h =
    let s : CoreState = core_of rs in
    let begun : BegunBy (max s.now r.at) s.holdings.txns = later_begun s.now (max s.now r.at) s (omega arith) h.begun in
    let uses = step_uses s r early new h.holds.well h.holds.held begun in
    record {
      holds = record { well = step_well s r new h.holds.well; held = step_held s r new h.holds.well h.holds.held };
      begun = uses.begun begun;
      counted = λ k last counting on by_last.
          let now : max s.now r.at ≤ last = subst (λ (n : ℕ). n ≤ last) uses.now_stays by_last in
          subst (λ (z : ℤ). pos (open_use k (step core_keeper s r).world) ≤ℤ z) (sym (next_summed k.changes k.key rs r))
          (omega (arith, ints, uses.opened k last counting on (omega (arith, now)), h.counted k last counting on (omega (arith, now))));
    }

counted_from : (before rs : List Record) → IsLegalAfter (history_of before) rs → IsCounted before (core_of before) → IsCounted (before ++ rs) (core_of (before ++ rs))
counted_from before [] legal h = subst (λ (xs : List Record). IsCounted xs (core_of xs)) (sym (append-nil before)) h
counted_from before (r ∷ rs) legal h =
    let more : List Record = before ++ r ∷ [] in
    let new = judged_new (core_of before) r (judge_history before r.input r.at ∙ legal.0.is_new) in
    let early : (core_of before).now ≤ r.at = subst (λ (f : Facts). f.now ≤ r.at) (sym (facts_history before)) legal.0.stamp in
    let next : IsCounted more (core_of more) = subst (IsCounted more) (core_step before r) (counted_step before r early new h) in
    subst (λ (xs : List Record). IsCounted xs (core_of xs)) (append_assoc before (r ∷ []) rs)
    (counted_from more rs (subst (λ (h : History). IsLegalAfter h rs) (sym (history_more before r)) legal.1) next)

no_transactions : (k : Counting) → pos (open_use k no_core) ≤ℤ pos 0
no_transactions k = omega (arith, ints)

none_named : {Q : Type 0} (t : TxnNow) → None ≡ Some t → Q
none_named t e = cc

all_counted : (rs : List Record) → IsLegal rs → IsCounted rs (core_of rs)
all_counted rs legal =
    counted_from [] rs legal
    (record { holds = record { well = nothing_well; held = nothing_held }; begun = λ token t e. none_named t e; counted = λ k last counting on by_last. no_transactions k })

-- controls ----

-- what a control counts in a window at a key, amounts or times
abbrev counting_of : List Group → ControlPut → Window → List ℕ → Bool → (UsageRow → ℤ) → Counting
counting_of groups put w key by_amount worth =
    record {
      changes = counted_changes worth groups put;
      key = key;
      counts_at = λ t at. counts groups put (usage_of t (pos 0) (pos 0) at) && bytes_eq (span_key put.control w (usage_of t (pos 0) (pos 0) at)) key;
      by_amount = by_amount;
    }

same_span : (put : ControlPut) (w : Window) (t : Txn) (amount count : ℤ) (at : ℕ) → span_key put.control w (usage_of t amount count at) ≡ span_key put.control w (usage_of t (pos 0) (pos 0) at)
same_span put window.Transaction t amount count at = refl
same_span put window.Day t amount count at = refl
same_span put window.Week t amount count at = refl
same_span put window.Month t amount count at = refl
same_span put window.Lifetime t amount count at = refl

counted_where : (x : Bool) (span key : List ℕ) (z : ℤ) → changed_at key (cond x (record { key = span; by = z } ∷ []) []) ≡ cond (x && bytes_eq span key) z (pos 0)
counted_where true span key z = omega (arith, ints)
counted_where false span key z = refl

no_use : (worth : UsageRow → ℤ) (groups : List Group) (put : ControlPut) (key : List ℕ) (e : Entry) → is_usage e ≡ false → changed_at key (counted_changes worth groups put e) ≡ pos 0
no_use worth groups put key (entry.Usage row) h = cc
no_use worth groups put key _ h = refl

used_there : (worth : UsageRow → ℤ) (groups : List Group) (put : ControlPut) (w : Window) (key : List ℕ) → put.control.window ≡ w → (t : Txn) (amount count : ℤ) (at : ℕ)
    → changed_at key (counted_changes worth groups put (entry.Usage (usage_of t amount count at)))
    ≡ cond (counts groups put (usage_of t (pos 0) (pos 0) at) && bytes_eq (span_key put.control w (usage_of t (pos 0) (pos 0) at)) key) (worth (usage_of t amount count at)) (pos 0)
used_there worth groups put w key e t amount count at =
    counted_where (counts groups put (usage_of t amount count at)) (span_key put.control put.control.window (usage_of t amount count at)) key (worth (usage_of t amount count at))
    ∙ ap (λ (span : List ℕ). cond (counts groups put (usage_of t (pos 0) (pos 0) at) && bytes_eq span key) (worth (usage_of t amount count at)) (pos 0))
    (ap (λ (w : Window). span_key put.control w (usage_of t amount count at)) e ∙ same_span put w t amount count at)

amounts_count : (groups : List Group) (put : ControlPut) (w : Window) (key : List ℕ) → put.control.window ≡ w → IsCounting (counting_of groups put w key true (λ row. row.amount))
amounts_count groups put w key e =
    record { use_ = λ t amount count at. used_there (λ (row : UsageRow). row.amount) groups put w key e t amount count at; others = no_use (λ (row : UsageRow). row.amount) groups put key }

times_count : (groups : List Group) (put : ControlPut) (w : Window) (key : List ℕ) → put.control.window ≡ w → IsCounting (counting_of groups put w key false (λ row. row.count))
times_count groups put w key e =
    record { use_ = λ t amount count at. used_there (λ (row : UsageRow). row.count) groups put w key e t amount count at; others = no_use (λ (row : UsageRow). row.count) groups put key }

-- keys of windows ----

-- the number that the last two places of a key tell
abbrev number_told : ℕ → ℕ → ℤ
number_told zero n = negsuc n
number_told (suc m) n = pos n

abbrev end_number : List ℕ → ℤ
end_number [] = pos 0
end_number (x ∷ []) = pos 0
end_number (x ∷ y ∷ []) = number_told x y
end_number (x ∷ y ∷ z ∷ zs) = end_number (y ∷ z ∷ zs)

end_behind : (l : List ℕ) (x y : ℕ) → end_number (l ++ x ∷ y ∷ []) ≡ number_told x y
end_behind [] x y = refl
end_behind (a ∷ []) x y = refl
end_behind (a ∷ b ∷ []) x y = refl
end_behind (a ∷ b ∷ c ∷ l) x y = end_behind (b ∷ c ∷ l) x y

-- a key ends with its number, whatever the user
key_end : (user : List ℕ) (z : ℤ) → end_number (user ++ 0 ∷ int_key z) ≡ z
key_end user (pos n) = ap end_number (sym (append_assoc user (0 ∷ []) (1 ∷ n ∷ []))) ∙ end_behind (user ++ 0 ∷ []) 1 n
key_end user (negsuc n) =
    ap (λ (l : List ℕ). end_number (user ++ 0 ∷ l)) (sym (append_assoc (replicate (suc n) 0) (1 ∷ []) (0 ∷ n ∷ [])))
    ∙ ap end_number (sym (append_assoc user (0 ∷ (replicate (suc n) 0 ++ 1 ∷ [])) (0 ∷ n ∷ [])))
    ∙ end_behind (user ++ 0 ∷ (replicate (suc n) 0 ++ 1 ∷ [])) 0 n

-- if a stamp lies in the window of the last moment, those between do too
window_stays : (w : Window) (offset : ℤ) (one other : List ℕ) (a b last : ℕ) → a ≤ b → b ≤ last → bytes_eq (window_key w offset one a) (window_key w offset other last) ≡ true
    → bytes_eq (window_key w offset one b) (window_key w offset other last) ≡ true
window_stays w offset one other a b last h k e =
    let keys : window_key w offset one a ≡ window_key w offset other last = one_name (window_key w offset one a) (window_key w offset other last) e in
    let first : window_at w a offset ≡ window_at w last offset =
    sym (key_end one (window_at w a offset)) ∙ ap end_number keys ∙ key_end other (window_at w last offset)
    in
    let same : window_at w b offset ≡ window_at w a offset =
    omega (arith, ints, window_grows w offset a b h, window_grows w offset b last k, first)
    in
    ap (λ (z : ℤ). bytes_eq (one ++ 0 ∷ int_key z) (window_key w offset other last)) same ∙ e

both_hold : (x y z : Bool) → (x && y) ≡ true → (y ≡ true → z ≡ true) → (x && z) ≡ true
both_hold true y z h k = k h
both_hold false y z h k = cc

-- a window of the calendar, or of all time
abbrev is_of_time : Window → Bool
is_of_time window.Transaction = false
is_of_time _ = true

-- in the window of the time
counts_on : (groups : List Group) (put : ControlPut) (w : Window) (user : List ℕ) (last : ℕ) (by_amount : Bool) (worth : UsageRow → ℤ) → is_of_time w ≡ true
    → CountsOn (counting_of groups put w (window_key w put.control.offset user last) by_amount worth) last
counts_on groups put window.Transaction user last by_amount worth timed t a b h k l = cc
counts_on groups put window.Day user last by_amount worth timed t a b h k l =
    both_hold (counts groups put (usage_of t (pos 0) (pos 0) a)) (bytes_eq (window_key window.Day put.control.offset t.user a) (window_key window.Day put.control.offset user last)) _ h (window_stays window.Day put.control.offset t.user user a b last k l)
counts_on groups put window.Week user last by_amount worth timed t a b h k l =
    both_hold (counts groups put (usage_of t (pos 0) (pos 0) a)) (bytes_eq (window_key window.Week put.control.offset t.user a) (window_key window.Week put.control.offset user last)) _ h (window_stays window.Week put.control.offset t.user user a b last k l)
counts_on groups put window.Month user last by_amount worth timed t a b h k l =
    both_hold (counts groups put (usage_of t (pos 0) (pos 0) a)) (bytes_eq (window_key window.Month put.control.offset t.user a) (window_key window.Month put.control.offset user last)) _ h (window_stays window.Month put.control.offset t.user user a b last k l)
counts_on groups put window.Lifetime user last by_amount worth timed t a b h k l =
    both_hold (counts groups put (usage_of t (pos 0) (pos 0) a)) (bytes_eq (window_key window.Lifetime put.control.offset t.user a) (window_key window.Lifetime put.control.offset user last)) _ h (window_stays window.Lifetime put.control.offset t.user user a b last k l)

-- a control by transaction counts a transaction at any time
counts_on_txn : (groups : List Group) (put : ControlPut) (key : List ℕ) (last : ℕ) (by_amount : Bool) (worth : UsageRow → ℤ) → CountsOn (counting_of groups put window.Transaction key by_amount worth) last
counts_on_txn groups put key last by_amount worth t a b h k l = h

-- the law ----

two : (a b : Bool) → a ≡ true → b ≡ true → (a && b) ≡ true
two a b h k = rw (h, k) refl

-- what a control has counted at a key isn't negative
use_at : (rs : List Record) (put : ControlPut) (w : Window) (key : List ℕ) → IsLegal rs → put.control.window ≡ w
    → ((by_amount : Bool) (worth : UsageRow → ℤ) → CountsOn (counting_of (groups_of (history_of rs).rows) put w key by_amount worth) (core_of rs).now)
    → is_use (record { amount = (counted_control (history_of rs).rows put).amounts key; count = (counted_control (history_of rs).rows put).times key }) ≡ true
use_at rs put w key legal e on =
    let groups : List Group = groups_of (history_of rs).rows in
    let h = all_counted rs legal in
    let amounts : Counting = counting_of groups put w key true (λ row. row.amount) in
    let times : Counting = counting_of groups put w key false (λ row. row.count) in
    let now : (core_of rs).now ≤ (core_of rs).now = omega arith in
    two _ _
    (is_not_negative (sum_at amounts.changes key (history_of rs).rows) (omega (arith, ints, h.counted amounts (core_of rs).now (amounts_count groups put w key e) (on true (λ row. row.amount)) now)))
    (is_not_negative (sum_at times.changes key (history_of rs).rows) (omega (arith, ints, h.counted times (core_of rs).now (times_count groups put w key e) (on false (λ row. row.count)) now)))

-- nor in the window of the time
timed_use : (rs : List Record) (put : ControlPut) (w : Window) (user : List ℕ) → is_of_time w ≡ true → IsLegal rs → put.control.window ≡ w
    → is_use (record {
      amount = (counted_control (history_of rs).rows put).amounts (window_key w put.control.offset user (core_of rs).now);
      count = (counted_control (history_of rs).rows put).times (window_key w put.control.offset user (core_of rs).now);
    })
    ≡ true
timed_use rs put w user timed legal e =
    let now : ℕ = (core_of rs).now in
    use_at rs put w (window_key w put.control.offset user now) legal e (λ by_amount worth. counts_on (groups_of (history_of rs).rows) put w user now by_amount worth timed)

nothing_used : is_use (record { amount = pos 0; count = pos 0 }) ≡ true
nothing_used = two _ _ (is_not_negative (pos 0) zero_low) (is_not_negative (pos 0) zero_low)
  where
    zero_low : pos 0 ≤ℤ pos 0
    zero_low = omega (arith, ints)

use_now : (rs : List Record) (put : ControlPut) (w : Window) (user : List ℕ) → IsLegal rs → put.control.window ≡ w
    → is_use (used_by (counted_control (history_of rs).rows put) w user (core_of rs).now) ≡ true
use_now rs put window.Transaction user legal e = nothing_used
use_now rs put window.Day user legal e = timed_use rs put window.Day user refl legal e
use_now rs put window.Week user legal e = timed_use rs put window.Week user refl legal e
use_now rs put window.Month user legal e = timed_use rs put window.Month user refl legal e
use_now rs put window.Lifetime user legal e = timed_use rs put window.Lifetime user refl legal e

use_of : (rs : List Record) (put : ControlPut) (w : Window) (t : Txn) → IsLegal rs → put.control.window ≡ w → is_use (used_of (counted_control (history_of rs).rows put) w t) ≡ true
use_of rs put window.Transaction t legal e =
    use_at rs put window.Transaction (span_key put.control window.Transaction (usage_of t (pos 0) (pos 0) t.at)) legal e
    (λ by_amount worth. counts_on_txn (groups_of (history_of rs).rows) put (span_key put.control window.Transaction (usage_of t (pos 0) (pos 0) t.at)) (core_of rs).now by_amount worth)
use_of rs put window.Day t legal e = nothing_used
use_of rs put window.Week t legal e = nothing_used
use_of rs put window.Month t legal e = nothing_used
use_of rs put window.Lifetime t legal e = nothing_used

all_true : {A : Type 0} (q : A → Bool) → ((x : A) → q x ≡ true) → (xs : List A) → list_all q xs ≡ true
all_true q each [] = refl
all_true q each (x ∷ xs) = ap (λ (b : Bool). b && list_all q xs) (each x) ∙ all_true q each xs

pub law_used : (rs : List Record) → IsLegal rs → use_is_not_negative (history_of rs) ≡ true
law_used rs legal =
    let h : History = history_of rs in
    let f : Facts = history_facts h in
    let time : (core_of rs).now ≡ f.now = ap (λ (f : Facts). f.now) (facts_history rs) in
    list_all-map (has_counted_well f) (counted_control h.rows) (control_puts_of h.rows)
    ∙ all_true (λ (put : ControlPut). has_counted_well f (counted_control h.rows put))
    (λ put. two _ _
    (all_true (counts_well f (counted_control h.rows put)) (λ user.
    ap (λ (now : ℕ). is_use (used_by (counted_control h.rows put) put.control.window user.name now)) (sym time) ∙ use_now rs put put.control.window user.name legal refl) f.users)
    (all_true (counts_txn_well (counted_control h.rows put)) (λ t. use_of rs put put.control.window t.txn legal refl) f.txns))
    (control_puts_of h.rows)
