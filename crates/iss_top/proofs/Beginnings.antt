-- How a run on a device begins: the device is opened, and what waits for the gateway is said.
use Rattle.std.proofs.Common.{◌≡◌, ℕ, inl, inr, Bool, true, false, cond, ◌&&◌, List, [], ◌∷◌, ◌++◌, length, map, take, refl, sym, ap, subst, ◌∙◌}
use Rattle.std.specs.List.{filter, list_all}
use Rattle.iss_edge.specs.declared.outside.Action.{Action}
use Rattle.iss_edge.specs.declared.outside.Action.TheVariants.{Write, Sync, Emit, Dial, Close}
use Rattle.iss_edge.specs.World.{World}
use Rattle.iss_edge.specs.Stretches.{Step, with_levels}
use Rattle.iss_model.specs.declared.input.Record.{Record}
use Rattle.iss_model.specs.declared.limits.TheConstants.{MOST_INPUT}
use Rattle.iss_model.specs.run.Transcripts.{Text, at_level}
use Rattle.iss_model.specs.run.Runs.{first_texts}
use Rattle.iss_agreement.proofs.Records.{records_history}
use Rattle.iss_opening.specs.Values.{StoreNow, form_under, seat_under}
use Rattle.iss_opening.specs.Opening.{is_on_device, AreOnDevice}
use Rattle.iss_store.specs.Saying.{texts_pending, texts_pending_on_book}
use Rattle.iss_texts.specs.Sending.{Says, SaysSome}
use Rattle.iss_device.specs.Runs.{run_at}
use Rattle.iss_top.specs.Lines.{line_parts, all_but_last}
use Rattle.iss_top.specs.Progress.{is_output}
use Rattle.iss_standing.specs.Goings.{AreFirstOf}
use Rattle.iss_top.specs.Replaying.{told_lines, is_of_run, outputs_of, output_levels, TextsGo, TextsGoPart, GoesWhole, RunsAs, RunsOnBook}
use Rattle.iss_top.proofs.Goings.{goes_then, goes_then_part, part_more, says_goes, says_goes_part}
use Rattle.iss_top.proofs.ToldLines.{told_from_start, records_first}

-- ---- what is done on the device sends nothing

on_device_silent : (action : Action) → is_on_device action ≡ true → is_output action ≡ false
on_device_silent (Write at bytes ok) on = refl
on_device_silent (Sync ok) on = refl
on_device_silent (Emit ch bytes ok) on = absurd cc
on_device_silent (Dial ch) on = refl
on_device_silent (Close ch) on = refl

pub outputs_behind : (actions others : List Action) → AreOnDevice actions → outputs_of (actions ++ others) ≡ outputs_of others
outputs_behind [] others on = refl
outputs_behind (x ∷ xs) others on =
    ap (λ (sends : Bool). cond sends (x ∷ outputs_of (xs ++ others)) (outputs_of (xs ++ others))) (on_device_silent x on.0) ∙ outputs_behind xs others on.1

-- what is done on the device is what a run may do
of_run : (action : Action) → is_on_device action ≡ true → is_of_run action ≡ true
of_run (Write at bytes ok) on = refl
of_run (Sync ok) on = refl
of_run (Emit ch bytes ok) on = absurd cc
of_run (Dial ch) on = absurd cc
of_run (Close ch) on = absurd cc

both_true : (s t : Bool) → s ≡ true → t ≡ true → (s && t) ≡ true
both_true s t p q = rw (p, q) refl

pub kinds_behind : (actions others : List Action) → AreOnDevice actions → list_all is_of_run others ≡ true → list_all is_of_run (actions ++ others) ≡ true
kinds_behind [] others on rest = rest
kinds_behind (x ∷ xs) others on rest =
    both_true (is_of_run x) (list_all is_of_run (xs ++ others)) (of_run x on.0) (kinds_behind xs others on.1 rest)

-- so no text has a level there
pub levels_behind : (actions : List Action) (later : List Step) → AreOnDevice actions → output_levels (with_levels 0 actions ++ later) ≡ output_levels later
levels_behind [] later on = refl
levels_behind (x ∷ xs) later on =
    let first : Step = record { action = x; level = 0 } in
    let others = filter (λ (step : Step). is_output step.action) (with_levels 0 xs ++ later) in
    ap (λ (sends : Bool). map (λ (step : Step). step.level) (cond sends (first ∷ others) others)) (on_device_silent x on.0) ∙ levels_behind xs later on.1

-- ---- what waits for the gateway

-- what waits by the book is what a run on these records begins with
waits_first : (s : StoreNow) (rs : List Record) → at_level (length rs) (texts_pending_on_book s.core.instance rs) ≡ first_texts (run_at s rs)
waits_first s rs =
    ap (λ (l : List Record). at_level (length l) (texts_pending_on_book s.core.instance rs)) (sym (records_history rs))

pub waits : (s : StoreNow) (rs : List Record) → texts_pending s ≡ texts_pending_on_book s.core.instance rs → at_level (length rs) (texts_pending s) ≡ first_texts (run_at s rs)
waits s rs on_book = ap (at_level (length rs)) on_book ∙ waits_first s rs

pub begins_goes : (s : StoreNow) (rs : List Record) (b c : World) → texts_pending s ≡ texts_pending_on_book s.core.instance rs → Says (texts_pending s) b c → TextsGo (form_under s) (seat_under s) (seat_under s) rs rs (first_texts (run_at s rs)) b c
begins_goes s rs b c on_book says =
    subst (λ (t : List Text). TextsGo (form_under s) (seat_under s) (seat_under s) rs rs t b c) (waits s rs on_book)
    (says_goes (form_under s) (seat_under s) rs (texts_pending s) b c says)

-- ---- the lines after it

-- what was done for the lines, after what waited
whole_from_start : (s : StoreNow) (rs : List Record) (parts : List (List ℕ)) (b c d : World) → TextsGo (form_under s) (seat_under s) (seat_under s) rs rs (first_texts (run_at s rs)) b c → GoesWhole s rs (told_lines (run_at s rs) parts) c d
    → GoesWhole s rs (told_from_start (run_at s rs) parts) b d
whole_from_start s rs parts b c d begins lines =
    let told = told_lines (run_at s rs) parts in
    record {
      to = lines.to;
      room = lines.room;
      goes = goes_then (form_under s) (seat_under s) (seat_under s) lines.to rs rs told.run.history.records (first_texts (run_at s rs)) told.texts b c d begins lines.goes;
      history = lines.history;
    }

pub lines_from_start : (status : ℕ) (s : StoreNow) (rs : List Record) (took : List ℕ) (b c d : World) → c.left ≡ b.left → TextsGo (form_under s) (seat_under s) (seat_under s) rs rs (first_texts (run_at s rs)) b c → RunsOnBook status s rs took c d
    → RunsAs (told_from_start (run_at s rs)) status s rs took b d
lines_from_start status s rs took b c d left begins lines =
    let run = run_at s rs in
    let told = told_lines run (line_parts (c.left 0)) in
    let input : line_parts (c.left 0) ≡ line_parts (b.left 0) = ap (λ (l : ℕ → List ℕ). line_parts (l 0)) left in
    record {
      rs' = lines.rs';
      records = subst (λ (l : List (List ℕ)). AreFirstOf lines.rs' (told_from_start run l).run.history.records) input lines.records;
      goes =
          subst (λ (l : List (List ℕ)). TextsGoPart (status ≡ 6) (form_under s) (seat_under s) rs lines.rs' (told_from_start run l).texts b d) input
          (goes_then_part (status ≡ 6) (form_under s) (seat_under s) (seat_under s) rs rs lines.rs' (first_texts run) told.texts b c d begins lines.goes);
      whole =
          λ e.
          let all = lines.whole e in (
            all.0,
            subst (λ (l : List (List ℕ)). GoesWhole s rs (told_from_start run l) b d) input (whole_from_start s rs (line_parts (c.left 0)) b c d begins all.1),
          );
      stopped = λ e. whole_from_start s rs (all_but_last (line_parts (take MOST_INPUT took))) b c d begins (lines.stopped e);
    }

-- what waited went out in part
pub stops_at_start : (status : ℕ) (s : StoreNow) (rs : List Record) (b c : World) → (status ≡ 0 → ⊥) → (status ≡ 3 → ⊥) → (status ≡ 8 → ⊥) → texts_pending s ≡ texts_pending_on_book s.core.instance rs
    → SaysSome (texts_pending s) b c → RunsAs (told_from_start (run_at s rs)) status s rs [] b c
stops_at_start status s rs b c not_done not_input not_long on_book says =
    let run = run_at s rs in
    let told = told_lines run (line_parts (b.left 0)) in
    let waited : TextsGoPart (status ≡ 6) (form_under s) (seat_under s) rs rs (first_texts run) b c =
    subst (λ (t : List Text). TextsGoPart (status ≡ 6) (form_under s) (seat_under s) rs rs t b c) (waits s rs on_book)
    (says_goes_part (status ≡ 6) (form_under s) (seat_under s) rs (texts_pending s) b c says) in
    record {
      rs' = rs;
      records = subst (λ (l : List Record). AreFirstOf l told.run.history.records) (records_history rs) (records_first run (line_parts (b.left 0)));
      goes = part_more (status ≡ 6) (form_under s) (seat_under s) rs rs (first_texts run) told.texts b c waited;
      whole = λ e. absurd (not_done e);
      stopped = λ e. elim e [ inl at ↦ absurd (not_input at) | inr at ↦ absurd (not_long at) ];
    }
