-- Book and core answer each question of the facts alike, make the same entries and judge alike.
use Rattle.std.proofs.Common.{◌≡◌, ℕ, suc, ℤ, pos, ◌+◌, ◌+ℤ◌, max, Bool, true, false, cond, List, [], ◌∷◌, ◌++◌, length, map, filter, refl, sym, ap, ◌∙◌, arith, length-append}
use Rattle.std.proofs.lemmas.Int.{ints}
use Rattle.std.specs.Prelude.{is_some}
use Rattle.std.specs.Str.{bytes_eq}
use Rattle.std.proofs.lemmas.List.Elements.{filter-append}
use Rattle.std.proofs.lemmas.List.Sums.{fold-append}
use Rattle.iss_model.specs.declared.account.Part.TheVariants as part
use Rattle.iss_model.specs.declared.setting.Product.{Product}
use Rattle.iss_model.specs.declared.txn.UsageRow.{UsageRow}
use Rattle.iss_model.specs.declared.input.Input.{Input}
use Rattle.iss_model.specs.declared.input.Record.{Record}
use Rattle.iss_model.specs.declared.entry.Entry.TheVariants as entry
use Rattle.iss_model.specs.declared.entry.Row.{Row}
use Rattle.iss_model.specs.Inputs.{event_token}
use Rattle.iss_model.specs.Sums.{part_key, user_key, balance_changes, held_changes, part_changes, txn_changes, cleared_by, refunded_by, paid_by, stood_changes}
use Rattle.iss_model.specs.rules.Settings.{is_switched, products_of}
use Rattle.iss_model.specs.rules.Controls.{ControlPut, control_puts_of, counted_control, groups_of, counted_changes}
use Rattle.iss_model.specs.rules.Facts.{Accepted}
use Rattle.iss_model.specs.rules.Keeper.{Growth}
use Rattle.iss_model.specs.rules.Stepping.{step}
use Rattle.iss_model.specs.rules.Judging.{judge}
use Rattle.iss_model.specs.rules.Histories.{History, nothing_yet, time_of, events_from, events_of, history_facts, history_keeper, history_of}
use Rattle.iss_model.specs.state.Cores.{CoreState, ProductNow, no_core, control_facts, with_record, core_facts, core_keeper, core_of}
use Rattle.iss_agreement.specs.Shown.{shown_product, shown_control, kept_part_changes, kept_held_changes, shown_state}
use Rattle.iss_agreement.specs.Laws.{Shows}
use Rattle.iss_model.proofs.Lists.{map-alike, map-map, map-same}
use Rattle.iss_model.proofs.KeptSums.{kept-sum, sum_kept, ChangeAlike}
use Rattle.iss_agreement.proofs.Standing.{Fit}
use Rattle.iss_agreement.proofs.Fitting.{IsGood, enters}
use Rattle.iss_model.specs.run.Transcripts.{Reading, transcript}
use Rattle.iss_agreement.proofs.Keepers.{step-shown, judge-shown, steps-shown}
use Rattle.iss_agreement.proofs.Reacting.{transcript-shown}
use Rattle.iss_agreement.proofs.BookAndState.{book_kept, nothing_good, history_good}

-- the facts ----

switched_name : (name : List ℕ) (on : Bool) (p : Product) (rest : List ProductNow) (names : List (List ℕ)) → map (λ (q : ProductNow). q.product.name) rest ≡ names
    → map (λ (q : ProductNow). q.product.name) (cond on (record { product = p; on = on } ∷ rest) rest) ≡ cond on (p.name ∷ names) names
switched_name name true p rest names e = λ i. p.name ∷ e i
switched_name name false p rest names e = e

switched_shown : (rows : List Row) (ps : List Product)
    → map (λ (q : ProductNow). q.product.name) (filter (λ (q : ProductNow). q.on) (map (shown_product rows) ps)) ≡ filter (is_switched rows) (map (λ (p : Product). p.name) ps)
switched_shown rows [] = refl
switched_shown rows (p ∷ ps) =
    switched_name p.name (is_switched rows p.name) p (filter (λ (q : ProductNow). q.on) (map (shown_product rows) ps)) (filter (is_switched rows) (map (λ (p : Product). p.name) ps)) (switched_shown rows ps)

controls_told : (rows : List Row) → map control_facts (map (shown_control rows) (control_puts_of rows)) ≡ map (counted_control rows) (control_puts_of rows)
controls_told rows =
    map-map (shown_control rows) control_facts (control_puts_of rows)
    ∙ map-alike (λ (put : ControlPut). control_facts (shown_control rows put)) (counted_control rows)
    (λ put i. record {
      first = put.number;
      control = put.control;
      amounts = λ key. sum_kept (counted_changes (λ (row : UsageRow). row.amount) (groups_of rows) put) rows key i;
      times = λ key. sum_kept (counted_changes (λ (row : UsageRow). row.count) (groups_of rows) put) rows key i;
    }) (control_puts_of rows)

nothing_more : (b : Bool) (z : ℤ) → z ≡ pos 0 → cond b (pos 0) (pos 0) +ℤ z ≡ pos 0
nothing_more true z e = omega (arith, ints, e)
nothing_more false z e = omega (arith, ints, e)

parts_alike : ChangeAlike kept_part_changes part_changes
parts_alike (entry.Began t) key =
    nothing_more (bytes_eq (part_key t.token part.G) key) _ (nothing_more (bytes_eq (part_key t.token part.P) key) _ (nothing_more (bytes_eq (part_key t.token part.S) key) (pos 0) refl))
parts_alike _ key = refl

held_alike : ChangeAlike kept_held_changes held_changes
held_alike (entry.Began t) key = nothing_more (bytes_eq (user_key t.user t.currency) key) (pos 0) refl
held_alike _ key = refl

facts_shown : (h : History) → core_facts (shown_state h) ≡ history_facts h
facts_shown h =
    λ i. record {
      now = time_of h.records;
      count = length h.records;
      accepted = events_of h.records;
      decisions = (history_facts h).decisions;
      users = (history_facts h).users;
      cards = (history_facts h).cards;
      products = (map-map (shown_product h.rows) (λ (p : ProductNow). p.product) (products_of h.rows) ∙ map-same (λ (p : Product). p) (λ p. refl) (products_of h.rows)) i;
      switched = switched_shown h.rows (products_of h.rows) i;
      groups = groups_of h.rows;
      controls = controls_told h.rows i;
      sets = (history_facts h).sets;
      txns = (history_facts h).txns;
      calls = (history_facts h).calls;
      notices_made = (history_facts h).notices_made;
      pending = (history_facts h).pending;
      balances = λ key. sum_kept balance_changes h.rows key i;
      holds = λ key. kept-sum kept_held_changes held_changes held_alike h.rows key i;
      parts = λ key. kept-sum kept_part_changes part_changes parts_alike h.rows key i;
      cleared = λ key. sum_kept (txn_changes cleared_by) h.rows key i;
      refunded = λ key. sum_kept (txn_changes refunded_by) h.rows key i;
      paid = λ key. sum_kept (txn_changes paid_by) h.rows key i;
      stood = λ key. sum_kept stood_changes h.rows key i;
    }

-- a record is taken up ----

accepted_last : (n : ℕ) (rs : List Record) (r : Record)
    → events_from n (rs ++ r ∷ []) ≡ events_from n rs ++ record { number = length rs + n; at = r.at; input = r.input } ∷ []
accepted_last n [] r = λ i. record { number = zero_more n i; at = r.at; input = r.input } ∷ []
  where
    zero_more : (n : ℕ) → n ≡ 0 + n
    zero_more n = omega arith
accepted_last n (x ∷ rs) r =
    ap (λ (rest : List Accepted). record { number = n; at = x.at; input = x.input } ∷ rest)
    (accepted_last (n + 1) rs r ∙ ap (λ (m : ℕ). events_from (n + 1) rs ++ record { number = m; at = r.at; input = r.input } ∷ []) (one_later n (length rs)))
  where
    one_later : (n m : ℕ) → m + (n + 1) ≡ suc m + n
    one_later n m = omega arith

events_last : (rs : List Record) (r : Record)
    → events_of (rs ++ r ∷ []) ≡ events_of rs ++ cond (is_some (event_token r.input)) (record { number = length rs + 1; at = r.at; input = r.input } ∷ []) []
events_last rs r =
    ap (filter (λ (a : Accepted). is_some (event_token a.input))) (accepted_last 1 rs r)
    ∙ filter-append (λ (a : Accepted). is_some (event_token a.input)) (events_from 1 rs) (record { number = length rs + 1; at = r.at; input = r.input } ∷ [])

taken_up_shown : (h : History) (r : Record) → with_record (shown_state h) r ≡ shown_state (record h { records = h.records ++ r ∷ [] })
taken_up_shown h r =
    λ i. record (shown_state h) {
      now = sym (fold-append (λ (now : ℕ) (x : Record). max now x.at) 0 h.records (r ∷ [])) i;
      count = sym (length-append h.records (r ∷ [])) i;
      accepted = sym (events_last h.records r) i;
    }

-- the law ----

pub core_shows : Shows history_keeper core_keeper shown_state IsGood Fit
core_shows =
    record {
      facts = λ h good. facts_shown h;
      take_up = taken_up_shown;
      add = λ h entries good fit. (enters h entries good fit).0;
    }

pub core_history : (rs : List Record) → core_of rs ≡ shown_state (history_of rs)
core_history rs = steps-shown history_keeper core_keeper shown_state IsGood Fit book_kept core_shows nothing_yet rs nothing_good

pub facts_history : (rs : List Record) → core_facts (core_of rs) ≡ history_facts (history_of rs)
facts_history rs = ap core_facts (core_history rs) ∙ facts_shown (history_of rs)

pub entries_history : (rs : List Record) (r : Record) → (step core_keeper (core_of rs) r).entries ≡ (step history_keeper (history_of rs) r).entries
entries_history rs r =
    ap (λ (s : CoreState). (step core_keeper s r).entries) (core_history rs)
    ∙ ap (λ (g : Growth CoreState). g.entries) (step-shown history_keeper core_keeper shown_state IsGood Fit book_kept core_shows (history_of rs) r (history_good rs))

pub judge_history : (rs : List Record) (i : Input) (stamp : ℕ) → judge core_keeper (core_of rs) i stamp ≡ judge history_keeper (history_of rs) i stamp
judge_history rs i stamp =
    ap (λ (s : CoreState). judge core_keeper s i stamp) (core_history rs)
    ∙ judge-shown history_keeper core_keeper shown_state IsGood Fit book_kept core_shows (history_of rs) i stamp (history_good rs)

-- the state after one more record is that of the longer list
pub core_step : (rs : List Record) (r : Record) → (step core_keeper (core_of rs) r).world ≡ core_of (rs ++ r ∷ [])
core_step rs r = sym (fold-append (λ (s : CoreState) (x : Record). (step core_keeper s x).world) _ rs (r ∷ []))

-- a core writes the transcript of the book
pub core_transcript : (lines : List Reading) → transcript core_keeper no_core lines ≡ transcript history_keeper nothing_yet lines
core_transcript lines =
    ap (λ (s : CoreState). transcript core_keeper s lines) (core_history [])
    ∙ transcript-shown history_keeper core_keeper shown_state IsGood Fit book_kept core_shows nothing_yet lines nothing_good
