-- The notices of the book are numbered from 1, in their order.
use Rattle.std.proofs.Common.{◌≡◌, ℕ, suc, ◌+◌, List, [], ◌∷◌, ◌++◌, length, fold, refl, sym, ap, subst, ◌∙◌, arith, length-append}
use Rattle.std.specs.List.{cons_option, filter_map}
use Rattle.std.proofs.lemmas.List.Elements.{filter_map-append}
use Rattle.iss_model.specs.declared.call.Notice.{Notice}
use Rattle.iss_model.specs.declared.entry.Entry.{Entry}
use Rattle.iss_model.specs.declared.entry.Entry.TheVariants as entry
use Rattle.iss_model.specs.declared.entry.Row.{Row}
use Rattle.iss_model.specs.declared.input.Input.{Input}
use Rattle.iss_model.specs.declared.input.Input.TheVariants as input
use Rattle.iss_model.specs.declared.input.Record.{Record}
use Rattle.iss_model.specs.declared.setting.Moved.TheVariants as moved
use Rattle.iss_model.specs.rules.Activity.{notice_made, notices_of}
use Rattle.iss_model.specs.rules.Due.{thing_entries}
use Rattle.iss_model.specs.rules.Histories.{history_of, numbered_rows}
use Rattle.iss_model.specs.rules.Stepping.{entries_of, step}
use Rattle.iss_model.specs.state.Cores.{CoreState, Outbox, after_entry, after_setting, core_facts, core_keeper, core_of, with_record}
use Rattle.iss_acts.proofs.Stepping.{GoesThrough, step_leads}
use Rattle.iss_agreement.proofs.CoreOfBook.{core_step}
use Rattle.iss_state.specs.Numbers.{AreNumberedFrom, NoticesNumberedFrom}
use Rattle.iss_state.proofs.invariants.Notices.{own_numbered, thing_numbered}
use Rattle.iss_laws.proofs.Rows.{entries_of_next, next_number, next_rows}
use Rattle.iss_gateway_laws.proofs.Causes.{each_list}

-- how many notices entries make
abbrev made_by : List Entry → ℕ
made_by es = length (filter_map notice_made es)

setting_outbox : (s : CoreState) (i : Input) → (after_setting s i).outbox ≡ s.outbox
setting_outbox s (input.Move token (moved.Card card to)) = refl
setting_outbox s (input.Move token (moved.User user to)) = refl
setting_outbox s _ = refl

none_more : (n : ℕ) → n ≡ n + 0
none_more n = omega arith

entry_made : (s : CoreState) (e : Entry) → (after_entry s e).outbox.made ≡ s.outbox.made + made_by (e ∷ [])
entry_made s (entry.Conf i) = ap (λ (o : Outbox). o.made) (setting_outbox s i) ∙ none_more s.outbox.made
entry_made s (entry.Notice n) = refl
entry_made s _ = none_more s.outbox.made

made_first : (e : Entry) (es : List Entry) → made_by (e ∷ es) ≡ made_by (e ∷ []) + made_by es
made_first e es = ap length (filter_map-append notice_made (e ∷ []) es) ∙ length-append (filter_map notice_made (e ∷ [])) (filter_map notice_made es)

entries_made : (s : CoreState) (es : List Entry) → (fold after_entry s es).outbox.made ≡ s.outbox.made + made_by es
entries_made s [] = none_more s.outbox.made
entries_made s (e ∷ es) =
    sum (fold after_entry (after_entry s e) es).outbox.made (after_entry s e).outbox.made s.outbox.made (made_by (e ∷ [])) (made_by es) (made_by (e ∷ es))
    (entries_made (after_entry s e) es) (entry_made s e) (made_first e es)
  where
    sum : (last next first one rest all : ℕ) → last ≡ next + rest → next ≡ first + one → all ≡ one + rest → last ≡ first + all
    sum last next first one rest all e h k = omega (arith, e, h, k)

numbered_at : (es : List Entry) (m n : ℕ) → m ≡ n → AreNumberedFrom m es → AreNumberedFrom n es
numbered_at es m n e h = subst (λ (k : ℕ). AreNumberedFrom k es) e h

-- entries after others
numbered_append : (n : ℕ) (xs ys : List Entry) → AreNumberedFrom n xs → AreNumberedFrom (n + made_by xs) ys → AreNumberedFrom n (xs ++ ys)
numbered_append n [] ys h k = numbered_at ys (n + 0) n (sym (none_more n)) k
numbered_append n (entry.Notice x ∷ xs) ys h k =
    (h.0, numbered_append (n + 1) xs ys h.1 (numbered_at ys (n + made_by (entry.Notice x ∷ xs)) (n + 1 + made_by xs) (next n (made_by xs)) k))
  where
    next : (n m : ℕ) → n + suc m ≡ n + 1 + m
    next n m = omega arith
numbered_append n (e ∷ xs) ys h k = numbered_append n xs ys h k

-- notices are numbered on from those that were made
record NumbersOn (s : CoreState) (es : List Entry) (later : CoreState) : Type 0 where
  numbered : AreNumberedFrom (s.outbox.made + 1) es
  made : later.outbox.made ≡ s.outbox.made + made_by es

numbers_then : (s t u : CoreState) (xs ys : List Entry) → NumbersOn s xs t → NumbersOn t ys u → NumbersOn s (xs ++ ys) u
numbers_then s t u xs ys h k =
    record {
      numbered = numbered_append (s.outbox.made + 1) xs ys h.numbered
          (numbered_at ys (t.outbox.made + 1) (s.outbox.made + 1 + made_by xs) (from t.outbox.made s.outbox.made (made_by xs) h.made) k.numbered);
      made = sum u.outbox.made t.outbox.made s.outbox.made (made_by xs) (made_by ys) (made_by (xs ++ ys)) k.made h.made
          (ap length (filter_map-append notice_made xs ys) ∙ length-append (filter_map notice_made xs) (filter_map notice_made ys));
    }
  where
    from : (t s m : ℕ) → t ≡ s + m → t + 1 ≡ s + 1 + m
    from t s m e = omega (arith, e)

    sum : (u t s a b c : ℕ) → u ≡ t + b → t ≡ s + a → c ≡ a + b → u ≡ s + c
    sum u t s a b c e h k = omega (arith, e, h, k)

numbers_through : (i : Input) (at : ℕ) → GoesThrough (λ s. Unit {0}) NumbersOn i at
numbers_through i at =
    record {
      none = λ s. record { numbered = tt; made = none_more s.outbox.made };
      then = numbers_then;
      due = λ s thing ready.
          record { numbered = thing_numbered (core_facts s) thing at; made = entries_made s (thing_entries thing at (core_facts s)) };
      own = λ s ready. record { numbered = own_numbered (core_facts s) i at; made = entries_made s (entries_of i at (core_facts s)) };
      stays = λ s thing ready. tt;
    }

-- what a record's rows make ----

notices_numbered : (n : ℕ) (es : List Entry) → notices_of (numbered_rows n es) ≡ filter_map notice_made es
notices_numbered n [] = refl
notices_numbered n (e ∷ es) = ap (cons_option (notice_made e)) (notices_numbered n es)

pub next_notices : (rs : List Record) (r : Record) → notices_of (history_of (rs ++ r ∷ [])).rows ≡ notices_of (history_of rs).rows ++ filter_map notice_made (entries_of_next rs r)
next_notices rs r =
    ap notices_of (next_rows rs r)
    ∙ filter_map-append (λ (row : Row). notice_made row.entry) (history_of rs).rows (numbered_rows (next_number rs r) (entries_of_next rs r))
    ∙ ap (λ (ns : List Notice). notices_of (history_of rs).rows ++ ns) (notices_numbered (next_number rs r) (entries_of_next rs r))

-- over all records ----

in_order : (n : ℕ) (es : List Entry) → AreNumberedFrom n es → NoticesNumberedFrom n (filter_map notice_made es)
in_order n [] h = tt
in_order n (entry.Notice x ∷ es) h = (h.0, in_order (n + 1) es h.1)
in_order n (e ∷ es) h = in_order n es h

order_append : (n : ℕ) (xs ys : List Notice) → NoticesNumberedFrom n xs → NoticesNumberedFrom (n + length xs) ys → NoticesNumberedFrom n (xs ++ ys)
order_append n [] ys h k = subst (λ (m : ℕ). NoticesNumberedFrom m ys) (sym (none_more n)) k
order_append n (x ∷ xs) ys h k = (h.0, order_append (n + 1) xs ys h.1 (subst (λ (m : ℕ). NoticesNumberedFrom m ys) (next n (length xs)) k))
  where
    next : (n m : ℕ) → n + suc m ≡ n + 1 + m
    next n m = omega arith

record IsNumbered (rs : List Record) : Type 0 where
  made : (core_of rs).outbox.made ≡ length (notices_of (history_of rs).rows)
  order : NoticesNumberedFrom 1 (notices_of (history_of rs).rows)

numbered_more : (rs : List Record) (r : Record) → IsNumbered rs → IsNumbered (rs ++ r ∷ [])
numbered_more rs r h =
    let s : CoreState = core_of rs in
    let es : List Entry = entries_of_next rs r in
    let ns : List Notice = notices_of (history_of rs).rows in
    let on : NumbersOn (with_record s r) es (step core_keeper s r).world = step_leads s r (numbers_through r.input r.at) tt in
    record {
      made = ap (λ (x : CoreState). x.outbox.made) (sym (core_step rs r))
          ∙ sum (step core_keeper s r).world.outbox.made s.outbox.made (length ns) (made_by es) (length (notices_of (history_of (rs ++ r ∷ [])).rows)) on.made h.made
          (ap length (next_notices rs r) ∙ length-append ns (filter_map notice_made es));
      order = subst (NoticesNumberedFrom 1) (sym (next_notices rs r))
          (order_append 1 ns (filter_map notice_made es) h.order
          (in_order (1 + length ns) es (numbered_at es (s.outbox.made + 1) (1 + length ns) (from s.outbox.made (length ns) h.made) on.numbered)));
    }
  where
    sum : (later s n m all : ℕ) → later ≡ s + m → s ≡ n → all ≡ n + m → later ≡ all
    sum later s n m all e h k = omega (arith, e, h, k)

    from : (s n : ℕ) → s ≡ n → s + 1 ≡ 1 + n
    from s n e = omega (arith, e)

pub all_numbered : (rs : List Record) → NoticesNumberedFrom 1 (notices_of (history_of rs).rows)
all_numbered rs = (each_list IsNumbered (record { made = refl; order = tt }) numbered_more rs).order
