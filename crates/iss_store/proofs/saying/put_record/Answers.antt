use Rattle.std.proofs.Common.{◌≡◌, true, false, sym, ap, subst, ◌∙◌, List}
use Rattle.std.proofs.lemmas.Result.{on_ok_weaker}
use Rattle.std.specs.List.{flat_map}
use Rattle.iss_model.specs.declared.entry.Entry.{Entry}
use Rattle.iss_texts.specs.TextRows.{Gains, entry_texts_at}
use Rattle.iss_store.specs.Values.{DurableNow}
use Rattle.iss_store.proofs.Said.{said_timed, said_untimed}
use Rattle.iss_store.proofs.saying.put_record.Goals as goal

pub returns-then-durable : goal.returns-then-durable
returns-then-durable c =
    let now = c.args.durable.now in
    let told : now.is_time ≡ true = ap (λ (d : DurableNow). d.is_time) (sym c.durable.view_is) ∙ c.if-durable.true in
    let are : c.deref.result.now ≡ now.entries = c.deref.ensures.value ∙ ap (λ (d : DurableNow). d.entries) c.durable.view_is in
    let texts = subst (λ (es : List Entry). Gains (flat_map (entry_texts_at c.args.instance) es) c.args.texts.now c.put_entries.new.self) are c.in_ok-put_entries.ensures in
    on_ok_weaker c.put_time.result (λ time. said_timed c.args.instance now c.args.texts.now c.put_entries.new.self c.put_time.new.self told texts time) c.put_time.ensures

pub returns : goal.returns
returns c =
    let now = c.args.durable.now in
    let untold : now.is_time ≡ false = ap (λ (d : DurableNow). d.is_time) (sym c.durable.view_is) ∙ c.if-durable.false in
    let are : c.deref.result.now ≡ now.entries = c.deref.ensures.value ∙ ap (λ (d : DurableNow). d.entries) c.durable.view_is in
    let texts = subst (λ (es : List Entry). Gains (flat_map (entry_texts_at c.args.instance) es) c.args.texts.now c.put_entries.new.self) are c.in_ok-put_entries.ensures in
    said_untimed c.args.instance now c.args.texts.now c.put_entries.new.self untold texts
