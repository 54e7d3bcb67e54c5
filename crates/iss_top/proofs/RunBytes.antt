-- What a run took and emitted, as the bytes that went out.
use Rattle.std.proofs.Common.{◌≡◌, ℕ, inl, inr, Bool, true, ◌&&◌, List, [], ◌∷◌, ◌++◌, Option, refl, sym, ap, ◌∙◌, append-nil, append_assoc}
use Rattle.std.specs.List.{concat, list_all}
use Rattle.std.proofs.lemmas.List.Folds.{list_all-append}
use Rattle.iss_edge.specs.declared.outside.Action.{Action}
use Rattle.iss_edge.specs.World.{World, Told, sent_on}
use Rattle.iss_edge.proofs.Tolds.{told_map, sent_on-append}
use Rattle.iss_model.specs.run.Transcripts.{Text, bytes_of}
use Rattle.iss_top.specs.Dry.{each_bytes, dry_texts}
use Rattle.iss_top.specs.Progress.{is_output, Begins}
use Rattle.iss_texts.specs.Sending.{emits, FailsAt, GoOut}
use Rattle.iss_top.specs.Runs.{DryRun, EmitsTexts, StopsAtLines, Ran}
use Rattle.iss_texts.proofs.Rows.{concat-append}

bytes_in_row : (texts : List Text) → bytes_of texts ≡ concat (each_bytes texts)
bytes_in_row [] = refl
bytes_in_row (t ∷ ts) = ap (λ (rest : List ℕ). t.bytes ++ rest) (bytes_in_row ts)

-- ---- emits of texts

outputs_all : (texts : List (List ℕ)) → list_all is_output (emits texts) ≡ true
outputs_all [] = refl
outputs_all (t ∷ ts) = outputs_all ts

sent_all : (texts : List (List ℕ)) → sent_on 0 (emits texts) ≡ concat texts
sent_all [] = refl
sent_all (t ∷ ts) = ap (λ (rest : List ℕ). t ++ rest) (sent_all ts)

-- ---- the last one, which may have failed

-- it is an output, and sent a prefix of what was to come
record IsLast (texts : List (List ℕ)) (last : List Action) : Type 0 where
  pub output : list_all is_output last ≡ true
  pub begins : Begins (sent_on 0 last) (concat texts)

nothing_last : (texts : List (List ℕ)) (last : List Action) → last ≡ [] → IsLast texts last
nothing_last texts last none = rw none (record { output = refl; begins = record { back = concat texts; cut = refl } })

failed_last : (texts : List (List ℕ)) (last : List Action) → FailsAt texts last → IsLast texts last
failed_last texts last f =
    rw f.action (record {
      output = refl;
      begins =
          record {
            back = f.back ++ concat f.others;
            cut =
                ap concat f.first
                ∙ ap (λ (t : List ℕ). t ++ concat f.others) f.cut
                ∙ append_assoc f.prefix f.back (concat f.others)
                ∙ ap (λ (t : List ℕ). t ++ (f.back ++ concat f.others)) (sym (append-nil f.prefix));
          };
    })

is_last : (texts : List (List ℕ)) (actions : List Action) (out : GoOut texts actions) → IsLast out.rest out.last
is_last texts actions out = elim out.ended [ inl none ↦ nothing_last out.rest out.last none | inr failed ↦ failed_last out.rest out.last failed ]

both_true : (s t : Bool) → s ≡ true → t ≡ true → (s && t) ≡ true
both_true s t p q = rw (p, q) refl

-- ---- all of it

all_outputs : (texts : List (List ℕ)) (actions : List Action) → GoOut texts actions → list_all is_output actions ≡ true
all_outputs texts actions out =
    ap (list_all is_output) out.done
    ∙ list_all-append is_output (emits out.whole) out.last
    ∙ both_true _ _ (outputs_all out.whole) (is_last texts actions out).output

all_begins : (texts : List (List ℕ)) (actions : List Action) → GoOut texts actions → Begins (sent_on 0 actions) (concat texts)
all_begins texts actions out =
    let last = (is_last texts actions out).begins in
    let sent : sent_on 0 actions ≡ concat out.whole ++ sent_on 0 out.last =
    ap (sent_on 0) out.done ∙ sent_on-append 0 (emits out.whole) out.last ∙ ap (λ (t : List ℕ). t ++ sent_on 0 out.last) (sent_all out.whole) in
    record {
      back = last.back;
      cut =
          ap concat out.cut
          ∙ concat-append out.whole out.rest
          ∙ ap (λ (t : List ℕ). concat out.whole ++ t) last.cut
          ∙ sym (append_assoc (concat out.whole) (sent_on 0 out.last) last.back)
          ∙ ap (λ (t : List ℕ). t ++ last.back) (sym sent);
    }

run_of : (status : ℕ) (a b : World) → Ran status a b → DryRun status a b
run_of status a b ran =
    let texts = each_bytes (dry_texts (a.left 0)) in
    let begins = all_begins texts ran.emits.actions ran.emits.out in
    record {
      took = ran.took;
      text = sent_on 0 ran.emits.actions;
      passes =
          record {
            bytes = ran.takes.bytes;
            others = ran.takes.others;
            sends =
                record {
                  device = ran.device;
                  actions = ran.emits.actions;
                  grew = ran.emits.grew;
                  outputs = all_outputs texts ran.emits.actions ran.emits.out;
                  sent = refl;
                };
          };
      prefix = record { back = begins.back; cut = bytes_in_row (dry_texts (a.left 0)) ∙ begins.cut };
      whole =
          λ e. (ap (sent_on 0) (ran.emits.whole e) ∙ sent_all texts ∙ sym (bytes_in_row (dry_texts (a.left 0))), ran.over e);
      long = ran.long;
      bound = ran.bound;
    }

pub told_run : (status : ℕ) (x y : Option World) → Told (Ran status) x y → Told (DryRun status) x y
told_run status x y ran = told_map (Ran status) (DryRun status) x y (run_of status) ran

pub told_emits : (status : ℕ) (x y : Option World) → Told (Ran status) x y → Told (EmitsTexts status) x y
told_emits status x y ran = told_map (Ran status) (EmitsTexts status) x y (λ a b r. r.emits) ran

pub told_stops : (status : ℕ) (x y : Option World) → Told (Ran status) x y → Told (StopsAtLines status) x y
told_stops status x y ran =
    told_map (Ran status) (StopsAtLines status) x y (λ a b r. record { took = r.took; takes = r.takes; exactly = r.stopped }) ran
