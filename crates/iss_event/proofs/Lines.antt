-- The lines of the definitions, piece by piece.
use Rattle.std.proofs.Common.{◌≡◌, ℕ, pos, List, [], ◌∷◌, ◌++◌, codes, decimal, Result, Ok, Err, is_ok, cond, OnOk, refl, sym, ap, ◌∙◌, append_assoc}
use Rattle.std.proofs.lemmas.Result.{on_ok_weaker}
use Rattle.iss_model.specs.declared.call.CallId.{CallId}
use Rattle.iss_model.specs.declared.call.How.{How}
use Rattle.iss_model.specs.declared.currency.Currency.{Currency}
use Rattle.iss_model.specs.declared.decision.Reason.{Reason}
use Rattle.iss_model.specs.declared.decision.Verdict.TheVariants.{Done, Approved, Partial, Declined}
use Rattle.iss_model.specs.declared.decision.Reply.{Reply}
use Rattle.iss_model.specs.declared.decision.Reply.TheVariants.{Decided, Pending}
use Rattle.iss_model.specs.declared.decision.Answer.TheVariants as answer
use Rattle.iss_model.specs.Amounts.{amount_text}
use Rattle.iss_model.specs.texts.Wordings.{reason_text, reply_line, fault_line}
use Rattle.iss_model.specs.texts.AnswerLines.{how_text, answer_text, acked_line}
use Rattle.iss_field.specs.declared.name.Name.{Name}
use Rattle.iss_event.specs.declared.line.FormFault.TheVariants.{Field}
use Rattle.iss_field.specs.Names.{name_text}
use Rattle.iss_event.specs.FormLines.{form_text}
use Rattle.iss_event.specs.Replies.{part_start, reply_start, declined_end, reply_end}

pub four : (a b c d : List ℕ) → a ++ b ++ c ++ d ≡ a ++ (b ++ (c ++ d))
four a b c d = append_assoc (a ++ b) c d ∙ append_assoc a b (c ++ d)

five : (a b c d e : List ℕ) → a ++ b ++ c ++ d ++ e ≡ a ++ (b ++ (c ++ (d ++ e)))
five a b c d e = append_assoc (a ++ b ++ c) d e ∙ four a b c (d ++ e)

-- a text in quotation marks, what follows it in the braces, and the end of the line
pub quoted : (text more : List ℕ) → text ++ (34 ∷ []) ++ more ++ (125 ∷ []) ++ (10 ∷ []) ≡ text ++ (34 ∷ (more ++ codes "}\n"))
quoted text more = five text (34 ∷ []) more (125 ∷ []) (10 ∷ [])

-- a number, what follows it in the braces, and the end of the line
bare : (digits more : List ℕ) → digits ++ more ++ (125 ∷ []) ++ (10 ∷ []) ≡ digits ++ (more ++ codes "}\n")
bare digits more = four digits more (125 ∷ []) (10 ∷ [])

-- ---- replies

declined : (event why : List ℕ) → event ++ (34 ∷ []) ++ (codes ",\"reason\":\"" ++ (why ++ (34 ∷ []) ++ codes ",\"reply\":\"declined\"")) ++ (125 ∷ []) ++ (10 ∷ [])
    ≡ event ++ (codes "\",\"reason\":\"" ++ (why ++ codes "\",\"reply\":\"declined\"}\n"))
declined event why =
    quoted event (codes ",\"reason\":\"" ++ (why ++ (34 ∷ []) ++ codes ",\"reply\":\"declined\""))
    ∙ ap (λ (t : List ℕ). event ++ (codes "\",\"reason\":\"" ++ t)) (four why (34 ∷ []) (codes ",\"reply\":\"declined\"") (codes "}\n"))

part : (amount event : List ℕ) → amount ++ (34 ∷ []) ++ (codes ",\"event\":\"" ++ (event ++ (34 ∷ []) ++ codes ",\"reply\":\"partial\"")) ++ (125 ∷ []) ++ (10 ∷ [])
    ≡ amount ++ (codes "\",\"event\":\"" ++ (event ++ codes "\",\"reply\":\"partial\"}\n"))
part amount event =
    quoted amount (codes ",\"event\":\"" ++ (event ++ (34 ∷ []) ++ codes ",\"reply\":\"partial\""))
    ∙ ap (λ (t : List ℕ). amount ++ (codes "\",\"event\":\"" ++ t)) (four event (34 ∷ []) (codes ",\"reply\":\"partial\"") (codes "}\n"))

-- what stands before an event, and the event with what follows it
begun : (a t b more : List ℕ) → a ++ (t ++ (b ++ more)) ≡ (a ++ (t ++ b)) ++ more
begun a t b more = ap (λ (l : List ℕ). a ++ l) (sym (append_assoc t b more)) ∙ sym (append_assoc a (t ++ b) more)

pub reply : (event : List ℕ) (r : Reply) → reply_line event r ≡ reply_start r ++ (event ++ reply_end r)
unfolding reply_line
reply event (Decided Done) = ap (λ (t : List ℕ). codes "{\"event\":\"" ++ t) (quoted event (codes ",\"reply\":\"done\""))
reply event (Decided Approved) = ap (λ (t : List ℕ). codes "{\"event\":\"" ++ t) (quoted event (codes ",\"reply\":\"approved\""))
reply event (Decided (Partial currency amount)) =
    let text = amount_text (pos amount) currency in
    ap (λ (t : List ℕ). codes "{\"amount\":\"" ++ t) (part text event)
    ∙ begun (codes "{\"amount\":\"") text (codes "\",\"event\":\"") (event ++ codes "\",\"reply\":\"partial\"}\n")
reply event (Decided (Declined why)) = ap (λ (t : List ℕ). codes "{\"event\":\"" ++ t) (declined event (reason_text why))
reply event Pending = ap (λ (t : List ℕ). codes "{\"event\":\"" ++ t) (quoted event (codes ",\"reply\":\"pending\""))

-- ---- the same after other bytes
pub reply_after : (old event : List ℕ) (r : Reply) → old ++ reply_start r ++ event ++ reply_end r ≡ old ++ reply_line event r
reply_after old event r = rw (reply event r) (four old (reply_start r) event (reply_end r))

pub part_after : (old : List ℕ) (currency : Currency) (amount : ℕ)
    → old ++ codes "{\"amount\":\"" ++ amount_text (pos amount) currency ++ codes "\",\"event\":\"" ≡ old ++ part_start currency amount
part_after old currency amount = four old (codes "{\"amount\":\"") (amount_text (pos amount) currency) (codes "\",\"event\":\"")

pub declined_after : (old : List ℕ) (why : Reason) → old ++ codes "\",\"reason\":\"" ++ reason_text why ++ codes "\",\"reply\":\"declined\"}\n" ≡ old ++ declined_end why
declined_after old why = four old (codes "\",\"reason\":\"") (reason_text why) (codes "\",\"reply\":\"declined\"}\n")

-- ---- answers

pub repeat : (event : List ℕ) (r : Reply) → answer_text (answer.Repeat event r) ≡ reply_line event r
unfolding answer_text reply_line
repeat event r = refl

pub conflict : (event : List ℕ) (n : ℕ) → answer_text (answer.Conflict event n)
    ≡ codes "{\"event\":\"" ++ (event ++ (codes "\",\"record\":" ++ (decimal n ++ codes ",\"reply\":\"conflict\"}\n")))
unfolding answer_text
conflict event n =
    ap (λ (t : List ℕ). codes "{\"event\":\"" ++ t)
    (quoted event (codes ",\"record\":" ++ (decimal n ++ codes ",\"reply\":\"conflict\""))
    ∙ ap (λ (t : List ℕ). event ++ (codes "\",\"record\":" ++ t)) (append_assoc (decimal n) (codes ",\"reply\":\"conflict\"") (codes "}\n")))

pub late : (call : CallId) (how : How) → answer_text (answer.Late call how)
    ≡ codes "{\"call\":" ++ (decimal call.0 ++ (codes ",\"reply\":\"late\",\"state\":\"" ++ (how_text how ++ codes "\"}\n")))
unfolding answer_text
late call how =
    ap (λ (t : List ℕ). codes "{\"call\":" ++ t)
    (bare (decimal call.0) (codes ",\"reply\":\"late\",\"state\":\"" ++ (how_text how ++ (34 ∷ [])))
    ∙ ap (λ (t : List ℕ). decimal call.0 ++ (codes ",\"reply\":\"late\",\"state\":\"" ++ t)) (append_assoc (how_text how) (34 ∷ []) (codes "}\n")))

pub unknown_call : (call : CallId) → answer_text (answer.UnknownCall call) ≡ codes "{\"call\":" ++ (decimal call.0 ++ codes ",\"reply\":\"unknown\"}\n")
unfolding answer_text
unknown_call call = ap (λ (t : List ℕ). codes "{\"call\":" ++ t) (bare (decimal call.0) (codes ",\"reply\":\"unknown\""))

pub already : (notice : ℕ) → answer_text (answer.Already notice) ≡ codes "{\"notice\":" ++ (decimal notice ++ codes ",\"reply\":\"already\"}\n")
unfolding answer_text
already notice = ap (λ (t : List ℕ). codes "{\"notice\":" ++ t) (bare (decimal notice) (codes ",\"reply\":\"already\""))

pub acked : (notice : ℕ) → acked_line notice ≡ codes "{\"notice\":" ++ (decimal notice ++ codes ",\"reply\":\"acked\"}\n")
unfolding acked_line
acked notice = ap (λ (t : List ℕ). codes "{\"notice\":" ++ t) (bare (decimal notice) (codes ",\"reply\":\"acked\""))

pub unknown_notice : (notice : ℕ) → answer_text (answer.UnknownNotice notice) ≡ codes "{\"notice\":" ++ (decimal notice ++ codes ",\"reply\":\"unknown\"}\n")
unfolding answer_text
unknown_notice notice = ap (λ (t : List ℕ). codes "{\"notice\":" ++ t) (bare (decimal notice) (codes ",\"reply\":\"unknown\""))

pub full : (free need : ℕ) → answer_text (answer.Full free need)
    ≡ codes "{\"free\":" ++ (decimal free ++ (codes ",\"need\":" ++ (decimal need ++ codes ",\"reply\":\"full\"}\n")))
unfolding answer_text
full free need =
    ap (λ (t : List ℕ). codes "{\"free\":" ++ t)
    (bare (decimal free) (codes ",\"need\":" ++ (decimal need ++ codes ",\"reply\":\"full\""))
    ∙ ap (λ (t : List ℕ). decimal free ++ (codes ",\"need\":" ++ t)) (append_assoc (decimal need) (codes ",\"reply\":\"full\"") (codes "}\n")))

joined : (old a b c d e : List ℕ) → old ++ (a ++ (b ++ c)) ++ d ++ e ≡ old ++ (a ++ (b ++ (c ++ (d ++ e))))
joined old a b c d e =
    four old (a ++ (b ++ c)) d e
    ∙ ap (λ (t : List ℕ). old ++ t) (append_assoc a (b ++ c) (d ++ e) ∙ ap (λ (t : List ℕ). a ++ t) (append_assoc b c (d ++ e)))

six : (a b c d e f : List ℕ) → a ++ b ++ c ++ d ++ e ++ f ≡ a ++ (b ++ (c ++ (d ++ (e ++ f))))
six a b c d e f = append_assoc (a ++ b ++ c ++ d) e f ∙ five a b c d (e ++ f)

pub conflict_after : (old event : List ℕ) (n : ℕ)
    → old ++ (codes "{\"event\":\"" ++ (event ++ codes "\",\"record\":")) ++ decimal n ++ codes ",\"reply\":\"conflict\"}\n" ≡ old ++ answer_text (answer.Conflict event n)
conflict_after old event n =
    joined old (codes "{\"event\":\"") event (codes "\",\"record\":") (decimal n) (codes ",\"reply\":\"conflict\"}\n") ∙ ap (λ (t : List ℕ). old ++ t) (sym (conflict event n))

pub late_after : (old : List ℕ) (call : CallId) (how : How)
    → old ++ (codes "{\"call\":" ++ (decimal call.0 ++ codes ",\"reply\":\"late\",\"state\":\"")) ++ how_text how ++ codes "\"}\n" ≡ old ++ answer_text (answer.Late call how)
late_after old call how =
    joined old (codes "{\"call\":") (decimal call.0) (codes ",\"reply\":\"late\",\"state\":\"") (how_text how) (codes "\"}\n") ∙ ap (λ (t : List ℕ). old ++ t) (sym (late call how))

pub full_after : (old : List ℕ) (free need : ℕ)
    → old ++ codes "{\"free\":" ++ decimal free ++ codes ",\"need\":" ++ decimal need ++ codes ",\"reply\":\"full\"}\n" ≡ old ++ answer_text (answer.Full free need)
full_after old free need =
    six old (codes "{\"free\":") (decimal free) (codes ",\"need\":") (decimal need) (codes ",\"reply\":\"full\"}\n") ∙ ap (λ (t : List ℕ). old ++ t) (sym (full free need))

-- what was added, by another name
pub named : {T E : Type 0} (r : Result T E) (old new text : List ℕ) (name : List ℕ) → name ≡ text → OnOk r (new ≡ old ++ text) → OnOk r (new ≡ old ++ name)
named r old new text name is = on_ok_weaker r (λ (e : new ≡ old ++ text). e ∙ ap (λ (t : List ℕ). old ++ t) (sym is))

-- what the last piece makes of the pieces before it
pub ended : {T E : Type 0} (r : Result T E) (mid more new text : List ℕ) → new ≡ cond (is_ok r) (mid ++ more) mid → mid ++ more ≡ text → OnOk r (new ≡ text)
ended (Ok done) mid more new text is whole = is ∙ whole
ended (Err failed) mid more new text is whole = tt

-- ---- faults

pub bad_field : (name : Name) → form_text (Field name) ≡ codes "{\"fault\":\"FIELD\",\"field\":\"" ++ (name_text name ++ codes "\",\"reply\":\"form\"}\n")
unfolding form_text
bad_field name = ap (λ (t : List ℕ). codes "{\"fault\":\"FIELD\",\"field\":\"" ++ t) (quoted (name_text name) (codes ",\"reply\":\"form\""))

pub fault : (text : List ℕ) → fault_line text ≡ codes "{\"fault\":\"" ++ (text ++ codes "\",\"reply\":\"form\"}\n")
unfolding fault_line
fault text = ap (λ (t : List ℕ). codes "{\"fault\":\"" ++ t) (quoted text (codes ",\"reply\":\"form\""))
