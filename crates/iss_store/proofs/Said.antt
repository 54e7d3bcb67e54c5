-- The texts of what a record has to say, put in a row.
use Rattle.std.proofs.Common.{◌≡◌, ℕ, Bool, true, false, cond, List, [], ◌∷◌, ◌++◌, map, filter, refl, sym, ap, subst, ◌∙◌, append-nil}
use Rattle.std.specs.List.{flat_map}
use Rattle.std.proofs.lemmas.List.{map-append}
use Rattle.iss_model.specs.declared.call.Notice.{Notice}
use Rattle.iss_model.specs.declared.call.Opened.{Opened}
use Rattle.iss_model.specs.declared.entry.Entry.{Entry}
use Rattle.iss_model.specs.declared.input.Record.{Record}
use Rattle.iss_model.specs.rules.Activity.{CallNow, is_asked}
use Rattle.iss_model.specs.rules.Facts.{Facts}
use Rattle.iss_model.specs.state.Cores.{core_facts}
use Rattle.iss_model.specs.run.Runs.{said_first}
use Rattle.iss_model.specs.texts.AnswerLines.{time_line}
use Rattle.iss_model.specs.run.Sayings.{asked, noticed, said_by, timed}
use Rattle.iss_model.specs.run.Transcripts.{said_text_at}
use Rattle.iss_texts.specs.declared.row.Texts.{Texts}
use Rattle.iss_texts.specs.TextRows.{Gains, HasNone, HasAll, said_texts, entry_texts_at}
use Rattle.iss_texts.proofs.Rows.{gains_then, gained_all}
use Rattle.iss_core.specs.Values.{CoreNow}
use Rattle.iss_core.specs.Views.{asked_openings}
use Rattle.iss_core.proofs.OnBook.{facts_on_book}
use Rattle.iss_opening.specs.Values.{StoreNow}
use Rattle.iss_store.specs.Values.{DurableNow, said_of}
use Rattle.iss_opening.specs.Standing.{StandsFor}
use Rattle.iss_store.specs.Saying.{request_texts, notice_texts, texts_pending, texts_pending_on_book}

entries_said : (instance : ℕ) (es : List Entry) → said_texts instance (flat_map said_by es) ≡ flat_map (entry_texts_at instance) es
entries_said instance [] = refl
entries_said instance (e ∷ es) =
    map-append (said_text_at instance) (said_by e) (flat_map said_by es)
    ∙ ap (λ (texts : List (List ℕ)). entry_texts_at instance e ++ texts) (entries_said instance es)

said_by_entries : (instance : ℕ) (d : DurableNow) (is_time : Bool) → d.is_time ≡ is_time → said_texts instance (said_of d) ≡ flat_map (entry_texts_at instance) d.entries ++ said_texts instance (cond is_time (timed ∷ []) [])
said_by_entries instance d is_time e =
    ap (λ (b : Bool). said_texts instance (flat_map said_by d.entries ++ cond b (timed ∷ []) [])) e
    ∙ map-append (said_text_at instance) (flat_map said_by d.entries) (cond is_time (timed ∷ []) [])
    ∙ ap (λ (texts : List (List ℕ)). texts ++ said_texts instance (cond is_time (timed ∷ []) [])) (entries_said instance d.entries)

-- the texts of the entries, and then that a time was taken
pub said_timed : (instance : ℕ) (d : DurableNow) (t u v : Texts) → d.is_time ≡ true → Gains (flat_map (entry_texts_at instance) d.entries) t u → Gains (time_line ∷ []) u v → Gains (said_texts instance (said_of d)) t v
said_timed instance d t u v e entries time =
    subst (λ (texts : List (List ℕ)). Gains texts t v) (sym (said_by_entries instance d true e))
    (gains_then (flat_map (entry_texts_at instance) d.entries) (time_line ∷ []) t u v entries time)

pub said_untimed : (instance : ℕ) (d : DurableNow) (t u : Texts) → d.is_time ≡ false → Gains (flat_map (entry_texts_at instance) d.entries) t u → Gains (said_texts instance (said_of d)) t u
said_untimed instance d t u e entries =
    subst (λ (texts : List (List ℕ)). Gains texts t u)
    (sym (said_by_entries instance d false e ∙ append-nil (flat_map (entry_texts_at instance) d.entries))) entries

-- ---- what still waits for the gateway

requests_said : (instance : ℕ) (cs : List CallNow) → said_texts instance (map (λ call. asked call.opened) cs) ≡ flat_map (request_texts instance) (map (λ call. call.opened) cs)
requests_said instance [] = refl
requests_said instance (c ∷ cs) = ap (λ (texts : List (List ℕ)). said_text_at instance (asked c.opened) ∷ texts) (requests_said instance cs)

notices_said : (instance : ℕ) (ns : List Notice) → said_texts instance (map noticed ns) ≡ flat_map (notice_texts instance) ns
notices_said instance [] = refl
notices_said instance (n ∷ ns) = ap (λ (texts : List (List ℕ)). said_text_at instance (noticed n) ∷ texts) (notices_said instance ns)

pending_said : (instance : ℕ) (f : Facts) → said_texts instance (said_first f) ≡ flat_map (request_texts instance) (asked_openings f) ++ flat_map (notice_texts instance) f.pending
pending_said instance f =
    map-append (said_text_at instance) (map (λ call. asked call.opened) (filter is_asked f.calls)) (map noticed f.pending)
    ∙ ap (λ (texts : List (List ℕ)). texts ++ said_texts instance (map noticed f.pending)) (requests_said instance (filter is_asked f.calls))
    ∙ ap (λ (texts : List (List ℕ)). flat_map (request_texts instance) (asked_openings f) ++ texts) (notices_said instance f.pending)

-- requests and then notices, in a row that was empty, are all that waits
pub pending_row : (s : StoreNow) (calls : List Opened) (notices : List Notice) (t u v : Texts) → HasNone t → calls ≡ asked_openings (core_facts s.core.state) → notices ≡ (core_facts s.core.state).pending
    → Gains (flat_map (request_texts s.core.instance) calls) t u → Gains (flat_map (notice_texts s.core.instance) notices) u v → HasAll (texts_pending s) v
pending_row s calls notices t u v none is are requests others =
    let instance = s.core.instance in
    let both = gains_then (flat_map (request_texts instance) calls) (flat_map (notice_texts instance) notices) t u v requests others in
    let all : flat_map (request_texts instance) calls ++ flat_map (notice_texts instance) notices ≡ texts_pending s =
    ap (λ (os : List Opened). flat_map (request_texts instance) os ++ flat_map (notice_texts instance) notices) is
    ∙ ap (λ (ns : List Notice). flat_map (request_texts instance) (asked_openings (core_facts s.core.state)) ++ flat_map (notice_texts instance) ns) are
    ∙ sym (pending_said instance (core_facts s.core.state)) in
    subst (λ (texts : List (List ℕ)). HasAll texts v) all
    (gained_all (flat_map (request_texts instance) calls ++ flat_map (notice_texts instance) notices) t v none both)

pub pending_on_book : (s : StoreNow) (rs : List Record) → StandsFor s rs → texts_pending s ≡ texts_pending_on_book s.core.instance rs
pending_on_book s rs stands = ap (λ (f : Facts). said_texts s.core.instance (said_first f)) (facts_on_book s.core rs stands.core)

-- the row that a store makes of its core's answers is all that waits
pub pending_all : (s : StoreNow) (core : CoreNow) (m n : ℕ) (listed calls : List Opened) (pending notices : List Notice) (t u v : Texts) → core ≡ s.core → m ≡ core.instance → n ≡ core.instance
    → listed ≡ asked_openings (core_facts core.state) → calls ≡ listed → pending ≡ (core_facts core.state).pending → notices ≡ pending → HasNone t
    → Gains (flat_map (request_texts m) calls) t u → Gains (flat_map (notice_texts n) notices) u v → HasAll (texts_pending s) v
pending_all s core m n listed calls pending notices t u v same first second is are waits others none requests more =
    let instance : core.instance ≡ s.core.instance = ap (λ (c : CoreNow). c.instance) same in
    pending_row s calls notices t u v none
    (are ∙ is ∙ ap (λ (c : CoreNow). asked_openings (core_facts c.state)) same)
    (others ∙ waits ∙ ap (λ (c : CoreNow). (core_facts c.state).pending) same)
    (subst (λ (x : ℕ). Gains (flat_map (request_texts x) calls) t u) (first ∙ instance) requests)
    (subst (λ (x : ℕ). Gains (flat_map (notice_texts x) notices) u v) (second ∙ instance) more)
