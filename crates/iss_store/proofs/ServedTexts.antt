-- Texts that go out while clients are served, one after the other.
use Rattle.std.proofs.Common.{◌≡◌, ℕ, ◌+◌, ◌<◌, length, drop, get_or, Bool, true, false, cond, ◌||◌, List, [], ◌∷◌, ◌++◌, map, filter, Option, Some, None, refl, sym, ap, subst, ◌∙◌, append_assoc, append-nil, true≢false, arith}
use Rattle.std.specs.List.{flat_map, list_any}
use Rattle.std.specs.Prelude.{◌==◌, Result, Ok, Err, OnOk, OnErr}
use Rattle.std.proofs.lemmas.List.{map-append, drop_more}
use Rattle.std.proofs.lemmas.Grind.{flat_map-append}
use Rattle.std.proofs.lemmas.Bool.Decides.{nat_tests}
use Rattle.iss_edge.specs.declared.outside.Channel.{Channel}
use Rattle.iss_edge.specs.declared.counts.Fault.{Fault}
use Rattle.iss_edge.specs.declared.counts.Fault.TheVariants.{Link, Peer, Output}
use Rattle.iss_edge.specs.World.{Told, Faults, Later, Rose, HasCause}
use Rattle.iss_edge.specs.Channels.{Channels, is_among, IsUnused, after_dial, count_of, far_fault, emit_fault}
use Rattle.iss_edge.specs.Outer.{Outer, Adds}
use Rattle.iss_edge.proofs.Tolds.{told_map, told_then, told_self, later_self, later_then, rose_later}
use Rattle.iss_model.specs.declared.call.CallId.{CallId}
use Rattle.iss_model.specs.declared.call.Notice.{Notice}
use Rattle.iss_model.specs.declared.call.Opened.{Opened}
use Rattle.iss_model.specs.declared.entry.Entry.{Entry}
use Rattle.iss_model.specs.declared.entry.Entry.TheVariants as entry
use Rattle.iss_model.specs.declared.input.Record.{Record}
use Rattle.iss_model.specs.rules.Activity.{CallNow, is_asked}
use Rattle.iss_model.specs.rules.Facts.{Facts}
use Rattle.iss_model.specs.state.Cores.{core_facts}
use Rattle.iss_model.specs.run.Sayings.{said_by, timed, asked, noticed}
use Rattle.iss_model.specs.run.Runs.{said_first}
use Rattle.iss_session.specs.Desks.{Subject, Task, to_dial, to_reply, Waiter, waiters_without, desk_with, TextFate}
use Rattle.iss_session.specs.Sendings.{Sends, gone_on}
use Rattle.iss_session.specs.Sessions.{tasks_of}
use Rattle.iss_session.proofs.SendingLaws.{sends_nothing, sends_then}
use Rattle.iss_link.specs.declared.gone.Gone as link
use Rattle.iss_link.specs.declared.gone.Gone.TheVariants.{Asked, Noted, Unreached}
use Rattle.iss_link.specs.Values.{gone_as}
use Rattle.iss_core.specs.Views.{asked_openings}
use Rattle.iss_core.proofs.OnBook.{facts_on_book}
use Rattle.iss_opening.specs.Values.{StoreNow}
use Rattle.iss_store.specs.Values.{DurableNow}
use Rattle.iss_opening.specs.Standing.{StandsFor}
use Rattle.iss_store.specs.Serving.{tasks_by, tasks_of_record, tasks_pending, tasks_pending_on_book, waiters_after, all_gone, SendsOn, SendsPart, SendsSomeOf, is_unreached, CausesGone, NotesSent, SentFirst}

-- ---- one after the other

after_both : (a b : List Channel) (waiting : List Waiter) → waiters_after (a ++ b) waiting ≡ waiters_after b (waiters_after a waiting)
after_both [] b waiting = refl
after_both (ch ∷ a) b waiting = after_both a b (waiters_without ch waiting)

sends_on_then : (t u : List Task) (g k : List TextFate) (p q : List Channel) (a b c : Outer) → SendsOn t g p a b → SendsOn u k q b c → SendsOn (t ++ u) (g ++ k) (p ++ q) a c
sends_on_then t u g k p q a b c first second =
    record {
      sends =
          λ level rest waiting.
          subst (λ (tasks : List Task). Sends level (desk_with tasks waiting) (desk_with rest (waiters_after (p ++ q) waiting)) (g ++ k) a c) (sym (append_assoc t u rest))
          (subst (λ (left : List Waiter). Sends level (desk_with (t ++ (u ++ rest)) waiting) (desk_with rest left) (g ++ k) a c) (sym (after_both p q waiting))
          (sends_then level (desk_with (t ++ (u ++ rest)) waiting) (desk_with (u ++ rest) (waiters_after p waiting)) (desk_with rest (waiters_after q (waiters_after p waiting))) g k a b c
          (first.sends level (u ++ rest) waiting) (second.sends level rest (waiters_after p waiting))));
    }

none_sent : (a : Outer) → SendsOn [] [] [] a a
none_sent a = record { sends = λ level rest waiting. sends_nothing level (desk_with rest waiting) a }

-- what is told of one text at each level, whatever comes after it and whoever waits
pub one_sent : (task : Task) (gone : List TextFate) (answered : List Channel) (x y : Option Outer)
    → ((level : ℕ) (rest : List Task) (waiting : List Waiter) → Told (Sends level (desk_with (task ∷ rest) waiting) (desk_with rest (waiters_after answered waiting)) gone) x y)
    → Told (SendsOn (task ∷ []) gone answered) x y
one_sent task gone answered None None f = tt
one_sent task gone answered (Some a) None f = tt
one_sent task gone answered None (Some b) f = absurd (f 0 [] [])
one_sent task gone answered (Some a) (Some b) f = record { sends = f }

-- ---- what went out in part

nothing_sent : (tasks : List Task) (a b : Outer) → Adds [] [] a b → SendsSomeOf tasks a b
nothing_sent tasks a b adds =
    record {
      part =
          λ level rest waiting.
          record {
            left = desk_with (tasks ++ rest) waiting;
            gone = [];
            sends = record { items = []; heard = adds.heard; fits = tt; ends = refl; became = refl; device = adds.device; trace = adds.trace };
          };
    }

pub told_nothing_sent : (tasks : List Task) (x y : Option Outer) → Told (Adds [] []) x y → Told (SendsSomeOf tasks) x y
told_nothing_sent tasks x y adds = told_map (Adds [] []) (SendsSomeOf tasks) x y (nothing_sent tasks) adds

pub unchanged : (a : Outer) → Adds [] [] a a
unchanged a = record { device = refl; trace = sym (append-nil a.world.trace); heard = sym (append-nil a.heard) }

pub told_unchanged : (x : Option Outer) → Told (Adds [] []) x x
told_unchanged x = told_self (Adds [] []) x unchanged

pub told_none_of : (tasks : List Task) (x : Option Outer) → Told (SendsSomeOf tasks) x x
told_none_of tasks x = told_nothing_sent tasks x x (told_unchanged x)

all_of_some : (tasks : List Task) (gone : List TextFate) (answered : List Channel) (a b : Outer) → SendsOn tasks gone answered a b → SendsSomeOf tasks a b
all_of_some tasks gone answered a b sent =
    record { part = λ level rest waiting. record { left = desk_with rest (waiters_after answered waiting); gone = gone; sends = sent.sends level rest waiting } }

pub told_all_of_some : (tasks : List Task) (gone : List TextFate) (answered : List Channel) (x y : Option Outer) → Told (SendsOn tasks gone answered) x y → Told (SendsSomeOf tasks) x y
told_all_of_some tasks gone answered x y sent = told_map (SendsOn tasks gone answered) (SendsSomeOf tasks) x y (all_of_some tasks gone answered) sent

then_some : (front tasks rest : List Task) (gone : List TextFate) (answered : List Channel) (a b c : Outer) → SendsOn front gone answered a b → SendsSomeOf tasks b c → SendsSomeOf (front ++ (tasks ++ rest)) a c
then_some front tasks rest gone answered a b c first second =
    record {
      part =
          λ level more waiting.
          let part = second.part level (rest ++ more) (waiters_after answered waiting) in
          let behind : (tasks ++ rest) ++ more ≡ tasks ++ (rest ++ more) = append_assoc tasks rest more in
          let whole : (front ++ (tasks ++ rest)) ++ more ≡ front ++ (tasks ++ (rest ++ more)) = append_assoc front (tasks ++ rest) more ∙ ap (λ (ts : List Task). front ++ ts) behind in
          record {
            left = part.left;
            gone = gone ++ part.gone;
            sends = subst (λ (ts : List Task). Sends level (desk_with ts waiting) part.left (gone ++ part.gone) a c) (sym whole)
                (sends_then level (desk_with (front ++ (tasks ++ (rest ++ more))) waiting) (desk_with (tasks ++ (rest ++ more)) (waiters_after answered waiting)) part.left gone part.gone a b c
                (first.sends level (tasks ++ (rest ++ more)) waiting) part.sends);
          };
    }

-- ---- counts

any_both : (a b : List link.Gone) → list_any is_unreached (a ++ b) ≡ (list_any is_unreached a || list_any is_unreached b)
any_both [] b = refl
any_both (g ∷ a) b = ap (λ (x : Bool). is_unreached g || x) (any_both a b) ∙ grouped (is_unreached g) (list_any is_unreached a) (list_any is_unreached b)
  where
    grouped : (x y z : Bool) → (x || (y || z)) ≡ ((x || y) || z)
    grouped true y z = refl
    grouped false y z = refl

pub nothing_gone : (f : Faults) → CausesGone f f []
nothing_gone f = record { later = later_self f; unreached = λ e. absurd (true≢false (sym e)) }

pub none_unreached : (f g : Faults) → Later f g → CausesGone f g []
none_unreached f g later = record { later = later; unreached = λ e. absurd (true≢false (sym e)) }

causes_then : (f g h : Faults) (a b : List link.Gone) → CausesGone f g a → CausesGone g h b → CausesGone f h (a ++ b)
causes_then f g h a b p q =
    record {
      later = later_then f g h p.later q.later;
      unreached = λ e. by (list_any is_unreached a) (list_any is_unreached b) refl refl (sym (any_both a b) ∙ e);
    }
  where
    by : (x y : Bool) → list_any is_unreached a ≡ x → list_any is_unreached b ≡ y → (x || y) ≡ true → Rose f.link h.link
    by true y d e is = rose_later f.link f.link g.link h.link (omega arith) p.later.link q.later.link (p.unreached d)
    by false true d e is = rose_later f.link g.link h.link h.link p.later.link q.later.link (omega arith) (q.unreached e)
    by false false d e is = absurd (true≢false (sym is))

-- an emit on a channel that was just dialled counts as a link's
among_last : (numbers : List ℕ) (n : ℕ) → is_among (numbers ++ n ∷ []) n ≡ true
among_last [] n = itself n
  where
    itself : (n : ℕ) → ((n == n) || false) ≡ true
    itself n = grind (arith, nat_tests)
among_last (m ∷ numbers) n = ap (λ (b : Bool). (m == n) || b) (among_last numbers n) ∙ last (m == n)
  where
    last : (b : Bool) → (b || true) ≡ true
    last true = refl
    last false = refl

dialled_fault : (before : Channels) (ch : Channel) → (ch.0 ≡ 0 → ⊥) → emit_fault (after_dial (Some ch) before) ch ≡ Link
dialled_fault before ch some =
    ap (λ (b : Bool). cond b Output (far_fault (after_dial (Some ch) before) ch)) (other ch.0 some)
    ∙ ap (λ (b : Bool). cond b Link Peer) (among_last before.dialled ch.0)
  where
    other : (n : ℕ) → (n ≡ 0 → ⊥) → (n == 0) ≡ false
    other n some = grind (arith, nat_tests)

pub torn_link : {A E : Type 0} (before after : Channels) (ch : Channel) (f g h k : Faults) (e : E) → IsUnused before ch → after ≡ after_dial (Some ch) before → Later f g
    → HasCause {T = A} (count_of (emit_fault after ch)) g h (Err e) → Later h k → Rose f.link k.link
torn_link before after ch f g h k e unused is first cause last =
    let fault : emit_fault after ch ≡ Link = ap (λ (c : Channels). emit_fault c ch) is ∙ dialled_fault before ch unused.not_standard in
    rose_later f.link g.link h.link k.link first.link cause.later.link last.link (subst (λ (kind : Fault). Rose (count_of kind g) (count_of kind h)) fault cause.failed)

-- ---- a row of texts

pub sent_to_begin : (all : List Task) (f : Faults) (x : Option Outer) → SentFirst all all [] [] f f x x
sent_to_begin all f x = record { front = []; cut = refl; told = told_self (SendsOn [] [] []) x none_sent; caused = nothing_gone f }

pub sent_to_next : (all tasks rest : List Task) (gone noted : List link.Gone) (ended answered : List Channel) (f g h : Faults) (x y z : Option Outer) → SentFirst all (tasks ++ rest) gone ended f g x y
    → NotesSent tasks gone noted ended answered g h y z → SentFirst all rest noted answered f h x z
sent_to_next all tasks rest gone noted ended answered f g h x y z p q =
    record {
      front = p.front ++ tasks;
      cut = p.cut ∙ sym (append_assoc p.front tasks rest);
      told = subst (λ (gs : List TextFate). Told (SendsOn (p.front ++ tasks) gs answered) x z) (sym (ap all_gone q.gone ∙ map-append gone_as gone q.more))
          (subst (λ (cs : List Channel). Told (SendsOn (p.front ++ tasks) (all_gone gone ++ all_gone q.more) cs) x z) (sym q.answers)
          (told_then (SendsOn p.front (all_gone gone) ended) (SendsOn tasks (all_gone q.more) q.closed) (SendsOn (p.front ++ tasks) (all_gone gone ++ all_gone q.more) (ended ++ q.closed)) x y z
          (sends_on_then p.front tasks (all_gone gone) (all_gone q.more) ended q.closed) p.told q.told));
      caused = subst (λ (gs : List link.Gone). CausesGone f h gs) (sym q.gone) (causes_then f g h gone q.more p.caused q.caused);
    }

pub sent_to_end : (all : List Task) (gone : List link.Gone) (answered : List Channel) (f g : Faults) (x y : Option Outer) → SentFirst all [] gone answered f g x y → Told (SendsOn all (all_gone gone) answered) x y
sent_to_end all gone answered f g x y p =
    subst (λ (ts : List Task). Told (SendsOn ts (all_gone gone) answered) x y) (sym (p.cut ∙ append-nil p.front)) p.told

pub sent_to_part : (all tasks rest : List Task) (gone : List link.Gone) (ended : List Channel) (f g : Faults) (x y z : Option Outer) → SentFirst all (tasks ++ rest) gone ended f g x y
    → Told (SendsSomeOf tasks) y z → Told (SendsSomeOf all) x z
sent_to_part all tasks rest gone ended f g x y z p q =
    subst (λ (ts : List Task). Told (SendsSomeOf ts) x z) (sym p.cut)
    (told_then (SendsOn p.front (all_gone gone) ended) (SendsSomeOf tasks) (SendsSomeOf (p.front ++ (tasks ++ rest))) x y z (then_some p.front tasks rest (all_gone gone) ended) p.told q)

-- no text
pub notes_nothing : (gone : List link.Gone) (ended : List Channel) (f : Faults) (x : Option Outer) → NotesSent [] gone gone ended ended f f x x
notes_nothing gone ended f x =
    record { more = []; gone = sym (append-nil gone); closed = []; answers = sym (append-nil ended); told = told_self (SendsOn [] [] []) x none_sent; caused = nothing_gone f }

-- ---- the texts of a record, and those with which a run begins

said_tasks : (instance : ℕ) (waiting : List Waiter) (es : List Entry) → flat_map (tasks_of instance waiting) (flat_map said_by es) ≡ flat_map (tasks_by instance waiting) es
said_tasks instance waiting [] = refl
said_tasks instance waiting (e ∷ es) =
    flat_map-append (tasks_of instance waiting) (said_by e) (flat_map said_by es)
    ∙ ap (λ (ts : List Task). tasks_by instance waiting e ++ ts) (said_tasks instance waiting es)

pub record_tasks : (s : StoreNow) (d : DurableNow) (waiting : List Waiter) → flat_map (tasks_by s.core.instance waiting) d.entries ≡ tasks_of_record s d waiting
record_tasks s d waiting =
    sym (flat_map-append (tasks_of s.core.instance waiting) (flat_map said_by d.entries) (cond d.is_time (timed ∷ []) [])
    ∙ ap (λ (ts : List Task). flat_map (tasks_of s.core.instance waiting) (flat_map said_by d.entries) ++ ts) (time_says_nothing d.is_time)
    ∙ append-nil (flat_map (tasks_of s.core.instance waiting) (flat_map said_by d.entries))
    ∙ said_tasks s.core.instance waiting d.entries)
  where
    time_says_nothing : (is_time : Bool) → flat_map (tasks_of s.core.instance waiting) (cond is_time (timed ∷ []) []) ≡ []
    time_says_nothing true = refl
    time_says_nothing false = refl

calls_tasks : (instance : ℕ) (cs : List CallNow) → flat_map (tasks_of instance []) (map (λ call. asked call.opened) cs) ≡ flat_map (tasks_by instance []) (map entry.Opened (map (λ call. call.opened) cs))
calls_tasks instance [] = refl
calls_tasks instance (c ∷ cs) = ap (λ (ts : List Task). tasks_of instance [] (asked c.opened) ++ ts) (calls_tasks instance cs)

notices_tasks : (instance : ℕ) (ns : List Notice) → flat_map (tasks_of instance []) (map noticed ns) ≡ flat_map (tasks_by instance []) (map entry.Notice ns)
notices_tasks instance [] = refl
notices_tasks instance (n ∷ ns) = ap (λ (ts : List Task). tasks_of instance [] (noticed n) ++ ts) (notices_tasks instance ns)

-- the entries of calls that are asked and then of notices that wait have the texts with which a run begins
pub pending_tasks : (s : StoreNow) (calls : List Opened) (notices : List Notice) (entries : List Entry) → calls ≡ asked_openings (core_facts s.core.state) → notices ≡ (core_facts s.core.state).pending
    → entries ≡ map entry.Opened calls ++ map entry.Notice notices → flat_map (tasks_by s.core.instance []) entries ≡ tasks_pending s
pending_tasks s calls notices entries is are e =
    let f = core_facts s.core.state in
    let instance = s.core.instance in
    ap (λ (es : List Entry). flat_map (tasks_by instance []) es) (e ∙ ap (λ (os : List Opened). map entry.Opened os ++ map entry.Notice notices) is ∙ ap (λ (ns : List Notice). map entry.Opened (asked_openings f) ++ map entry.Notice ns) are)
    ∙ flat_map-append (tasks_by instance []) (map entry.Opened (asked_openings f)) (map entry.Notice f.pending)
    ∙ ap (λ (ts : List Task). ts ++ flat_map (tasks_by instance []) (map entry.Notice f.pending)) (sym (calls_tasks instance (filter is_asked f.calls)))
    ∙ ap (λ (ts : List Task). flat_map (tasks_of instance []) (map (λ call. asked call.opened) (filter is_asked f.calls)) ++ ts) (sym (notices_tasks instance f.pending))
    ∙ sym (flat_map-append (tasks_of instance []) (map (λ call. asked call.opened) (filter is_asked f.calls)) (map noticed f.pending))

pub tasks_on_book : (s : StoreNow) (rs : List Record) → StandsFor s rs → tasks_pending s ≡ tasks_pending_on_book s.core.instance rs
tasks_on_book s rs stands = ap (λ (f : Facts). flat_map (tasks_of s.core.instance []) (said_first f)) (facts_on_book s.core rs stands.core)

-- ---- a whole desk

pub whole_desk : (level : ℕ) (tasks : List Task) (gone : List TextFate) (answered : List Channel) (before after : List Waiter) (a b : Outer) → after ≡ waiters_after answered before → SendsOn tasks gone answered a b
    → Sends level (desk_with tasks before) (desk_with [] after) gone a b
whole_desk level tasks gone answered before after a b left sent =
    subst (λ (ts : List Task). Sends level (desk_with ts before) (desk_with [] after) gone a b) (append-nil tasks)
    (subst (λ (ws : List Waiter). Sends level (desk_with (tasks ++ []) before) (desk_with [] ws) gone a b) (sym left) (sent.sends level [] before))

pub told_whole_desk : (level : ℕ) (tasks all : List Task) (gone : List TextFate) (answered : List Channel) (before after : List Waiter) (x y : Option Outer) → tasks ≡ all → after ≡ waiters_after answered before
    → Told (SendsOn tasks gone answered) x y → Told (Sends level (desk_with all before) (desk_with [] after) gone) x y
told_whole_desk level tasks all gone answered before after x y is left sent =
    subst (λ (ts : List Task). Told (Sends level (desk_with ts before) (desk_with [] after) gone) x y) is
    (told_map (SendsOn tasks gone answered) (Sends level (desk_with tasks before) (desk_with [] after) gone) x y (λ a b s. whole_desk level tasks gone answered before after a b left s) sent)

part_desk : (level : ℕ) (tasks : List Task) (waiting : List Waiter) (a b : Outer) → SendsSomeOf tasks a b → SendsPart level (desk_with tasks waiting) a b
part_desk level tasks waiting a b some = subst (λ (ts : List Task). SendsPart level (desk_with ts waiting) a b) (append-nil tasks) (some.part level [] waiting)

pub told_part_desk : (level : ℕ) (tasks all : List Task) (waiting : List Waiter) (x y : Option Outer) → tasks ≡ all → Told (SendsSomeOf tasks) x y → Told (SendsPart level (desk_with all waiting)) x y
told_part_desk level tasks all waiting x y is some =
    subst (λ (ts : List Task). Told (SendsPart level (desk_with ts waiting)) x y) is
    (told_map (SendsSomeOf tasks) (SendsPart level (desk_with tasks waiting)) x y (part_desk level tasks waiting) some)

-- ---- what became of one text

pub notes_reply : (ch : Channel) (text want : List ℕ) (gone : List link.Gone) (before after : List Channel) (f g : Faults) (x y : Option Outer) → text ≡ want → after ≡ before ++ ch ∷ [] → Later f g
    → ((level : ℕ) (tasks : List Task) (waiting : List Waiter) → Told (Sends level (desk_with (to_reply ch text ∷ tasks) waiting) (desk_with tasks (waiters_without ch waiting)) []) x y)
    → NotesSent (to_reply ch want ∷ []) gone gone before after f g x y
notes_reply ch text want gone before after f g x y is noted later sends =
    record {
      more = [];
      gone = sym (append-nil gone);
      closed = ch ∷ [];
      answers = noted;
      told = subst (λ (t : List ℕ). Told (SendsOn (to_reply ch t ∷ []) [] (ch ∷ [])) x y) is (one_sent (to_reply ch text) [] (ch ∷ []) x y sends);
      caused = none_unreached f g later;
    }

pub notes_text : (subject : Subject) (text : List ℕ) (sent : Option Channel) (more before after : List link.Gone) (ended : List Channel) (f g : Faults) (x y : Option Outer) → after ≡ before ++ more
    → gone_on subject sent ≡ all_gone more → CausesGone f g more
    → ((level : ℕ) (tasks : List Task) (waiting : List Waiter) → Told (Sends level (desk_with (to_dial subject text ∷ tasks) waiting) (desk_with tasks waiting) (gone_on subject sent)) x y)
    → NotesSent (to_dial subject text ∷ []) before after ended ended f g x y
notes_text subject text sent more before after ended f g x y noted became caused sends =
    record {
      more = more;
      gone = noted;
      closed = [];
      answers = sym (append-nil ended);
      told = subst (λ (gs : List TextFate). Told (SendsOn (to_dial subject text ∷ []) gs []) x y) became (one_sent (to_dial subject text) (gone_on subject sent) [] x y sends);
      caused = caused;
    }

pub reached_one : (f g : Faults) (o : Opened) (ch : Channel) → Later f g → CausesGone f g (Asked o ch ∷ [])
reached_one f g o ch later = record { later = later; unreached = λ e. absurd (true≢false (sym e)) }

pub noted_one : (f g : Faults) (n : ℕ) (ch : Channel) → Later f g → CausesGone f g (Noted n ch ∷ [])
noted_one f g n ch later = record { later = later; unreached = λ e. absurd (true≢false (sym e)) }

pub unreached_one : (f g : Faults) (call : CallId) → Later f g → Rose f.link g.link → CausesGone f g (Unreached call ∷ [])
unreached_one f g call later rose = record { later = later; unreached = λ e. rose }

-- a text went out, or didn't, and then an allocation failed
pub text_in_part : (subject : Subject) (text : List ℕ) (sent : Option Channel) (x y : Option Outer)
    → ((level : ℕ) (tasks : List Task) (waiting : List Waiter) → Told (Sends level (desk_with (to_dial subject text ∷ tasks) waiting) (desk_with tasks waiting) (gone_on subject sent)) x y)
    → Told (SendsSomeOf (to_dial subject text ∷ [])) x y
text_in_part subject text sent x y sends =
    told_all_of_some (to_dial subject text ∷ []) (gone_on subject sent) [] x y (one_sent (to_dial subject text) (gone_on subject sent) [] x y sends)

-- what a text came to, by whether the note of it was made
pub notes_text_if : {A E : Type 0} (r : Result A E) (subject : Subject) (text : List ℕ) (sent : Option Channel) (more before after : List link.Gone) (ended : List Channel) (f g : Faults) (x y : Option Outer)
    → OnOk r (after ≡ before ++ more) → gone_on subject sent ≡ all_gone more → CausesGone f g more
    → ((level : ℕ) (tasks : List Task) (waiting : List Waiter) → Told (Sends level (desk_with (to_dial subject text ∷ tasks) waiting) (desk_with tasks waiting) (gone_on subject sent)) x y)
    → OnOk r (NotesSent (to_dial subject text ∷ []) before after ended ended f g x y)
notes_text_if (Ok z) subject text sent more before after ended f g x y noted became caused sends = notes_text subject text sent more before after ended f g x y noted became caused sends
notes_text_if (Err e) subject text sent more before after ended f g x y noted became caused sends = tt

pub text_in_part_if : {A E : Type 0} (r : Result A E) (subject : Subject) (text : List ℕ) (sent : Option Channel) (x y : Option Outer)
    → ((level : ℕ) (tasks : List Task) (waiting : List Waiter) → Told (Sends level (desk_with (to_dial subject text ∷ tasks) waiting) (desk_with tasks waiting) (gone_on subject sent)) x y)
    → OnErr r (Told (SendsSomeOf (to_dial subject text ∷ [])) x y)
text_in_part_if (Ok z) subject text sent x y sends = tt
text_in_part_if (Err e) subject text sent x y sends = text_in_part subject text sent x y sends

-- the texts from one entry on
pub next_tasks : (f : Entry → List Task) (es : List Entry) (i : ℕ) (e : Entry) → i < length es → e ≡ get_or es i e → flat_map f (drop i es) ≡ f e ++ flat_map f (drop (i + 1) es)
next_tasks f es i e within is = ap (flat_map f) (drop_more es i e within ∙ ap (λ y. y ∷ drop (i + 1) es) (sym is))
