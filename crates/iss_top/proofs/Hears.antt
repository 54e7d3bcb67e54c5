-- What was heard is what was done, one call after another.
use Rattle.std.proofs.Common.{◌≡◌, ℕ, ◌+◌, ◌⊎◌, inl, inr, Bool, true, false, suc, List, [], ◌∷◌, ◌++◌, length, take, Option, Some, None, refl, sym, ap, subst, ◌∙◌, append-nil, append_assoc, arith, length-append}
use Rattle.std.specs.List.{filter, list_all}
use Rattle.std.proofs.lemmas.Bool.{and_parts}
use Rattle.std.proofs.lemmas.List.{append_cancel_left, append_cancel_right}
use Rattle.std.proofs.lemmas.List.Elements.{filter-append}
use Rattle.std.proofs.lemmas.List.Concat.{flat_map-append}
use Rattle.iss_edge.specs.declared.outside.Action.{Action}
use Rattle.iss_edge.specs.declared.outside.Answered.{Answered}
use Rattle.iss_edge.specs.declared.outside.Answered.TheVariants.{Waited, Took, Dialled, Emitted}
use Rattle.iss_edge.specs.World.{World}
use Rattle.iss_edge.specs.Calls.{Same, Takes}
use Rattle.iss_edge.specs.Stretches.{Step, actions_of}
use Rattle.iss_edge.specs.Outer.{Outer, Adds, torn_actions}
use Rattle.iss_edge.proofs.Outers.{adds_then}
use Rattle.iss_model.specs.declared.input.Record.{Record}
use Rattle.iss_standing.specs.Goings.{channel_steps}
use Rattle.iss_opening.specs.Values.{StoreNow}
use Rattle.iss_store.specs.Committing.{KeepsPart}
use Rattle.iss_texts.specs.Sending.{emits, emitted, SentEach, StopsAt, Says, SaysSome}
use Rattle.iss_top.specs.Lines.{has_line_feed}
use Rattle.iss_top.specs.Progress.{is_output}
use Rattle.iss_top.specs.Replaying.{outputs_of}
use Rattle.iss_top.specs.Hearing.{is_emit, is_sent, sent_count, brought_by, bytes_heard, has_gone, gone_count, AsHeard, TakesPiece, StillReads, ReadsAsHeard, SendsAsHeard, SendsOnBook}
use Rattle.iss_top.proofs.Takes.{none_in_both}
use Rattle.iss_top.proofs.Reading.{ReadSoFar}
use Rattle.iss_top.proofs.Goings.{outputs_channels}

-- ---- counts of two lists in a row

pub sent_count_append : (xs ys : List Answered) → sent_count (xs ++ ys) ≡ sent_count xs + sent_count ys
sent_count_append xs ys =
    ap (λ (l : List Answered). length l) (filter-append is_sent xs ys) ∙ length-append {A = Answered} (filter is_sent xs) (filter is_sent ys)

pub bytes_heard_append : (xs ys : List Answered) → bytes_heard (xs ++ ys) ≡ bytes_heard xs ++ bytes_heard ys
bytes_heard_append xs ys = flat_map-append brought_by xs ys

pub gone_count_append : (xs ys : List Action) → gone_count (xs ++ ys) ≡ gone_count xs + gone_count ys
gone_count_append xs ys =
    ap (λ (l : List Action). length (filter has_gone l)) (filter-append is_output xs ys)
    ∙ ap (λ (l : List Action). length l) (filter-append has_gone (outputs_of xs) (outputs_of ys))
    ∙ length-append {A = Action} (filter has_gone (outputs_of xs)) (filter has_gone (outputs_of ys))

-- ---- where an answer stands in two lists in a row

pub record CutInFirst (xs before : List Answered) (answer : Answered) : Type 0 where
  pub after : List Answered
  pub is : xs ≡ before ++ answer ∷ after

pub record CutInSecond (xs ys before after : List Answered) (answer : Answered) : Type 0 where
  pub front : List Answered
  pub is : before ≡ xs ++ front
  pub cut : ys ≡ front ++ answer ∷ after

pub cut_of_two : (xs ys before after : List Answered) (answer : Answered) → xs ++ ys ≡ before ++ answer ∷ after → CutInFirst xs before answer ⊎ CutInSecond xs ys before after answer
cut_of_two [] ys before after answer e = inr (record { front = before; is = refl; cut = e })
cut_of_two (x ∷ xs) ys [] after answer e =
    let head : x ≡ answer = cc in
    inl (record { after = xs; is = ap (λ (u : Answered). u ∷ xs) head })
cut_of_two (x ∷ xs) ys (b ∷ bs) after answer e =
    let heads : x ≡ b = cc in
    let tails : xs ++ ys ≡ bs ++ answer ∷ after = cc in
    elim (cut_of_two xs ys bs after answer tails) [
      | inl h ↦ inl (record { after = h.after; is = ap (λ (l : List Answered). x ∷ l) h.is ∙ ap (λ (u : Answered). u ∷ (bs ++ answer ∷ h.after)) heads })
      | inr h ↦ inr (record { front = h.front; is = ap (λ (l : List Answered). b ∷ l) h.is ∙ ap (λ (u : Answered). u ∷ (xs ++ h.front)) (sym heads); cut = h.cut })
    ]

nothing_before : (x answer : Answered) (front after : List Answered) → x ∷ [] ≡ front ++ answer ∷ after → front ≡ []
nothing_before x answer [] after e = refl
nothing_before x answer (y ∷ []) after e = absurd cc
nothing_before x answer (y ∷ z ∷ zs) after e = absurd cc

never : (b : Bool) → b ≡ true → b ≡ false → ⊥
never true e f = cc
never false e f = cc

no_other : (front after : List Answered) (answer : Answered) → list_all is_emit (front ++ answer ∷ after) ≡ true → is_emit answer ≡ false → ⊥
no_other [] after answer all other = never (is_emit answer) (and_parts (is_emit answer) (list_all is_emit after) all).0 other
no_other (x ∷ xs) after answer all other = no_other xs after answer (and_parts (is_emit x) (list_all is_emit (xs ++ answer ∷ after)) all).1 other

-- among emits alone no other answer stands
pub emits_alone : (answers front after : List Answered) (answer : Answered) → list_all is_emit answers ≡ true → answers ≡ front ++ answer ∷ after → is_emit answer ≡ false → ⊥
emits_alone answers front after answer all cut other =
    no_other front after answer (ap (list_all is_emit) (sym cut) ∙ all) other

-- ---- one after the other

pub as_heard_then : (xs ys : List Answered) (a b c : Outer) → AsHeard xs a b → AsHeard ys b c → AsHeard (xs ++ ys) a c
as_heard_then xs ys a b c p q =
    record {
      grew = q.grew ∙ ap (λ (l : List Answered). l ++ ys) p.grew ∙ append_assoc a.heard xs ys;
      took =
          p.took
          ∙ ap (λ (l : List ℕ). bytes_heard xs ++ l) q.took
          ∙ sym (append_assoc (bytes_heard xs) (bytes_heard ys) (c.world.left 0))
          ∙ ap (λ (l : List ℕ). l ++ c.world.left 0) (sym (bytes_heard_append xs ys));
      actions = p.actions ++ q.actions;
      added = q.added ∙ ap (λ (t : List Action). t ++ q.actions) p.added ∙ append_assoc a.world.trace p.actions q.actions;
      sent = omega (arith, sent_count_append xs ys, gone_count_append p.actions q.actions, p.sent, q.sent);
    }

pub as_heard_none : (a : Outer) → AsHeard [] a a
as_heard_none a = record { grew = sym (append-nil a.heard); took = refl; actions = []; added = sym (append-nil a.world.trace); sent = refl }

-- what was done is known by what was added
pub sent_as_added : (answers : List Answered) (actions : List Action) (a b : Outer) → AsHeard answers a b → b.world.trace ≡ a.world.trace ++ actions → sent_count answers ≡ gone_count actions
sent_as_added answers actions a b p added =
    p.sent ∙ ap gone_count (append_cancel_left a.world.trace p.actions actions (sym p.added ∙ added))

-- what was taken is known by what is left
pub took_as_left : (answers : List Answered) (took : List ℕ) (a b : Outer) → AsHeard answers a b → a.world.left 0 ≡ took ++ b.world.left 0 → bytes_heard answers ≡ took
took_as_left answers took a b p left = append_cancel_right (bytes_heard answers) took (b.world.left 0) (sym p.took ∙ left)

-- ---- a take

pub takes_piece : (buffer : List ℕ) (count : ℕ) (a b : World) (h k : List Answered) → Takes (record { 0 = 0 }) count buffer a b → k ≡ h ++ Took (record { 0 = 0 }) (Some (take count buffer)) ∷ []
    → TakesPiece (record { world = a; heard = h }) (record { world = b; heard = k })
takes_piece buffer count a b h k t grew =
    record {
      bytes = Some (take count buffer);
      as_heard =
          record {
            grew = grew;
            took = t.bytes ∙ ap (λ (l : List ℕ). l ++ b.left 0) (sym (append-nil (take count buffer)));
            actions = [];
            added = t.trace ∙ sym (append-nil a.trace);
            sent = refl;
          };
    }

pub takes_no_piece : (a b : World) (h k : List Answered) → Same a b → k ≡ h ++ Took (record { 0 = 0 }) None ∷ [] → TakesPiece (record { world = a; heard = h }) (record { world = b; heard = k })
takes_no_piece a b h k same grew =
    record {
      bytes = None;
      as_heard =
          record {
            grew = grew;
            took = ap (λ (l : ℕ → List ℕ). l 0) (sym same.left);
            actions = [];
            added = same.trace ∙ sym (append-nil a.trace);
            sent = refl;
          };
    }

-- ---- a line that is looked for

nowhere : (front back : List Answered) (answer : Answered) → [] ≡ front ++ answer ∷ back → ⊥
nowhere [] back answer e = cc
nowhere (x ∷ xs) back answer e = cc

pub reads_begins : (ended : Bool) (unread : List ℕ) (a : Outer) → ReadsAsHeard ended unread a a
reads_begins ended unread a =
    record { answers = []; as_heard = as_heard_none a; each = λ front back answer cut. absurd (nowhere front back answer cut) }

-- nothing was sent since the line was begun
unsent : (ended : Bool) (unread : List ℕ) (a b : Outer) (r : ReadsAsHeard ended unread a b) → b.world.trace ≡ a.world.trace → sent_count r.answers ≡ 0
unsent ended unread a b r same = sent_as_added r.answers [] a b r.as_heard (same ∙ sym (append-nil a.world.trace))

-- one more take, while no line feed was found
pub reads_more : (ended : Bool) (unread : List ℕ) (taken : ℕ) (u k : List ℕ) (t : ℕ) (a b c : Outer) → ended ≡ false → has_line_feed u ≡ false
    → ReadSoFar unread taken u k t a.world b.world → ReadsAsHeard ended unread a b → TakesPiece b c → ReadsAsHeard ended unread a c
reads_more ended unread taken u k t a b c going none s r piece =
    let one = Took (record { 0 = 0 }) piece.bytes in
    let took : bytes_heard r.answers ≡ s.took = took_as_left r.answers s.took a b r.as_heard s.takes.takes.bytes in
    let now : StillReads ended unread r.answers =
    record {
      going = going;
      no_line =
          ap (λ (l : List ℕ). has_line_feed (unread ++ l)) took
          ∙ ap (λ (l : List ℕ). has_line_feed l) s.cut
          ∙ none_in_both s.part u s.one_line none;
      silent = unsent ended unread a b r s.takes.trace;
    } in
    record {
      answers = r.answers ++ one ∷ [];
      as_heard = as_heard_then r.answers (one ∷ []) a b c r.as_heard piece.as_heard;
      each =
          λ front back answer cut.
          elim (cut_of_two r.answers (one ∷ []) front back answer cut) [
            | inl h ↦ r.each front h.after answer h.is
            | inr h ↦
                subst (λ (l : List Answered). StillReads ended unread l)
                (sym (h.is ∙ ap (λ (l : List Answered). r.answers ++ l) (nothing_before one answer h.front back h.cut) ∙ append-nil r.answers)) now
          ];
    }

-- ---- texts that go out

sent_all : (texts : List (List ℕ)) → sent_count (emitted texts) ≡ length texts
sent_all [] = refl
sent_all (text ∷ texts) = ap suc (sent_all texts)

pub gone_all : (texts : List (List ℕ)) → gone_count (emits texts) ≡ length texts
gone_all [] = refl
gone_all (text ∷ texts) = ap suc (gone_all texts)

emits_all : (texts : List (List ℕ)) → list_all is_emit (emitted texts) ≡ true
emits_all [] = refl
emits_all (text ∷ texts) = emits_all texts

emits_and_more : (texts : List (List ℕ)) (ok : Bool) → list_all is_emit (emitted texts ++ Emitted (record { 0 = 0 }) ok ∷ []) ≡ true
emits_and_more [] ok = refl
emits_and_more (text ∷ texts) ok = emits_and_more texts ok

none_brought : (answer : Answered) → is_emit answer ≡ true → brought_by answer ≡ []
none_brought (Waited arrival) e = refl
none_brought (Took ch bytes) e = absurd cc
none_brought (Dialled ch) e = refl
none_brought (Emitted ch ok) e = refl

-- emits bring no bytes
pub nothing_heard : (answers : List Answered) → list_all is_emit answers ≡ true → bytes_heard answers ≡ []
nothing_heard [] all = refl
nothing_heard (x ∷ xs) all =
    let p = and_parts (is_emit x) (list_all is_emit xs) all in
    ap (λ (l : List ℕ). l ++ bytes_heard xs) (none_brought x p.0) ∙ nothing_heard xs p.1

-- what was added are emits, as many of which succeeded as were heard to
adds_as_heard : (actions : List Action) (answers : List Answered) (a b : Outer) → Adds actions answers a b → b.world.left ≡ a.world.left → list_all is_emit answers ≡ true → sent_count answers ≡ gone_count actions
    → SendsAsHeard a b
adds_as_heard actions answers a b adds left all sent =
    record {
      answers = answers;
      as_heard =
          record {
            grew = adds.heard;
            took = ap (λ (l : ℕ → List ℕ). l 0) (sym left) ∙ ap (λ (l : List ℕ). l ++ b.world.left 0) (sym (nothing_heard answers all));
            actions = actions;
            added = adds.trace;
            sent = sent;
          };
      emits = all;
    }

pub sends_nothing : (a : Outer) → SendsAsHeard a a
sends_nothing a = record { answers = []; as_heard = as_heard_none a; emits = refl }

pub sends_each : (texts : List (List ℕ)) (a b : Outer) → Says texts a.world b.world → SentEach texts a b → SendsAsHeard a b
sends_each texts a b says sent = adds_as_heard (emits texts) (emitted texts) a b sent says.left (emits_all texts) (sent_all texts ∙ sym (gone_all texts))

torn_gone : (torn : Option (List ℕ)) → gone_count (torn_actions (record { 0 = 0 }) torn) ≡ 0
torn_gone None = refl
torn_gone (Some prefix) = refl

pub sends_some : (texts : List (List ℕ)) (a b : Outer) → SaysSome texts a.world b.world → StopsAt texts a b → SendsAsHeard a b
sends_some texts a b says stops =
    let failed = Emitted (record { 0 = 0 }) false in
    let torn = torn_actions (record { 0 = 0 }) stops.torn.torn in
    adds_as_heard (emits stops.whole ++ torn) (emitted stops.whole ++ failed ∷ []) a b
    (adds_then (emits stops.whole) torn (emitted stops.whole) (failed ∷ []) a stops.between b stops.sent stops.torn.adds)
    says.left (emits_and_more stops.whole false)
    (omega (arith, sent_count_append (emitted stops.whole) (failed ∷ []), gone_count_append (emits stops.whole) torn, sent_all stops.whole, gone_all stops.whole, torn_gone stops.torn.torn))

pub sends_none : (texts : List (List ℕ)) (a b : Outer) → SaysSome texts a.world b.world → Adds [] [] a b → SendsAsHeard a b
sends_none texts a b says adds = adds_as_heard [] [] a b adds says.left refl refl

both_emits : (xs ys : List Answered) → list_all is_emit xs ≡ true → list_all is_emit ys ≡ true → list_all is_emit (xs ++ ys) ≡ true
both_emits [] ys all more = more
both_emits (x ∷ xs) ys all more =
    let p = and_parts (is_emit x) (list_all is_emit xs) all in
    rw p.0 (both_emits xs ys p.1 more)

pub sends_then : (a b c : Outer) → SendsAsHeard a b → SendsAsHeard b c → SendsAsHeard a c
sends_then a b c p q =
    record {
      answers = p.answers ++ q.answers;
      as_heard = as_heard_then p.answers q.answers a b c p.as_heard q.as_heard;
      emits = both_emits p.answers q.answers p.emits q.emits;
    }

-- ---- on the book

pub on_book_anyway : (s : StoreNow) (a b : Outer) → SendsAsHeard a b → SendsOnBook s a b
on_book_anyway s a b sends = record { on_book = λ rs stands. sends }

pub on_book_then : (s : StoreNow) (a b c : Outer) → SendsOnBook s a b → SendsAsHeard b c → SendsOnBook s a c
on_book_then s a b c p q = record { on_book = λ rs stands. sends_then a b c (p.on_book rs stands) q }

-- a commit sends nothing
silent : (steps : List Step) → channel_steps steps ≡ [] → gone_count (actions_of steps) ≡ 0
silent steps none =
    ap (λ (l : List Action). length (filter has_gone l)) (outputs_channels steps ∙ ap (λ (l : List Step). outputs_of (actions_of l)) none)

pub commits_silently : (s : StoreNow) (r : Record) (a b : World) (h k : List Answered) → KeepsPart s r a b → k ≡ h → SendsOnBook s (record { world = a; heard = h }) (record { world = b; heard = k })
commits_silently s r a b h k keeps same =
    record {
      on_book =
          λ rs stands.
          let goes = keeps.goes rs stands in
          record {
            answers = [];
            as_heard =
                record {
                  grew = same ∙ sym (append-nil h);
                  took = ap (λ (l : ℕ → List ℕ). l 0) (sym keeps.left);
                  actions = actions_of goes.steps;
                  added = goes.grew;
                  sent = sym (silent goes.steps goes.done);
                };
            emits = refl;
          };
    }
