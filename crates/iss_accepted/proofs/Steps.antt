-- What each call finds and leaves, by what is kept.
use Rattle.std.proofs.Common.{◌≡◌, ℕ, zero, suc, ◌<◌, Bool, true, false, cond, List, [], ◌∷◌, ◌++◌, ◌&&◌, length, map, find, Option, Some, None, slice_get, get_or, set, refl, sym, ap, ap₂, subst, ◌∙◌, arith}
use Rattle.std.specs.Prelude.{IsSome, option_map, is_some}
use Rattle.std.specs.List.{AllByRecursion, IsDistinct, list_all}
use Rattle.std.specs.Option.{option_and_then}
use Rattle.std.specs.Str.{bytes_eq}
use Rattle.std.proofs.lemmas.List.{get_or-map, get_or-set_same, length-map}
use Rattle.std.proofs.lemmas.Option.{slice_get-get_or, same_Some, none-some}
use Rattle.std.proofs.lemmas.Bool.{and_parts}
use Rattle.std.proofs.lemmas.Slice.Eq.{bytes_eq-Decides}
use Rattle.iss_model.specs.declared.decision.Answer.{Answer}
use Rattle.iss_model.specs.declared.decision.Answer.TheVariants as answer
use Rattle.iss_model.specs.declared.decision.Reply.{Reply}
use Rattle.iss_model.specs.declared.decision.Verdict.{Verdict}
use Rattle.iss_model.specs.declared.input.Input.{Input}
use Rattle.iss_model.specs.declared.input.Record.{Record}
use Rattle.iss_model.specs.Inputs.{event_token, is_event, same_contents}
use Rattle.iss_model.specs.Forms.{is_stamp, is_in_form}
use Rattle.iss_model.specs.Tokens.{is_token}
use Rattle.iss_model.specs.texts.Spelling.{spelling, kind_number, number_bytes, field_bytes, is_record, tokens_of, has_spelling}
use Rattle.iss_model.specs.rules.Facts.{Accepted, Decision, reply_of_verdict, event_reply}
use Rattle.iss_model.proofs.Names.{one_name, name-sym}
use Rattle.iss_codec.specs.TakingRecords.{record_spelled}
use Rattle.iss_codec.proofs.TakenFields.{byte_again}
use Rattle.iss_codec.proofs.TakenParts.{stamp_field}
use Rattle.iss_codec.proofs.TakenRecords.{spelled_again}
use Rattle.iss_codec.proofs.EqualInputs.{same_exactly}
use Rattle.iss_index.specs.Places.{place_of}
use Rattle.iss_index.proofs.Placed.{none_apart, found-within, found-named, none-named, found-names}
use Rattle.iss_accepted.specs.declared.row.EventRow.{EventRow}
use Rattle.iss_model.specs.rules.Judging.{token_answer}
use Rattle.iss_accepted.specs.Values.{EventsNow, events_facts, answer_in}
use Rattle.iss_accepted.specs.Standing.{Standing, IsNamed, name_of, standing_named, decision_made, decisions_at, decision_named, AreDecided}
use Rattle.iss_accepted.specs.Kept.{bytes_of, event_of, record_of, stamp_taken, standing_of, standings_of, row_answer, events_now, IsSpelledIn, IsKept}
use Rattle.iss_accepted.proofs.Decided.{decided_more, decisions_more, with_verdict, nothing_decided}
use Rattle.iss_accepted.proofs.Found.{event_in, event_found, reply_found, answer_found, standing_answer}

-- ---- bytes and contents

same_bool : (a b : Bool) → (a ≡ true → b ≡ true) → (b ≡ true → a ≡ true) → a ≡ b
same_bool true b f g = sym (f refl)
same_bool false true f g = g refl
same_bool false false f g = refl

-- what is in form and has tokens for names is a record
pub in_form : (at : ℕ) (i : Input) → is_stamp at ≡ true → is_in_form i ≡ true → list_all is_token (tokens_of i) ≡ true → is_record (record { at = at; input = i }) ≡ true
in_form at i stamp form tokens = ap₂ (λ (b c : Bool). b && c) stamp (ap₂ (λ (b c : Bool). b && c) form tokens)

-- the bytes of a record are those of its stamp and another input exactly if both inputs have the same contents
bytes_tell : (bytes : List ℕ) (at : ℕ) (a b : Input) → is_record (record { at = at; input = a }) ≡ true → is_record (record { at = at; input = b }) ≡ true
    → bytes ≡ spelling (record { at = at; input = a }) → bytes_eq bytes (spelling (record { at = at; input = b })) ≡ same_contents a b
bytes_tell bytes at a b h k is =
    let d = bytes_eq-Decides bytes (spelling (of b)) in
    let same = same_exactly a b in
    same_bool (bytes_eq bytes (spelling (of b))) (same_contents a b) (λ e. same.1 (alike (sym is ∙ d.0 e)))
    (λ e. d.1 (is ∙ ap (λ (i : Input). spelling (of i)) (same.0 e)))
  where
    of : Input → Record
    of i = record { at = at; input = i }

    alike : spelling (of a) ≡ spelling (of b) → a ≡ b
    alike e =
        ap (λ (r : Record). r.input)
        (same_Some (of a) (of b) (sym (spelled_again (of a) h) ∙ ap record_spelled e ∙ spelled_again (of b) k))

-- the stamp is read from the bytes of a record
pub stamp_there : (bytes : List ℕ) (r : Record) → bytes ≡ spelling r → is_record r ≡ true → stamp_taken bytes ≡ Some r.at
unfolding spelling
stamp_there bytes r is form =
    let stamped = (and_parts (is_stamp r.at) (has_spelling r.input) form).0 in
    ap stamp_taken is
    ∙ rw (byte_again (kind_number r.input) (number_bytes 8 r.at ++ field_bytes r.input), stamp_field.again r.at (field_bytes r.input) stamped) refl

-- the answer by a row whose stamp was read from its bytes
module _ (bytes : List ℕ) (row : EventRow) (token : List ℕ) (i : Input) (found : Option ℕ) (lies : IsSpelledIn bytes row) (taken : found ≡ stamp_taken (bytes_of bytes row)) where
  stamp_found : found ≡ Some (event_of bytes row).at
  stamp_found = taken ∙ stamp_there (bytes_of bytes row) (record_of (event_of bytes row)) lies.spelled lies.form

  pub stamp_missing : found ≡ None → ⊥
  stamp_missing none = none-some (event_of bytes row).at (sym none ∙ stamp_found)

  pub row_answered : (at : ℕ) (same : Bool) → found ≡ Some at → same ≡ bytes_eq (bytes_of bytes row) (spelling (record { at = at; input = i }))
      → row_answer bytes row token i ≡ cond same (answer.Repeat token (reply_of_verdict row.verdict)) (answer.Conflict token row.number)
  row_answered at same is told =
      let stamp : (event_of bytes row).at ≡ at = same_Some (event_of bytes row).at at (sym stamp_found ∙ is) in
      ap (λ (n : ℕ). answered (bytes_eq (bytes_of bytes row) (spelling (record { at = n; input = i })))) stamp ∙ ap answered (sym told)
    where
      answered : Bool → Answer
      answered b = cond b (answer.Repeat token (reply_of_verdict row.verdict)) (answer.Conflict token row.number)

-- ---- each row

all_at : {A : Type 0} (P : A → Type 0) (xs : List A) (i : ℕ) (d : A) → AllByRecursion P xs → i < length xs → P (get_or xs i d)
all_at P [] i d all within = absurd (omega (arith, within))
all_at P (x ∷ xs) zero d all within = all.0
all_at P (x ∷ xs) (suc i) d all within = all_at P xs i d all.1 (omega (arith, within))

pub all_named : (bytes : List ℕ) (rows : List EventRow) → AllByRecursion (IsSpelledIn bytes) rows → AllByRecursion IsNamed (standings_of bytes rows)
all_named bytes [] spelled = tt
all_named bytes (row ∷ rows) spelled = (spelled.0.named, all_named bytes rows spelled.1)

-- what is found by a name has it
found_own : (name : List ℕ) (ss : List Standing) (s : Standing) → standing_named name ss ≡ Some s → name_of s ≡ name
found_own name [] s is = cc
found_own name (x ∷ xs) s is = at (bytes_eq (name_of x) name) refl (found_own name xs s)
  where
    at : (b : Bool) → bytes_eq (name_of x) name ≡ b → (standing_named name xs ≡ Some s → name_of s ≡ name) → name_of s ≡ name
    at true e rest =
        let first : Some x ≡ Some s = rw e at is in
        subst (λ (y : Standing). name_of y ≡ name) (same_Some x s first) (one_name (name_of x) name e)
    at false e rest = rest (rw e at is)

-- a name has a place if it is found
placed_found : (name : List ℕ) (ss : List Standing) → is_some (place_of name (map name_of ss)) ≡ is_some (standing_named name ss)
placed_found name [] = refl
placed_found name (s ∷ ss) =
    both (place_of name (map name_of ss)) (bytes_eq name (name_of s))
    ∙ ap₂ (λ (b c : Bool). cond b true c) (name-sym name (name_of s)) (placed_found name ss)
    ∙ sym (one (bytes_eq (name_of s) name) (standing_named name ss))
  where
    both : (o : Option ℕ) (b : Bool) → is_some (cond b (Some zero) (option_map (λ i. suc i) o)) ≡ cond b true (is_some o)
    both o true = refl
    both None false = refl
    both (Some i) false = refl

    one : (b : Bool) (o : Option Standing) → is_some (cond b (Some s) o) ≡ cond b true (is_some o)
    one true o = refl
    one false o = refl

-- ---- at the start

pub kept_none : (bytes : List ℕ) (rows : List EventRow) (names : List (List ℕ)) (decided : List ℕ) → rows ≡ [] → names ≡ [] → decided ≡ []
    → IsKept bytes rows names decided
kept_none bytes rows names decided none empty undecided =
    record {
      spelled = subst (λ (rs : List EventRow). AllByRecursion (IsSpelledIn bytes) rs) (sym none) tt;
      placed = empty ∙ sym (ap (λ (rs : List EventRow). map name_of (standings_of bytes rs)) none);
      apart = subst (IsDistinct bytes_eq) (sym empty) none_apart;
      verdicts = nothing_decided (standings_of bytes rows) decided (ap (λ (rs : List EventRow). standings_of bytes rs) none) undecided;
    }

-- ---- a look-up

module _ (bytes : List ℕ) (rows : List EventRow) (names : List (List ℕ)) (decided : List ℕ) (value : EventsNow) (token : List ℕ)
    (kept : IsKept bytes rows names decided) (view : events_now (standings_of bytes rows) decided ≡ value) where
  -- what stands
  abbrev pub standing : List Standing
  standing = standings_of bytes rows

  named : AllByRecursion IsNamed standing
  named = all_named bytes rows kept.spelled

  pub has_found : (found : Bool) → found ≡ is_some (place_of token names) → found ≡ is_some (find (λ (a : Accepted). is_event token a.input) value.accepted)
  has_found found is =
      is
      ∙ ap (λ (o : Option ℕ). is_some o) (ap (place_of token) kept.placed)
      ∙ placed_found token standing
      ∙ sym (mapped (standing_named token standing))
      ∙ ap (λ (o : Option Accepted). is_some o) (sym (event_found token standing named))
      ∙ ap (λ (e : EventsNow). is_some (find (λ (a : Accepted). is_event token a.input) e.accepted)) view
    where
      mapped : (o : Option Standing) → is_some (option_map event_in o) ≡ is_some o
      mapped None = refl
      mapped (Some s) = refl

  -- ---- of a token that has no place

  pub new_unplaced : find (λ (a : Accepted). is_event token a.input) value.accepted ≡ None → place_of token names ≡ None
  new_unplaced unknown =
      nothing (place_of token names)
      (has_found (is_some (place_of token names)) refl ∙ ap (λ (o : Option Accepted). is_some o) unknown)
    where
      nothing : (o : Option ℕ) → is_some o ≡ false → o ≡ None
      nothing None e = refl
      nothing (Some i) e = cc

  nothing_named : None ≡ place_of token names → standing_named token standing ≡ None
  nothing_named is = sym (none-named name_of standing token (is ∙ ap (place_of token) kept.placed))

  pub none_replied : None ≡ place_of token names → None ≡ event_reply (events_facts value) token
  none_replied is =
      ap (option_map (λ (s : Standing). reply_of_verdict s.verdict)) (sym (nothing_named is))
      ∙ sym (reply_found standing decided token named kept.verdicts)
      ∙ ap (λ (e : EventsNow). event_reply (events_facts e) token) view

  pub none_answered : (i : Input) → event_token i ≡ Some token → None ≡ place_of token names → None ≡ answer_in (events_facts value) i
  none_answered i own is =
      ap (standing_answer i token) (sym (nothing_named is))
      ∙ sym (answer_found standing decided token named kept.verdicts i)
      ∙ ap (token_answer (events_facts (events_now standing decided)) i) (sym own)
      ∙ ap (λ (e : EventsNow). answer_in (events_facts e) i) view

  pub none_accepted : None ≡ place_of token names → IsSome (find (λ (a : Accepted). is_event token a.input) value.accepted) → ⊥
  none_accepted is accepted =
      let none : false ≡ is_some (find (λ (a : Accepted). is_event token a.input) value.accepted) = has_found false (ap (λ (o : Option ℕ). is_some o) is) in
      cc

  -- ---- of a token that has a place

  pub placed_within : (place : ℕ) → Some place ≡ place_of token names → place < length rows
  placed_within place is =
      subst (λ (n : ℕ). place < n) (length-map rows (standing_of bytes)) (found-within name_of standing token place (is ∙ ap (place_of token) kept.placed))

  module _ (place : ℕ) (row : EventRow) (is : Some place ≡ place_of token names) (own : row ≡ get_or rows place row) where
    within : place < length rows
    within = placed_within place is

    standing_at : standing_of bytes row ≡ get_or standing place (standing_of bytes row)
    standing_at = ap (standing_of bytes) own ∙ sym (get_or-map (standing_of bytes) rows place row (standing_of bytes row) within)

    pub found_standing : Some (standing_of bytes row) ≡ standing_named token standing
    found_standing = found-named name_of standing token place (standing_of bytes row) (is ∙ ap (place_of token) kept.placed) standing_at

    pub row_spelled : IsSpelledIn bytes row
    row_spelled = subst (IsSpelledIn bytes) (sym own) (all_at (IsSpelledIn bytes) rows place row kept.spelled within)

    pub found_replied : (reply : Reply) → reply ≡ reply_of_verdict row.verdict → Some reply ≡ event_reply (events_facts value) token
    found_replied reply told =
        ap (λ (r : Reply). Some r) told
        ∙ ap (option_map (λ (s : Standing). reply_of_verdict s.verdict)) found_standing
        ∙ sym (reply_found standing decided token named kept.verdicts)
        ∙ ap (λ (e : EventsNow). event_reply (events_facts e) token) view

    pub found_answered : (i : Input) (told : Answer) → event_token i ≡ Some token → is_in_form i ≡ true → list_all is_token (tokens_of i) ≡ true
        → told ≡ row_answer bytes row token i → Some told ≡ answer_in (events_facts value) i
    found_answered i told own_token form tokens is_told =
        ap (λ (a : Answer). Some a) is_told
        ∙ chosen (bytes_eq (bytes_of bytes row) (spelling (record { at = (event_of bytes row).at; input = i })))
        ∙ ap (λ (b : Bool). cond b (Some repeat) (Some conflict)) same
        ∙ ap (standing_answer i token) found_standing
        ∙ sym (answer_found standing decided token named kept.verdicts i)
        ∙ ap (token_answer (events_facts (events_now standing decided)) i) (sym own_token)
        ∙ ap (λ (e : EventsNow). answer_in (events_facts e) i) view
      where
        repeat : Answer
        repeat = answer.Repeat token (reply_of_verdict row.verdict)

        conflict : Answer
        conflict = answer.Conflict token row.number

        chosen : (b : Bool) → Some (cond b repeat conflict) ≡ cond b (Some repeat) (Some conflict)
        chosen true = refl
        chosen false = refl

        stamped : is_stamp (event_of bytes row).at ≡ true
        stamped = (and_parts (is_stamp (event_of bytes row).at) (has_spelling (event_of bytes row).input) row_spelled.form).0

        same : bytes_eq (bytes_of bytes row) (spelling (record { at = (event_of bytes row).at; input = i })) ≡ same_contents (event_of bytes row).input i
        same = bytes_tell (bytes_of bytes row) (event_of bytes row).at (event_of bytes row).input i row_spelled.form (in_form (event_of bytes row).at i stamped form tokens) row_spelled.spelled

    -- ---- the event receives its verdict

    module _ (verdict : Verdict) (undecided : decision_named token value.decisions ≡ None) where
      -- the row with the verdict
      abbrev pub row_decided : EventRow
      row_decided = record row { verdict = Some verdict }

      -- the event before and after
      abbrev pub before : Standing
      before = standing_of bytes row

      abbrev pub standing_after : List Standing
      standing_after = set standing place (with_verdict before verdict)

      name_is : name_of before ≡ token
      name_is = found_own token standing before (sym found_standing)

      below : place < length standing
      below = found-within name_of standing token place (is ∙ ap (place_of token) kept.placed)

      here : slice_get standing place ≡ Some before
      here = slice_get-get_or standing place before below ∙ ap (λ (s : Standing). Some s) (sym standing_at)

      pending : before.verdict ≡ None
      pending =
          open_ row.verdict
          (ap (option_and_then decision_made) found_standing
          ∙ sym (kept.verdicts.found token)
          ∙ ap (λ (e : EventsNow). decision_named token e.decisions) view
          ∙ undecided)
        where
          decided_as : Verdict → Decision
          decided_as v = record { event = name_of before; verdict = v }

          open_ : (o : Option Verdict) → option_map (λ (v : Verdict). decided_as v) o ≡ None → o ≡ None
          open_ None e = refl
          open_ (Some v) e = cc

      found_before : standing_named (name_of before) standing ≡ Some before
      found_before = ap (λ (n : List ℕ). standing_named n standing) name_is ∙ sym found_standing

      placed_after : names ≡ map name_of standing_after
      placed_after = kept.placed ∙ found-names name_of standing token place (with_verdict before verdict) (is ∙ ap (place_of token) kept.placed) name_is

      found_after : standing_named (name_of before) standing_after ≡ Some (with_verdict before verdict)
      found_after =
          ap (λ (n : List ℕ). standing_named n standing_after) name_is
          ∙ sym (found-named name_of standing_after token place (with_verdict before verdict) (is ∙ ap (place_of token) placed_after)
          (sym (get_or-set_same standing place (with_verdict before verdict) (with_verdict before verdict) below)))

      rows_after : (rs : List EventRow) (p : ℕ) → standings_of bytes (set rs p row_decided) ≡ set (standings_of bytes rs) p (with_verdict before verdict)
      rows_after [] p = refl
      rows_after (r ∷ rs) zero = refl
      rows_after (r ∷ rs) (suc p) = ap (λ (ss : List Standing). standing_of bytes r ∷ ss) (rows_after rs p)

      spelled_after : (rs : List EventRow) (p : ℕ) → AllByRecursion (IsSpelledIn bytes) rs → AllByRecursion (IsSpelledIn bytes) (set rs p row_decided)
      spelled_after [] p all = tt
      spelled_after (r ∷ rs) zero all = (
        record {
          begins = row_spelled.begins;
          within = row_spelled.within;
          spelled = row_spelled.spelled;
          form = row_spelled.form;
          named = row_spelled.named;
        },
        all.1,
      )
      spelled_after (r ∷ rs) (suc p) all = (all.0, spelled_after rs p all.1)

      events_after : (ss : List Standing) (p : ℕ) → slice_get ss p ≡ Some before → map (λ (s : Standing). s.event) (set ss p (with_verdict before verdict)) ≡ map (λ (s : Standing). s.event) ss
      events_after [] p at = refl
      events_after (s ∷ ss) zero at = ap (λ (x : Standing). x.event ∷ map (λ (s : Standing). s.event) ss) (sym (same_Some s before at))
      events_after (s ∷ ss) (suc p) at = ap (λ (es : List Accepted). s.event ∷ es) (events_after ss p at)

      module _ (rows_now : List EventRow) (decided_now : List ℕ) (set_so : rows_now ≡ set rows place row_decided) (pushed : decided_now ≡ decided ++ place ∷ []) where
        standings_now : standings_of bytes rows_now ≡ standing_after
        standings_now = ap (λ (rs : List EventRow). standings_of bytes rs) set_so ∙ rows_after rows place

        pub decided_kept : IsKept bytes rows_now names decided_now
        decided_kept =
            record {
              spelled = subst (λ (rs : List EventRow). AllByRecursion (IsSpelledIn bytes) rs) (sym set_so) (spelled_after rows place kept.spelled);
              placed = placed_after ∙ ap (λ (ss : List Standing). map name_of ss) (sym standings_now);
              apart = kept.apart;
              verdicts =
                  subst (λ (ss : List Standing). AreDecided ss decided_now) (sym standings_now)
                  (subst (λ (ps : List ℕ). AreDecided standing_after ps) (sym pushed)
                  (decided_more standing decided place before verdict kept.verdicts here pending found_before found_after));
            }

        pub decided_view : events_now (standings_of bytes rows_now) decided_now ≡ record value { decisions = value.decisions ++ record { event = token; verdict = verdict } ∷ [] }
        decided_view =
            ap₂ events_now standings_now pushed
            ∙ (λ j. record {
              accepted = events_after standing place here j;
              decisions = more j;
            })
            ∙ ap (λ (e : EventsNow). record e { decisions = e.decisions ++ record { event = token; verdict = verdict } ∷ [] }) view
          where
            more : decisions_at standing_after (decided ++ place ∷ []) ≡ decisions_at standing decided ++ record { event = token; verdict = verdict } ∷ []
            more =
                decisions_more standing decided place before verdict kept.verdicts here pending found_before found_after
                ∙ ap (λ (n : List ℕ). decisions_at standing decided ++ record { event = n; verdict = verdict } ∷ []) name_is
