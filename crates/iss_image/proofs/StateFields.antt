-- A state: what is taken was spelled so, and what is spelled so is taken.
use Rattle.std.proofs.Common.{◌≡◌, ℕ, Bool, true, false, cond, nat_eq, ◌&&◌, List, [], ◌∷◌, ◌++◌, length, Option, Some, None, refl, sym, ap, subst, ◌∙◌, arith}
use Rattle.std.specs.List.{list_all, IsDistinct}
use Rattle.std.specs.Str.{bytes_eq}
use Rattle.std.proofs.lemmas.Bool.{and_parts, eqb-true, ltb-true}
use Rattle.std.proofs.lemmas.Option.{same_Some, none-some}
use Rattle.std.proofs.lemmas.List.{append-nil, length-append}
use Rattle.std.proofs.lemmas.Slice.Eq.{bytes_eq-Decides, slice_eq-Decides}
use Rattle.iss_model.specs.declared.state.Seen.{Seen}
use Rattle.iss_model.specs.declared.state.State.{State}
use Rattle.iss_model.specs.Inputs.{with_length}
use Rattle.iss_model.specs.Tokens.{is_token}
use Rattle.iss_model.specs.texts.Spelling.{AreBytes, number_bytes}
use Rattle.iss_codec.specs.Taking.{◌>>=◌}
use Rattle.iss_codec.proofs.NumberBytes.{wide_4}
use Rattle.iss_codec.proofs.TakenFields.{bind_some, passed, IsSplit, IsField, token_field}
use Rattle.iss_states.specs.Showing.{no_state}
use Rattle.iss_image_lists.specs.Spelling.{list_bytes, txns_bytes, balances_bytes, counters_bytes, sums_bytes, notices_bytes}
use Rattle.iss_image_lists.specs.Taking.{take_list}
use Rattle.iss_image_lists.specs.Forms.{has_room, is_list, are_txns, are_balances, are_counters, are_sums_of_stand_ins, are_notices}
use Rattle.iss_image.specs.Images.{seen_bytes, tokens_first}
use Rattle.iss_image.specs.Lookups.{window_in, holder_in}
use Rattle.iss_codec.specs.Places.{place_bytes, take_place, is_listed, IsTable}
use Rattle.iss_image.specs.TakingEvents.{take_seen}
use Rattle.iss_image.specs.declared.lists.Lists.{Lists}
use Rattle.iss_image.specs.States.{lists_of, state_of_parts, has_none, are_bare, is_bare, lists_bytes, parts_bytes, image_of_state, have_tokens, take_events, take_lists, take_state, whole, state_spelled, are_events, are_lists, is_in_image_form, IsImageOf}
use Rattle.iss_image.proofs.Steps.{u32_field, u64_field, step, start, again_step, grouped_5, grouped_6}
use Rattle.iss_image_lists.proofs.ListFields.{list_field}
use Rattle.iss_image_lists.proofs.TxnFields.{txns_field, sums_field}
use Rattle.iss_image_lists.proofs.BalanceFields.{balances_field}
use Rattle.iss_image_lists.proofs.CounterFields.{counters_field}
use Rattle.iss_image_lists.proofs.NoticeFields.{notices_field}
use Rattle.iss_codec.proofs.TakenPlaces.{place_field}
use Rattle.iss_image.proofs.SeenFields.{seen_field}
use Rattle.iss_image.proofs.TokensFirst.{first_apart}

-- these are the tokens of the events
pub tokens_are : (tokens : List (List ℕ)) (es : List Seen) → have_tokens tokens es ≡ true → tokens ≡ tokens_first es
tokens_are tokens es = (slice_eq-Decides bytes_eq-Decides tokens (tokens_first es) (have_tokens tokens es) refl).0

own_tokens : (es : List Seen) → have_tokens (tokens_first es) es ≡ true
own_tokens es = (slice_eq-Decides bytes_eq-Decides (tokens_first es) (tokens_first es) (have_tokens (tokens_first es) es) refl).1 refl

-- events with their own tokens
abbrev are_events_of : List (List ℕ) → List Seen → Bool
are_events_of tokens es = are_events tokens es && have_tokens tokens es

tokens_apart : (tokens : List (List ℕ)) (es : List Seen) → have_tokens tokens es ≡ true → IsDistinct bytes_eq tokens
tokens_apart tokens es h = subst (λ (ts : List (List ℕ)). IsDistinct bytes_eq ts) (sym (tokens_are tokens es h)) (first_apart es)

-- distinct tokens that 4 bytes can count are a table
table : (tokens : List (List ℕ)) → IsDistinct bytes_eq tokens → has_room 4 (length tokens) ≡ true → IsTable tokens
table tokens apart few = record { few = ltb-true _ _ few; apart = apart }

-- events as a table spells them, if its tokens are distinct
all_events : (tokens : List (List ℕ)) → IsDistinct bytes_eq tokens → has_room 4 (length tokens) ≡ true
    → IsField (take_list (take_seen (take_place tokens))) (list_bytes (seen_bytes (place_bytes tokens))) (are_events tokens)
all_events tokens apart few = list_field (seen_field (place_field tokens (table tokens apart few)))

events_field : (tokens : List (List ℕ)) → has_room 4 (length tokens) ≡ true
    → IsField (take_events tokens) (list_bytes (seen_bytes (place_bytes tokens))) (are_events_of tokens)
unfolding take_events
events_field tokens few =
    record {
      takes = λ bytes x fits e.
          let es = bind_some (take_list (take_seen (take_place tokens)) bytes) _ x e in
          let g = passed (have_tokens tokens es.0.0) es.0 x es.2 in
          let t = (all_events tokens (tokens_apart tokens es.0.0 g.0) few).takes bytes es.0 fits es.1 in
          subst (λ (y : List Seen × List ℕ). IsSplit bytes (list_bytes (seen_bytes (place_bytes tokens)) y.0) y.1 × (are_events_of tokens y.0 ≡ true)) g.1
          (t.0, rw (t.1, g.0) refl);
      again = λ es rest h.
          let p = and_parts (are_events tokens es) (have_tokens tokens es) h in
          again_step (all_events tokens (tokens_apart tokens es p.1) few) es _ _ _ p.0 (rw p.1 refl);
    }

-- `name` is the field of a token, however it is spelled
module _ {take_name : List ℕ → Option (List ℕ × List ℕ)} {name_bytes : List ℕ → List ℕ} {is_name : List ℕ → Bool} (name : IsField take_name name_bytes is_name) where
  pub lists_field : (events : List Seen) → IsField (take_lists take_name events) (lists_bytes name_bytes) (are_lists is_name events)
  unfolding take_lists
  lists_field events =
      record {
        takes = λ bytes x fits e.
            step (txns_field name) bytes [] bytes _ x (start bytes fits) e (λ txns r1 s1 h1 e1.
            step (balances_field name) bytes _ r1 _ x s1 e1 (λ balances r2 s2 h2 e2.
            step (counters_field name (window_in events)) bytes _ r2 _ x s2 e2 (λ counters r3 s3 h3 e3.
            step (sums_field name) bytes _ r3 _ x s3 e3 (λ sums r4 s4 h4 e4.
            step u32_field bytes _ r4 _ x s4 e4 (λ made r5 s5 h5 e5.
            step (notices_field name (holder_in events)) bytes _ r5 _ x s5 e5 (λ notices r6 s6 h6 e6.
            subst (λ (y : Lists × List ℕ). IsSplit bytes (lists_bytes name_bytes y.0) y.1 × (are_lists is_name events y.0 ≡ true)) (same_Some _ x e6)
            (s6, rw (h1, h2, h3, h4, h5, h6) refl)))))));
        again = λ l rest h.
            let a = and_parts (are_txns is_name l.txns && are_balances is_name l.balances && are_counters is_name (window_in events) l.counters && are_sums_of_stand_ins is_name l.sums && has_room 4 l.made) (are_notices is_name (holder_in events) l.notices) h in
            let b = and_parts (are_txns is_name l.txns && are_balances is_name l.balances && are_counters is_name (window_in events) l.counters && are_sums_of_stand_ins is_name l.sums) (has_room 4 l.made) a.0 in
            let c = and_parts (are_txns is_name l.txns && are_balances is_name l.balances && are_counters is_name (window_in events) l.counters) (are_sums_of_stand_ins is_name l.sums) b.0 in
            let d = and_parts (are_txns is_name l.txns && are_balances is_name l.balances) (are_counters is_name (window_in events) l.counters) c.0 in
            let f = and_parts (are_txns is_name l.txns) (are_balances is_name l.balances) d.0 in
            ap (take_lists take_name events) (grouped_6 (txns_bytes name_bytes l.txns) (balances_bytes name_bytes l.balances) (counters_bytes name_bytes l.counters) (sums_bytes name_bytes l.sums) (number_bytes 4 l.made) (notices_bytes name_bytes l.notices) rest)
            ∙ again_step (txns_field name) l.txns _ _ _ f.0
            (again_step (balances_field name) l.balances _ _ _ f.1
            (again_step (counters_field name (window_in events)) l.counters _ _ _ d.1
            (again_step (sums_field name) l.sums _ _ _ c.1
            (again_step u32_field l.made _ _ _ b.1
            (again_step (notices_field name (holder_in events)) l.notices _ _ _ a.1 refl)))));
      }

-- the image of a state but for the one without a record
abbrev pub full_bytes : State → List ℕ
full_bytes s = parts_bytes (tokens_first s.events) s

pub state_field : IsField take_state full_bytes is_in_image_form
unfolding take_state
state_field =
    record {
      takes = λ bytes x fits e.
          step u32_field bytes [] bytes _ x (start bytes fits) e (λ records r1 s1 h1 e1.
          step u64_field bytes _ r1 _ x s1 e1 (λ now r2 s2 h2 e2.
          step (list_field token_field) bytes _ r2 _ x s2 e2 (λ tokens r3 s3 h3 e3.
          let few = (and_parts (has_room 4 (length tokens)) (list_all is_token tokens) h3).0 in
          step (events_field tokens few) bytes _ r3 _ x s3 e3 (λ events r4 s4 h4 e4.
          let p = and_parts (are_events tokens events) (have_tokens tokens events) h4 in
          step (lists_field (place_field tokens (table tokens (tokens_apart tokens events p.1) few)) events) bytes _ r4 _ x s4 e4 (λ lists r5 s5 h5 e5.
          subst (λ (y : State × List ℕ). IsSplit bytes (full_bytes y.0) y.1 × (is_in_image_form y.0 ≡ true)) (same_Some _ x e5)
          (subst (λ (ts : List (List ℕ)). IsSplit bytes (parts_bytes ts (state_of_parts records now events lists)) r5
          × ((has_room 4 records && has_room 8 now && is_list is_token ts && are_events ts events && are_lists (is_listed ts) events lists) ≡ true))
          (tokens_are tokens events p.1) (s5, rw (h1, h2, h3, p.0, h5) refl)))))));
      again = λ s rest h.
          let tokens = tokens_first s.events in
          let a = and_parts (has_room 4 s.records && has_room 8 s.now && is_list is_token tokens && are_events tokens s.events) (are_lists (is_listed tokens) s.events (lists_of s)) h in
          let b = and_parts (has_room 4 s.records && has_room 8 s.now && is_list is_token tokens) (are_events tokens s.events) a.0 in
          let c = and_parts (has_room 4 s.records && has_room 8 s.now) (is_list is_token tokens) b.0 in
          let d = and_parts (has_room 4 s.records) (has_room 8 s.now) c.0 in
          let few = (and_parts (has_room 4 (length tokens)) (list_all is_token tokens) c.1).0 in
          let own = own_tokens s.events in
          ap take_state (grouped_5 (number_bytes 4 s.records) (number_bytes 8 s.now) (list_bytes with_length tokens) (list_bytes (seen_bytes (place_bytes tokens)) s.events) (lists_bytes (place_bytes tokens) (lists_of s)) rest)
          ∙ again_step u32_field s.records _ _ _ d.0
          (again_step u64_field s.now _ _ _ d.1
          (again_step (list_field token_field) tokens _ _ _ c.1
          (again_step (events_field tokens few) s.events _ _ _ (rw (b.1, own) refl)
          (again_step (lists_field (place_field tokens (table tokens (first_apart s.events) few)) s.events) (lists_of s) _ _ _ a.1 refl))));
    }

-- the state without a record

nothing : {A : Type 0} (xs : List A) → has_none xs ≡ true → xs ≡ []
nothing [] h = refl
nothing (x ∷ xs) h = absurd cc

pub bare_is : (s : State) → is_bare s ≡ true → s ≡ no_state
bare_is s h =
    let a = and_parts (nat_eq s.records 0 && nat_eq s.now 0 && has_none s.events) (are_bare (lists_of s)) h in
    let b = and_parts (nat_eq s.records 0 && nat_eq s.now 0) (has_none s.events) a.0 in
    let c = and_parts (nat_eq s.records 0) (nat_eq s.now 0) b.0 in
    let d = and_parts (has_none s.txns && has_none s.balances && has_none s.counters && has_none s.sums && nat_eq s.made 0) (has_none s.notices) a.1 in
    let f = and_parts (has_none s.txns && has_none s.balances && has_none s.counters && has_none s.sums) (nat_eq s.made 0) d.0 in
    let g = and_parts (has_none s.txns && has_none s.balances && has_none s.counters) (has_none s.sums) f.0 in
    let k = and_parts (has_none s.txns && has_none s.balances) (has_none s.counters) g.0 in
    let l = and_parts (has_none s.txns) (has_none s.balances) k.0 in
    λ i. record {
      records = eqb-true s.records 0 c.0 i;
      now = eqb-true s.now 0 c.1 i;
      events = nothing s.events b.1 i;
      txns = nothing s.txns l.0 i;
      balances = nothing s.balances l.1 i;
      counters = nothing s.counters k.1 i;
      sums = nothing s.sums g.1 i;
      made = eqb-true s.made 0 f.1 i;
      notices = nothing s.notices d.1 i;
    }

-- all of the bytes are a state's

nothing_left : (a : State) (rest : List ℕ) (s : State) → whole a rest ≡ Some s → (a ≡ s) × ((rest ≡ []) × (is_bare a ≡ false))
nothing_left a [] s e = by (is_bare a) refl e
  where
    by : (b : Bool) → is_bare a ≡ b → cond b None (Some a) ≡ Some s → (a ≡ s) × (◌≡◌ {A = List ℕ} [] [] × (is_bare a ≡ false))
    by true h e = absurd cc
    by false h e = (same_Some a s e, (refl, h))
nothing_left a (byte ∷ rest) s e = absurd cc

full_image : (s : State) → is_bare s ≡ false → image_of_state s ≡ full_bytes s
unfolding image_of_state
full_image s h = rw h refl

-- bytes that are read as a state are its image
pub spelled_takes : (bytes : List ℕ) (s : State) → AreBytes bytes → state_spelled bytes ≡ Some s → IsImageOf s bytes
unfolding state_spelled image_of_state
spelled_takes [] s fits e = subst (λ y. IsImageOf y []) (same_Some no_state s e) (refl, refl)
spelled_takes (byte ∷ bytes) s fits e =
    let x = bind_some (take_state (byte ∷ bytes)) _ s e in
    let t = state_field.takes (byte ∷ bytes) x.0 fits x.1 in
    let last = nothing_left x.0.0 x.0.1 s x.2 in
    let all : byte ∷ bytes ≡ image_of_state x.0.0 =
    t.0.parts ∙ ap (λ (r : List ℕ). full_bytes x.0.0 ++ r) last.1.0 ∙ append-nil (full_bytes x.0.0) ∙ sym (full_image x.0.0 last.1.1) in
    subst (λ y. IsImageOf y (byte ∷ bytes)) last.0 (t.1, all)

-- bytes that begin with a number aren't none
not_empty : (bytes : List ℕ) (n : ℕ) (rest : List ℕ) → bytes ≡ number_bytes 4 n ++ rest → state_spelled bytes ≡ (take_state bytes >>= λ taken. whole taken.0 taken.1)
unfolding state_spelled
not_empty [] n rest e =
    let long : 0 ≡ length (number_bytes 4 n ++ rest) = ap length e in
    absurd (omega (arith, long, length-append (number_bytes 4 n) rest, wide_4.size n))
not_empty (byte ∷ bytes) n rest e = refl

-- a full state's bytes are read as it
full_again : (s : State) → is_bare s ≡ false → is_in_image_form s ≡ true → state_spelled (full_bytes s) ≡ Some s
full_again s bare h =
    let tokens = tokens_first s.events in
    let apart : full_bytes s ≡ number_bytes 4 s.records ++ (number_bytes 8 s.now ++ (list_bytes with_length tokens ++ (list_bytes (seen_bytes (place_bytes tokens)) s.events ++ (lists_bytes (place_bytes tokens) (lists_of s) ++ [])))) =
    sym (append-nil (full_bytes s)) ∙ grouped_5 (number_bytes 4 s.records) (number_bytes 8 s.now) (list_bytes with_length tokens) (list_bytes (seen_bytes (place_bytes tokens)) s.events) (lists_bytes (place_bytes tokens) (lists_of s)) [] in
    not_empty (full_bytes s) s.records _ apart
    ∙ ap (λ t. take_state t >>= λ taken. whole taken.0 taken.1) (sym (append-nil (full_bytes s)))
    ∙ rw (state_field.again s [] h, bare) refl

-- so are no bytes, as the state without a record
empty_again : state_spelled (image_of_state no_state) ≡ Some no_state
unfolding state_spelled image_of_state
empty_again = refl

-- a state's image is read as it
pub spelled_again : (s : State) → is_in_image_form s ≡ true → state_spelled (image_of_state s) ≡ Some s
spelled_again s h = by (is_bare s) refl
  where
    by : (b : Bool) → is_bare s ≡ b → state_spelled (image_of_state s) ≡ Some s
    by false e = ap state_spelled (full_image s e) ∙ full_again s e h
    by true e = rw (bare_is s e) empty_again

-- bytes that are read as no state are no state's image
pub none_spelled : (bytes : List ℕ) (s : State) → state_spelled bytes ≡ None → IsImageOf s bytes → ⊥
none_spelled bytes s e so = none-some s (sym e ∙ ap state_spelled so.1 ∙ spelled_again s so.0)
