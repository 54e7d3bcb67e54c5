-- Records that are added, released and lost: what their rows make.
use Rattle.std.proofs.Common.{◌≡◌, ℕ, zero, suc, ◌+◌, ◌≤◌, ◌<◌, Bool, true, ◌&&◌, List, [], ◌∷◌, ◌++◌, length, fold, refl, sym, ap, ap₂, subst, ◌∙◌, inl, inr, append_assoc, arith}
use Rattle.std.specs.Prelude.{Option, Some, None, drop, take, slice_get}
use Rattle.std.specs.List.{filter_map, cons_option, list_all}
use Rattle.std.proofs.lemmas.Bool.{and_parts}
use Rattle.std.proofs.lemmas.List.{append-nil, take-append-drop, take-append-le, take_more}
use Rattle.std.proofs.lemmas.List.Elements.{filter_map-append}
use Rattle.std.proofs.lemmas.List.Folds.{list_all-append}
use Rattle.std.proofs.lemmas.Option.{slice_get_within, get_or_from_slice_get}
use Rattle.iss_model.specs.declared.call.Notice.{Notice}
use Rattle.iss_model.specs.declared.call.Opened.{Opened}
use Rattle.iss_model.specs.declared.entry.Entry.{Entry}
use Rattle.iss_model.specs.declared.entry.Entry.TheVariants as entry
use Rattle.iss_model.specs.declared.entry.Row.{Row}
use Rattle.iss_model.specs.declared.input.Record.{Record}
use Rattle.iss_model.specs.Forms.{is_in_form}
use Rattle.iss_model.specs.rules.Activity.{call_opened, notice_made, notices_of}
use Rattle.iss_model.specs.rules.Histories.{Follows, History, IsLegal, IsLegalAfter, history_keeper, history_of, nothing_yet, numbered_rows}
use Rattle.iss_model.specs.rules.Stepping.{step}
use Rattle.iss_agreement.proofs.CoreOfBook.{entries_history}
use Rattle.iss_state.specs.Sound.{AreInForm}
use Rattle.iss_state.proofs.docket.Lists.{Each, both_so}
use Rattle.iss_laws.proofs.Rows.{next_rows, next_number, entries_of_next}
use Rattle.iss_gateway_laws.proofs.Lists.{Among, among_left, among_right}
use Rattle.iss_gateway_laws.proofs.Numbers.{next_notices}
use Rattle.iss_exchange_laws.specs.declared.moves.Sent.{Sent}
use Rattle.iss_exchange_laws.specs.declared.moves.Sent.TheVariants as sent
use Rattle.iss_exchange_laws.specs.Messages.{sent_by}
use Rattle.iss_exchange_laws.specs.Exchanges.{sent_after}
use Rattle.iss_exchange_laws.proofs.Hearing.{Grow}
use Rattle.iss_exchange_laws.proofs.Sound.{IsMade, opened_of, rows_of}

-- a record more ----

legal_from : (h : History) (rs : List Record) (r : Record) → IsLegalAfter h rs → Follows (fold (λ h r. (step history_keeper h r).world) h rs) r → IsLegalAfter h (rs ++ r ∷ [])
legal_from h [] r legal follows = (follows, tt)
legal_from h (x ∷ xs) r legal follows = (legal.0, legal_from (step history_keeper h x).world xs r legal.1 follows)

pub legal_more : (rs : List Record) (r : Record) → IsLegal rs → Follows (history_of rs) r → IsLegal (rs ++ r ∷ [])
legal_more rs r legal follows = legal_from nothing_yet rs r legal follows

pub form_more : (rs : List Record) (r : Record) → AreInForm rs → is_in_form r.input ≡ true → AreInForm (rs ++ r ∷ [])
form_more rs r form h =
    list_all-append (λ (x : Record). is_in_form x.input) rs (r ∷ []) ∙ ap₂ (λ (a b : Bool). a && (b && true)) form h

-- fewer records ----

legal_fewer_from : (k : ℕ) (h : History) (rs : List Record) → IsLegalAfter h rs → IsLegalAfter h (take k rs)
legal_fewer_from zero h rs legal = tt
legal_fewer_from (suc k) h [] legal = tt
legal_fewer_from (suc k) h (r ∷ rs) legal = (legal.0, legal_fewer_from k (step history_keeper h r).world rs legal.1)

pub legal_fewer : (k : ℕ) (rs : List Record) → IsLegal rs → IsLegal (take k rs)
legal_fewer k rs legal = legal_fewer_from k nothing_yet rs legal

pub all_fewer : (p : Record → Bool) (k : ℕ) (rs : List Record) → list_all p rs ≡ true → list_all p (take k rs) ≡ true
all_fewer p zero rs h = refl
all_fewer p (suc k) [] h = refl
all_fewer p (suc k) (r ∷ rs) h =
    let parts = and_parts (p r) (list_all p rs) h in both_so (p r) (list_all p (take k rs)) parts.0 (all_fewer p k rs parts.1)

pub each_fewer : {A : Type 0} (P : A → Type 0) (k : ℕ) (xs : List A) → Each P xs → Each P (take k xs)
each_fewer P zero xs h = tt
each_fewer P (suc k) [] h = tt
each_fewer P (suc k) (x ∷ xs) h = (h.0, each_fewer P k xs h.1)

pub take_fewer : {A : Type 0} (m k : ℕ) (xs : List A) → m ≤ k → take m (take k xs) ≡ take m xs
take_fewer zero k xs h = refl
take_fewer (suc m) zero xs h = absurd (no m h)
  where
    no : (m : ℕ) → suc m ≤ 0 → ⊥
    no m h = omega (arith, h)
take_fewer (suc m) (suc k) [] h = refl
take_fewer (suc m) (suc k) (x ∷ xs) h = ap (λ (ys : List _). x ∷ ys) (take_fewer m k xs (less m k h))
  where
    less : (m k : ℕ) → suc m ≤ suc k → m ≤ k
    less m k h = omega (arith, h)

pub length_fewer : {A : Type 0} (m k : ℕ) (xs : List A) → m ≤ k → m ≤ length xs → m ≤ length (take k xs)
length_fewer m zero xs h few = h
length_fewer m (suc k) [] h few = few
length_fewer zero (suc k) (x ∷ xs) h few = omega arith
length_fewer (suc m) (suc k) (x ∷ xs) h few = more m (length (take k xs)) (length_fewer m k xs (less m k h) (less m (length xs) few))
  where
    less : (m k : ℕ) → suc m ≤ suc k → m ≤ k
    less m k h = omega (arith, h)

    more : (m n : ℕ) → m ≤ n → suc m ≤ suc n
    more m n h = omega (arith, h)

pub take_shorter : {A : Type 0} (k : ℕ) (xs : List A) → length (take k xs) ≤ length xs
take_shorter zero xs = omega arith
take_shorter (suc k) [] = omega arith
take_shorter (suc k) (x ∷ xs) = more (length (take k xs)) (length xs) (take_shorter k xs)
  where
    more : (m n : ℕ) → m ≤ n → suc m ≤ suc n
    more m n h = omega (arith, h)

-- what the next record's rows make ----

opened_numbered : (n : ℕ) (es : List Entry) → opened_of (numbered_rows n es) ≡ filter_map call_opened es
opened_numbered n [] = refl
opened_numbered n (e ∷ es) = ap (cons_option (call_opened e)) (opened_numbered n es)

pub next_opened : (rs : List Record) (r : Record) → opened_of (rows_of (rs ++ r ∷ [])) ≡ opened_of (rows_of rs) ++ filter_map call_opened (entries_of_next rs r)
next_opened rs r =
    ap opened_of (next_rows rs r)
    ∙ filter_map-append (λ (row : Row). call_opened row.entry) (rows_of rs) (numbered_rows (next_number rs r) (entries_of_next rs r))
    ∙ ap (λ (os : List Opened). opened_of (rows_of rs) ++ os) (opened_numbered (next_number rs r) (entries_of_next rs r))

pub next_grows : (rs : List Record) (r : Record) → Grow (rows_of rs) (rows_of (rs ++ r ∷ []))
next_grows rs r =
    record {
      opened = λ o h. subst (Among o) (sym (next_opened rs r)) (among_left o (opened_of (rows_of rs)) (filter_map call_opened (entries_of_next rs r)) h);
      notices = λ n h. subst (Among n) (sym (next_notices rs r)) (among_left n (notices_of (rows_of rs)) (filter_map notice_made (entries_of_next rs r)) h);
    }

-- what entries make
abbrev IsMadeBy : List Entry → Sent → Type 0
IsMadeBy es (sent.Request o) = Among o (filter_map call_opened es)
IsMadeBy es (sent.Notice n) = Among n (filter_map notice_made es)

made_later : (e : Entry) (es : List Entry) (what : Sent) → IsMadeBy es what → IsMadeBy (e ∷ es) what
made_later e es (sent.Request o) h = by (call_opened e)
  where
    by : (x : Option Opened) → Among o (cons_option x (filter_map call_opened es))
    by None = h
    by (Some y) = inr h
made_later e es (sent.Notice n) h = by (notice_made e)
  where
    by : (x : Option Notice) → Among n (cons_option x (filter_map notice_made es))
    by None = h
    by (Some y) = inr h

weaker_each : (e : Entry) (es : List Entry) (xs : List Sent) → Each (IsMadeBy es) xs → Each (IsMadeBy (e ∷ es)) xs
weaker_each e es [] h = tt
weaker_each e es (x ∷ xs) h = (made_later e es x h.0, weaker_each e es xs h.1)

sent_made : (es : List Entry) → Each (IsMadeBy es) (filter_map sent_by es)
sent_made [] = tt
sent_made (entry.Opened o ∷ es) = (inl refl, weaker_each (entry.Opened o) es (filter_map sent_by es) (sent_made es))
sent_made (entry.Notice n ∷ es) = (inl refl, weaker_each (entry.Notice n) es (filter_map sent_by es) (sent_made es))
sent_made (e ∷ es) = weaker_each e es (filter_map sent_by es) (sent_made es)

made_next : (rs : List Record) (r : Record) (what : Sent) → IsMadeBy (entries_of_next rs r) what → IsMade (rows_of (rs ++ r ∷ [])) what
made_next rs r (sent.Request o) h = subst (Among o) (sym (next_opened rs r)) (among_right o (opened_of (rows_of rs)) (filter_map call_opened (entries_of_next rs r)) h)
made_next rs r (sent.Notice n) h = subst (Among n) (sym (next_notices rs r)) (among_right n (notices_of (rows_of rs)) (filter_map notice_made (entries_of_next rs r)) h)

all_made_next : (rs : List Record) (r : Record) (xs : List Sent) → Each (IsMadeBy (entries_of_next rs r)) xs → Each (IsMade (rows_of (rs ++ r ∷ []))) xs
all_made_next rs r [] h = tt
all_made_next rs r (x ∷ xs) h = (made_next rs r x h.0, all_made_next rs r xs h.1)

-- what a record sends is what its rows make
pub sent_after_made : (rs : List Record) (r : Record) → Each (IsMade (rows_of (rs ++ r ∷ []))) (sent_after rs r)
sent_after_made rs r =
    subst (λ (es : List Entry). Each (IsMade (rows_of (rs ++ r ∷ []))) (filter_map sent_by es)) (entries_history rs r)
    (all_made_next rs r (filter_map sent_by (entries_of_next rs r)) (sent_made (entries_of_next rs r)))

-- records that were released ----

pub take_next : (n : ℕ) (rs : List Record) (r : Record) → slice_get rs n ≡ Some r → take (n + 1) rs ≡ take n rs ++ r ∷ []
take_next n rs r e =
    take_more rs n r (slice_get_within rs n r e) ∙ ap (λ (x : Record). take n rs ++ x ∷ []) (get_or_from_slice_get rs n r r e)

pub more_released : (n : ℕ) (rs : List Record) (r : Record) → slice_get rs n ≡ Some r → n + 1 ≤ length rs
more_released n rs r e = next n (length rs) (slice_get_within rs n r e)
  where
    next : (n m : ℕ) → n < m → n + 1 ≤ m
    next n m h = omega (arith, h)

pub take_longer : (n : ℕ) (rs ys : List Record) → n ≤ length rs → take n (rs ++ ys) ≡ take n rs
take_longer n rs ys h = take-append-le n rs ys h

-- more records make no less ----

grow_itself : (rows : List Row) → Grow rows rows
grow_itself rows = record { opened = λ o h. h; notices = λ n h. h }

grow_then : (a b c : List Row) → Grow a b → Grow b c → Grow a c
grow_then a b c h k = record { opened = λ o x. k.opened o (h.opened o x); notices = λ n x. k.notices n (h.notices n x) }

grows_by : (rs more : List Record) → Grow (rows_of rs) (rows_of (rs ++ more))
grows_by rs [] = subst (λ (xs : List Record). Grow (rows_of rs) (rows_of xs)) (sym (append-nil rs)) (grow_itself (rows_of rs))
grows_by rs (r ∷ more) =
    subst (λ (xs : List Record). Grow (rows_of rs) (rows_of xs)) (append_assoc rs (r ∷ []) more)
    (grow_then (rows_of rs) (rows_of (rs ++ r ∷ [])) (rows_of ((rs ++ r ∷ []) ++ more)) (next_grows rs r) (grows_by (rs ++ r ∷ []) more))

-- what the first of them make all make
pub grow_from : (n : ℕ) (rs : List Record) → Grow (rows_of (take n rs)) (rows_of rs)
grow_from n rs = subst (λ (xs : List Record). Grow (rows_of (take n rs)) (rows_of xs)) (take-append-drop n rs) (grows_by (take n rs) (drop n rs))
