-- The three lists, from the calls and notices that a core tells.
use Rattle.std.proofs.Common.{◌≡◌, ℕ, zero, suc, ◌+◌, ◌<◌, Bool, true, false, cond, ◌&&◌, nat_eq, List, [], ◌∷◌, ◌++◌, length, map, filter, refl, sym, ap, subst, ◌∙◌, arith}
use Rattle.std.specs.Prelude.{Option, Some, None, slice_get, take}
use Rattle.std.specs.Option.{option_map}
use Rattle.std.specs.List.{cons_option, filter_map}
use Rattle.std.proofs.lemmas.Bool.Decides.{nat_tests}
use Rattle.std.proofs.lemmas.List.{length-map, take_more}
use Rattle.std.proofs.lemmas.Option.{get_or_from_slice_get, slice_get-map, slice_get_within}
use Rattle.iss_model.specs.declared.call.Notice.{Notice}
use Rattle.iss_model.specs.declared.call.Opened.{Opened}
use Rattle.iss_model.specs.declared.currency.Currency.{Currency}
use Rattle.iss_model.specs.Currencies.{same_currency}
use Rattle.iss_model.specs.rules.Activity.{CallNow, call_numbered, is_asked}
use Rattle.iss_model.specs.rules.Facts.{Facts}
use Rattle.iss_model.specs.texts.CallTokens.{call_uuid}
use Rattle.iss_gateway.specs.Books.{Books}
use Rattle.iss_state.specs.Numbers.{CallsNumberedFrom}
use Rattle.iss_exchange_laws.specs.Gaps.{Amount, amount_if, asked_gap, funded_for, noted_gap, voided_gap}
use Rattle.iss_exchange.specs.Amounts.{amount_asked, amount_noted, amount_voided}

-- what asked calls come to is what all calls come to, if each that isn't asked comes to nothing
pub asked_listed : (instance : ℕ) (b : Books) (c : Currency) (f : Facts) → filter_map (amount_asked instance b c) (map (λ call. call.opened) (filter is_asked f.calls)) ≡ asked_gap (call_uuid instance) f b c
asked_listed instance b c f = all f.calls
  where
    whole : CallNow → Option Amount
    whole call = amount_if (same_currency call.opened.currency c && is_asked call) call.opened.call.0 (funded_for (call_uuid instance) b call.opened.call.0)

    nothing : (s : Bool) (n : ℕ) (o : Option ℕ) → amount_if (s && false) n o ≡ None
    nothing s n None = refl
    nothing true n (Some m) = refl
    nothing false n (Some m) = refl

    same : (s : Bool) (n : ℕ) (o : Option ℕ) → amount_if s n o ≡ amount_if (s && true) n o
    same true n o = refl
    same false n o = refl

    one : (call : CallNow) (calls : List CallNow) (asked : Bool)
        → filter_map (amount_asked instance b c) (map (λ (x : CallNow). x.opened) (filter is_asked calls)) ≡ filter_map whole calls
        → filter_map (amount_asked instance b c) (map (λ (x : CallNow). x.opened) (cond asked (call ∷ filter is_asked calls) (filter is_asked calls)))
        ≡ cons_option (amount_if (same_currency call.opened.currency c && asked) call.opened.call.0 (funded_for (call_uuid instance) b call.opened.call.0)) (filter_map whole calls)
    one call calls true rest =
        ap (cons_option (amount_asked instance b c call.opened)) rest
        ∙ ap (λ (o : Option Amount). cons_option o (filter_map whole calls)) (same (same_currency call.opened.currency c) call.opened.call.0 (funded_for (call_uuid instance) b call.opened.call.0))
    one call calls false rest =
        rest ∙ ap (λ (o : Option Amount). cons_option o (filter_map whole calls)) (sym (nothing (same_currency call.opened.currency c) call.opened.call.0 (funded_for (call_uuid instance) b call.opened.call.0)))

    all : (calls : List CallNow) → filter_map (amount_asked instance b c) (map (λ (x : CallNow). x.opened) (filter is_asked calls)) ≡ filter_map whole calls
    all [] = refl
    all (call ∷ calls) = one call calls (is_asked call) (all calls)

pub voided_listed : (instance : ℕ) (b : Books) (c : Currency) (f : Facts) → filter_map (amount_voided instance b f.pending c) (map (λ call. call.opened) f.calls) ≡ voided_gap (call_uuid instance) f b c
voided_listed instance b c f = all f.calls
  where
    all : (calls : List CallNow) → filter_map (amount_voided instance b f.pending c) (map (λ (x : CallNow). x.opened) calls) ≡ filter_map (λ (call : CallNow). amount_voided instance b f.pending c call.opened) calls
    all [] = refl
    all (call ∷ calls) = ap (cons_option (amount_voided instance b f.pending c call.opened)) (all calls)

-- the call of a number stands at its place
pub at_its_number : (m n : ℕ) (calls : List CallNow) → CallsNumberedFrom m calls → call_numbered (m + n) calls ≡ slice_get calls n
at_its_number m n [] h = refl
at_its_number m zero (x ∷ xs) h = ap (λ (b : Bool). cond b (Some x) (call_numbered (m + 0) xs)) (here x.opened.call.0 m h.0)
  where
    here : (a m : ℕ) → a ≡ m → nat_eq a (m + 0) ≡ true
    here a m e = grind (arith, nat_tests)
at_its_number m (suc n) (x ∷ xs) h =
    ap (λ (b : Bool). cond b (Some x) (call_numbered (m + suc n) xs)) (later x.opened.call.0 m n h.0)
    ∙ ap (λ (k : ℕ). call_numbered k xs) (next m n) ∙ at_its_number (m + 1) n xs h.1
  where
    later : (a m n : ℕ) → a ≡ m → nat_eq a (m + suc n) ≡ false
    later a m n e = grind (arith, nat_tests)

    next : (m n : ℕ) → m + suc n ≡ m + 1 + n
    next m n = omega arith

-- the three lists from what the code goes over ----

pub asked_so : (instance : ℕ) (b : Books) (c : Currency) (f : Facts) (asked : List Opened) (amounts : List Amount) → asked ≡ map (λ call. call.opened) (filter is_asked f.calls)
    → amounts ≡ filter_map (amount_asked instance b c) asked → amounts ≡ asked_gap (call_uuid instance) f b c
asked_so instance b c f asked amounts told made = made ∙ ap (filter_map (amount_asked instance b c)) told ∙ asked_listed instance b c f

pub voided_so : (instance : ℕ) (b : Books) (c : Currency) (f : Facts) (calls : List Opened) (pending : List Notice) (amounts : List Amount) → calls ≡ map (λ call. call.opened) f.calls
    → pending ≡ f.pending → amounts ≡ filter_map (amount_voided instance b pending c) calls → amounts ≡ voided_gap (call_uuid instance) f b c
voided_so instance b c f calls pending amounts told waits made =
    made
    ∙ ap (λ (ns : List Notice). filter_map (amount_voided instance b ns c) calls) waits
    ∙ ap (filter_map (amount_voided instance b f.pending c)) told
    ∙ voided_listed instance b c f

pub noted_so : (b : Books) (c : Currency) (f : Facts) (pending : List Notice) (amounts : List Amount) → pending ≡ f.pending → amounts ≡ filter_map (amount_noted b c) pending
    → amounts ≡ noted_gap f b c
noted_so b c f pending amounts waits made = made ∙ ap (filter_map (amount_noted b c)) waits

-- calls by number ----

-- what is told of the number after these many calls
pub told_next : (calls : List CallNow) (n : ℕ) → CallsNumberedFrom 1 calls → option_map (λ (c : CallNow). c.opened) (call_numbered (n + 1) calls) ≡ slice_get (map (λ (c : CallNow). c.opened) calls) n
told_next calls n h =
    ap (λ (k : ℕ). option_map (λ (c : CallNow). c.opened) (call_numbered k calls)) (turned n)
    ∙ ap (option_map (λ (c : CallNow). c.opened)) (at_its_number 1 n calls h)
    ∙ sym (slice_get-map (λ (c : CallNow). c.opened) calls n)
  where
    turned : (n : ℕ) → n + 1 ≡ 1 + n
    turned n = omega arith

pub within_calls : (calls : List CallNow) (n : ℕ) (o : Opened) → CallsNumberedFrom 1 calls → option_map (λ (c : CallNow). c.opened) (call_numbered (n + 1) calls) ≡ Some o → n < length calls
within_calls calls n o h e =
    subst (λ (m : ℕ). n < m) (length-map calls (λ (c : CallNow). c.opened))
    (slice_get_within (map (λ (c : CallNow). c.opened) calls) n o (sym (told_next calls n h) ∙ e))

pub more_taken : (calls : List CallNow) (n : ℕ) (o : Opened) (taken later : List Opened) → CallsNumberedFrom 1 calls → option_map (λ (c : CallNow). c.opened) (call_numbered (n + 1) calls) ≡ Some o
    → taken ≡ take n (map (λ (c : CallNow). c.opened) calls) → later ≡ taken ++ o ∷ [] → later ≡ take (n + 1) (map (λ (c : CallNow). c.opened) calls)
more_taken calls n o taken later h e before pushed =
    let opened : List Opened = map (λ (c : CallNow). c.opened) calls in
    let here : slice_get opened n ≡ Some o = sym (told_next calls n h) ∙ e in
    pushed
    ∙ ap (λ (xs : List Opened). xs ++ o ∷ []) before
    ∙ ap (λ (x : Opened). take n opened ++ x ∷ []) (sym (get_or_from_slice_get opened n o o here))
    ∙ sym (take_more opened n o (slice_get_within opened n o here))

none_left : {A : Type 0} (xs : List A) (n : ℕ) → slice_get xs n ≡ None → take n xs ≡ xs
none_left [] zero e = refl
none_left [] (suc n) e = refl
none_left (x ∷ xs) zero e = cc
none_left {A} (x ∷ xs) (suc n) e = ap (λ (ys : List A). x ∷ ys) (none_left xs n e)

pub all_taken : (calls : List CallNow) (n : ℕ) (taken : List Opened) → CallsNumberedFrom 1 calls → option_map (λ (c : CallNow). c.opened) (call_numbered (n + 1) calls) ≡ None
    → taken ≡ take n (map (λ (c : CallNow). c.opened) calls) → taken ≡ map (λ (c : CallNow). c.opened) calls
all_taken calls n taken h e before = before ∙ none_left (map (λ (c : CallNow). c.opened) calls) n (sym (told_next calls n h) ∙ e)
