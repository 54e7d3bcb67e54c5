-- What openings and closings do to what asked calls come to, each by its worth.
use Rattle.std.proofs.Common.{◌≡◌, ◌∙◌, ◌++◌, ◌+◌, ◌∷◌, ◌&&◌, ◌≤◌, ℕ, ap, ap₂, arith, Bool, cond, false, List, [], map, nat_eq, refl, subst, true}
use Rattle.std.specs.Prelude.{Option, Some, None, option_map, unwrap_or}
use Rattle.iss_model.specs.declared.call.How.{How}
use Rattle.iss_model.specs.declared.call.Opened.{Opened}
use Rattle.iss_model.specs.declared.entry.Entry.{Entry}
use Rattle.iss_model.specs.declared.entry.Entry.TheVariants as entry
use Rattle.iss_model.specs.rules.Activity.{CallNow, call_numbered, is_asked}
use Rattle.iss_model.specs.state.Cores.{CoreState, after_entry, call_after_close}
use Rattle.iss_state.proofs.docket.Closing.{call_closed, same_opened}
use Rattle.iss_state.proofs.docket.Lists.{inside}
use Rattle.iss_state.proofs.effects.Effects.{setting_calls}
use Rattle.iss_state.proofs.effects.Finds.{number-sym}
use Rattle.iss_bounded.specs.Bounds.{asked_worth}

module _ (worth : Opened → ℕ) where
  -- what one call comes to
  abbrev its_worth : CallNow → ℕ
  its_worth x = cond (is_asked x) (worth x.opened) 0

  -- a call that is opened
  pub worth_with_opened : (calls : List CallNow) (o : Opened) → asked_worth worth (calls ++ record { opened = o; how = None } ∷ []) ≡ asked_worth worth calls + worth o
  worth_with_opened [] o = omega arith
  worth_with_opened (c ∷ cs) o = omega (arith, worth_with_opened cs o)

  worth_lower : (n : ℕ) (how : How) (c : CallNow) → its_worth (call_after_close n how c) ≤ its_worth c
  worth_lower n how c = by (nat_eq n c.opened.call.0 && is_asked c)
    where
      by : (b : Bool) → its_worth (cond b (record c { how = Some how }) c) ≤ its_worth c
      by true = omega arith
      by false = omega arith

  all_lower : (n : ℕ) (how : How) (calls : List CallNow) → asked_worth worth (map (call_after_close n how) calls) ≤ asked_worth worth calls
  all_lower n how [] = omega arith
  all_lower n how (c ∷ cs) = omega (arith, worth_lower n how c, all_lower n how cs)

  worth_gone : (n : ℕ) (how : How) (c : CallNow) → nat_eq c.opened.call.0 n ≡ true → is_asked c ≡ true → its_worth (call_after_close n how c) + worth c.opened ≤ its_worth c
  worth_gone n how c e a =
      let both : (nat_eq n c.opened.call.0 && is_asked c) ≡ true = ap₂ (λ (a b : Bool). a && b) (number-sym n c.opened.call.0 ∙ e) a in
      let now : its_worth (call_after_close n how c) ≡ 0 = ap (λ (b : Bool). its_worth (cond b (record c { how = Some how }) c)) both in
      let then : its_worth c ≡ worth c.opened = ap (λ (b : Bool). cond b (worth c.opened) 0) a in
      omega (arith, now, then)

  -- an asked call that is closed
  pub worth_after_close : (n : ℕ) (how : How) (calls : List CallNow) (c : CallNow) → call_numbered n calls ≡ Some c → is_asked c ≡ true
      → asked_worth worth (map (call_after_close n how) calls) + worth c.opened ≤ asked_worth worth calls
  worth_after_close n how [] c e a = cc
  worth_after_close n how (d ∷ ds) c e a = by (nat_eq d.opened.call.0 n) refl e (λ later. worth_after_close n how ds c later a)
    where
      by : (b : Bool) → nat_eq d.opened.call.0 n ≡ b → cond b (Some d) (call_numbered n ds) ≡ Some c
          → (call_numbered n ds ≡ Some c → asked_worth worth (map (call_after_close n how) ds) + worth c.opened ≤ asked_worth worth ds)
          → asked_worth worth (map (call_after_close n how) (d ∷ ds)) + worth c.opened ≤ asked_worth worth (d ∷ ds)
      by true e found later =
          let same : d ≡ c = inside found in
          let gone : its_worth (call_after_close n how d) + worth c.opened ≤ its_worth d =
          subst (λ (x : CallNow). its_worth (call_after_close n how d) + worth x.opened ≤ its_worth d) same
          (worth_gone n how d e (ap is_asked same ∙ a)) in
          omega (arith, gone, all_lower n how ds)
      by false e found later = omega (arith, later found, worth_lower n how d)

  -- the worth of the call of a number
  abbrev pub worth_at : List CallNow → ℕ → ℕ
  worth_at calls n = unwrap_or (option_map (λ (c : CallNow). worth c.opened) (call_numbered n calls)) 0

  -- a price by number is that of each call which stands
  pub record Knows (price : ℕ → ℕ) (s : CoreState) : Type 0 where
    pub its : (n : ℕ) (c : CallNow) → call_numbered n s.calls ≡ Some c → price n ≡ worth c.opened

  pub knows_own : (s : CoreState) → Knows (worth_at s.calls) s
  knows_own s = record { its = λ n c e. ap (λ (o : Option CallNow). unwrap_or (option_map (λ (c : CallNow). worth c.opened) o) 0) e }

  found_before : (n : ℕ) (xs ys : List CallNow) (c : CallNow) → call_numbered n xs ≡ Some c → call_numbered n (xs ++ ys) ≡ Some c
  found_before n [] ys c e = cc
  found_before n (x ∷ xs) ys c e = by (nat_eq x.opened.call.0 n) e (λ f. found_before n xs ys c f)
    where
      by : (b : Bool) → cond b (Some x) (call_numbered n xs) ≡ Some c → (call_numbered n xs ≡ Some c → call_numbered n (xs ++ ys) ≡ Some c) → cond b (Some x) (call_numbered n (xs ++ ys)) ≡ Some c
      by true e rest = e
      by false e rest = rest e

  -- what is known after an entry was known before it
  pub knew : (price : ℕ → ℕ) (s : CoreState) (e : Entry) → Knows price (after_entry s e) → Knows price s
  knew price s (entry.Conf i) h = record { its = λ n c e. h.its n c (ap (call_numbered n) (setting_calls s i) ∙ e) }
  knew price s (entry.Opened o) h = record { its = λ n c e. h.its n c (found_before n s.calls (record { opened = o; how = None } ∷ []) c e) }
  knew price s (entry.Closed call how) h =
      record { its = λ n c e. h.its n (call_after_close call.0 how c) (call_closed n call.0 how s.calls ∙ ap (option_map (call_after_close call.0 how)) e) ∙ ap worth (same_opened call.0 how c) }
  knew price s _ h = record { its = h.its }
