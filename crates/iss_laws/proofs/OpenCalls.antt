-- What is open of counted use: what counted transactions hold, and what is asked for them.
use Rattle.std.proofs.Common.{◌≡◌, ℕ, ℤ, pos, ◌+◌, ◌≤◌, Bool, true, false, cond, ◌&&◌, ◌||◌, nat_eq, List, [], ◌∷◌, ◌++◌, map, refl, sym, ap, ap₂, subst, ◌∙◌, arith}
use Rattle.std.specs.Prelude.{Option, Some, None, is_some, option_map}
use Rattle.std.specs.Option.{option_or}
use Rattle.std.specs.Str.{bytes_eq}
use Rattle.iss_model.specs.declared.account.Part.{Part}
use Rattle.iss_model.specs.declared.account.Part.TheVariants as part
use Rattle.iss_model.specs.declared.call.How.{How}
use Rattle.iss_model.specs.declared.call.Opened.{Opened}
use Rattle.iss_model.specs.declared.entry.Entry.{Entry}
use Rattle.iss_model.specs.declared.entry.Entry.TheVariants as entry
use Rattle.iss_model.specs.declared.txn.Txn.{Txn}
use Rattle.iss_model.specs.Sums.{Change, changed_at, part_key}
use Rattle.iss_model.specs.rules.Activity.{TxnNow, CallNow, call_numbered, is_asked, txn_named}
use Rattle.iss_model.specs.rules.Asks.{Ask, is_authorization, usage_of}
use Rattle.iss_model.specs.rules.Facts.{not_below}
use Rattle.iss_model.specs.rules.Reasons.{is_some_with}
use Rattle.iss_model.specs.state.Cores.{CoreState, begun_part_changes, call_after_close, txn_after_end}
use Rattle.iss_model.specs.state.Kept.{Kept, after_changes}
use Rattle.iss_model.proofs.Names.{name-sym}
use Rattle.iss_state.specs.Stakes.{whole_held}
use Rattle.iss_state.proofs.effects.Finds.{number-sym}
use Rattle.iss_state.proofs.effects.Parts.{change_of, whole_same}
use Rattle.iss_state.specs.Well.{HaveOwnTokens}
use Rattle.iss_state.proofs.docket.Entering.{same_txn, txn_more}
use Rattle.iss_state.proofs.docket.Lists.{Each, inside}
use Rattle.iss_state.specs.Holdings.{HoldsNothing}
use Rattle.iss_state.proofs.held.Changes.{begun_sum, txn_ended}
use Rattle.iss_agreement.specs.Laws.{sum_among}

-- how use is counted at a key ----

-- The changes that entries make at a key, the test of which of a transaction's stamps count there, and whether amounts or times are counted.
pub record Counting : Type 0 where
  pub changes : Entry → List Change
  pub key : List ℕ
  pub counts_at : Txn → ℕ → Bool
  pub by_amount : Bool

-- an entry counts use
abbrev pub is_usage : Entry → Bool
is_usage (entry.Usage row) = true
is_usage _ = false

-- use of a transaction changes the sum if its stamp counts, and nothing else does
pub record IsCounting (k : Counting) : Type 0 where
  pub use_ : (t : Txn) (amount count : ℤ) (at : ℕ) → changed_at k.key (k.changes (entry.Usage (usage_of t amount count at))) ≡ cond (k.counts_at t at) (cond k.by_amount amount count) (pos 0)
  pub others : (e : Entry) → is_usage e ≡ false → changed_at k.key (k.changes e) ≡ pos 0

-- what entries change of the sum
abbrev pub used : Counting → List Entry → ℤ
used k es = sum_among k.changes k.key es

-- what a call opens, and what an ask asks: its amount, or the one time that an authorisation counts
abbrev pub weight : Counting → Opened → ℕ
weight k o = cond k.by_amount o.amount (cond (is_authorization o.method) 1 0)

abbrev pub ask_weight : Counting → Ask → ℕ
ask_weight k ask = cond k.by_amount ask.amount (cond ask.is_first 1 0)

-- what a transaction holds counts if its own stamp does, and amounts are counted
abbrev pub holds_there : Counting → Txn → Bool
holds_there k t = k.by_amount && k.counts_at t t.at

-- what is asked at a stamp counts if the stamp or the transaction's own does
abbrev pub reaches : Counting → Txn → ℕ → Bool
reaches k t at = k.counts_at t at || k.counts_at t t.at

-- what an ask may open
abbrev pub opens : Counting → Ask → ℕ
opens k ask = cond (reaches k ask.txn ask.at) (ask_weight k ask) 0

-- what is open ----

abbrev pub held_open : Counting → Kept → List TxnNow → ℕ
held_open k parts [] = 0
held_open k parts (t ∷ ts) = cond (holds_there k t.txn) (whole_held parts t.txn.token) 0 + held_open k parts ts

abbrev pub call_reaches : Counting → List TxnNow → CallNow → Bool
call_reaches k txns c = is_some_with (λ t. reaches k t.txn c.opened.at) (txn_named c.opened.txn txns)

abbrev pub call_open : Counting → List TxnNow → CallNow → ℕ
call_open k txns c = cond (is_asked c && call_reaches k txns c) (weight k c.opened) 0

abbrev pub calls_open : Counting → List TxnNow → List CallNow → ℕ
calls_open k txns [] = 0
calls_open k txns (c ∷ cs) = call_open k txns c + calls_open k txns cs

abbrev pub open_use : Counting → CoreState → ℕ
open_use k s = held_open k s.holdings.parts s.holdings.txns + calls_open k s.holdings.txns s.calls

-- a transaction stands among those, which have tokens of their own
pub record Knows (txns : List TxnNow) (t : Txn) : Type 0 where
  pub own : HaveOwnTokens txns
  pub now : TxnNow
  pub stands : txn_named t.token txns ≡ Some now
  pub its : now.txn ≡ t

-- a hold ----

same_or_zero : (b : Bool) (n m : ℕ) → n ≡ m → cond b n 0 ≡ cond b m 0
same_or_zero true n m e = e
same_or_zero false n m e = refl

pub head_none : (b : Bool) (t : TxnNow) (o : Option TxnNow) → cond b (Some t) o ≡ None → (b ≡ false) × (o ≡ None)
head_none true t o h = cc
head_none false t o h = (refl, h)

-- a hold of a token that isn't there
held_other : (k : Counting) (parts : Kept) (token : List ℕ) (p : Part) (x : ℤ) (txns : List TxnNow) → txn_named token txns ≡ None
    → held_open k (after_changes parts (change_of (part_key token p) x)) txns ≡ held_open k parts txns
held_other k parts token p x [] e = refl
held_other k parts token p x (t ∷ ts) e =
    let both = head_none (bytes_eq t.txn.token token) t (txn_named token ts) e in
    ap₂ (λ (m n : ℕ). m + n)
    (same_or_zero (holds_there k t.txn) (whole_held (after_changes parts (change_of (part_key token p) x)) t.txn.token) (whole_held parts t.txn.token)
    (whole_same parts token p x t.txn.token (name-sym token t.txn.token ∙ both.0)))
    (held_other k parts token p x ts both.1)

-- what a transaction holds, as far as it counts
abbrev pub its_open : Counting → Kept → Txn → ℕ
its_open k parts t = cond (holds_there k t) (whole_held parts t.token) 0

-- a hold of a transaction moves what is open by what it moves of its own
pub held_moves : (k : Counting) (parts : Kept) (t : Txn) (p : Part) (x : ℤ) (now : TxnNow) → now.txn ≡ t → (txns : List TxnNow) → HaveOwnTokens txns → txn_named t.token txns ≡ Some now
    → held_open k (after_changes parts (change_of (part_key t.token p) x)) txns + its_open k parts t ≡ held_open k parts txns + its_open k (after_changes parts (change_of (part_key t.token p) x)) t
held_moves k parts t p x now its [] own e = cc
held_moves k parts t p x now its (y ∷ ys) own e = by (bytes_eq y.txn.token t.token) refl e (λ later. held_moves k parts t p x now its ys own.1 later)
  where
    after : Kept
    after = after_changes parts (change_of (part_key t.token p) x)

    further : (a b m n u v : ℕ) → a ≡ b → m + v ≡ n + u → (a + m) + v ≡ (b + n) + u
    further a b m n u v e h = omega (arith, e, h)

    by : (b : Bool) → bytes_eq y.txn.token t.token ≡ b → cond b (Some y) (txn_named t.token ys) ≡ Some now
        → (txn_named t.token ys ≡ Some now → held_open k after ys + its_open k parts t ≡ held_open k parts ys + its_open k after t)
        → held_open k after (y ∷ ys) + its_open k parts t ≡ held_open k parts (y ∷ ys) + its_open k after t
    by true e found later =
        let same : y.txn ≡ t = ap (λ (n : TxnNow). n.txn) (inside found) ∙ its in
        omega (arith, ap (its_open k after) same, ap (its_open k parts) same, held_other k parts t.token p x ys (ap (λ (x : Txn). txn_named x.token ys) (sym same) ∙ own.0))
    by false e found later =
        further (its_open k after y.txn) (its_open k parts y.txn) (held_open k after ys) (held_open k parts ys) (its_open k after t) (its_open k parts t)
        (same_or_zero (holds_there k y.txn) (whole_held after y.txn.token) (whole_held parts y.txn.token) (whole_same parts t.token p x y.txn.token (name-sym t.token y.txn.token ∙ e))) (later found)

-- a call is closed ----

call_lower : (k : Counting) (txns : List TxnNow) (n : ℕ) (how : How) (c : CallNow) → call_open k txns (call_after_close n how c) ≤ call_open k txns c
call_lower k txns n how c = by (nat_eq n c.opened.call.0 && is_asked c)
  where
    by : (b : Bool) → call_open k txns (cond b (record c { how = Some how }) c) ≤ call_open k txns c
    by true = omega arith
    by false = omega arith

pub calls_lower : (k : Counting) (txns : List TxnNow) (n : ℕ) (how : How) (calls : List CallNow) → calls_open k txns (map (call_after_close n how) calls) ≤ calls_open k txns calls
calls_lower k txns n how [] = omega arith
calls_lower k txns n how (c ∷ cs) = omega (arith, call_lower k txns n how c, calls_lower k txns n how cs)

call_gone : (k : Counting) (txns : List TxnNow) (n : ℕ) (how : How) (c : CallNow) → nat_eq c.opened.call.0 n ≡ true → is_asked c ≡ true → call_open k txns (call_after_close n how c) ≡ 0
call_gone k txns n how c e a = ap (λ (b : Bool). call_open k txns (cond b (record c { how = Some how }) c)) (ap₂ (λ (x y : Bool). x && y) (number-sym n c.opened.call.0 ∙ e) a)

pub calls_less : (k : Counting) (txns : List TxnNow) (n : ℕ) (how : How) (calls : List CallNow) (c : CallNow) → call_numbered n calls ≡ Some c → is_asked c ≡ true
    → calls_open k txns (map (call_after_close n how) calls) + call_open k txns c ≤ calls_open k txns calls
calls_less k txns n how [] c e a = cc
calls_less k txns n how (d ∷ ds) c e a = by (nat_eq d.opened.call.0 n) refl e (λ later. calls_less k txns n how ds c later a)
  where
    further : (x y z w u : ℕ) → x + w ≤ y → z ≤ u → (z + x) + w ≤ u + y
    further x y z w u h l = omega (arith, h, l)

    by : (b : Bool) → nat_eq d.opened.call.0 n ≡ b → cond b (Some d) (call_numbered n ds) ≡ Some c
        → (call_numbered n ds ≡ Some c → calls_open k txns (map (call_after_close n how) ds) + call_open k txns c ≤ calls_open k txns ds)
        → calls_open k txns (map (call_after_close n how) (d ∷ ds)) + call_open k txns c ≤ calls_open k txns (d ∷ ds)
    by true e found later =
        let one : d ≡ c = cc in
        subst (λ (x : CallNow). calls_open k txns (map (call_after_close n how) (d ∷ ds)) + call_open k txns x ≤ calls_open k txns (d ∷ ds)) one
        (omega (arith, call_gone k txns n how d e (ap is_asked one ∙ a), calls_lower k txns n how ds))
    by false e found later =
        further (calls_open k txns (map (call_after_close n how) ds)) (calls_open k txns ds) (call_open k txns (call_after_close n how d)) (call_open k txns c) (call_open k txns d) (later found) (call_lower k txns n how d)

-- a call is opened ----

pub calls_more : (k : Counting) (txns : List TxnNow) (calls : List CallNow) (c : CallNow) → calls_open k txns (calls ++ c ∷ []) ≡ calls_open k txns calls + call_open k txns c
calls_more k txns [] c = omega arith
calls_more k txns (d ∷ ds) c = ap (λ (n : ℕ). call_open k txns d + n) (calls_more k txns ds c) ∙ add (call_open k txns d) (calls_open k txns ds) (call_open k txns c)
  where
    add : (a b c : ℕ) → a + (b + c) ≡ a + b + c
    add a b c = omega arith

-- a transaction begins ----

begun_whole : (parts : Kept) (t : Txn) (token : List ℕ) → whole_held (after_changes parts (begun_part_changes t)) token ≡ whole_held parts token
begun_whole parts t token =
    λ i. not_below (begun_sum parts t (part_key token part.G) i) + not_below (begun_sum parts t (part_key token part.P) i) + not_below (begun_sum parts t (part_key token part.S) i)

nothing_whole : (parts : Kept) (token : List ℕ) → HoldsNothing parts token → whole_held parts token ≡ 0
nothing_whole parts token nothing = λ i. not_below (nothing part.G i) + not_below (nothing part.P i) + not_below (nothing part.S i)

pub zero_either : (b : Bool) (n : ℕ) → n ≡ 0 → cond b n 0 ≡ 0
zero_either true n e = e
zero_either false n e = refl

pub held_begun : (k : Counting) (parts : Kept) (txns : List TxnNow) (t : Txn) (live : Bool) → HoldsNothing parts t.token
    → held_open k (after_changes parts (begun_part_changes t)) (txns ++ record { txn = t; live = live } ∷ []) ≡ held_open k parts txns
held_begun k parts [] t live nothing = ap (λ (n : ℕ). n + 0) (zero_either (holds_there k t) (whole_held (after_changes parts (begun_part_changes t)) t.token) (begun_whole parts t t.token ∙ nothing_whole parts t.token nothing))
held_begun k parts (x ∷ xs) t live nothing =
    ap₂ (λ (m n : ℕ). m + n) (same_or_zero (holds_there k x.txn) (whole_held (after_changes parts (begun_part_changes t)) x.txn.token) (whole_held parts x.txn.token) (begun_whole parts t x.txn.token)) (held_begun k parts xs t live nothing)

-- an asked call's transaction is among these
abbrev pub IsOfThese : List TxnNow → CallNow → Type 0
IsOfThese txns c = is_asked c ≡ true → is_some (txn_named c.opened.txn txns) ≡ true

found_more : (test : TxnNow → Bool) (o more : Option TxnNow) → is_some o ≡ true → is_some_with test (option_or o more) ≡ is_some_with test o
found_more test None more h = cc
found_more test (Some t) more h = refl

call_begun : (k : Counting) (txns : List TxnNow) (x : TxnNow) (c : CallNow) → IsOfThese txns c → call_open k (txns ++ x ∷ []) c ≡ call_open k txns c
call_begun k txns x c its = by (is_asked c) refl
  where
    by : (b : Bool) → is_asked c ≡ b → cond (b && call_reaches k (txns ++ x ∷ []) c) (weight k c.opened) 0 ≡ cond (b && call_reaches k txns c) (weight k c.opened) 0
    by true e =
        ap (λ (b : Bool). cond b (weight k c.opened) 0)
        (ap (is_some_with (λ (t : TxnNow). reaches k t.txn c.opened.at)) (txn_more c.opened.txn txns x)
        ∙ found_more (λ (t : TxnNow). reaches k t.txn c.opened.at) (txn_named c.opened.txn txns) (cond (bytes_eq x.txn.token c.opened.txn) (Some x) None) (its e))
    by false e = refl

pub calls_begun : (k : Counting) (txns : List TxnNow) (x : TxnNow) (calls : List CallNow) → Each (IsOfThese txns) calls → calls_open k (txns ++ x ∷ []) calls ≡ calls_open k txns calls
calls_begun k txns x [] its = refl
calls_begun k txns x (c ∷ cs) its = ap₂ (λ (m n : ℕ). m + n) (call_begun k txns x c its.0) (calls_begun k txns x cs its.1)

-- a transaction ends ----

pub held_ended : (k : Counting) (parts : Kept) (token : List ℕ) (txns : List TxnNow) → held_open k parts (map (txn_after_end token) txns) ≡ held_open k parts txns
held_ended k parts token [] = refl
held_ended k parts token (t ∷ ts) = ap₂ (λ (x : Txn) (n : ℕ). cond (holds_there k x) (whole_held parts x.token) 0 + n) (same_txn token t) (held_ended k parts token ts)

reach_ended : (k : Counting) (token : List ℕ) (at : ℕ) (o : Option TxnNow) → is_some_with (λ t. reaches k t.txn at) (option_map (txn_after_end token) o) ≡ is_some_with (λ t. reaches k t.txn at) o
reach_ended k token at None = refl
reach_ended k token at (Some t) = ap (λ (x : Txn). reaches k x at) (same_txn token t)

pub calls_ended : (k : Counting) (token : List ℕ) (txns : List TxnNow) (calls : List CallNow) → calls_open k (map (txn_after_end token) txns) calls ≡ calls_open k txns calls
calls_ended k token txns [] = refl
calls_ended k token txns (c ∷ cs) =
    ap₂ (λ (b : Bool) (n : ℕ). cond (is_asked c && b) (weight k c.opened) 0 + n)
    (ap (is_some_with (λ (t : TxnNow). reaches k t.txn c.opened.at)) (txn_ended token c.opened.txn txns) ∙ reach_ended k token c.opened.at (txn_named c.opened.txn txns)) (calls_ended k token txns cs)
