-- What is listed of the expiries that have come.
use Rattle.std.proofs.Common.{◌≡◌, ℕ, zero, suc, nat_le, ◌<◌, ◌≤◌, ◌+◌, Bool, true, false, cond, ◌||◌, List, [], ◌∷◌, ◌++◌, map, fold, filter, length, get_or, not, refl, sym, ap, ◌∙◌, subst, arith}
use Rattle.std.proofs.lemmas.Bool.Decides.{nat_tests}
use Rattle.std.proofs.lemmas.Option.{slice_get_within, slice_get-get_or}
use Rattle.std.specs.Prelude.{Option, Some, None, IsSome, option_to_list, slice_get}
use Rattle.std.specs.Option.{option_map}
use Rattle.std.specs.List.{AllByRecursion, list_any}
use Rattle.std.specs.List.Sorted.{IsStrictlySortedBy}
use Rattle.std.specs.declared.cmp.Ordering.TheVariants.{Less}
use Rattle.iss_model.specs.rules.Due.{is_quiet}
use Rattle.iss_hold.specs.declared.hold.Hold.{Hold}
use Rattle.iss_hold.specs.Holdings.{holdings_of}
use Rattle.iss_hold.specs.Expiries.{Expiry, expiry_of, live_ones, with_expiry, expiries, has_come, come_of, holds_come, txns_due}
use Rattle.iss_hold.specs.Indexes.{by_expiry, with_name, with_token, key_of, put_expiry, AreQueued, BeginsLive, ComesLast}
use Rattle.iss_hold.proofs.Endings.{by_expiry_total}
use Rattle.iss_hold.proofs.ExpiryOrder.{first_has, first_due, first_fold}
use Rattle.iss_hold.proofs.Placed.{none_any}

-- ---- of the tree

-- what was listed, with those that have come of what is left, is all that is to be listed
pub record AreListed (ns : List (List ℕ)) (now : ℕ) (left : List ((ℕ × ℕ) × ℕ)) (listed : List Expiry) (all : List Expiry) : Type 0 where
  pub rest : List Expiry
  pub named : map (with_name ns) left ≡ map with_token rest
  pub whole : fold put_expiry listed (come_of now rest) ≡ all

place_by : (ns : List (List ℕ)) (k : ℕ × ℕ) (place : ℕ) (left : List ((ℕ × ℕ) × ℕ)) (rest : List Expiry) → map (with_name ns) ((k, place) ∷ left) ≡ map with_token rest → place < length ns
place_by ns k place left [] h = cc
place_by ns k place left (x ∷ xs) h =
    let first : with_name ns (k, place) ≡ with_token x = cc in
    let name : slice_get ns place ≡ Some x.1 = ap (λ (p : (ℕ × ℕ) × Option (List ℕ)). p.1) first in
    slice_get_within ns place x.1 name

-- each place of the tree is one of the list's
pub its_place : (ns : List (List ℕ)) (now : ℕ) (k : ℕ × ℕ) (place : ℕ) (left : List ((ℕ × ℕ) × ℕ)) (listed all : List Expiry) → AreListed ns now ((k, place) ∷ left) listed all → place < length ns
its_place ns now k place left listed all a = place_by ns k place left a.rest a.named

more_by : (ns : List (List ℕ)) (now : ℕ) (k : ℕ × ℕ) (place : ℕ) (left : List ((ℕ × ℕ) × ℕ)) (listed all : List Expiry) (token : List ℕ) (rest : List Expiry)
    → map (with_name ns) ((k, place) ∷ left) ≡ map with_token rest → fold put_expiry listed (come_of now rest) ≡ all
    → nat_le k.0 now ≡ true → slice_get ns place ≡ Some token → AreListed ns now left (put_expiry listed (k, token)) all
more_by ns now k place left listed all token [] h whole come there = cc
more_by ns now k place left listed all token (x ∷ xs) h whole come there =
    let first : with_name ns (k, place) ≡ with_token x = cc in
    let key : k ≡ x.0 = ap (λ (p : (ℕ × ℕ) × Option (List ℕ)). p.0) first in
    let name : slice_get ns place ≡ Some x.1 = ap (λ (p : (ℕ × ℕ) × Option (List ℕ)). p.1) first in
    let rest : map (with_name ns) left ≡ map with_token xs = cc in
    let same : Some token ≡ Some x.1 = sym there ∙ name in
    let one : token ≡ x.1 = cc in
    let has : nat_le x.0.0 now ≡ true = ap (λ (q : ℕ × ℕ). nat_le q.0 now) (sym key) ∙ come in
    record {
      rest = xs;
      named = rest;
      whole =
          (λ j. fold put_expiry (put_expiry listed (key j, one j)) (come_of now xs))
          ∙ ap (λ (b : Bool). fold put_expiry listed (cond b (x ∷ come_of now xs) [])) (sym has)
          ∙ whole;
    }

at_most : (a b : ℕ) → a ≤ b → nat_le a b ≡ true
at_most a b h = grind (arith, nat_tests)

above : (a b : ℕ) → b < a → nat_le a b ≡ false
above a b h = grind (arith, nat_tests)

-- an expiry that has come is listed
pub listed_more : {ns : List (List ℕ)} {now : ℕ} {k : ℕ × ℕ} {place : ℕ} {left : List ((ℕ × ℕ) × ℕ)} {listed all : List Expiry} {token : List ℕ}
    → AreListed ns now ((k, place) ∷ left) listed all → k.0 ≤ now → slice_get ns place ≡ Some token → AreListed ns now left (put_expiry listed (k, token)) all
listed_more {ns} {now} {k} {place} {left} {listed} {all} {token} a come there = more_by ns now k place left listed all token a.rest a.named a.whole (at_most k.0 now come) there

last_by : (ns : List (List ℕ)) (now : ℕ) (k : ℕ × ℕ) (place : ℕ) (left : List ((ℕ × ℕ) × ℕ)) (listed all rest : List Expiry)
    → map (with_name ns) ((k, place) ∷ left) ≡ map with_token rest → fold put_expiry listed (come_of now rest) ≡ all → nat_le k.0 now ≡ false → listed ≡ all
last_by ns now k place left listed all [] h whole come = cc
last_by ns now k place left listed all (x ∷ xs) h whole come =
    let first : with_name ns (k, place) ≡ with_token x = cc in
    let key : k ≡ x.0 = ap (λ (p : (ℕ × ℕ) × Option (List ℕ)). p.0) first in
    let has : nat_le x.0.0 now ≡ false = ap (λ (q : ℕ × ℕ). nat_le q.0 now) (sym key) ∙ come in
    ap (λ (b : Bool). fold put_expiry listed (cond b (x ∷ come_of now xs) [])) (sym has) ∙ whole

-- if one hasn't come, all is listed
pub listed_before : {ns : List (List ℕ)} {now : ℕ} {k : ℕ × ℕ} {place : ℕ} {left : List ((ℕ × ℕ) × ℕ)} {listed all : List Expiry}
    → AreListed ns now ((k, place) ∷ left) listed all → now < k.0 → listed ≡ all
listed_before {ns} {now} {k} {place} {left} {listed} {all} a come = last_by ns now k place left listed all a.rest a.named a.whole (above k.0 now come)

end_by : (ns : List (List ℕ)) (now : ℕ) (listed all rest : List Expiry) → map (with_name ns) [] ≡ map with_token rest → fold put_expiry listed (come_of now rest) ≡ all → listed ≡ all
end_by ns now listed all [] h whole = whole
end_by ns now listed all (x ∷ xs) h whole = cc

-- if no expiry is left, all is listed too
pub listed_all : {ns : List (List ℕ)} {now : ℕ} {listed all : List Expiry} → AreListed ns now [] listed all → listed ≡ all
listed_all {ns} {now} {listed} {all} a = end_by ns now listed all a.rest a.named a.whole

-- whether the tree's first has come
pub first_named : (now : ℕ) (ns : List (List ℕ)) (es : List ((ℕ × ℕ) × ℕ)) (xs : List Expiry) (k : ℕ × ℕ) (place : ℕ) → map (with_name ns) es ≡ map with_token xs → slice_get es 0 ≡ Some (k, place)
    → nat_le k.0 now ≡ first_has now xs
first_named now ns [] xs k place h f = cc
first_named now ns (e ∷ es) [] k place h f = cc
first_named now ns (e ∷ es) (x ∷ xs) k place h f =
    let first : with_name ns e ≡ with_token x = cc in
    let one : e ≡ (k, place) = cc in
    ap (λ (q : ℕ × ℕ). nat_le q.0 now) (sym (ap (λ (p : (ℕ × ℕ) × ℕ). p.0) one) ∙ ap (λ (p : (ℕ × ℕ) × Option (List ℕ)). p.0) first)

pub none_named : (now : ℕ) (ns : List (List ℕ)) (es : List ((ℕ × ℕ) × ℕ)) (xs : List Expiry) → map (with_name ns) es ≡ map with_token xs → (0 < length es → ⊥) → false ≡ first_has now xs
none_named now ns [] [] h n = refl
none_named now ns [] (x ∷ xs) h n = cc
none_named now ns (e ∷ es) xs h n = absurd (n (omega arith))

-- ---- of the queue

-- what was listed, with the live ones that have come of what is left, is all that is to be listed
pub record AreTaken (hs : List Hold) (now : ℕ) (left : List ℕ) (listed : List Expiry) (all : List Expiry) : Type 0 where
  pub rest : List Hold
  pub there : map (λ p. slice_get hs p) left ≡ map (λ k. Some k) rest
  pub whole : fold put_expiry listed (live_ones (holds_come now rest)) ≡ all

queue_place : (hs : List Hold) (p : ℕ) (left : List ℕ) (rest : List Hold) → map (λ q. slice_get hs q) (p ∷ left) ≡ map (λ k. Some k) rest → p < length hs
queue_place hs p left [] e = cc
queue_place hs p left (k ∷ rest) e = let first : slice_get hs p ≡ Some k = cc in slice_get_within hs p k first

pub taken_place : {hs : List Hold} {now p : ℕ} {left : List ℕ} {listed all : List Expiry} → AreTaken hs now (p ∷ left) listed all → p < length hs
taken_place {hs} {now} {p} {left} {listed} {all} a = queue_place hs p left a.rest a.there

taken_by : (hs : List Hold) (now p : ℕ) (left : List ℕ) (listed all : List Expiry) (h : Hold) (rest : List Hold) → map (λ q. slice_get hs q) (p ∷ left) ≡ map (λ k. Some k) rest
    → fold put_expiry listed (live_ones (holds_come now rest)) ≡ all → slice_get hs p ≡ Some h → nat_le h.txn.expires now ≡ true
    → AreTaken hs now left (cond h.live (put_expiry listed (expiry_of h)) listed) all
taken_by hs now p left listed all h [] e whole at come = cc
taken_by hs now p left listed all h (k ∷ ks) e whole at come =
    let first : slice_get hs p ≡ Some k = cc in
    let same : h ≡ k = cc in
    let has : nat_le k.txn.expires now ≡ true = subst (λ (x : Hold). nat_le x.txn.expires now ≡ true) same come in
    record {
      rest = ks;
      there = (cc);
      whole =
          ap (λ (x : Hold). fold put_expiry (cond x.live (put_expiry listed (expiry_of x)) listed) (live_ones (holds_come now ks))) same
          ∙ split k.live
          ∙ ap (λ (b : Bool). fold put_expiry listed (live_ones (cond b (k ∷ holds_come now ks) []))) (sym has)
          ∙ whole;
    }
  where
    split : (b : Bool) → fold put_expiry (cond b (put_expiry listed (expiry_of k)) listed) (live_ones (holds_come now ks))
        ≡ fold put_expiry listed (map expiry_of (cond b (k ∷ filter (λ x. x.live) (holds_come now ks)) (filter (λ x. x.live) (holds_come now ks))))
    split true = refl
    split false = refl

pub taken_live : {hs : List Hold} {now p : ℕ} {left : List ℕ} {listed all : List Expiry} {h : Hold} → AreTaken hs now (p ∷ left) listed all → slice_get hs p ≡ Some h → h.txn.expires ≤ now → h.live ≡ true
    → AreTaken hs now left (put_expiry listed (expiry_of h)) all
taken_live {hs} {now} {p} {left} {listed} {all} {h} a at come live =
    subst (λ (b : Bool). AreTaken hs now left (cond b (put_expiry listed (expiry_of h)) listed) all) live (taken_by hs now p left listed all h a.rest a.there a.whole at (at_most h.txn.expires now come))

pub taken_ended : {hs : List Hold} {now p : ℕ} {left : List ℕ} {listed all : List Expiry} {h : Hold} → AreTaken hs now (p ∷ left) listed all → slice_get hs p ≡ Some h → h.txn.expires ≤ now → h.live ≡ false
    → AreTaken hs now left listed all
taken_ended {hs} {now} {p} {left} {listed} {all} {h} a at come live =
    subst (λ (b : Bool). AreTaken hs now left (cond b (put_expiry listed (expiry_of h)) listed) all) live (taken_by hs now p left listed all h a.rest a.there a.whole at (at_most h.txn.expires now come))

taken_last : (hs : List Hold) (now p : ℕ) (left : List ℕ) (listed all : List Expiry) (h : Hold) (rest : List Hold) → map (λ q. slice_get hs q) (p ∷ left) ≡ map (λ k. Some k) rest
    → fold put_expiry listed (live_ones (holds_come now rest)) ≡ all → slice_get hs p ≡ Some h → nat_le h.txn.expires now ≡ false → listed ≡ all
taken_last hs now p left listed all h [] e whole at come = cc
taken_last hs now p left listed all h (k ∷ ks) e whole at come =
    let first : slice_get hs p ≡ Some k = cc in
    let same : h ≡ k = cc in
    let has : nat_le k.txn.expires now ≡ false = subst (λ (x : Hold). nat_le x.txn.expires now ≡ false) same come in
    ap (λ (b : Bool). fold put_expiry listed (live_ones (cond b (k ∷ holds_come now ks) []))) (sym has) ∙ whole

pub taken_before : {hs : List Hold} {now p : ℕ} {left : List ℕ} {listed all : List Expiry} {h : Hold} → AreTaken hs now (p ∷ left) listed all → slice_get hs p ≡ Some h → now < h.txn.expires → listed ≡ all
taken_before {hs} {now} {p} {left} {listed} {all} {h} a at come = taken_last hs now p left listed all h a.rest a.there a.whole at (above h.txn.expires now come)

taken_end : (hs : List Hold) (now : ℕ) (listed all : List Expiry) (rest : List Hold) → map (λ q. slice_get hs q) [] ≡ map (λ k. Some k) rest → fold put_expiry listed (live_ones (holds_come now rest)) ≡ all → listed ≡ all
taken_end hs now listed all [] e whole = whole
taken_end hs now listed all (k ∷ ks) e whole = cc

pub taken_all : {hs : List Hold} {now : ℕ} {listed all : List Expiry} → AreTaken hs now [] listed all → listed ≡ all
taken_all {hs} {now} {listed} {all} a = taken_end hs now listed all a.rest a.there a.whole

-- ---- the ends of the queue

pub item_at : (xs : List ℕ) (i p : ℕ) → i < length xs → p ≡ get_or xs i p → slice_get xs i ≡ Some p
item_at xs i p below e = slice_get-get_or xs i p below ∙ ap (λ (q : ℕ). Some q) (sym e)

pub no_item : (xs : List ℕ) → length xs ≡ 0 → xs ≡ []
no_item [] e = refl
no_item (x ∷ xs) e = absurd (omega arith)

there_at : (hs : List Hold) (queue : List ℕ) (ks : List Hold) (i p : ℕ) → map (λ q. slice_get hs q) queue ≡ map (λ k. Some k) ks → slice_get queue i ≡ Some p → slice_get hs p ≡ slice_get ks i
there_at hs [] ks i p e at = cc
there_at hs (q ∷ queue) [] i p e at = cc
there_at hs (q ∷ queue) (k ∷ ks) zero p e at =
    let first : slice_get hs q ≡ Some k = cc in
    let one : q ≡ p = cc in
    ap (λ (j : ℕ). slice_get hs j) (sym one) ∙ first
there_at hs (q ∷ queue) (k ∷ ks) (suc i) p e at =
    let rest : map (λ q. slice_get hs q) queue ≡ map (λ k. Some k) ks = cc in
    there_at hs queue ks i p rest at

within : (hs : List Hold) (queue : List ℕ) (ks : List Hold) (i p : ℕ) → map (λ q. slice_get hs q) queue ≡ map (λ k. Some k) ks → slice_get queue i ≡ Some p → p < length hs
within hs [] ks i p e at = cc
within hs (q ∷ queue) [] i p e at = cc
within hs (q ∷ queue) (k ∷ ks) zero p e at =
    let first : slice_get hs q ≡ Some k = cc in
    let one : q ≡ p = cc in
    slice_get_within hs p k (ap (λ (j : ℕ). slice_get hs j) (sym one) ∙ first)
within hs (q ∷ queue) (k ∷ ks) (suc i) p e at =
    let rest : map (λ q. slice_get hs q) queue ≡ map (λ k. Some k) ks = cc in
    within hs queue ks i p rest at

-- a place of the queue is one of the list's
pub place_within : {hs : List Hold} {queue : List ℕ} {queued : List Hold} (i p : ℕ) → AreQueued hs queue queued → slice_get queue i ≡ Some p → p < length hs
place_within {hs} {queue} {queued} i p a at = within hs queue queued i p a.there at

even : (hs : List Hold) (queue : List ℕ) (ks : List Hold) → map (λ q. slice_get hs q) queue ≡ map (λ k. Some k) ks → length queue ≡ length ks
even hs [] [] e = refl
even hs [] (k ∷ ks) e = cc
even hs (q ∷ queue) [] e = cc
even hs (q ∷ queue) (k ∷ ks) e =
    let rest : map (λ q. slice_get hs q) queue ≡ map (λ k. Some k) ks = cc in
    ap suc (even hs queue ks rest)

all_before : (ks : List Hold) (i : ℕ) (key last : ℕ × ℕ) → IsStrictlySortedBy by_expiry (map key_of ks) → i + 1 ≡ length ks → option_map key_of (slice_get ks i) ≡ Some last → by_expiry last key ≡ Less
    → AllByRecursion (λ k. by_expiry k key ≡ Less) (map key_of ks)
unfolding IsStrictlySortedBy
all_before [] i key last o len at less = tt
all_before (k ∷ []) zero key last o len at less =
    let one : key_of k ≡ last = cc in
    (subst (λ (q : ℕ × ℕ). by_expiry q key ≡ Less) (sym one) less, tt)
all_before (k ∷ []) (suc i) key last o len at less = absurd (omega arith)
all_before (k ∷ j ∷ ks) zero key last o len at less = absurd (omega arith)
all_before (k ∷ j ∷ ks) (suc i) key last o len at less =
    let fewer : i + 1 ≡ length (j ∷ ks) = omega arith in
    let rest = all_before (j ∷ ks) i key last o.1 fewer at less in
    (by_expiry_total.trans (key_of k) (key_of j) key o.0.0 rest.0, rest)

-- an expiry after that of the queue's last place comes after all
pub after_last : (hs : List Hold) (queue : List ℕ) (i p : ℕ) (key last : ℕ × ℕ) → i + 1 ≡ length queue → slice_get queue i ≡ Some p → option_map key_of (slice_get hs p) ≡ Some last → by_expiry last key ≡ Less
    → ComesLast hs queue key
after_last hs queue i p key last len at is less =
    record {
      after = λ queued a.
          all_before queued i key last a.rising (len ∙ even hs queue queued a.there)
          (ap (λ (o : Option Hold). option_map key_of o) (sym (there_at hs queue queued i p a.there at)) ∙ is) less;
    }

any_by : (now : ℕ) (hs : List Hold) (queue : List ℕ) (p : ℕ) (key : ℕ × ℕ) (queued : List Hold) → map (λ q. slice_get hs q) queue ≡ map (λ k. Some k) queued → IsStrictlySortedBy by_expiry (map key_of queued)
    → ((place : ℕ) (hold : Hold) → slice_get queue 0 ≡ Some place → slice_get hs place ≡ Some hold → hold.live ≡ true)
    → slice_get queue 0 ≡ Some p → option_map key_of (slice_get hs p) ≡ Some key → nat_le key.0 now ≡ list_any (has_come now) (live_ones queued)
unfolding IsStrictlySortedBy
any_by now hs [] p key queued e o live at is = cc
any_by now hs (q ∷ queue) p key [] e o live at is = cc
any_by now hs (q ∷ queue) p key (k ∷ ks) e o live at is =
    let first : slice_get hs q ≡ Some k = cc in
    let one : q ≡ p = cc in
    let here : slice_get hs p ≡ Some k = subst (λ (j : ℕ). slice_get hs j ≡ Some k) one first in
    let found : Some (key_of k) ≡ Some key = ap (λ (o : Option Hold). option_map key_of o) (sym here) ∙ is in
    let same : key_of k ≡ key = cc in
    ap (λ (x : ℕ × ℕ). nat_le x.0 now) (sym same)
    ∙ by (nat_le k.txn.expires now) refl
    ∙ ap (λ (b : Bool). list_any (has_come now) (map expiry_of (cond b (k ∷ filter (λ h. h.live) ks) (filter (λ h. h.live) ks)))) (sym (live q k refl first))
  where
    by : (b : Bool) → nat_le k.txn.expires now ≡ b → nat_le k.txn.expires now ≡ (nat_le k.txn.expires now || list_any (has_come now) (live_ones ks))
    by true come = come ∙ ap (λ (b : Bool). b || list_any (has_come now) (live_ones ks)) (sym come)
    by false come =
        come ∙ sym (none_any now k ks come o.0) ∙ ap (λ (b : Bool). b || list_any (has_come now) (live_ones ks)) (sym come)

-- of the queue the first tells whether any has come
pub first_any : (now : ℕ) (hs : List Hold) (queue : List ℕ) (p : ℕ) (key : ℕ × ℕ) (queued : List Hold) → AreQueued hs queue queued → BeginsLive hs queue → slice_get queue 0 ≡ Some p → option_map key_of (slice_get hs p) ≡ Some key
    → nat_le key.0 now ≡ list_any (has_come now) (live_ones queued)
first_any now hs queue p key queued a b at is = any_by now hs queue p key queued a.there a.rising b.live at is

-- whether any is due, by the tree's first and those of the queue
pub any_due : (now : ℕ) (hs : List Hold) (others : List Expiry) (queued : List Hold) (late queue : Bool) → expiries hs ≡ fold with_expiry others (live_ones queued) → late ≡ first_has now others → queue ≡ list_any (has_come now) (live_ones queued)
    → (late || queue) ≡ not (is_quiet (txns_due (holdings_of hs) now))
any_due now hs others queued late queue whole e f =
    (λ j. e j || f j) ∙ sym (first_fold now others (live_ones queued)) ∙ ap (λ (es : List Expiry). first_has now es) (sym whole) ∙ first_due now hs

pub or_true : (b : Bool) → true ≡ (b || true)
or_true true = refl
or_true false = refl

pub or_false : (b : Bool) → b ≡ (b || false)
or_false true = refl
or_false false = refl

-- what was the first is taken out
pub popped : (p : ℕ) (xs ys : List ℕ) (r : Option ℕ) → slice_get xs 0 ≡ Some p → IsSome r → xs ≡ option_to_list r ++ ys → xs ≡ p ∷ ys
popped p xs ys None at some e = cc
popped p xs ys (Some q) at some e =
    let here : slice_get (q ∷ ys) 0 ≡ Some p = subst (λ (zs : List ℕ). slice_get zs 0 ≡ Some p) e at in
    let one : q ≡ p = cc in
    e ∙ ap (λ (z : ℕ). z ∷ ys) one

pub it_ended : (o : Option Hold) (b : Bool) (h : Hold) → option_map (λ k. k.live) o ≡ Some b → o ≡ Some h → b ≡ false → h.live ≡ false
it_ended o b h e at over =
    let found : Some h.live ≡ Some b = ap (λ (x : Option Hold). option_map (λ k. k.live) x) (sym at) ∙ e in
    let same : h.live ≡ b = cc in
    same ∙ over
