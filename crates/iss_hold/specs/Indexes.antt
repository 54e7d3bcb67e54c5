-- How the indexes beside the holds agree with them.
use Rattle.std.specs.Prelude.{◌≡◌, ℕ, suc, ◌+◌, ◌^◌, ◌<◌, nat_eq, Bool, true, ◌&&◌, ◌==◌, List, [], ◌∷◌, map, fold, slice_get, Option, Some, None, IsSome, unwrap_or, if◌then◌else◌}
use Rattle.std.specs.Option.{option_map}
use Rattle.std.specs.List.{AllByRecursion, IsDistinct, list_any}
use Rattle.std.specs.List.Sorted.{IsStrictlySortedBy}
use Rattle.std.specs.Str.{bytes_eq}
use Rattle.std.specs.declared.cmp.Ordering.{Ordering}
use Rattle.std.specs.declared.cmp.Ordering.TheVariants.{Less}
use Rattle.std.specs.Ordering.{nat_cmp, ordering_then}
use Rattle.std.specs.Cmp.Lexicographic.{slice_cmp}
use Rattle.std.specs.BTreeMap as tree
use Rattle.std.specs.BTreeMap.{BTreeMap}
use Rattle.iss_model.specs.Currencies.{iso_number}
use Rattle.iss_model.specs.rules.Activity.{txn_named}
use Rattle.iss_hold.specs.declared.hold.Hold.{Hold}
use Rattle.iss_hold.specs.declared.table.Table.{Table}
use Rattle.iss_hold.specs.Holdings.{txn_of_hold, whole_of}
use Rattle.iss_hold.specs.Expiries.{Expiry, live_ones, with_expiry, expiries, has_come, come_of, holds_come}

-- the tokens of the transactions, in the order in which they began
abbrev pub names : List Hold → List (List ℕ)
names holds = map (λ hold. hold.txn.token) holds

-- the numbers of the records of the authorisations
abbrev pub origins : List Hold → List ℕ
origins holds = map (λ hold. hold.txn.origin) holds

-- the place of a name
abbrev pub place_in : List ℕ → List (List ℕ) → Option ℕ
place_in name [] = None
place_in name (first ∷ rest) = if bytes_eq first name then Some 0 else option_map suc (place_in name rest)

-- a hold is of this user, in the currency of this number
abbrev pub is_of : List ℕ → ℕ → Hold → Bool
is_of user number hold = bytes_eq hold.txn.user user && iso_number hold.txn.currency == number

-- what the holds of a user in a currency come to
abbrev pub total_of : List ℕ → ℕ → List Hold → ℕ
total_of user number [] = 0
total_of user number (hold ∷ rest) = (if is_of user number hold then whole_of hold else 0) + total_of user number rest

-- the orders of the indexes' keys
abbrev pub by_user : (List ℕ × ℕ) → (List ℕ × ℕ) → Ordering
by_user a b = ordering_then (slice_cmp nat_cmp a.0 b.0) (nat_cmp a.1 b.1)

abbrev pub by_expiry : (ℕ × ℕ) → (ℕ × ℕ) → Ordering
by_expiry a b = ordering_then (nat_cmp a.0 b.0) (nat_cmp a.1 b.1)

-- what a started transaction holds, and its place
pub record IsAt (name : List ℕ) (holds : List Hold) (place : ℕ) (hold : Hold) : Type 0 where
  pub is_there : slice_get holds place ≡ Some hold
  pub named : hold.txn.token ≡ name
  pub found : txn_named name (map txn_of_hold holds) ≡ Some (txn_of_hold hold)

-- the names whose places are known are those of the holds
pub record ArePlaced (holds : List Hold) (places : List (List ℕ)) : Type 0 where
  pub same : places ≡ names holds

-- each user's sum is what the user's holds come to, it stands if there is one, and it is small
pub record AreSummed (holds : List Hold) (sums : BTreeMap (List ℕ × ℕ) ℕ) : Type 0 where
  pub summed : (user : List ℕ) (number : ℕ) → unwrap_or (tree.get by_user sums (user, number)) 0 ≡ total_of user number holds
  pub standing : (i : ℕ) (hold : Hold) → slice_get holds i ≡ Some hold → IsSome (tree.get by_user sums (hold.txn.user, iso_number hold.txn.currency))
  pub small : (user : List ℕ) (number : ℕ) → total_of user number holds < 2 ^ 62

-- a place by expiry, with the name that stands there
abbrev pub with_name : List (List ℕ) → (ℕ × ℕ) × ℕ → (ℕ × ℕ) × Option (List ℕ)
with_name names e = (e.0, slice_get names e.1)

-- an expiry, with its token as a name that stands
abbrev pub with_token : Expiry → (ℕ × ℕ) × Option (List ℕ)
with_token e = (e.0, Some e.1)

-- an expiry among those of a tree
abbrev pub put_expiry : List Expiry → Expiry → List Expiry
put_expiry es e = tree.insert_entry by_expiry es e.0 e.1

-- when a hold's transaction expires, and its authorisation's record
abbrev pub key_of : Hold → ℕ × ℕ
key_of hold = (hold.txn.expires, hold.txn.origin)

-- these holds stand at the places of the queue, and each expires after the one before it
pub record AreQueued (holds : List Hold) (queue : List ℕ) (queued : List Hold) : Type 0 where
  pub there : map (λ place. slice_get holds place) queue ≡ map (λ hold. Some hold) queued
  pub rising : IsStrictlySortedBy by_expiry (map key_of queued)

-- the tree has the places of these expiries, in their order
pub record AreLate (holds : List Hold) (late : BTreeMap (ℕ × ℕ) ℕ) (others : List Expiry) : Type 0 where
  pub named : map (with_name (names holds)) late.entries ≡ map with_token others
  pub rising : tree.IsOrdered by_expiry late

-- the expiries of the queue's live holds, each put among the late ones, are all expiries in their order
pub record AreInOrder (holds : List Hold) (queue : List ℕ) (late : BTreeMap (ℕ × ℕ) ℕ) : Type 0 where
  pub queued : List Hold
  pub others : List Expiry
  pub places : AreQueued holds queue queued
  pub rest : AreLate holds late others
  pub whole : expiries holds ≡ fold with_expiry others (live_ones queued)

-- the first hold of the queue is live
pub record BeginsLive (holds : List Hold) (queue : List ℕ) : Type 0 where
  pub live : (place : ℕ) (hold : Hold) → slice_get queue 0 ≡ Some place → slice_get holds place ≡ Some hold → hold.live ≡ true

-- an expiry comes after all that are in the queue
pub record ComesLast (holds : List Hold) (queue : List ℕ) (key : ℕ × ℕ) : Type 0 where
  pub after : (queued : List Hold) → AreQueued holds queue queued → AllByRecursion (λ k. by_expiry k key ≡ Less) (map key_of queued)

-- these are the late ones that have come
abbrev pub AreLateDue : List Hold → BTreeMap (ℕ × ℕ) ℕ → ℕ → List Expiry → Type 0
AreLateDue holds late now due = (others : List Expiry) → AreLate holds late others → due ≡ fold put_expiry [] (come_of now others)

-- the live ones of the queue that have come are added to those that are due
abbrev pub AddsQueued : List Hold → List ℕ → ℕ → List Expiry → List Expiry → Type 0
AddsQueued holds queue now before after = (queued : List Hold) → AreQueued holds queue queued → after ≡ fold put_expiry before (live_ones (holds_come now queued))

-- the answer is whether a live one of the queue has come
abbrev pub TellsQueued : List Hold → List ℕ → ℕ → Bool → Type 0
TellsQueued holds queue now answer = (queued : List Hold) → AreQueued holds queue queued → answer ≡ list_any (has_come now) (live_ones queued)

-- The indexes agree with the holds. Each name has its place, and each user its sum. The expiries are in order, each with its transaction's place.
pub record AreIndexed (holds : List Hold) (places : List (List ℕ)) (sums : BTreeMap (List ℕ × ℕ) ℕ) (queue : List ℕ) (late : BTreeMap (ℕ × ℕ) ℕ) : Type 0 where
  pub distinct : IsDistinct bytes_eq (names holds)
  pub placed : ArePlaced holds places
  pub summed : AreSummed holds sums
  pub once : IsDistinct nat_eq (origins holds)
  pub ordered : AreInOrder holds queue late
  pub first : BeginsLive holds queue

-- a table's indexes agree with its holds
abbrev pub IsIndexed : Table → Type 0
IsIndexed table = AreIndexed table.holds (names table.holds) table.sums table.expiries.places.items table.expiries.late
