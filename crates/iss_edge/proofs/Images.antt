-- What a stop leaves on a device at rest, and after one write on it.
use Rattle.std.proofs.Common.{◌≡◌, ℕ, ◌+◌, ◌<◌, ◌≤◌, Bool, true, false, not, ◌&&◌, ◌||◌, cond, List, [], ◌∷◌, length, take, drop, refl, sym, ◌∙◌, arith, length-drop}
use Rattle.std.proofs.lemmas.List.{length-take, length-take-le, get_or-take, get_or-drop}
use Rattle.std.proofs.lemmas.Grind.{same_number_lists}
use Rattle.std.proofs.lemmas.Bool.Decides.{nat_tests}
use Rattle.iss_edge.specs.declared.outside.Action.TheVariants.{Write, Sync}
use Rattle.iss_edge.specs.Disk.{Disk, after_action, after_actions, splice, touches, is_settled, IsAtRest, IsImage}
use Rattle.iss_edge.proofs.Splices.{length-spliced, take-spliced, drop-spliced, spliced_from}

-- at rest a stop leaves what stands there
pub rest_image : (d : Disk) (image : List ℕ) → IsAtRest d → IsImage d image → image ≡ d.bytes
rest_image d image rest is =
    same_number_lists image d.bytes is.size (λ k lt. is.settled k (omega (arith, is.size)) (rest.settled k))

-- what stands there is one of the images
pub own_image : (d : Disk) → IsImage d d.bytes
own_image d = record { size = refl; settled = λ place lt settled. refl }

-- a stop leaves a prefix of settled places as it stands
take_settled : (d : Disk) (image : List ℕ) (n : ℕ) → IsImage d image → n ≤ length d.bytes → ((p : ℕ) → p < n → is_settled d p ≡ true) → take n image ≡ take n d.bytes
take_settled d image n is le calm =
    same_number_lists (take n image) (take n d.bytes) (omega (arith, is.size, length-take n image, length-take n d.bytes)) (λ k lt.
    let below : k < n = omega (arith, length-take n image) in
    get_or-take n image k 0 below ∙ is.settled k (omega (arith, below, le)) (calm k below) ∙ sym (get_or-take n d.bytes k 0 below))

-- a stop leaves an end of settled places as it stands
drop_settled : (d : Disk) (image : List ℕ) (n : ℕ) → IsImage d image → ((p : ℕ) → n ≤ p → is_settled d p ≡ true) → drop n image ≡ drop n d.bytes
drop_settled d image n is calm =
    same_number_lists (drop n image) (drop n d.bytes) (omega (arith, is.size, length-drop n image, length-drop n d.bytes)) (λ k lt.
    let within : n + k < length d.bytes = omega (arith, is.size, length-drop n image) in
    get_or-drop n image k 0 ∙ is.settled (n + k) within (calm (n + k) (omega arith)) ∙ sym (get_or-drop n d.bytes k 0))

below_write : (at : ℕ) (bytes : List ℕ) (p : ℕ) → p < at → touches at bytes p ≡ false
below_write at bytes p lt = grind (arith, nat_tests)

above_write : (at : ℕ) (bytes : List ℕ) (p : ℕ) → at + length bytes ≤ p → touches at bytes p ≡ false
above_write at bytes p le = grind (arith, nat_tests)

-- a place that a write does not touch stays settled
settled_outside : (d : Disk) (at : ℕ) (bytes : List ℕ) (ok : Bool) (p : ℕ) → touches at bytes p ≡ false → is_settled (after_action d (Write at bytes ok)) p ≡ is_settled d p
settled_outside d at bytes ok p e = rw e refl

-- some bytes of the same length, in the place of those that were to be written
pub record IsTorn (at : ℕ) (bytes old image : List ℕ) : Type 0 where
  pub torn : List ℕ
  pub whole : length torn ≡ length bytes
  pub is : image ≡ splice at torn old

-- what a write leaves, whether it failed or not, is outside of its places as before
length-written : (ok : Bool) (d : Disk) (at : ℕ) (bytes : List ℕ) → at + length bytes ≤ length d.bytes → length (after_action d (Write at bytes ok)).bytes ≡ length d.bytes
length-written true d at bytes within = length-spliced at bytes d.bytes within
length-written false d at bytes within = refl

take-written : (ok : Bool) (d : Disk) (at : ℕ) (bytes : List ℕ) → at + length bytes ≤ length d.bytes → take at (after_action d (Write at bytes ok)).bytes ≡ take at d.bytes
take-written true d at bytes within = take-spliced at bytes d.bytes within
take-written false d at bytes within = refl

drop-written : (ok : Bool) (d : Disk) (at : ℕ) (bytes : List ℕ) → at + length bytes ≤ length d.bytes → drop (at + length bytes) (after_action d (Write at bytes ok)).bytes ≡ drop (at + length bytes) d.bytes
drop-written true d at bytes within = drop-spliced at bytes d.bytes within
drop-written false d at bytes within = refl

-- at rest, after a write that failed or not, a stop leaves the old bytes with any in the place of the new ones
pub torn_image : (d : Disk) (at : ℕ) (bytes : List ℕ) (ok : Bool) (image : List ℕ) → IsAtRest d → at + length bytes ≤ length d.bytes → IsImage (after_action d (Write at bytes ok)) image → IsTorn at bytes d.bytes image
torn_image d at bytes ok image rest within is =
    let now = after_action d (Write at bytes ok) in
    let size : length now.bytes ≡ length d.bytes = length-written ok d at bytes within in
    let room : at + length bytes ≤ length image = omega (arith, is.size) in
    let prefix : take at image ≡ take at d.bytes =
    take_settled now image at is (omega (arith, size, within)) (λ p lt. settled_outside d at bytes ok p (below_write at bytes p lt) ∙ rest.settled p)
    ∙ take-written ok d at bytes within in
    let back : drop (at + length bytes) image ≡ drop (at + length bytes) d.bytes =
    drop_settled now image (at + length bytes) is (λ p le. settled_outside d at bytes ok p (above_write at bytes p le) ∙ rest.settled p)
    ∙ drop-written ok d at bytes within in
    record {
      torn = take (length bytes) (drop at image);
      whole = length-take-le (length bytes) (drop at image) (omega (arith, length-drop at image));
      is = spliced_from at (length bytes) image d.bytes room prefix back;
    }

second_false : (a b : Bool) → not a && not b ≡ true → b ≡ false
second_false true true e = cc
second_false true false e = refl
second_false false true e = cc
second_false false false e = refl

none_failed : (touched failed : Bool) → failed ≡ false → not false && not (cond touched false failed) ≡ true
none_failed true failed e = refl
none_failed false failed e = rw e refl

-- a sync that fails unsettles no place that was settled
failed_settled : (touched failed : Bool) → not touched && not failed ≡ true → not (not false && touched) && not (cond false failed (touched || failed)) ≡ true
failed_settled true true e = cc
failed_settled true false e = cc
failed_settled false true e = cc
failed_settled false false e = refl

-- a write and a sync that succeed leave a device at rest
pub rests_after : (d : Disk) (at : ℕ) (bytes : List ℕ) → IsAtRest d → IsAtRest (after_actions d (Write at bytes true ∷ Sync true ∷ []))
rests_after d at bytes rest =
    record { settled = λ place. none_failed (touches at bytes place) (d.failed place) (second_false (d.touched place) (d.failed place) (rest.settled place)) }

-- a sync leaves a device at rest, even if it failed
pub rests_synced : (d : Disk) (ok : Bool) → IsAtRest d → IsAtRest (after_action d (Sync ok))
rests_synced d true rest =
    record { settled = λ place. none_failed false (d.failed place) (second_false (d.touched place) (d.failed place) (rest.settled place)) }
rests_synced d false rest = record { settled = λ place. failed_settled (d.touched place) (d.failed place) (rest.settled place) }

-- what a sync that failed leaves, might have been left before it
pub failed_sync_image : (d : Disk) (image : List ℕ) → IsImage (after_action d (Sync false)) image → IsImage d image
failed_sync_image d image is =
    record {
      size = is.size;
      settled = λ place within settled. is.settled place within (failed_settled (d.touched place) (d.failed place) settled);
    }
