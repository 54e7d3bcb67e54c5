-- Records after gates, as lists of bytes.
use Rattle.std.proofs.Common.{◌≡◌, ℕ, ◌+◌, List, [], ◌∷◌, ◌++◌, length, take, drop, refl, sym, ap, ◌∙◌, append_assoc, append-nil, arith, length-append}
use Rattle.std.specs.Int.{w32, to_be_bytes, from_be_bytes}
use Rattle.std.proofs.lemmas.Nat.{from_be_bytes-to_be_bytes_4}
use Rattle.std.proofs.lemmas.List.{append_cancel_left, take_at, drop_at}
use Rattle.iss_journal.specs.Region.{Region, IsBody, AreBodies, body_with_length, append_bytes, frames, bytes_before_gate, ShowsOnce}

pub framed-append : (xs ys : List (List ℕ)) → frames (xs ++ ys) ≡ frames xs ++ frames ys
framed-append [] ys = refl
framed-append (x ∷ xs) ys =
    ap (λ (l : List ℕ). 1 ∷ (body_with_length x ++ l)) (framed-append xs ys)
    ∙ ap (λ (l : List ℕ). 1 ∷ l) (sym (append_assoc (body_with_length x) (frames xs) (frames ys)))

-- the prefix of records with one more
pub front-push : (region : Region) (bodies : List (List ℕ)) (body : List ℕ) → bytes_before_gate region (bodies ++ body ∷ []) ≡ bytes_before_gate region bodies ++ 1 ∷ body_with_length body
front-push region bodies body =
    ap (λ (l : List ℕ). region.below ++ l) (framed-append bodies (body ∷ []))
    ∙ sym (append_assoc region.below (frames bodies) (frames (body ∷ [])))
    ∙ ap (λ (l : List ℕ). bytes_before_gate region bodies ++ 1 ∷ l) (append-nil (body_with_length body))

pub are_bodies-push : (bodies : List (List ℕ)) (body : List ℕ) → AreBodies bodies → IsBody body → AreBodies (bodies ++ body ∷ [])
are_bodies-push [] body sound is = (is, tt)
are_bodies-push (x ∷ xs) body sound is = (sound.0, are_bodies-push xs body sound.1 is)

pub length-spelled : (body : List ℕ) → length (body_with_length body) ≡ 4 + length body
length-spelled body = length-append (to_be_bytes w32 (length body)) body

pub length-behind : (body : List ℕ) → length (append_bytes body) ≡ 5 + length body
length-behind body = omega (arith, length-append (body_with_length body) (0 ∷ []), length-spelled body)

-- two bodies with whatever follows, if all of it is the same
pub record SameSpelled (x y X Y : List ℕ) : Type 0 where
  pub body : x ≡ y
  pub rest : X ≡ Y

same_length : (x y : List ℕ) → IsBody x → IsBody y → to_be_bytes w32 (length x) ≡ to_be_bytes w32 (length y) → length x ≡ length y
same_length x y is_x is_y e =
    sym (from_be_bytes-to_be_bytes_4 (length x) (omega (arith, is_x.most)))
    ∙ ap (λ (l : List ℕ). from_be_bytes w32 l) e
    ∙ from_be_bytes-to_be_bytes_4 (length y) (omega (arith, is_y.most))

pub same_spelled : (x y X Y : List ℕ) → IsBody x → IsBody y → body_with_length x ++ X ≡ body_with_length y ++ Y → SameSpelled x y X Y
same_spelled x y X Y is_x is_y e =
    let lengths : to_be_bytes w32 (length x) ≡ to_be_bytes w32 (length y) = ap (λ (l : List ℕ). take 4 l) e in
    let tails : x ++ X ≡ y ++ Y = ap (λ (l : List ℕ). drop 4 l) e in
    let same : length x ≡ length y = same_length x y is_x is_y lengths in
    record {
      body = sym (take_at x X (length x) refl) ∙ ap (λ (l : List ℕ). take (length x) l) tails ∙ take_at y Y (length x) (sym same);
      rest = sym (drop_at x X (length x) refl) ∙ ap (λ (l : List ℕ). drop (length x) l) tails ∙ drop_at y Y (length x) (sym same);
    }

-- one list of records stands before a gate that is not open
framed_once : (xs ys : List (List ℕ)) (g h : ℕ) (r s : List ℕ) → AreBodies xs → AreBodies ys → (g ≡ 1 → ⊥) → (h ≡ 1 → ⊥) → frames xs ++ g ∷ r ≡ frames ys ++ h ∷ s → xs ≡ ys
framed_once [] [] g h r s sound_x sound_y shut_g shut_h e = refl
framed_once [] (y ∷ ys) g h r s sound_x sound_y shut_g shut_h e = let open_gate : g ≡ 1 = cc in absurd (shut_g open_gate)
framed_once (x ∷ xs) [] g h r s sound_x sound_y shut_g shut_h e = let open_gate : h ≡ 1 = cc in absurd (shut_h open_gate)
framed_once (x ∷ xs) (y ∷ ys) g h r s sound_x sound_y shut_g shut_h e =
    let tails : (body_with_length x ++ frames xs) ++ g ∷ r ≡ (body_with_length y ++ frames ys) ++ h ∷ s = ap (λ (l : List ℕ). drop 1 l) e in
    let grouped : body_with_length x ++ (frames xs ++ g ∷ r) ≡ body_with_length y ++ (frames ys ++ h ∷ s) =
    sym (append_assoc (body_with_length x) (frames xs) (g ∷ r)) ∙ tails ∙ append_assoc (body_with_length y) (frames ys) (h ∷ s) in
    let same : SameSpelled x y (frames xs ++ g ∷ r) (frames ys ++ h ∷ s) = same_spelled x y (frames xs ++ g ∷ r) (frames ys ++ h ∷ s) sound_x.0 sound_y.0 grouped in
    ap (λ (b : List ℕ). b ∷ xs) same.body ∙ ap (λ (l : List (List ℕ)). y ∷ l) (framed_once xs ys g h r s sound_x.1 sound_y.1 shut_g shut_h same.rest)

-- a device shows at most one list of records
pub one_list : ShowsOnce
one_list region xs ys image shows_x shows_y =
    let e : bytes_before_gate region xs ++ shows_x.gate ∷ shows_x.rest ≡ bytes_before_gate region ys ++ shows_y.gate ∷ shows_y.rest = sym shows_x.ends.is ∙ shows_y.ends.is in
    let grouped : region.below ++ (frames xs ++ shows_x.gate ∷ shows_x.rest) ≡ region.below ++ (frames ys ++ shows_y.gate ∷ shows_y.rest) =
    sym (append_assoc region.below (frames xs) (shows_x.gate ∷ shows_x.rest)) ∙ e ∙ append_assoc region.below (frames ys) (shows_y.gate ∷ shows_y.rest) in
    framed_once xs ys shows_x.gate shows_y.gate shows_x.rest shows_y.rest shows_x.ends.sound shows_y.ends.sound shows_x.shut shows_y.shut (append_cancel_left region.below (frames xs ++ shows_x.gate ∷ shows_x.rest) (frames ys ++ shows_y.gate ∷ shows_y.rest) grouped)
