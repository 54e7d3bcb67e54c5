-- Records and their spellings: bodies that spell records spell one list of them.
use Rattle.std.proofs.Common.{◌≡◌, ℕ, true, List, [], ◌∷◌, ◌++◌, fold, refl, sym, ap, ◌∙◌}
use Rattle.std.specs.Prelude.{Some}
use Rattle.std.specs.List.{list_all}
use Rattle.std.proofs.lemmas.Bool.{and_parts}
use Rattle.iss_model.specs.declared.input.Record.{Record}
use Rattle.iss_model.specs.texts.Spelling.{spelling, is_record}
use Rattle.iss_model.specs.rules.Stepping.{step}
use Rattle.iss_model.specs.rules.Histories.{History, Follows, IsLegalAfter, history_keeper}
use Rattle.iss_codec.specs.Meanings.{IsSpellingOf}
use Rattle.iss_codec.specs.TakingRecords.{record_spelled}
use Rattle.iss_codec.proofs.TakenRecords.{spelled_again}
use Rattle.iss_standing.specs.Standing.{bodies_of}

pub same_record : (r s : Record) → is_record r ≡ true → is_record s ≡ true → spelling r ≡ spelling s → r ≡ s
same_record r s is_r is_s e =
    let both : Some r ≡ Some s = sym (spelled_again r is_r) ∙ ap record_spelled e ∙ spelled_again s is_s in
    cc

pub same_records : (xs ys : List Record) → list_all is_record xs ≡ true → list_all is_record ys ≡ true → bodies_of xs ≡ bodies_of ys → xs ≡ ys
same_records [] [] is_x is_y e = refl
same_records [] (y ∷ ys) is_x is_y e = absurd cc
same_records (x ∷ xs) [] is_x is_y e = absurd cc
same_records (x ∷ xs) (y ∷ ys) is_x is_y e =
    let all_x = and_parts (is_record x) (list_all is_record xs) is_x in
    let all_y = and_parts (is_record y) (list_all is_record ys) is_y in
    let first : spelling x ≡ spelling y = cc in
    let others : bodies_of xs ≡ bodies_of ys = cc in
    ap (λ (r : Record). r ∷ xs) (same_record x y all_x.0 all_y.0 first)
    ∙ ap (λ (rs : List Record). y ∷ rs) (same_records xs ys all_x.1 all_y.1 others)

one_more_spelled : (r : Record) (rs : List Record) → is_record r ≡ true → list_all is_record rs ≡ true → list_all is_record (r ∷ rs) ≡ true
one_more_spelled r rs first others = rw (first, others) refl

-- the record of these that is spelled by this body, after those that are spelled by these
pub record SpelledAt (rs : List Record) (bodies : List (List ℕ)) (body : List ℕ) : Type 0 where
  pub before : List Record
  pub here : Record
  pub after : List Record
  pub is : rs ≡ before ++ here ∷ after
  pub before_is : bodies_of before ≡ bodies
  pub all_spelled : list_all is_record before ≡ true
  pub spelled : IsSpellingOf here body

pub spelled_at : (rs : List Record) (bodies : List (List ℕ)) (body : List ℕ) (left : List (List ℕ)) → list_all is_record rs ≡ true → bodies_of rs ≡ (bodies ++ body ∷ []) ++ left → SpelledAt rs bodies body
spelled_at [] [] body left all e = absurd cc
spelled_at [] (b ∷ bodies) body left all e = absurd cc
spelled_at (r ∷ rs) [] body left all e =
    let first : spelling r ≡ body = cc in
    record {
      before = [];
      here = r;
      after = rs;
      is = refl;
      before_is = refl;
      all_spelled = refl;
      spelled = ((and_parts (is_record r) (list_all is_record rs) all).0, sym first);
    }
spelled_at (r ∷ rs) (b ∷ bodies) body left all e =
    let first : spelling r ≡ b = cc in
    let others : bodies_of rs ≡ (bodies ++ body ∷ []) ++ left = cc in
    let parts = and_parts (is_record r) (list_all is_record rs) all in
    let next : SpelledAt rs bodies body = spelled_at rs bodies body left parts.1 others in
    record {
      before = r ∷ next.before;
      here = next.here;
      after = next.after;
      is = ap (λ (xs : List Record). r ∷ xs) next.is;
      before_is = ap (λ (x : List ℕ). x ∷ bodies_of next.before) first ∙ ap (λ (xs : List (List ℕ)). b ∷ xs) next.before_is;
      all_spelled = one_more_spelled r next.before parts.0 next.all_spelled;
      spelled = next.spelled;
    }

-- each record of a legal list follows on those before it
pub follows_at : (h : History) (before : List Record) (r : Record) (after : List Record) → IsLegalAfter h (before ++ r ∷ after) → Follows (fold (λ x y. (step history_keeper x y).world) h before) r
follows_at h [] r after legal = legal.0
follows_at h (x ∷ before) r after legal = follows_at (step history_keeper h x).world before r after legal.1
