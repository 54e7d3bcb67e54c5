-- A member that stands at the front of bytes is found.
use Rattle.std.proofs.Common.{◌≡◌, ℕ, suc, ◌+◌, ◌-◌, ◌<◌, ◌≤◌, ◌&&◌, Bool, true, false, cond, nat_lt, List, [], ◌∷◌, ◌++◌, length, drop, take, get_or, slice_range, refl, sym, ap, ◌∙◌, subst, arith, append_assoc, Option, Some, None, IsSome, option_and_then}
use Rattle.std.specs.Option.{IfNone}
use Rattle.serde_json.specs.Find.{as_u64}
use Rattle.serde_json.specs.Read.{number_of}
use Rattle.std.proofs.lemmas.Bool.{and_parts, and_from}
use Rattle.std.specs.Char.{is_ascii_digit}
use Rattle.std.proofs.Math.Seq.{take-append_seam}
use Rattle.std.proofs.lemmas.List.{append_cancel_left, get_or-append-add, length-append}
use Rattle.std.specs.List.{list_all, prefix_len}
use Rattle.json.specs.Print.{escape, quoted}
use Rattle.iss_field.specs.Plain.{is_plain_byte}
use Rattle.iss_field.specs.PlainObjects.{is_plain_ascii, flag_text}
use Rattle.iss_field.specs.NoMember.{AreAllDigits, HasNoText, HasNoNumber, HasNoFlag, NoTextFirst, NoNumberFirst, NoFlagFirst}
use Rattle.iss_field.proofs.PlainTexts.{plain_escaped}

-- bytes that begin with a name in quotes and a colon, after a first byte
pub record BeginsWith (d : List ℕ) (first : ℕ) (name : List ℕ) (value : List ℕ) : Type 0 where
  pub long : length d ≡ length name + 4 + length value
  pub one : get_or d 0 0 ≡ first
  pub two : get_or d 1 0 ≡ 34
  pub mark : get_or d (length name + 2) 0 ≡ 34
  pub colon : get_or d (length name + 2 + 1) 0 ≡ 58
  pub named : slice_range d 2 (length name + 2) ≡ name

quoted_open : (name value : List ℕ) (first : ℕ) → escape name ≡ name → first ∷ (quoted name ++ (58 ∷ value)) ≡ first ∷ 34 ∷ (name ++ (34 ∷ 58 ∷ value))
quoted_open name value first plain =
    ap (λ l. first ∷ 34 ∷ l) (append_assoc (escape name) (34 ∷ []) (58 ∷ value) ∙ ap (λ t. t ++ (34 ∷ 58 ∷ value)) plain)

opened_so : (name value : List ℕ) (first : ℕ) → BeginsWith (first ∷ 34 ∷ (name ++ (34 ∷ 58 ∷ value))) first name value
opened_so name value first =
    let tail = 34 ∷ 58 ∷ value in
    let at : length name + 2 ≡ suc (suc (length name + 0)) = omega arith in
    let next : length name + 2 + 1 ≡ suc (suc (length name + 1)) = omega arith in
    let size : length name + 2 - 2 ≡ length name = omega arith in
    record {
      long = omega (arith, length-append name tail);
      one = refl;
      two = refl;
      mark = ap (λ k. get_or (first ∷ 34 ∷ (name ++ tail)) k 0) at ∙ get_or-append-add name tail 0 0;
      colon = ap (λ k. get_or (first ∷ 34 ∷ (name ++ tail)) k 0) next ∙ get_or-append-add name tail 1 0;
      named = ap (λ k. take k (name ++ tail)) size ∙ take-append_seam name tail;
    }

pub begins_with : (d name value : List ℕ) (first : ℕ) → escape name ≡ name → d ≡ first ∷ (quoted name ++ (58 ∷ value)) → BeginsWith d first name value
begins_with d name value first plain spelled =
    subst (λ l. BeginsWith l first name value) (sym (spelled ∙ quoted_open name value first plain)) (opened_so name value first)

-- a run of plain bytes ends at a quotation mark
run_to_mark : (b : Bool) (x : ℕ) (xs ys : List ℕ) → is_plain_ascii x ≡ b → (b && list_all is_plain_ascii xs) ≡ true → (list_all is_plain_ascii xs ≡ true → prefix_len is_plain_ascii (xs ++ 34 ∷ ys) ≡ length xs)
    → prefix_len is_plain_ascii (x ∷ (xs ++ 34 ∷ ys)) ≡ suc (length xs)
run_to_mark true x xs ys e all ih = ap (λ b. cond b (1 + prefix_len is_plain_ascii (xs ++ 34 ∷ ys)) 0) e ∙ omega (arith, ih all)
run_to_mark false x xs ys e all ih = absurd (cc)

plain_run_ends : (xs ys : List ℕ) → list_all is_plain_ascii xs ≡ true → prefix_len is_plain_ascii (xs ++ 34 ∷ ys) ≡ length xs
plain_run_ends [] ys all = refl
plain_run_ends (x ∷ xs) ys all = run_to_mark (is_plain_ascii x) x xs ys refl all (plain_run_ends xs ys)

plain_bytes : (b : Bool) (x : ℕ) (xs : List ℕ) → is_plain_ascii x ≡ b → (b && list_all is_plain_ascii xs) ≡ true → (list_all is_plain_ascii xs ≡ true → list_all is_plain_byte xs ≡ true) → list_all is_plain_byte (x ∷ xs) ≡ true
plain_bytes true x xs e all ih = and_from (is_plain_byte x) (list_all is_plain_byte xs) (and_parts (is_plain_byte x) (nat_lt x 128) e).0 (ih all)
plain_bytes false x xs e all ih = absurd (cc)

all_plain_bytes : (xs : List ℕ) → list_all is_plain_ascii xs ≡ true → list_all is_plain_byte xs ≡ true
all_plain_bytes [] all = refl
all_plain_bytes (x ∷ xs) all = plain_bytes (is_plain_ascii x) x xs refl all (all_plain_bytes xs)

-- bytes that begin with a plain text in quotes
pub record BeginsQuoted (d : List ℕ) : Type 0 where
  pub long : 1 ≤ length d
  pub first : get_or d 0 0 ≡ 34
  pub within : 1 + prefix_len is_plain_ascii (drop 1 d) < length d
  pub mark : get_or d (1 + prefix_len is_plain_ascii (drop 1 d)) 0 ≡ 34

quoted_so : (text after : List ℕ) → list_all is_plain_ascii text ≡ true → BeginsQuoted (34 ∷ (text ++ 34 ∷ after))
quoted_so text after all =
    let run = plain_run_ends text after all in
    let at : 1 + prefix_len is_plain_ascii (text ++ 34 ∷ after) ≡ suc (length text + 0) = omega (arith, run) in
    record {
      long = omega arith;
      first = refl;
      within = omega (arith, run, length-append text (34 ∷ after));
      mark = ap (λ k. get_or (34 ∷ (text ++ 34 ∷ after)) k 0) at ∙ get_or-append-add text (34 ∷ after) 0 0;
    }

pub begins_quoted : (d text after : List ℕ) → list_all is_plain_ascii text ≡ true → d ≡ quoted text ++ after → BeginsQuoted d
begins_quoted d text after all spelled =
    let opened : quoted text ++ after ≡ 34 ∷ (text ++ 34 ∷ after) = ap (λ l. 34 ∷ l) (append_assoc (escape text) (34 ∷ []) after ∙ ap (λ t. t ++ 34 ∷ after) (plain_escaped text (all_plain_bytes text all))) in
    subst BeginsQuoted (sym (spelled ∙ opened)) (quoted_so text after all)

-- digits that are taken as far as there are some are these
pub same_digits : (value found rest digits after : List ℕ) → AreAllDigits digits after → value ≡ found ++ rest → prefix_len is_ascii_digit value ≡ length found → value ≡ digits ++ after → found ≡ digits
same_digits value found rest digits after are split all spelled =
    let size : length found ≡ length digits = sym all ∙ ap (prefix_len is_ascii_digit) spelled ∙ are.all in
    sym (take-append_seam found rest) ∙ ap (take (length found)) (sym split ∙ spelled) ∙ ap (λ n. take n (digits ++ after)) size ∙ take-append_seam digits after

-- what stands after the colon of a member
pub same_value : (d name value wanted : List ℕ) (first : ℕ) → d ≡ first ∷ (quoted name ++ (58 ∷ value)) → d ≡ first ∷ (quoted name ++ (58 ∷ wanted)) → value ≡ wanted
same_value d name value wanted first found spelled =
    ap (drop 1) (append_cancel_left (quoted name) (58 ∷ value) (58 ∷ wanted) (ap (drop 1) (sym found ∙ spelled)))

pub if_none : {A Q : Type 0} (o : Option A) → Q → IfNone o Q
if_none None q = q
if_none (Some x) q = tt

none_so : {A P Q : Type 0} (o : Option A) → (P → Q) → IfNone o P → IfNone o Q
none_so None f h = f h
none_so (Some x) f h = tt

pub no_text_member : {A : Type 0} (o : Option A) (d name value : List ℕ) (first : ℕ) → d ≡ first ∷ (quoted name ++ (58 ∷ value)) → IfNone o (NoTextFirst value) → IfNone o (HasNoText first name d)
no_text_member o d name value first found = none_so o (λ none text after all spelled. none text after all (same_value d name value (quoted text ++ after) first found spelled))

pub no_flag_member : {A : Type 0} (o : Option A) (d name value : List ℕ) (first : ℕ) → d ≡ first ∷ (quoted name ++ (58 ∷ value)) → IfNone o (NoFlagFirst value) → IfNone o (HasNoFlag first name d)
no_flag_member o d name value first found = none_so o (λ none flag after spelled. none flag after (same_value d name value (flag_text flag ++ after) first found spelled))

pub no_number_member : (d name value : List ℕ) (first : ℕ) → d ≡ first ∷ (quoted name ++ (58 ∷ value)) → NoNumberFirst value → HasNoNumber first name d
no_number_member d name value first found none digits after are fits spelled = none digits after are (same_value d name value (digits ++ after) first found spelled)

unfit : (whole : Option ℕ) → whole ≡ None → IsSome whole → ⊥
unfit None e h = cc
unfit (Some n) e h = cc

-- a number whose digits are no whole number of 64 bits isn't wanted
pub no_fitting_member : (d name value taken rest : List ℕ) (first : ℕ) → d ≡ first ∷ (quoted name ++ (58 ∷ value)) → value ≡ taken ++ rest → prefix_len is_ascii_digit value ≡ length taken → option_and_then as_u64 (number_of taken) ≡ None
    → HasNoNumber first name d
no_fitting_member d name value taken rest first found split all none digits after are fits spelled =
    let same = same_digits value taken rest digits after are split all (same_value d name value (digits ++ after) first found spelled) in
    unfit (option_and_then as_u64 (number_of digits)) (ap (λ l. option_and_then as_u64 (number_of l)) (sym same) ∙ none) fits
