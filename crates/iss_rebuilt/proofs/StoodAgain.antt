-- What the programme stood in with is made again.
use Rattle.std.proofs.Common.{◌≡◌, ◌∙◌, ◌++◌, ◌∷◌, ◌&&◌, ◌+ℤ◌, ◌≤ℤ◌, ℕ, ℤ, pos, negsuc, ap, ap₂, arith, append_assoc, Bool, cond, false, fold, List, [], map, refl, sym, true}
use Rattle.std.specs.List.{list_all}
use Rattle.std.specs.FinMap as finite
use Rattle.std.specs.Str.{bytes_eq}
use Rattle.std.proofs.lemmas.Bool.{and_parts}
use Rattle.std.proofs.lemmas.Int.{ints}
use Rattle.iss_model.specs.declared.entry.Entry.{Entry}
use Rattle.iss_model.specs.declared.entry.Entry.TheVariants as entry
use Rattle.iss_model.specs.declared.entry.Row.{Row}
use Rattle.iss_model.specs.declared.input.Record.{Record}
use Rattle.iss_model.specs.declared.setting.Window.TheVariants as window
use Rattle.iss_model.specs.Calendar.{window_at}
use Rattle.iss_model.specs.Sums.{changed_at, int_key, stood_changes, stood_key, sum_at}
use Rattle.iss_model.specs.rules.Activity.{TxnNow}
use Rattle.iss_model.specs.rules.Facts.{not_below}
use Rattle.iss_model.specs.rules.Histories.{IsLegal, history_of}
use Rattle.iss_model.specs.state.Cores.{CoreState, core_of}
use Rattle.iss_model.specs.state.Kept.{kept_of}
use Rattle.iss_model.specs.texts.Spelling.{is_record}
use Rattle.iss_model.proofs.Lists.{map-map}
use Rattle.iss_model.proofs.Names.{its_name, one_name}
use Rattle.iss_agreement.proofs.CoreOfBook.{core_history}
use Rattle.iss_states.specs.Keys.{after_token, first_token, has_no_zero, int_of_key}
use Rattle.iss_states.specs.Rebuilding.{kept_by, rebuilt, stood_sum}
use Rattle.iss_states.specs.Showing.{shown, stood_at}
use Rattle.iss_states.proofs.Keys.{number_again}
use Rattle.iss_states.proofs.Rebuilt.{settings_rebuilt}
use Rattle.iss_rebuilt.specs.Sums.{AreRecords, HasStoodAgain}
use Rattle.iss_rebuilt.proofs.KeptAgain.{after_again, first_again, keys_pass, sums_again}
use Rattle.iss_rebuilt.proofs.Tokens.{is_named_entry}
use Rattle.iss_rebuilt.proofs.TokenBooks.{book_named}

-- the key of a product, a user and a day, as they are read from a key
abbrev key_of_read : List ℕ → List ℕ
key_of_read k = first_token k ++ 0 ∷ first_token (after_token k) ++ 0 ∷ int_key (int_of_key (after_token (after_token k)))

-- a key is read again
abbrev is_read : List ℕ → Bool
is_read k = bytes_eq (key_of_read k) k

int_again : (z : ℤ) → int_of_key (int_key z) ≡ z
int_again z = number_again [] z refl

read_again : (product user : List ℕ) (day : ℤ) → has_no_zero product ≡ true → has_no_zero user ≡ true → is_read (product ++ 0 ∷ user ++ 0 ∷ int_key day) ≡ true
read_again product user day p u =
    ap is_read right ∙ ap (λ (k : List ℕ). bytes_eq k key) (same ∙ right) ∙ its_name key
  where
    key : List ℕ
    key = product ++ 0 ∷ (user ++ 0 ∷ int_key day)

    right : product ++ 0 ∷ user ++ 0 ∷ int_key day ≡ key
    right = append_assoc product (0 ∷ user) (0 ∷ int_key day)

    rest : after_token key ≡ user ++ 0 ∷ int_key day
    rest = after_again product (user ++ 0 ∷ int_key day) p

    its_day : int_of_key (after_token (after_token key)) ≡ day
    its_day = ap (λ (k : List ℕ). int_of_key (after_token k)) rest ∙ ap int_of_key (after_again user (int_key day) u) ∙ int_again day

    its_user : first_token (after_token key) ≡ user
    its_user = ap first_token rest ∙ first_again user (int_key day) u

    same : key_of_read key ≡ product ++ 0 ∷ user ++ 0 ∷ int_key day
    same = λ i. first_again product (user ++ 0 ∷ int_key day) p i ++ 0 ∷ its_user i ++ 0 ∷ int_key (its_day i)

stood_read : (txns : List TxnNow) (e : Entry) → is_named_entry txns e ≡ true → list_all (λ c. is_read c.key) (stood_changes e) ≡ true
stood_read txns (entry.Stood set product user amount at) h =
    let both = and_parts (has_no_zero product) (has_no_zero user) h in
    ap (λ (b : Bool). b && true) (read_again product user (window_at window.Day at (pos 0)) both.0 both.1)
stood_read txns _ h = refl

-- no sum is below 0 ----

stood_more : (key : List ℕ) (e : Entry) → pos 0 ≤ℤ changed_at key (stood_changes e)
stood_more key (entry.Stood set product user amount at) = by (bytes_eq (stood_key product user at) key)
  where
    by : (b : Bool) → pos 0 ≤ℤ (cond b (pos amount) (pos 0) +ℤ pos 0)
    by true = omega (arith, ints)
    by false = omega (arith, ints)
stood_more key _ = nothing
  where
    nothing : pos 0 ≤ℤ pos 0
    nothing = omega (arith, ints)

stood_from : (key : List ℕ) (z : ℤ) (rows : List Row) → pos 0 ≤ℤ z → pos 0 ≤ℤ fold (λ sum row. sum +ℤ changed_at key (stood_changes row.entry)) z rows
stood_from key z [] h = h
stood_from key z (row ∷ rows) h = stood_from key (z +ℤ changed_at key (stood_changes row.entry)) rows (more z (changed_at key (stood_changes row.entry)) h (stood_more key row.entry))
  where
    more : (a b : ℤ) → pos 0 ≤ℤ a → pos 0 ≤ℤ b → pos 0 ≤ℤ (a +ℤ b)
    more a b h k = omega (arith, ints, h, k)

stood_not_below : (key : List ℕ) (rows : List Row) → pos 0 ≤ℤ sum_at stood_changes key rows
stood_not_below key rows = stood_from key (pos 0) rows zero_itself
  where
    zero_itself : pos 0 ≤ℤ pos 0
    zero_itself = omega (arith, ints)

above : (z : ℤ) → pos 0 ≤ℤ z → pos (not_below z) ≡ z
above (pos n) h = refl
above (negsuc n) h = omega (arith, ints, h)

-- made again ----

read_sum : (rows : List Row) (k : List ℕ) → is_read k ≡ true → stood_sum (stood_at (k, sum_at stood_changes k rows)) ≡ (k, sum_at stood_changes k rows)
read_sum rows k h = ap₂ (λ (k : List ℕ) (z : ℤ). (k, z)) (one_name (key_of_read k) k h) (above (sum_at stood_changes k rows) (stood_not_below k rows))

book_stood : (txns : List TxnNow) (rows : List Row) → list_all (λ row. is_named_entry txns row.entry) rows ≡ true
    → kept_by stood_sum (map stood_at (finite.entries (kept_of stood_changes rows))) ≡ kept_of stood_changes rows
book_stood txns rows h =
    ap finite.from_entries (map-map stood_at stood_sum (finite.entries (kept_of stood_changes rows)))
    ∙ sums_again is_read stood_changes stood_changes rows (λ (e : List ℕ × ℤ). stood_sum (stood_at e)) (read_sum rows) refl
    (keys_pass is_read stood_changes (is_named_entry txns) (stood_read txns) rows h)

stood_rebuilt : (rs : List Record) → IsLegal rs → list_all is_record rs ≡ true → (rebuilt (shown (core_of rs))).stand_ins.stood ≡ (core_of rs).stand_ins.stood
stood_rebuilt rs legal form =
    ap (λ (c : CoreState). kept_by stood_sum (map stood_at (finite.entries c.stand_ins.stood))) (core_history rs)
    ∙ book_stood (core_of rs).holdings.txns (history_of rs).rows (book_named rs legal form).rows
    ∙ ap (λ (c : CoreState). c.stand_ins.stood) (sym (core_history rs))

pub stand_ins_rebuilt : (rs : List Record) → IsLegal rs → AreRecords rs → HasStoodAgain (core_of rs)
stand_ins_rebuilt rs legal form = λ i. record { sets = (settings_rebuilt rs legal i).stand_ins.sets; stood = stood_rebuilt rs legal form i }
