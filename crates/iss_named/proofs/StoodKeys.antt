-- Sums of stand-ins are kept at keys of known users, of known products of the gateway, and of days of stamps.
use Rattle.std.proofs.Common.{◌≡◌, ◌∙◌, ◌++◌, ◌∷◌, ◌&&◌, ◌||◌, ◌==◌, ℕ, ℤ, pos, ap, append_assoc, Bool, false, List, [], map, not, refl, subst, sym, true}
use Rattle.std.specs.List.{list_all, list_any}
use Rattle.std.specs.FinMap as finite
use Rattle.std.specs.Str.{bytes_eq}
use Rattle.std.proofs.lemmas.Bool.{and_parts}
use Rattle.iss_model.specs.declared.counted.Stood.{Stood}
use Rattle.iss_model.specs.declared.entry.Entry.{Entry}
use Rattle.iss_model.specs.declared.entry.Entry.TheVariants as entry
use Rattle.iss_model.specs.declared.input.Input.{Input}
use Rattle.iss_model.specs.declared.input.Input.TheVariants as input
use Rattle.iss_model.specs.declared.setting.Moved.TheVariants as moved
use Rattle.iss_model.specs.declared.setting.Window.TheVariants as window
use Rattle.iss_model.specs.declared.state.State.{State}
use Rattle.iss_model.specs.declared.txn.Txn.{Txn}
use Rattle.iss_model.specs.Calendar.{window_at}
use Rattle.iss_model.specs.Forms.{is_stamp}
use Rattle.iss_model.specs.Sums.{int_key, stood_changes, stood_key}
use Rattle.iss_model.specs.rules.Activity.{TxnNow}
use Rattle.iss_model.specs.rules.CardReasons.{is_account_funded}
use Rattle.iss_model.specs.state.Cores.{CoreState, after_entry, after_setting}
use Rattle.iss_model.specs.state.Kept.{Kept}
use Rattle.iss_model.proofs.Lists.{map-map}
use Rattle.iss_model.proofs.Names.{one_name}
use Rattle.iss_state.proofs.docket.Lists.{Each, each_weaker}
use Rattle.iss_state.proofs.effects.Finds.{number_is}
use Rattle.iss_states.specs.Keys.{after_token, first_token, has_no_zero, int_of_key}
use Rattle.iss_states.specs.Rebuilding.{rebuilt, stood_sum}
use Rattle.iss_states.specs.Settled.{set_part}
use Rattle.iss_states.specs.Showing.{shown, stood_at}
use Rattle.iss_states.proofs.Keys.{number_again}
use Rattle.iss_rebuilt.proofs.KeptAgain.{after_again, first_again}
use Rattle.iss_well_formed.proofs.WellAgain.{all_mapped}
use Rattle.iss_named.specs.Known.{do_keys_rise, is_known_user}
use Rattle.iss_named.specs.Stood.{AreStoodForKnown, IsStoodForKnown, is_gateway_product, place_of_stood}
use Rattle.iss_named.proofs.KeptKeys.{keys_again, keys_changed_too, places_rise}
use Rattle.iss_named.proofs.ListedEntries.{ListMore, is_listed, is_of_listed, is_stand_in_of}
use Rattle.iss_named.proofs.MadeNames.{KnowsItsNames, is_known_txn}
use Rattle.iss_named.proofs.SetNames.{product_token, user_token}

-- a key is of a product, of a user and of a stamp's day
pub record IsStoodKey (c : CoreState) (key : List ℕ) : Type 0 where
  product : List ℕ
  user : List ℕ
  at : ℕ
  stamp : is_stamp at ≡ true
  sold : is_gateway_product c.products product ≡ true
  held : is_known_user c.cardholders.users user ≡ true
  its : key ≡ stood_key product user at

-- each key of these sums is
abbrev pub HaveStoodKeys : CoreState → Kept → Type 0
HaveStoodKeys c m = Each (IsStoodKey c) (finite.keys m)

pub stood_later : (c d : CoreState) (m : Kept) → ListMore c d → HaveStoodKeys c m → HaveStoodKeys d m
stood_later c d m more h =
    each_weaker (IsStoodKey c) (IsStoodKey d)
    (λ key k. record { product = k.product; user = k.user; at = k.at; stamp = k.stamp; sold = more.products k.product k.sold; held = more.users k.user k.held; its = k.its }) (finite.keys m) h

-- entries ----

-- a listed transaction that passes is known
any_known : (P : Type 0) (c : CoreState) (p : Txn → Bool) (ts : List TxnNow) → ((t : Txn) → p t ≡ true → is_known_txn c t ≡ true → P) → list_any (λ t. p t.txn) ts ≡ true → list_all (λ t. is_known_txn c t.txn) ts ≡ true → P
any_known P c p [] give h all = cc
any_known P c p (t ∷ ts) give h all =
    let both = and_parts (is_known_txn c t.txn) (list_all (λ (t : TxnNow). is_known_txn c t.txn) ts) all in
    by (p t.txn) refl h (λ k. any_known P c p ts give k both.1) both.0
  where
    by : (b : Bool) → p t.txn ≡ b → (b || list_any (λ t. p t.txn) ts) ≡ true → (list_any (λ t. p t.txn) ts ≡ true → P) → is_known_txn c t.txn ≡ true → P
    by true e k rest known = give t.txn e known
    by false e k rest known = rest k

pub of_listed : (P : Type 0) (c : CoreState) → KnowsItsNames c → (p : Txn → Bool) → ((t : Txn) → p t ≡ true → is_known_txn c t ≡ true → P) → is_listed p c ≡ true → P
of_listed P c knows p give h = any_known P c p c.holdings.txns give h (sym (all_mapped (is_known_txn c) (λ (t : TxnNow). t.txn) c.holdings.txns) ∙ knows.txns)

setting_stood : (c : CoreState) (i : Input) → (after_setting c i).stand_ins.stood ≡ c.stand_ins.stood
setting_stood c (input.Move token (moved.Card card to)) = refl
setting_stood c (input.Move token (moved.User user to)) = refl
setting_stood c _ = refl

pub not_so : (b : Bool) → not b ≡ true → b ≡ false
not_so true h = cc
not_so false h = refl

module _ (d : CoreState) (knows : KnowsItsNames d) (at : ℕ) (stamp : is_stamp at ≡ true) where
  stood_of : (product user : List ℕ) (when : ℕ) → (is_listed (is_stand_in_of product user) d && when == at) ≡ true → IsStoodKey d (stood_key product user when)
  stood_of product user when h =
      let both = and_parts (is_listed (is_stand_in_of product user) d) (when == at) h in
      of_listed (IsStoodKey d (stood_key product user when)) d knows (is_stand_in_of product user) (give (number_is when at both.1)) both.0
    where
      gateway : (t : Txn) (b : Bool) → is_account_funded t.funding ≡ b → b ≡ false → (b || is_gateway_product d.products t.product) ≡ true → is_gateway_product d.products t.product ≡ true
      gateway t true e f k = cc
      gateway t false e f k = k

      give : when ≡ at → (t : Txn) → is_stand_in_of product user t ≡ true → is_known_txn d t ≡ true → IsStoodKey d (stood_key product user when)
      give same t its known =
          let sold = and_parts (bytes_eq t.product product) (bytes_eq t.user user && not (is_account_funded t.funding)) its in
          let held = and_parts (bytes_eq t.user user) (not (is_account_funded t.funding)) sold.1 in
          let all = and_parts (is_known_user d.cardholders.users t.user) (is_account_funded t.funding || is_gateway_product d.products t.product) known in
          record {
            product = product;
            user = user;
            at = when;
            stamp = ap is_stamp same ∙ stamp;
            sold =
                ap (is_gateway_product d.products) (sym (one_name t.product product sold.0))
                ∙ gateway t (is_account_funded t.funding) refl (not_so (is_account_funded t.funding) held.1) all.1;
            held = ap (is_known_user d.cardholders.users) (sym (one_name t.user user held.0)) ∙ all.0;
            its = refl;
          }

  -- an entry of what is listed keeps it so
  pub stood_entered : (c : CoreState) (e : Entry) → is_of_listed d at e ≡ true → HaveStoodKeys d c.stand_ins.stood → HaveStoodKeys d (after_entry c e).stand_ins.stood
  stood_entered c (entry.Conf i) listed h = subst (HaveStoodKeys d) (sym (setting_stood c i)) h
  stood_entered c (entry.Stood set product user amount when) listed h =
      keys_changed_too (IsStoodKey d) c.stand_ins.stood (stood_changes (entry.Stood set product user amount when)) (stood_of product user when listed, tt) h
  stood_entered c _ listed h = h

-- what a key says ----

module _ (product user : List ℕ) (day : ℤ) (p : has_no_zero product ≡ true) (u : has_no_zero user ≡ true) where
  abbrev pub key : List ℕ
  key = product ++ 0 ∷ user ++ 0 ∷ int_key day

  right : key ≡ product ++ 0 ∷ (user ++ 0 ∷ int_key day)
  right = append_assoc product (0 ∷ user) (0 ∷ int_key day)

  rest : after_token key ≡ user ++ 0 ∷ int_key day
  rest = ap after_token right ∙ after_again product (user ++ 0 ∷ int_key day) p

  pub key_product : first_token key ≡ product
  key_product = ap first_token right ∙ first_again product (user ++ 0 ∷ int_key day) p

  pub key_user : first_token (after_token key) ≡ user
  key_user = ap first_token rest ∙ first_again user (int_key day) u

  pub key_day : int_of_key (after_token (after_token key)) ≡ day
  key_day = ap (λ (k : List ℕ). int_of_key (after_token k)) rest ∙ ap int_of_key (after_again user (int_key day) u) ∙ number_again [] day refl

module _ (c : CoreState) (knows : KnowsItsNames c) where
  -- a sum as it is shown is of what is known, and stands where its key does
  record IsShownWell (e : List ℕ × ℤ) : Type 0 where
    known : IsStoodForKnown c.cardholders.users c.products (stood_at e)
    place : place_of_stood (stood_at e) ≡ e.0

  one_shown : (e : List ℕ × ℤ) → IsStoodKey c (e.0) → IsShownWell e
  one_shown e k =
      let p : has_no_zero k.product ≡ true = product_token (set_part c) knows.set k.product k.sold in
      let u : has_no_zero k.user ≡ true = user_token (set_part c) knows.set k.user k.held in
      let day : ℤ = window_at window.Day k.at (pos 0) in
      let product : first_token (e.0) ≡ k.product = ap first_token k.its ∙ key_product k.product k.user day p u in
      let user : first_token (after_token (e.0)) ≡ k.user = ap (λ (x : List ℕ). first_token (after_token x)) k.its ∙ key_user k.product k.user day p u in
      let number : int_of_key (after_token (after_token (e.0))) ≡ day = ap (λ (x : List ℕ). int_of_key (after_token (after_token x))) k.its ∙ key_day k.product k.user day p u in
      record {
        known = record {
          user = ap (is_known_user c.cardholders.users) user ∙ k.held;
          product = ap (is_gateway_product c.products) product ∙ k.sold;
          day = record { at = k.at; stamp = k.stamp; its_day = sym number };
        };
        place = (λ i. product i ++ 0 ∷ user i ++ 0 ∷ int_key (number i)) ∙ sym k.its;
      }

  all_shown : (es : List (List ℕ × ℤ)) → Each (IsStoodKey c) (map (λ (e : List ℕ × ℤ). e.0) es) → AreStoodForKnown c.cardholders.users c.products (map stood_at es)
  all_shown [] h = tt
  all_shown (e ∷ es) h = ((one_shown e h.0).known, all_shown es h.1)

  pub stood_shown_known : HaveStoodKeys c c.stand_ins.stood → AreStoodForKnown c.cardholders.users c.products (shown c).sums
  stood_shown_known h = all_shown (finite.entries c.stand_ins.stood) h

  pub stood_shown_rise : HaveStoodKeys c c.stand_ins.stood → do_keys_rise (map place_of_stood (shown c).sums) ≡ true
  stood_shown_rise h =
      ap do_keys_rise (map-map stood_at place_of_stood (finite.entries c.stand_ins.stood))
      ∙ places_rise (λ (e : List ℕ × ℤ). place_of_stood (stood_at e)) (IsStoodKey c) (λ e k. (one_shown e k).place) c.stand_ins.stood h

-- what is made again ----

given_known : (c : CoreState) (xs : List Stood) → AreStoodForKnown c.cardholders.users c.products xs → Each (IsStoodKey c) (map (λ (e : List ℕ × ℤ). e.0) (map stood_sum xs))
given_known c [] h = tt
given_known c (x ∷ xs) h = (
  record {
    product = x.product;
    user = x.user;
    at = h.0.day.at;
    stamp = h.0.day.stamp;
    sold = h.0.product;
    held = h.0.user;
    its = ap (λ (n : ℤ). x.product ++ 0 ∷ x.user ++ 0 ∷ int_key n) (sym h.0.day.its_day);
  },
  given_known c xs h.1,
)

pub stood_made_again : (s : State) → AreStoodForKnown (rebuilt s).cardholders.users (rebuilt s).products s.sums → HaveStoodKeys (rebuilt s) (rebuilt s).stand_ins.stood
stood_made_again s h = keys_again (IsStoodKey (rebuilt s)) (map stood_sum s.sums) (given_known (rebuilt s) s.sums h)
