-- Every row names only what stands. What is moved, switched, closed, acknowledged or ended was made by a row, and no row is of a later record.
use Rattle.std.proofs.Common.{◌≡◌, ℕ, ◌+◌, ◌<◌, ◌≤◌, Bool, true, false, ◌&&◌, ◌||◌, nat_le, List, [], ◌∷◌, length, map, ◌⊎◌}
use Rattle.std.specs.Prelude.{option_map, is_some}
use Rattle.std.specs.List.{list_any, list_all}
use Rattle.std.specs.Str.{bytes_eq}
use Rattle.iss_model.specs.declared.setting.Moved.TheVariants as moved
use Rattle.iss_model.specs.declared.setting.Scope.{Scope}
use Rattle.iss_model.specs.declared.setting.Scope.TheVariants as scope
use Rattle.iss_model.specs.declared.input.Input.{Input}
use Rattle.iss_model.specs.declared.input.Input.TheVariants as input
use Rattle.iss_model.specs.declared.entry.Entry.{Entry}
use Rattle.iss_model.specs.declared.entry.Entry.TheVariants as entry
use Rattle.iss_model.specs.declared.entry.Row.{Row}
use Rattle.iss_model.specs.Inputs.{is_text}
use Rattle.iss_model.specs.rules.Settings.{user_made, user_named, card_made, card_named, product_made, product_named, default_product, is_named_in}
use Rattle.iss_model.specs.rules.Controls.{Group, group_named, groups_of, control_puts_of, control_named}
use Rattle.iss_model.specs.rules.Activity.{txn_began, calls_of, notices_of}
use Rattle.iss_model.specs.rules.Facts.{Facts}
use Rattle.iss_model.specs.rules.Reasons.{lacks_group}
use Rattle.iss_model.specs.rules.Histories.{History}

-- what entries may name: records and calls and notices up to a number, and these transactions
pub record Bounds : Type 0 where
  pub count : ℕ
  pub calls : ℕ
  pub notices : ℕ
  pub txns : List (List ℕ)

abbrev pub bounds_of : Facts → Bounds
bounds_of f =
    record { count = f.count; calls = length f.calls; notices = f.notices_made; txns = map (λ t. t.txn.token) f.txns }

-- an entry that sets nothing and begins no transaction names what is within the bounds, and makes the next call and notices beyond them
abbrev pub IsFit : Bounds → Entry → Type 0
IsFit b (entry.Conf i) = ⊥
IsFit b (entry.Began t) = ⊥
IsFit b (entry.Opened o) = o.call.0 ≡ b.calls + 1
IsFit b (entry.Closed call how) = call.0 ≤ b.calls
IsFit b (entry.Decided event verdict) = Unit {0}
IsFit b (entry.Post from to amount txn) = Unit {0}
IsFit b (entry.Hold txn user currency part amount) = Unit {0}
IsFit b (entry.Usage row) = row.origin ≤ b.count
IsFit b (entry.Stood set product user amount at) = Unit {0}
IsFit b (entry.Notice notice) = b.notices < notice.number
IsFit b (entry.Acked notice) = notice ≤ b.notices
IsFit b (entry.Ended txn) = is_named_in b.txns txn ≡ true

-- each of these entries
unfoldable pub AreFit : Bounds → List Entry → Type 0
AreFit b [] = Unit {0}
AreFit b (e ∷ es) = IsFit b e × AreFit b es

-- a setting is of something new, or of something that stands
abbrev pub IsSettable : Facts → Input → Type 0
IsSettable f (input.User token user) = is_some (user_named user f.users) ≡ false
IsSettable f (input.Card token card user product active) = is_some (card_named card f.cards) ≡ false
IsSettable f (input.Move token (moved.Card card to)) = is_some (card_named card f.cards) ≡ true
IsSettable f (input.Move token (moved.User user to)) = is_some (user_named user f.users) ≡ true
IsSettable f (input.Product token product currency funding timeout_ms hold_ms) = is_some (product_named product f.products) ≡ false
IsSettable f (input.Switch token product on) = is_some (product_named product f.products) ≡ true
IsSettable f (input.Control token control currency window amount_limit usage_limit association scope offset active) =
    (is_some (control_named control f.controls) ≡ true) ⊎ (lacks_group f scope ≡ false)
IsSettable f _ = Unit {0}

-- the entries of a record may begin with a setting or with a transaction
abbrev pub Fit : Facts → List Entry → Type 0
Fit f [] = Unit {0}
Fit f (entry.Conf i ∷ es) = IsSettable f i × AreFit (bounds_of f) es
Fit f (entry.Began t ∷ es) = (t.origin ≤ f.count) × AreFit (record (bounds_of f) { txns = t.token ∷ map (λ now. now.txn.token) f.txns }) es
Fit f (e ∷ es) = IsFit (bounds_of f) e × AreFit (bounds_of f) es

-- a row made a user, a card, a product or a group of this name, or began the transaction
abbrev pub is_user_made : List Row → List ℕ → Bool
is_user_made rows name = list_any (λ row. is_text name (option_map (λ user. user.name) (user_made row.entry))) rows

abbrev pub is_card_made : List Row → List ℕ → Bool
is_card_made rows name = list_any (λ row. is_text name (option_map (λ card. card.name) (card_made row.entry))) rows

abbrev pub is_product_made : List Row → List ℕ → Bool
is_product_made rows name =
    bytes_eq default_product.name name || list_any (λ row. is_text name (option_map (λ product. product.name) (product_made row.entry))) rows

abbrev pub is_begun : List Row → List ℕ → Bool
is_begun rows token = list_any (λ row. is_text token (option_map (λ t. t.token) (txn_began row.entry))) rows

-- a scope's group is one of these
abbrev pub is_group_known : List Group → Scope → Bool
is_group_known groups scope.All = true
is_group_known groups (scope.Mcc mcc) = true
is_group_known groups (scope.Group group) = is_some (group_named group groups)
is_group_known groups (scope.Mid mid) = true

-- what an entry of a record names stands
abbrev pub is_standing : Bounds → List Row → ℕ → Entry → Bool
is_standing b rows number (entry.Conf (input.Move token (moved.Card card to))) = is_card_made rows card
is_standing b rows number (entry.Conf (input.Move token (moved.User user to))) = is_user_made rows user
is_standing b rows number (entry.Conf (input.Switch token product on)) = is_product_made rows product
is_standing b rows number (entry.Began t) = nat_le t.origin number
is_standing b rows number (entry.Opened o) = nat_le o.call.0 (length (calls_of rows))
is_standing b rows number (entry.Closed call how) = nat_le call.0 b.calls
is_standing b rows number (entry.Usage row) = nat_le row.origin number
is_standing b rows number (entry.Acked notice) = nat_le notice b.notices
is_standing b rows number (entry.Ended txn) = is_begun rows txn
is_standing b rows number _ = true

abbrev pub is_row_standing : Bounds → List Row → Row → Bool
is_row_standing b rows row = nat_le row.number b.count && is_standing b rows row.number row.entry

-- What is kept of a history, within bounds that its own facts have or pass.
pub record IsStanding (b : Bounds) (h : History) : Type 0 where
  pub count : b.count ≡ length h.records
  pub calls : b.calls ≤ length (calls_of h.rows)
  pub notices : b.notices ≤ length (notices_of h.rows)
  pub txns : (token : List ℕ) → is_named_in b.txns token ≡ true → is_begun h.rows token ≡ true
  pub rows : list_all (is_row_standing b h.rows) h.rows ≡ true
  pub scopes : list_all (λ put. is_group_known (groups_of h.rows) put.control.scope) (control_puts_of h.rows) ≡ true
