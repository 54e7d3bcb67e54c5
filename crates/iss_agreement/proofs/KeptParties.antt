-- Users, cards and products that are kept by one pass over the rows are those that filters over the whole book give.
use Rattle.std.proofs.Common.{◌≡◌, ℕ, ◌<◌, Bool, true, false, cond, nat_le, List, [], ◌∷◌, ◌++◌, map, refl, ap, ◌∙◌}
use Rattle.std.specs.Prelude.{Option, Some, None, unwrap_or}
use Rattle.std.specs.List.{filter_map, list_all}
use Rattle.std.specs.Str.{bytes_eq}
use Rattle.std.proofs.lemmas.Bool.{and_parts}
use Rattle.iss_model.specs.declared.setting.CardState.{CardState}
use Rattle.iss_model.specs.declared.setting.UserState.{UserState}
use Rattle.iss_model.specs.declared.setting.UserState.TheVariants as user_state
use Rattle.iss_model.specs.declared.setting.Moved.TheVariants as moved
use Rattle.iss_model.specs.declared.setting.User.{User}
use Rattle.iss_model.specs.declared.setting.Card.{Card}
use Rattle.iss_model.specs.declared.setting.Product.{Product}
use Rattle.iss_model.specs.declared.call.Opened.{Opened}
use Rattle.iss_model.specs.declared.call.Notice.{Notice}
use Rattle.iss_model.specs.declared.input.Input.TheVariants as input
use Rattle.iss_model.specs.declared.entry.Entry.{Entry}
use Rattle.iss_model.specs.declared.entry.Entry.TheVariants as entry
use Rattle.iss_model.specs.declared.entry.Row.{Row}
use Rattle.iss_model.specs.rules.Settings.{latest_of, user_made, user_moved, user_now, users_of, first_card_state, card_made, card_moved, card_now, cards_of, product_made, products_of, default_product, switch_set, is_switched}
use Rattle.iss_model.specs.state.Cores.{ProductNow, user_after_move, card_after_move, with_product, with_switch, product_after_switch, with_made}
use Rattle.iss_agreement.specs.Shown.{shown_product}
use Rattle.iss_model.proofs.Names.{one_name}
use Rattle.iss_model.proofs.Lists.{none_found}
use Rattle.iss_agreement.proofs.Standing.{Bounds, is_user_made, is_card_made, is_product_made, is_standing, is_row_standing}
use Rattle.iss_agreement.proofs.Growing.{row_of, last-more, things-changed, things-same, things-made}

-- what an entry makes is new
abbrev pub IsNew : Bounds → List Row → Entry → Type 0
IsNew b rows (entry.Conf (input.User token user)) = is_user_made rows user ≡ false
IsNew b rows (entry.Conf (input.Card token card user product active)) = is_card_made rows card ≡ false
IsNew b rows (entry.Conf (input.Product token product currency funding timeout_ms hold_ms)) = is_product_made rows product ≡ false
IsNew b rows (entry.Opened o) = b.calls < o.call.0
IsNew b rows (entry.Notice notice) = b.notices < notice.number
IsNew b rows _ = Unit {0}

-- all rows name what stands
abbrev pub AreStanding : Bounds → List Row → Type 0
AreStanding b rows = list_all (is_row_standing b rows) rows ≡ true

-- a row that stands, by its entry
pub its_entry : (b : Bounds) (all : List Row) (row : Row) → is_row_standing b all row ≡ true → is_standing b all row.number row.entry ≡ true
its_entry b all row h = (and_parts (nat_le row.number b.count) (is_standing b all row.number row.entry) h).1

pub other_name : (found : List ℕ → Bool) (a name : List ℕ) → found name ≡ false → found a ≡ true → bytes_eq a name ≡ false
other_name found a name new old =
    by (bytes_eq a name) refl
  where
    by : (b : Bool) → bytes_eq a name ≡ b → b ≡ false
    by true e = absurd (let same : found a ≡ found name = ap found (one_name a name e) in cc)
    by false e = refl

-- users ----

abbrev pub users_after : List User → Entry → List User
users_after users (entry.Conf (input.User token user)) = users ++ record { name = user; state = user_state.Active } ∷ []
users_after users (entry.Conf (input.Move token (moved.User user to))) = map (user_after_move user to) users
users_after users _ = users

-- a user by all rows and one more that moves it, or doesn't
user_more : (rows : List Row) (n : ℕ) (e : Entry) (user : User) (o : Option UserState) → user_moved user.name e ≡ o
    → user_now (rows ++ row_of n e) user ≡ record user { state = unwrap_or o (user_now rows user).state }
user_more rows n e user o h =
    ap (λ (s : UserState). record user { state = s }) (last-more (λ (row : Row). user_moved user.name row.entry) user.state rows (record { number = n; entry = e }) o h)

user_if_moved : (user : User) (s to : UserState) (b : Bool) → record user { state = unwrap_or (cond b (Some to) None) s } ≡ cond b (record user { state = to }) (record user { state = s })
user_if_moved user s to true = refl
user_if_moved user s to false = refl

no_user_move : (b : Bounds) (all : List Row) (name : List ℕ) → is_user_made all name ≡ false → (n : ℕ) (e : Entry) → is_standing b all n e ≡ true → user_moved name e ≡ None
no_user_move b all name new n (entry.Conf (input.Move token (moved.User user to))) h =
    ap (λ (b : Bool). cond b (Some to) None) (other_name (is_user_made all) user name new h)
no_user_move b all name new n (entry.Conf (input.Move token (moved.Card card to))) h = refl
no_user_move b all name new n _ h = refl

new_user : (b : Bounds) (rows : List Row) (n : ℕ) (e : Entry) (user : User) → AreStanding b rows → is_user_made rows user.name ≡ false → user_moved user.name e ≡ None
    → user_now (rows ++ row_of n e) user ≡ user
new_user b rows n e user standing new h =
    user_more rows n e user None h
    ∙ ap (λ (states : List UserState). record user { state = latest_of user.state states })
    (none_found (is_row_standing b rows) (λ (row : Row). user_moved user.name row.entry) (λ row passes. no_user_move b rows user.name new row.number row.entry (its_entry b rows row passes)) rows standing)

pub users-more : (b : Bounds) (rows : List Row) (n : ℕ) (e : Entry) → AreStanding b rows → IsNew b rows e → users_of (rows ++ row_of n e) ≡ users_after (users_of rows) e
users-more b rows n (entry.Conf (input.User token user)) standing new =
    let e : Entry = entry.Conf (input.User token user) in
    let made : User = record { name = user; state = user_state.Active } in
    things-made user_made user_now rows (row_of n e) made (λ u. user_more rows n e u None refl) refl
    ∙ ap (λ (u : User). users_of rows ++ u ∷ []) (new_user b rows n e made standing new refl)
users-more b rows n (entry.Conf (input.Move token (moved.User user to))) standing new =
    let e : Entry = entry.Conf (input.Move token (moved.User user to)) in
    things-changed user_made user_now (user_after_move user to) rows (row_of n e)
    (λ u. user_more rows n e u (cond (bytes_eq user u.name) (Some to) None) refl ∙ user_if_moved u (user_now rows u).state to (bytes_eq user u.name)) refl
users-more b rows n (entry.Conf (input.Move token (moved.Card card to))) standing new =
    let e : Entry = entry.Conf (input.Move token (moved.Card card to)) in
    things-same user_made user_now rows (row_of n e) (λ u. user_more rows n e u None refl) refl
users-more b rows n e standing new =
    things-same user_made user_now rows (row_of n e) (λ u. user_more rows n e u None refl) refl

-- cards ----

abbrev pub cards_after : List Card → Entry → List Card
cards_after cards (entry.Conf (input.Card token card user product active)) =
    cards ++ record { name = card; user = user; product = product; state = first_card_state active } ∷ []
cards_after cards (entry.Conf (input.Move token (moved.Card card to))) = map (card_after_move card to) cards
cards_after cards _ = cards

card_more : (rows : List Row) (n : ℕ) (e : Entry) (card : Card) (o : Option CardState) → card_moved card.name e ≡ o
    → card_now (rows ++ row_of n e) card ≡ record card { state = unwrap_or o (card_now rows card).state }
card_more rows n e card o h =
    ap (λ (s : CardState). record card { state = s }) (last-more (λ (row : Row). card_moved card.name row.entry) card.state rows (record { number = n; entry = e }) o h)

card_if_moved : (card : Card) (s to : CardState) (b : Bool) → record card { state = unwrap_or (cond b (Some to) None) s } ≡ cond b (record card { state = to }) (record card { state = s })
card_if_moved card s to true = refl
card_if_moved card s to false = refl

no_card_move : (b : Bounds) (all : List Row) (name : List ℕ) → is_card_made all name ≡ false → (n : ℕ) (e : Entry) → is_standing b all n e ≡ true → card_moved name e ≡ None
no_card_move b all name new n (entry.Conf (input.Move token (moved.Card card to))) h =
    ap (λ (b : Bool). cond b (Some to) None) (other_name (is_card_made all) card name new h)
no_card_move b all name new n (entry.Conf (input.Move token (moved.User user to))) h = refl
no_card_move b all name new n _ h = refl

new_card : (b : Bounds) (rows : List Row) (n : ℕ) (e : Entry) (card : Card) → AreStanding b rows → is_card_made rows card.name ≡ false → card_moved card.name e ≡ None
    → card_now (rows ++ row_of n e) card ≡ card
new_card b rows n e card standing new h =
    card_more rows n e card None h
    ∙ ap (λ (states : List CardState). record card { state = latest_of card.state states })
    (none_found (is_row_standing b rows) (λ (row : Row). card_moved card.name row.entry) (λ row passes. no_card_move b rows card.name new row.number row.entry (its_entry b rows row passes)) rows standing)

pub cards-more : (b : Bounds) (rows : List Row) (n : ℕ) (e : Entry) → AreStanding b rows → IsNew b rows e → cards_of (rows ++ row_of n e) ≡ cards_after (cards_of rows) e
cards-more b rows n (entry.Conf (input.Card token card user product active)) standing new =
    let e : Entry = entry.Conf (input.Card token card user product active) in
    let made : Card = record { name = card; user = user; product = product; state = first_card_state active } in
    things-made card_made card_now rows (row_of n e) made (λ c. card_more rows n e c None refl) refl
    ∙ ap (λ (c : Card). cards_of rows ++ c ∷ []) (new_card b rows n e made standing new refl)
cards-more b rows n (entry.Conf (input.Move token (moved.Card card to))) standing new =
    let e : Entry = entry.Conf (input.Move token (moved.Card card to)) in
    things-changed card_made card_now (card_after_move card to) rows (row_of n e)
    (λ c. card_more rows n e c (cond (bytes_eq card c.name) (Some to) None) refl ∙ card_if_moved c (card_now rows c).state to (bytes_eq card c.name)) refl
cards-more b rows n (entry.Conf (input.Move token (moved.User user to))) standing new =
    let e : Entry = entry.Conf (input.Move token (moved.User user to)) in
    things-same card_made card_now rows (row_of n e) (λ c. card_more rows n e c None refl) refl
cards-more b rows n e standing new =
    things-same card_made card_now rows (row_of n e) (λ c. card_more rows n e c None refl) refl

-- products ----

abbrev pub products_after : List ProductNow → Entry → List ProductNow
products_after products (entry.Conf (input.Product token product currency funding timeout_ms hold_ms)) =
    with_made with_product products (product_made (entry.Conf (input.Product token product currency funding timeout_ms hold_ms)))
products_after products (entry.Conf (input.Switch token product on)) = with_switch products product on
products_after products _ = products

-- the products with their switches
abbrev pub products_shown : List Row → List ProductNow
products_shown rows = map (shown_product rows) (products_of rows)

switch_more : (rows : List Row) (n : ℕ) (e : Entry) (product : Product) (o : Option Bool) → switch_set product.name e ≡ o
    → shown_product (rows ++ row_of n e) product ≡ record { product = product; on = unwrap_or o (is_switched rows product.name) }
switch_more rows n e product o h =
    ap (λ (on : Bool). record { product = product; on = on }) (last-more (λ (row : Row). switch_set product.name row.entry) false rows (record { number = n; entry = e }) o h)

switch_if_turned : (p : Product) (was on : Bool) (b : Bool)
    → ◌≡◌ {A = ProductNow} (record { product = p; on = unwrap_or (cond b (Some on) None) was }) (cond b (record { product = p; on = on }) (record { product = p; on = was }))
switch_if_turned p was on true = refl
switch_if_turned p was on false = refl

no_switch : (b : Bounds) (all : List Row) (name : List ℕ) → is_product_made all name ≡ false → (n : ℕ) (e : Entry) → is_standing b all n e ≡ true → switch_set name e ≡ None
no_switch b all name new n (entry.Conf (input.Switch token product on)) h =
    ap (λ (b : Bool). cond b (Some on) None) (other_name (is_product_made all) product name new h)
no_switch b all name new n _ h = refl

-- what comes first stands as all others
with_default : (all rows : List Row) (upd : ProductNow → ProductNow) (xs ys : List ProductNow) → shown_product all default_product ≡ upd (shown_product rows default_product)
    → xs ≡ ys → shown_product all default_product ∷ xs ≡ upd (shown_product rows default_product) ∷ ys
with_default all rows upd xs ys first rest = λ i. first i ∷ rest i

pub products-more : (b : Bounds) (rows : List Row) (n : ℕ) (e : Entry) → AreStanding b rows → IsNew b rows e → products_shown (rows ++ row_of n e) ≡ products_after (products_shown rows) e
products-more b rows n (entry.Conf (input.Product token product currency funding timeout_ms hold_ms)) standing new =
    let e : Entry = entry.Conf (input.Product token product currency funding timeout_ms hold_ms) in
    let made : Product = record { name = product; currency = currency; funding = funding; timeout_ms = timeout_ms; hold_ms = hold_ms } in
    with_default (rows ++ row_of n e) rows (λ p. p) _ _ (switch_more rows n e default_product None refl)
    (things-made product_made shown_product rows (row_of n e) made (λ p. switch_more rows n e p None refl) refl
    ∙ ap (λ (p : ProductNow). map (shown_product rows) (filter_map (λ (row : Row). product_made row.entry) rows) ++ p ∷ [])
    (switch_more rows n e made None refl
    ∙ ap (λ (turns : List Bool). record { product = made; on = latest_of false turns })
    (none_found (is_row_standing b rows) (λ (row : Row). switch_set product row.entry) (λ row passes. no_switch b rows product new row.number row.entry (its_entry b rows row passes)) rows standing)))
products-more b rows n (entry.Conf (input.Switch token product on)) standing new =
    let e : Entry = entry.Conf (input.Switch token product on) in
    let turned = λ (p : Product). switch_more rows n e p (cond (bytes_eq product p.name) (Some on) None) refl ∙ switch_if_turned p (is_switched rows p.name) on (bytes_eq product p.name) in
    with_default (rows ++ row_of n e) rows (product_after_switch product on) _ _ (turned default_product)
    (things-changed product_made shown_product (product_after_switch product on) rows (row_of n e) turned refl)
products-more b rows n e standing new =
    with_default (rows ++ row_of n e) rows (λ p. p) _ _ (switch_more rows n e default_product None refl)
    (things-same product_made shown_product rows (row_of n e) (λ p. switch_more rows n e p None refl) refl)
