-- What is found by its name in a core is found after each entry, as it was made.
use Rattle.std.proofs.Common.{◌≡◌, ◌∙◌, ◌+◌, ◌++◌, ◌∷◌, ℕ, ap, Bool, cond, false, find, List, [], map, refl, sym, true}
use Rattle.std.specs.Prelude.{Some, is_some, option_map}
use Rattle.std.specs.Str.{bytes_eq}
use Rattle.iss_model.specs.declared.call.Opened.{Opened}
use Rattle.iss_model.specs.declared.entry.Entry.{Entry}
use Rattle.iss_model.specs.declared.entry.Entry.TheVariants as entry
use Rattle.iss_model.specs.declared.input.Input.{Input}
use Rattle.iss_model.specs.declared.input.Input.TheVariants as input
use Rattle.iss_model.specs.declared.input.Record.{Record}
use Rattle.iss_model.specs.declared.setting.Card.{Card}
use Rattle.iss_model.specs.declared.setting.CardState.{CardState}
use Rattle.iss_model.specs.declared.setting.Moved.TheVariants as moved
use Rattle.iss_model.specs.declared.setting.Product.{Product}
use Rattle.iss_model.specs.declared.txn.Txn.{Txn}
use Rattle.iss_model.specs.Inputs.{event_token, is_event}
use Rattle.iss_model.specs.rules.Activity.{TxnNow, txn_named}
use Rattle.iss_model.specs.rules.Facts.{Accepted}
use Rattle.iss_model.specs.rules.Settings.{card_named, first_card_state, product_named}
use Rattle.iss_model.specs.state.Cores.{CoreState, ProductNow, after_entry, after_setting, card_after_move, is_live, product_after_switch, txn_after_end, with_record}
use Rattle.iss_model.proofs.Lists.{map-alike, map-map}
use Rattle.iss_state.proofs.docket.Entering.{same_txn}
use Rattle.iss_state.proofs.effects.Finds.{find-map}
use Rattle.iss_state.proofs.held.Changes.{txn_ended}
use Rattle.iss_states.specs.Again.{IsCallAgain, IsTxnAgain, call_again, txn_again}

-- lists ----

pub find_stays : {A : Type 0} (p : A → Bool) (xs ys : List A) (x : A) → find p xs ≡ Some x → find p (xs ++ ys) ≡ Some x
find_stays p [] ys x e = cc
find_stays {A} p (y ∷ xs) ys x e = by (p y) e (λ f. find_stays p xs ys x f)
  where
    by : (b : Bool) → cond b (Some y) (find p xs) ≡ Some x → (find p xs ≡ Some x → find p (xs ++ ys) ≡ Some x) → cond b (Some y) (find p (xs ++ ys)) ≡ Some x
    by true e rest = e
    by false e rest = rest e

append_map : (f : ProductNow → Product) (xs ys : List ProductNow) → map f (xs ++ ys) ≡ map f xs ++ map f ys
append_map f [] ys = refl
append_map f (x ∷ xs) ys = ap (λ (rest : List Product). f x ∷ rest) (append_map f xs ys)

names_switched : (name : List ℕ) (on : Bool) (ps : List ProductNow) → map (λ (p : ProductNow). p.product) (map (product_after_switch name on) ps) ≡ map (λ (p : ProductNow). p.product) ps
names_switched name on ps = map-map (product_after_switch name on) (λ (p : ProductNow). p.product) ps ∙ map-alike (λ (p : ProductNow). (product_after_switch name on p).product) (λ (p : ProductNow). p.product) same ps
  where
    same : (p : ProductNow) → (product_after_switch name on p).product ≡ p.product
    same p = by (bytes_eq name p.product.name)
      where
        by : (b : Bool) → (cond b (record p { on = on }) p).product ≡ p.product
        by true = refl
        by false = refl

-- what never changes of a card
pub record IsSameCard (a b : Card) : Type 0 where
  pub name : a.name ≡ b.name
  pub user : a.user ≡ b.user
  pub product : a.product ≡ b.product

same_itself : (card : Card) → IsSameCard card card
same_itself card = record { name = refl; user = refl; product = refl }

same_moved : (name : List ℕ) (to : CardState) (card : Card) → IsSameCard (card_after_move name to card) card
same_moved name to card = by (bytes_eq name card.name)
  where
    by : (b : Bool) → IsSameCard (cond b (record card { state = to }) card) card
    by true = record { name = refl; user = refl; product = refl }
    by false = same_itself card

-- what stays found ----

-- Whatever is found by its name in a core is found in another one, as it was made.
pub record Keeps (c d : CoreState) : Type 0 where
  pub txns : (token : List ℕ) (x : TxnNow) → txn_named token c.holdings.txns ≡ Some x → (y : TxnNow) × (txn_named token d.holdings.txns ≡ Some y) × (y.txn ≡ x.txn)
  pub cards : (name : List ℕ) (x : Card) → card_named name c.cardholders.cards ≡ Some x → (y : Card) × (card_named name d.cardholders.cards ≡ Some y) × IsSameCard y x
  pub products : (name : List ℕ) (x : Product) → product_named name (map (λ p. p.product) c.products) ≡ Some x → product_named name (map (λ p. p.product) d.products) ≡ Some x
  pub accepted : (token : List ℕ) (x : Accepted) → find (λ a. is_event token a.input) c.accepted ≡ Some x → find (λ a. is_event token a.input) d.accepted ≡ Some x

setting_keeps : (s : CoreState) (i : Input) → Keeps s (after_setting s i)
setting_keeps s (input.Card event card user product active) =
    record {
      txns = λ token x e. (x, e, refl);
      cards = λ name x e. (x, find_stays (λ (c : Card). bytes_eq c.name name) s.cardholders.cards (record { name = card; user = user; product = product; state = first_card_state active } ∷ []) x e, same_itself x);
      products = λ name x e. e;
      accepted = λ token x e. e;
    }
setting_keeps s (input.Move event (moved.Card card to)) =
    record {
      txns = λ token x e. (x, e, refl);
      cards = λ name x e. (
        card_after_move card to x,
        find-map (λ (c : Card). bytes_eq c.name name) (λ (c : Card). bytes_eq c.name name) (card_after_move card to) (λ c. ap (λ (n : List ℕ). bytes_eq n name) (same_moved card to c).name) s.cardholders.cards
            ∙ ap (option_map (card_after_move card to)) e,
        same_moved card to x,
      );
      products = λ name x e. e;
      accepted = λ token x e. e;
    }
setting_keeps s (input.Move event (moved.User user to)) =
    record { txns = λ token x e. (x, e, refl); cards = λ name x e. (x, e, same_itself x); products = λ name x e. e; accepted = λ token x e. e }
setting_keeps s (input.Product event product currency funding timeout_ms hold_ms) =
    let more : ProductNow = record { product = record { name = product; currency = currency; funding = funding; timeout_ms = timeout_ms; hold_ms = hold_ms }; on = false } in
    record {
      txns = λ token x e. (x, e, refl);
      cards = λ name x e. (x, e, same_itself x);
      products = λ name x e.
          ap (product_named name) (append_map (λ (p : ProductNow). p.product) s.products (more ∷ []))
          ∙ find_stays (λ (p : Product). bytes_eq p.name name) (map (λ (p : ProductNow). p.product) s.products) (more.product ∷ []) x e;
      accepted = λ token x e. e;
    }
setting_keeps s (input.Switch event product on) =
    record {
      txns = λ token x e. (x, e, refl);
      cards = λ name x e. (x, e, same_itself x);
      products = λ name x e. ap (product_named name) (names_switched product on s.products) ∙ e;
      accepted = λ token x e. e;
    }
setting_keeps s _ = record { txns = λ token x e. (x, e, refl); cards = λ name x e. (x, e, same_itself x); products = λ name x e. e; accepted = λ token x e. e }

pub entry_keeps : (s : CoreState) (e : Entry) → Keeps s (after_entry s e)
entry_keeps s (entry.Conf i) = setting_keeps s i
entry_keeps s (entry.Began t) =
    record {
      txns = λ token x e. (x, find_stays (λ (n : TxnNow). bytes_eq n.txn.token token) s.holdings.txns (record { txn = t; live = is_live s.holdings.txns t.token } ∷ []) x e, refl);
      cards = λ name x e. (x, e, same_itself x);
      products = λ name x e. e;
      accepted = λ token x e. e;
    }
entry_keeps s (entry.Ended txn) =
    record {
      txns = λ token x e. (txn_after_end txn x, txn_ended txn token s.holdings.txns ∙ ap (option_map (txn_after_end txn)) e, same_txn txn x);
      cards = λ name x e. (x, e, same_itself x);
      products = λ name x e. e;
      accepted = λ token x e. e;
    }
entry_keeps s _ = record { txns = λ token x e. (x, e, refl); cards = λ name x e. (x, e, same_itself x); products = λ name x e. e; accepted = λ token x e. e }

pub record_keeps : (s : CoreState) (r : Record) → Keeps s (with_record s r)
record_keeps s r =
    record {
      txns = λ token x e. (x, e, refl);
      cards = λ name x e. (x, e, same_itself x);
      products = λ name x e. e;
      accepted = λ token x e.
          find_stays (λ (a : Accepted). is_event token a.input) s.accepted (cond (is_some (event_token r.input)) (record { number = s.count + 1; at = r.at; input = r.input } ∷ []) []) x e;
    }

-- what is made again stays so ----

pub call_stays : {c d : CoreState} (o : Opened) → Keeps c d → IsCallAgain c o → IsCallAgain d o
call_stays {d = d} o keeps h =
    let later = keeps.txns o.txn h.its h.stands in
    record {
      its = later.0;
      stands = later.1;
      event = h.event;
      was_accepted = keeps.accepted o.event h.event h.was_accepted;
      product = h.product;
      is_sold = ap (λ (t : Txn). product_named t.product (map (λ (p : ProductNow). p.product) d.products)) later.2 ∙ keeps.products h.its.txn.product h.product h.is_sold;
      same = h.same ∙ ap (λ (t : Txn). call_again o.call.0 h.event t h.product) (sym later.2);
    }

pub txn_stays : {c d : CoreState} (t : Txn) → Keeps c d → IsTxnAgain c t → IsTxnAgain d t
txn_stays {d = d} t keeps h =
    let later = keeps.cards t.card h.card h.of_card in
    record {
      event = h.event;
      was_accepted = keeps.accepted t.token h.event h.was_accepted;
      card = later.0;
      of_card = later.1;
      product = h.product;
      of_product = ap (λ (name : List ℕ). product_named name (map (λ (p : ProductNow). p.product) d.products)) later.2.product ∙ keeps.products h.card.product h.product h.of_product;
      same = h.same ∙ (λ i. record (txn_again h.event h.card h.product) { card = sym later.2.name i; user = sym later.2.user i; product = sym later.2.product i });
    }
