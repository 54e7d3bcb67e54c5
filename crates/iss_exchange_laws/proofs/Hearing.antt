-- What an honest gateway promised and acted on stays, and what it hears of is of what was sent.
use Rattle.std.proofs.Common.{◌≡◌, ℕ, Bool, true, false, cond, ◌&&◌, ◌||◌, List, [], ◌∷◌, ◌++◌, refl, sym, ap, subst, ◌∙◌, nat_eq}
use Rattle.std.specs.Prelude.{Option, Some, None, option_map}
use Rattle.std.specs.List.{list_any}
use Rattle.std.specs.Str.{bytes_eq}
use Rattle.iss_model.proofs.Lists.{any_grows, neither}
use Rattle.iss_model.proofs.Names.{its_name, name-sym}
use Rattle.iss_model.specs.declared.call.CallId.{CallId}
use Rattle.iss_model.specs.declared.call.Notice.{Notice}
use Rattle.iss_model.specs.declared.call.Opened.{Opened}
use Rattle.iss_model.specs.declared.entry.Row.{Row}
use Rattle.iss_model.specs.declared.input.Input.{Input}
use Rattle.iss_model.specs.declared.input.Input.TheVariants as input
use Rattle.iss_model.specs.declared.input.Outcome.TheVariants as outcome
use Rattle.iss_model.specs.Forms.{is_limit}
use Rattle.iss_model.specs.rules.Activity.{notices_of}
use Rattle.iss_state.proofs.effects.Finds.{number_is, number-sym, same_number}
use Rattle.iss_state.proofs.docket.Lists.{each_weaker, none_found}
use Rattle.iss_gateway.specs.declared.books.Note.{Note}
use Rattle.iss_gateway.specs.declared.books.Promise.{Promise}
use Rattle.iss_gateway.specs.declared.message.Given.{Given}
use Rattle.iss_gateway.specs.declared.message.Given.TheVariants.{Funded, Refused, Acked}
use Rattle.iss_gateway.specs.declared.message.Message.{Message}
use Rattle.iss_gateway.specs.declared.message.Message.TheVariants as message
use Rattle.iss_gateway.specs.Books.{Books, given_of, is_noted, promise_of, with_note}
use Rattle.iss_gateway_laws.proofs.Lists.{Among, each_append}
use Rattle.iss_exchange_laws.specs.declared.moves.Sent.{Sent}
use Rattle.iss_exchange_laws.specs.declared.moves.Sent.TheVariants as sent
use Rattle.iss_exchange_laws.specs.Exchanges.{Answered}
use Rattle.iss_exchange_laws.specs.Honest.{Answers, Hears}
use Rattle.iss_exchange_laws.specs.Messages.{funded_answer, input_given, message_sent}
use Rattle.iss_exchange_laws.proofs.Found.{any_last, last_found, still_found}
use Rattle.iss_exchange_laws.proofs.Sound.{AreFair, AreOfOwnNumbers, AreOfOwnTokens, HasPromise, IsBacked, IsKept, IsMade, IsOfCall, IsOfNotice, IsRight, opened_of}

-- what stays ----

-- a gateway keeps its promises and notes
pub record Keeps (b later : Books) : Type 0 where
  pub promises : (token : List ℕ) (p : Promise) → promise_of b token ≡ Some p → promise_of later token ≡ Some p
  pub notes : (number : ℕ) → is_noted b number ≡ true → is_noted later number ≡ true

pub keeps_itself : (b : Books) → Keeps b b
keeps_itself b = record { promises = λ token p e. e; notes = λ number h. h }

keeps_promising : (b : Books) (p : Promise) → Keeps b (record b { promises = b.promises ++ p ∷ [] })
keeps_promising b p =
    record { promises = λ token q e. still_found (λ (x : Promise). bytes_eq x.token token) b.promises (p ∷ []) q e; notes = λ number h. h }

keeps_noting : (b : Books) (n : Note) (noted : Bool) → Keeps b (with_note b n noted)
keeps_noting b n true = keeps_itself b
keeps_noting b n false = record { promises = λ token p e. e; notes = λ number h. any_grows (λ (m : Note). nat_eq m.number number) b.notes (n ∷ []) h }

-- so it stands behind what it stood behind
pub has_still : (b later : Books) (token : List ℕ) (funded : Option ℕ) → Keeps b later → HasPromise b token funded → HasPromise later token funded
has_still b later token funded keeps h = record { its = h.its; stands = keeps.promises token h.its h.stands; funded_is = h.funded_is }

pub backed_still : (token : ℕ → List ℕ) (rows : List Row) (b later : Books) → Keeps b later → (i : Input) → IsBacked token rows b i → IsBacked token rows later i
backed_still token rows b later keeps (input.Answer call outcome.Funded) h =
    record { call = h.call; among = h.among; number_is = h.number_is; promised = has_still b later (token call.0) (Some h.call.amount) keeps h.promised }
backed_still token rows b later keeps (input.Answer call (outcome.Partial currency amount)) h = has_still b later (token call.0) (Some amount) keeps h
backed_still token rows b later keeps (input.Answer call outcome.Refused) h = has_still b later (token call.0) None keeps h
backed_still token rows b later keeps (input.Answer call outcome.Connection) h = tt
backed_still token rows b later keeps (input.Answer call outcome.Application) h = tt
backed_still token rows b later keeps (input.Ack number) h = keeps.notes number h
backed_still token rows b later keeps _ h = tt

pub kept_still : (token : ℕ → List ℕ) (b later : Books) → Keeps b later → (what : Sent) (given : Given) → IsKept token b what given → IsKept token later what given
kept_still token b later keeps (sent.Request o) (Funded amount) h = has_still b later (token o.call.0) (Some amount) keeps h
kept_still token b later keeps (sent.Request o) Refused h = has_still b later (token o.call.0) None keeps h
kept_still token b later keeps (sent.Request o) Acked h = tt
kept_still token b later keeps (sent.Notice n) Acked h = keeps.notes n.number h
kept_still token b later keeps (sent.Notice n) (Funded amount) h = tt
kept_still token b later keeps (sent.Notice n) Refused h = tt

-- and what it gave is an input behind which it stands
pub given_backed : (token : ℕ → List ℕ) (rows : List Row) (b : Books) (what : Sent) (given : Given) (i : Input) → IsMade rows what → IsKept token b what given → input_given what given ≡ Some i → IsBacked token rows b i
given_backed token rows b (sent.Request o) (Funded amount) i made h e =
    subst (IsBacked token rows b) (its (funded_answer o amount) i e) (by (nat_eq amount o.amount) refl)
  where
    its : (i j : Input) → Some i ≡ Some j → i ≡ j
    its i j e = cc

    by : (t : Bool) → nat_eq amount o.amount ≡ t → IsBacked token rows b (cond t (input.Answer o.call outcome.Funded) (input.Answer o.call (outcome.Partial o.currency amount)))
    by true same =
        record { call = o; among = made; number_is = refl; promised = subst (λ (n : ℕ). HasPromise b (token o.call.0) (Some n)) (number_is amount o.amount same) h }
    by false other = h
given_backed token rows b (sent.Request o) Refused i made h e = let same : input.Answer o.call outcome.Refused ≡ i = cc in subst (IsBacked token rows b) same h
given_backed token rows b (sent.Request o) Acked i made h e = cc
given_backed token rows b (sent.Notice n) Acked i made h e = let same : input.Ack n.number ≡ i = cc in subst (IsBacked token rows b) same h
given_backed token rows b (sent.Notice n) (Funded amount) i made h e = cc
given_backed token rows b (sent.Notice n) Refused i made h e = cc

-- what is heard ----

own_tokens : (ps : List Promise) (p : Promise) → AreOfOwnTokens ps → list_any (λ q. bytes_eq q.token p.token) ps ≡ false → AreOfOwnTokens (ps ++ p ∷ [])
own_tokens [] p h none = (refl, tt)
own_tokens (q ∷ qs) p h none =
    let parts = neither (bytes_eq q.token p.token) (list_any (λ (r : Promise). bytes_eq r.token p.token) qs) none in
    (none_later qs h.0 (name-sym p.token q.token ∙ parts.0), own_tokens qs p h.1 parts.1)
  where
    none_later : (rs : List Promise) → list_any (λ (r : Promise). bytes_eq r.token q.token) rs ≡ false → bytes_eq p.token q.token ≡ false → list_any (λ (r : Promise). bytes_eq r.token q.token) (rs ++ p ∷ []) ≡ false
    none_later [] none other = ap (λ (b : Bool). b || false) other
    none_later (r ∷ rs) none other =
        let parts = neither (bytes_eq r.token q.token) (list_any (λ (r : Promise). bytes_eq r.token q.token) rs) none in
        ap (λ (b : Bool). b || list_any (λ (r : Promise). bytes_eq r.token q.token) (rs ++ p ∷ [])) parts.0 ∙ none_later rs parts.1 other

own_numbers : (ns : List Note) (n : Note) → AreOfOwnNumbers ns → list_any (λ m. nat_eq m.number n.number) ns ≡ false → AreOfOwnNumbers (ns ++ n ∷ [])
own_numbers [] n h none = (refl, tt)
own_numbers (q ∷ qs) n h none =
    let parts = neither (nat_eq q.number n.number) (list_any (λ (r : Note). nat_eq r.number n.number) qs) none in
    (none_later qs h.0 (number-sym n.number q.number ∙ parts.0), own_numbers qs n h.1 parts.1)
  where
    none_later : (rs : List Note) → list_any (λ (r : Note). nat_eq r.number q.number) rs ≡ false → nat_eq n.number q.number ≡ false → list_any (λ (r : Note). nat_eq r.number q.number) (rs ++ n ∷ []) ≡ false
    none_later [] none other = ap (λ (b : Bool). b || false) other
    none_later (r ∷ rs) none other =
        let parts = neither (nat_eq r.number q.number) (list_any (λ (r : Note). nat_eq r.number q.number) rs) none in
        ap (λ (b : Bool). b || list_any (λ (r : Note). nat_eq r.number q.number) (rs ++ n ∷ [])) parts.0 ∙ none_later rs parts.1 other

fair_promise : (token : ℕ → List ℕ) (rows : List Row) (b : Books) (p : Promise) → promise_of b p.token ≡ None → IsOfCall token rows p → AreFair token rows b → AreFair token rows (record b { promises = b.promises ++ p ∷ [] })
fair_promise token rows b p e its fair =
    record {
      promises = each_append (IsOfCall token rows) b.promises (p ∷ []) fair.promises (its, tt);
      notes = fair.notes;
      tokens = own_tokens b.promises p fair.tokens (none_found (λ (q : Promise). bytes_eq q.token p.token) b.promises e);
      numbers = fair.numbers;
    }

fair_note : (token : ℕ → List ℕ) (rows : List Row) (b : Books) (n : Note) (noted : Bool) → is_noted b n.number ≡ noted → IsOfNotice token rows n → AreFair token rows b → AreFair token rows (with_note b n noted)
fair_note token rows b n true e its fair = fair
fair_note token rows b n false e its fair =
    record {
      promises = fair.promises;
      notes = each_append (IsOfNotice token rows) b.notes (n ∷ []) fair.notes (its, tt);
      tokens = fair.tokens;
      numbers = own_numbers b.notes n fair.numbers e;
    }

-- what a message that was sent leaves: the gateway keeps what it had, is fair, and stands behind what it gives
pub record IsHeard (token : ℕ → List ℕ) (rows : List Row) (b : Books) (what : Sent) (given : Given) (later : Books) : Type 0 where
  pub keeps : Keeps b later
  pub fair : AreFair token rows later
  pub kept : IsKept token later what given

promise_kept : (token : ℕ → List ℕ) (b : Books) (o : Opened) (p : Promise) → promise_of b (token o.call.0) ≡ Some p → IsKept token b (sent.Request o) (given_of p.funded)
promise_kept token b o p e = by p.funded refl
  where
    by : (funded : Option ℕ) → p.funded ≡ funded → IsKept token b (sent.Request o) (given_of funded)
    by None h = record { its = p; stands = e; funded_is = h }
    by (Some amount) h = record { its = p; stands = e; funded_is = h }

first_found : (b : Books) (p : Promise) → promise_of b p.token ≡ None → promise_of (record b { promises = b.promises ++ p ∷ [] }) p.token ≡ Some p
first_found b p e = last_found (λ (q : Promise). bytes_eq q.token p.token) b.promises p e ∙ ap (λ (t : Bool). cond t (Some p) None) (its_name p.token)

asked_heard : (token : ℕ → List ℕ) (rows : List Row) (b : Books) (o : Opened) (first : Option Promise) → promise_of b (token o.call.0) ≡ first → Among o (opened_of rows) → AreFair token rows b → (given : Given) (later : Books)
    → Answers b (token o.call.0) o.amount o.currency o.user o.partial first given later → IsHeard token rows b (sent.Request o) given later
asked_heard token rows b o (Some p) e among fair given later h =
    record {
      keeps = subst (Keeps b) (sym h.0) (keeps_itself b);
      fair = subst (AreFair token rows) (sym h.0) fair;
      kept = subst (λ (x : Books). IsKept token x (sent.Request o) given) (sym h.0) (subst (IsKept token b (sent.Request o)) (sym h.1) (promise_kept token b o p e));
    }
asked_heard token rows b o None e among fair given later h =
    let p : Promise = record { token = token o.call.0; funded = h.0; currency = o.currency; user = o.user } in
    let books : Books = record b { promises = b.promises ++ p ∷ [] } in
    let its : IsOfCall token rows p = record { its = o; among = among; named = refl; currency = refl } in
    record {
      keeps = subst (Keeps b) (sym h.2) (keeps_promising b p);
      fair = subst (AreFair token rows) (sym h.2) (fair_promise token rows b p e its fair);
      kept = subst (λ (x : Books). IsKept token x (sent.Request o) given) (sym h.2) (subst (IsKept token books (sent.Request o)) (sym h.3) (promise_kept token books o p (first_found b p e)));
    }

noted_heard : (token : ℕ → List ℕ) (rows : List Row) (b : Books) (n : Notice) → Among n (notices_of rows) → AreFair token rows b → (given : Given) (later : Books)
    → Hears b (message.Note n.number (option_map (λ (call : CallId). token call.0) n.call) n.currency n.user n.gateway) given later → IsHeard token rows b (sent.Notice n) given later
noted_heard token rows b n among fair given later h =
    let m : Note = record { number = n.number; token = option_map (λ (call : CallId). token call.0) n.call; currency = n.currency; user = n.user; gateway = n.gateway } in
    let its : IsOfNotice token rows m = record { its = n; among = among; number = refl; named = refl; currency = refl; gateway = refl } in
    record {
      keeps = subst (Keeps b) (sym h.0) (keeps_noting b m (is_noted b m.number));
      fair = subst (AreFair token rows) (sym h.0) (fair_note token rows b m (is_noted b m.number) refl its fair);
      kept = subst (λ (x : Books). IsKept token x (sent.Notice n) given) (sym h.0)
          (subst (IsKept token (with_note b m (is_noted b m.number)) (sent.Notice n)) (sym h.1) (now_noted m (is_noted b m.number) refl));
    }
  where
    now_noted : (m : Note) (noted : Bool) → is_noted b m.number ≡ noted → is_noted (with_note b m noted) m.number ≡ true
    now_noted m true e = e
    now_noted m false e = any_last (λ (q : Note). nat_eq q.number m.number) b.notes m (same_number m.number)

pub sent_heard : (token : ℕ → List ℕ) (rows : List Row) (b : Books) (what : Sent) (m : Message) → message_sent token what ≡ Some m → IsMade rows what → AreFair token rows b → (given : Given) (later : Books) → Hears b m given later
    → IsHeard token rows b what given later
sent_heard token rows b (sent.Request o) m e made fair given later h =
    asked_heard token rows b o (promise_of b (token o.call.0)) refl made fair given later (subst (λ (x : Message). Hears b x given later) (sym (its (message.Ask (token o.call.0) o.amount o.currency o.user o.partial) m e)) h)
  where
    its : (x y : Message) → Some x ≡ Some y → x ≡ y
    its x y e = cc
sent_heard token rows b (sent.Notice n) m e made fair given later h =
    noted_heard token rows b n made fair given later (subst (λ (x : Message). Hears b x given later) (sym (its (is_limit n.amount && is_limit n.gateway) e)) h)
  where
    its : (t : Bool) → cond t (Some (message.Note n.number (option_map (λ (call : CallId). token call.0) n.call) n.currency n.user n.gateway)) None ≡ Some m
        → message.Note n.number (option_map (λ (call : CallId). token call.0) n.call) n.currency n.user n.gateway ≡ m
    its true e = cc
    its false e = cc

-- rows that go on ----

-- what rows make, these make too
pub record Grow (rows more : List Row) : Type 0 where
  pub opened : (o : Opened) → Among o (opened_of rows) → Among o (opened_of more)
  pub notices : (n : Notice) → Among n (notices_of rows) → Among n (notices_of more)

pub made_still : (rows more : List Row) → Grow rows more → (what : Sent) → IsMade rows what → IsMade more what
made_still rows more grow (sent.Request o) h = grow.opened o h
made_still rows more grow (sent.Notice n) h = grow.notices n h

pub right_still : (token : ℕ → List ℕ) (rows more : List Row) (b : Books) → Grow rows more → (a : Answered) → IsRight token rows b a → IsRight token more b a
right_still token rows more b grow a h = (made_still rows more grow a.what h.0, h.1)

pub backed_on : (token : ℕ → List ℕ) (rows more : List Row) (b : Books) → Grow rows more → (i : Input) → IsBacked token rows b i → IsBacked token more b i
backed_on token rows more b grow (input.Answer call outcome.Funded) h =
    record { call = h.call; among = grow.opened h.call h.among; number_is = h.number_is; promised = h.promised }
backed_on token rows more b grow (input.Answer call (outcome.Partial currency amount)) h = h
backed_on token rows more b grow (input.Answer call outcome.Refused) h = h
backed_on token rows more b grow (input.Answer call outcome.Connection) h = tt
backed_on token rows more b grow (input.Answer call outcome.Application) h = tt
backed_on token rows more b grow (input.Ack number) h = h
backed_on token rows more b grow _ h = tt

call_still : (token : ℕ → List ℕ) (rows more : List Row) → Grow rows more → (p : Promise) → IsOfCall token rows p → IsOfCall token more p
call_still token rows more grow p h = record { its = h.its; among = grow.opened h.its h.among; named = h.named; currency = h.currency }

notice_still : (token : ℕ → List ℕ) (rows more : List Row) → Grow rows more → (m : Note) → IsOfNotice token rows m → IsOfNotice token more m
notice_still token rows more grow m h =
    record { its = h.its; among = grow.notices h.its h.among; number = h.number; named = h.named; currency = h.currency; gateway = h.gateway }

pub fair_still : (token : ℕ → List ℕ) (rows more : List Row) → Grow rows more → (b : Books) → AreFair token rows b → AreFair token more b
fair_still token rows more grow b h =
    record {
      promises = each_weaker (IsOfCall token rows) (IsOfCall token more) (call_still token rows more grow) b.promises h.promises;
      notes = each_weaker (IsOfNotice token rows) (IsOfNotice token more) (notice_still token rows more grow) b.notes h.notes;
      tokens = h.tokens;
      numbers = h.numbers;
    }
