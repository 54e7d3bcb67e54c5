-- Exchanges with any honest gateway reconcile, and those with the reference gateway, which is honest.
use Rattle.std.proofs.Common.{◌≡◌, ℕ, ◌<◌, ◌≤◌, ℤ, pos, neg_ℤ, ◌+ℤ◌, Bool, true, false, not, cond, ◌&&◌, nat_le, List, [], ◌∷◌, ◌++◌, fold, refl, ap, ◌∙◌, inl, inr, arith}
use Rattle.std.specs.Prelude.{Option, Some, None}
use Rattle.std.specs.List.{cons_option, filter_map, list_any}
use Rattle.std.specs.Str.{bytes_eq}
use Rattle.std.proofs.lemmas.Bool.{and_parts}
use Rattle.std.proofs.lemmas.Bool.Decides.{nat_tests}
use Rattle.std.proofs.lemmas.Int.{ints}
use Rattle.iss_model.specs.declared.account.Account.TheVariants as account
use Rattle.iss_model.specs.declared.call.Notice.{Notice}
use Rattle.iss_model.specs.declared.currency.Currency.{Currency}
use Rattle.iss_model.specs.Currencies.{same_currency}
use Rattle.iss_model.specs.texts.CallTokens.{call_uuid}
use Rattle.iss_model.proofs.Lists.{neither}
use Rattle.iss_model.proofs.Names.{its_name}
use Rattle.iss_model.specs.rules.Activity.{CallNow, is_asked}
use Rattle.iss_model.specs.rules.Facts.{Facts, balance_in}
use Rattle.iss_laws.specs.CallEntries.{is_call}
use Rattle.iss_gateway.specs.declared.books.Promise.{Promise}
use Rattle.iss_gateway.specs.declared.message.Message.{Message}
use Rattle.iss_gateway.specs.declared.message.Message.TheVariants as message
use Rattle.iss_gateway.specs.Books.{Books, funded_first, given_after, given_by, heard, is_noted, is_voided, promise_of, total, with_promise}
use Rattle.iss_exchange_laws.specs.declared.moves.Move.{Move}
use Rattle.iss_exchange_laws.specs.declared.moves.Move.TheVariants as moves
use Rattle.iss_exchange_laws.specs.declared.moves.Sent.{Sent}
use Rattle.iss_exchange_laws.specs.Exchanges.{Exchange, at_place, new_exchange}
use Rattle.iss_exchange_laws.specs.Gaps.{amount_if, asked_gap, funded_for, is_void_pending, noted_gap, sum_of, voided_gap}
use Rattle.iss_exchange_laws.specs.Honest.{Answers, Delivers, Hears, HearsIf, LeadBy, Leads, MayFund}
use Rattle.iss_exchange_laws.specs.Laws.{IsEven, IsSettled, Reconciles, facts_of}
use Rattle.iss_exchange_laws.specs.Messages.{message_sent}
use Rattle.iss_exchange_laws.specs.Rules.{delivered, exchange_of, heard_if, moved, wish_in}
use Rattle.iss_exchange_laws.proofs.Found.{last_found}
use Rattle.iss_exchange_laws.proofs.Law.{sound_reconciles, uuid_tokens}
use Rattle.iss_exchange_laws.proofs.Led.{all_sound, nothing_sound}

-- nothing on its way ----

none_listed : {A : Type 0} (b : A → Bool) (n : A → ℕ) (o : A → Option ℕ) (xs : List A) → ((x : A) → b x ≡ false) → filter_map (λ x. amount_if (b x) (n x) (o x)) xs ≡ []
none_listed b n o [] none = refl
none_listed b n o (x ∷ xs) none = nothing (b x) (o x) (none x) ∙ none_listed b n o xs none
  where
    nothing : (t : Bool) (amount : Option ℕ) → t ≡ false → cons_option (amount_if t (n x) amount) (filter_map (λ x. amount_if (b x) (n x) (o x)) xs) ≡ filter_map (λ x. amount_if (b x) (n x) (o x)) xs
    nothing t None e = refl
    nothing false (Some m) e = refl
    nothing true (Some m) e = cc

module _ (token : ℕ → List ℕ) where
  none_asked : (b : Books) (c : Currency) (calls : List CallNow) → list_any is_asked calls ≡ false
      → filter_map (λ (call : CallNow). amount_if (same_currency call.opened.currency c && is_asked call) call.opened.call.0 (funded_for token b call.opened.call.0)) calls ≡ []
  none_asked b c [] h = refl
  none_asked b c (call ∷ calls) h =
      let parts = neither (is_asked call) (list_any is_asked calls) h in
      nothing (same_currency call.opened.currency c) (is_asked call) (funded_for token b call.opened.call.0) parts.0 ∙ none_asked b c calls parts.1
    where
      nothing : (s t : Bool) (o : Option ℕ) → t ≡ false
          → cons_option (amount_if (s && t) call.opened.call.0 o) (filter_map (λ (call : CallNow). amount_if (same_currency call.opened.currency c && is_asked call) call.opened.call.0 (funded_for token b call.opened.call.0)) calls)
          ≡ filter_map (λ (call : CallNow). amount_if (same_currency call.opened.currency c && is_asked call) call.opened.call.0 (funded_for token b call.opened.call.0)) calls
      nothing s t None e = refl
      nothing true false (Some m) e = refl
      nothing false false (Some m) e = refl
      nothing s true (Some m) e = cc

  settled_even : (x : Exchange) (c : Currency) → Reconciles token x c → IsSettled (facts_of x) → IsEven token x c
  settled_even x c reconciles settled =
      let f : Facts = facts_of x in
      let b : Books = x.books in
      let a : asked_gap token f b c ≡ [] = none_asked b c f.calls settled.calls in
      let v : voided_gap token f b c ≡ [] =
      none_listed (λ (call : CallNow). same_currency call.opened.currency c && is_void_pending f call.opened.call.0 && not (is_voided b (token call.opened.call.0)))
      (λ (call : CallNow). call.opened.call.0) (λ (call : CallNow). funded_for token b call.opened.call.0) f.calls
      (λ call. never (same_currency call.opened.currency c) (is_void_pending f call.opened.call.0) (not (is_voided b (token call.opened.call.0)))
      (ap (list_any (λ (n : Notice). is_call call.opened.call.0 n.call)) settled.notices))
      in
      let n : noted_gap f b c ≡ [] =
      ap (filter_map (λ (n : Notice). amount_if (same_currency n.currency c && not (is_noted b n.number)) n.number (Some n.gateway))) settled.notices
      in
      record {
        asked = a;
        voided = v;
        noted = n;
        total_is = owed (total b c) (balance_in f (account.Gateway c)) (sum_of (asked_gap token f b c)) (sum_of (voided_gap token f b c)) (sum_of (noted_gap f b c)) reconciles (ap sum_of a) (ap sum_of v) (ap sum_of n);
      }
    where
      never : (a b x : Bool) → b ≡ false → (a && b && x) ≡ false
      never true true x e = cc
      never true false x e = refl
      never false b x e = refl

      owed : (total balance a v n : ℤ) → total +ℤ balance ≡ a +ℤ v +ℤ n → a ≡ pos 0 → v ≡ pos 0 → n ≡ pos 0 → total ≡ neg_ℤ balance
      owed total balance a v n e h k l = omega (arith, ints, e, h, k, l)

-- the reference gateway is honest ----

may_fund : (wish amount : ℕ) (voided partial : Bool) → MayFund voided amount partial (funded_first wish voided amount partial)
may_fund wish amount true partial = inl refl
may_fund wish amount false partial = whole (nat_le amount wish) refl
  where
    part : (t : Bool) → (partial && nat_le 1 wish) ≡ t → nat_le amount wish ≡ false → MayFund false amount partial (cond t (Some wish) None)
    part true e f =
        let parts = and_parts partial (nat_le 1 wish) e in
        let least : 1 ≤ wish = let h = parts.1 in grind (arith, nat_tests) in
        let less : wish < amount = grind (arith, nat_tests) in
        inr (refl, inr (parts.0, (wish, least, less, refl)))
    part false e f = inl refl

    whole : (t : Bool) → nat_le amount wish ≡ t → MayFund false amount partial (cond t (Some amount) (cond (partial && nat_le 1 wish) (Some wish) None))
    whole true e = inr (refl, inl refl)
    whole false e = part (partial && nat_le 1 wish) refl e

heard_honestly : (wish : ℕ) (b : Books) (m : Message) → Hears b m (given_after (heard wish b m) m) (heard wish b m)
heard_honestly wish b (message.Ask token amount currency user partial) = by (promise_of b token) refl
  where
    p : Promise
    p = record { token = token; funded = funded_first wish (is_voided b token) amount partial; currency = currency; user = user }

    first : promise_of b token ≡ None → promise_of (record b { promises = b.promises ++ p ∷ [] }) token ≡ Some p
    first e = last_found (λ (q : Promise). bytes_eq q.token token) b.promises p e ∙ ap (λ (t : Bool). cond t (Some p) None) (its_name token)

    by : (o : Option Promise) → promise_of b token ≡ o → Answers b token amount currency user partial o (given_by (promise_of (with_promise b p o) token)) (with_promise b p o)
    by (Some q) e = (refl, ap given_by e)
    by None e = (funded_first wish (is_voided b token) amount partial, may_fund wish amount (is_voided b token) partial, refl, ap given_by (first e))
heard_honestly wish b (message.Note number token currency user gateway) = (refl, refl)

module _ (token : ℕ → List ℕ) (most limit : ℕ) where
  heard_leads : (x : Exchange) (what : Sent) (o : Option Message) → HearsIf x what o (heard_if most limit x what o)
  heard_leads x what None = refl
  heard_leads x what (Some m) =
      let b : Books = heard (wish_in most limit x m) x.books m in
      (given_after b m, b, heard_honestly (wish_in most limit x m) x.books m, refl)

  delivered_leads : (x : Exchange) (o : Option Sent) → Delivers token x o (delivered token most limit x o)
  delivered_leads x None = refl
  delivered_leads x (Some what) = heard_leads x what (message_sent token what)

  moved_leads : (x : Exchange) (m : Move) → Leads token x m (moved token most limit x m)
  moved_leads x (moves.Input i at) = refl
  moved_leads x moves.Release = refl
  moved_leads x (moves.Crash kept) = refl
  moved_leads x (moves.ToGateway i) = delivered_leads x (at_place i x.sent)
  moved_leads x (moves.ToProcessor i at) = refl

  all_lead : (ms : List Move) (x : Exchange) → LeadBy token ms x (fold (moved token most limit) x ms)
  all_lead [] x = refl
  all_lead (m ∷ ms) x = (moved token most limit x m, moved_leads x m, all_lead ms (moved token most limit x m))

-- the laws ----

pub reference_leads : (instance most limit : ℕ) (ms : List Move) → LeadBy (call_uuid instance) ms new_exchange (exchange_of (call_uuid instance) most limit ms)
reference_leads instance most limit ms = all_lead (call_uuid instance) most limit ms new_exchange

pub honest_reconcile : (instance : ℕ) (ms : List Move) (x : Exchange) → LeadBy (call_uuid instance) ms new_exchange x → (c : Currency) → Reconciles (call_uuid instance) x c
honest_reconcile instance ms x h c =
    sound_reconciles (call_uuid instance) (uuid_tokens instance) x (all_sound (call_uuid instance) ms new_exchange x h (nothing_sound (call_uuid instance))) c

pub honest_even : (instance : ℕ) (ms : List Move) (x : Exchange) → LeadBy (call_uuid instance) ms new_exchange x → (c : Currency) → IsSettled (facts_of x) → IsEven (call_uuid instance) x c
honest_even instance ms x h c settled = settled_even (call_uuid instance) x c (honest_reconcile instance ms x h c) settled
