-- If an exchange is sound, the gateway's total and the balance of its account differ by the gap.
use Rattle.std.proofs.Common.{◌≡◌, ℕ, ◌≤◌, ℤ, pos, ◌+ℤ◌, Bool, true, false, not, cond, ◌&&◌, nat_eq, List, [], ◌∷◌, length, refl, sym, ap, ap₂, subst, ◌∙◌, arith}
use Rattle.std.specs.Prelude.{Option, Some, None, find, is_none, option_map, ◌-ℤ◌}
use Rattle.std.specs.List.{list_any}
use Rattle.std.specs.Str.{bytes_eq}
use Rattle.std.proofs.lemmas.Bool.{and_parts}
use Rattle.std.proofs.lemmas.Int.{ints}
use Rattle.iss_model.specs.declared.account.Account.TheVariants as account
use Rattle.iss_model.specs.declared.call.CallId.{CallId}
use Rattle.iss_model.specs.declared.call.How.{How}
use Rattle.iss_model.specs.declared.call.How.TheVariants as how
use Rattle.iss_model.specs.declared.call.Notice.{Notice}
use Rattle.iss_model.specs.declared.call.Opened.{Opened}
use Rattle.iss_model.specs.declared.currency.Currency.{Currency}
use Rattle.iss_model.specs.declared.entry.Row.{Row}
use Rattle.iss_model.specs.declared.input.Input.{Input}
use Rattle.iss_model.specs.declared.input.Input.TheVariants as input
use Rattle.iss_model.specs.declared.input.Outcome.TheVariants as outcome
use Rattle.iss_model.specs.declared.input.Record.{Record}
use Rattle.iss_model.specs.Currencies.{same_currency}
use Rattle.iss_model.proofs.Names.{one_name, same_name}
use Rattle.iss_model.specs.rules.Activity.{CallNow, acknowledges, call_now, calls_of, is_asked, notices_of}
use Rattle.iss_model.specs.rules.Facts.{Facts, balance_in}
use Rattle.iss_model.specs.rules.Histories.{history_facts, history_of}
use Rattle.iss_state.proofs.effects.Finds.{found_passes, number_is, number-sym, same_number}
use Rattle.iss_state.proofs.docket.Closing.{calls_lone}
use Rattle.iss_state.proofs.docket.Lists.{Each, any_filtered, both_so, each_weaker, none_found}
use Rattle.iss_laws.specs.Rulings.{is_answer}
use Rattle.iss_laws.specs.CallEntries.{is_call, is_void, names_call}
use Rattle.iss_laws.specs.Calls.{one_where}
use Rattle.iss_laws.specs.Tests.{times}
use Rattle.iss_gateway.specs.declared.books.Note.{Note}
use Rattle.iss_gateway.specs.declared.books.Promise.{Promise}
use Rattle.iss_gateway.specs.Books.{Books, amount_or_none, given_back, is_noted, is_token_of, is_voided, promise_of, standing, total}
use Rattle.iss_gateway_laws.specs.Accounts.{back_by, cost_of, paid_for, sum_over}
use Rattle.iss_gateway_laws.specs.Told.{acks, funds_part}
use Rattle.iss_gateway_laws.proofs.Lists.{Among, all_among, among_any, among_mapped, any_among, each_among, found_among}
use Rattle.iss_gateway_laws.proofs.Sums.{AreApart, BelongsTo, matched_sum, sum_alike, sum_both, sum_filtered, worth_of}
use Rattle.iss_exchange_laws.specs.Gaps.{asked_gap, funded_by, funded_for, gap, is_void_pending, noted_gap, sum_of, voided_gap}
use Rattle.iss_exchange_laws.proofs.Books.{IsBook, call_named, lone_alike, none_of_both, notices_lone, same_call, same_notice, some_names}
use Rattle.iss_exchange_laws.proofs.Found.{same_sum, sum_listed}
use Rattle.iss_exchange_laws.proofs.Sound.{AreFair, AreOfOwnNumbers, AreOfOwnTokens, HasPromise, HasWhole, IsBacked, IsOfCall, IsOfNotice, opened_of, rows_of}

module _ (token : ℕ → List ℕ) (rs : List Record) (tokens : (m n : ℕ) → m ≤ length rs → n ≤ length rs → bytes_eq (token m) (token n) ≡ nat_eq m n) (book : IsBook rs) (b : Books)
    (fair : AreFair token (rows_of rs) b) (backed : Each (λ r. IsBacked token (rows_of rs) b r.input) rs) where
  abbrev rows : List Row
  rows = rows_of rs

  same_token : (m n : ℕ) → m ≤ length rs → n ≤ length rs → token m ≡ token n → m ≡ n
  same_token m n h k e = number_is m n (sym (tokens m n h k) ∙ same_name (token m) (token n) e)

  call_of : (o : Opened) → Among o (opened_of rows) → Among (call_now rows o) (calls_of rows)
  call_of o among = among_mapped (call_now rows) o (opened_of rows) among

  -- what is told by a record the gateway stands behind ----

  backs_funded : (n : ℕ) (i : Input) → is_answer n outcome.Funded i ≡ true → IsBacked token rows b i → HasWhole token rows b n
  backs_funded n (input.Answer call outcome.Funded) h k = subst (HasWhole token rows b) (number_is call.0 n (and_parts (nat_eq call.0 n) true h).0) k
  backs_funded n (input.Answer call (outcome.Partial currency amount)) h k = let never : false ≡ true = (and_parts (nat_eq call.0 n) false h).1 in cc
  backs_funded n (input.Answer call outcome.Refused) h k = let never : false ≡ true = (and_parts (nat_eq call.0 n) false h).1 in cc
  backs_funded n (input.Answer call outcome.Connection) h k = let never : false ≡ true = (and_parts (nat_eq call.0 n) false h).1 in cc
  backs_funded n (input.Answer call outcome.Application) h k = let never : false ≡ true = (and_parts (nat_eq call.0 n) false h).1 in cc
  backs_funded n _ h k = cc

  backs_part : (n amount : ℕ) (i : Input) → funds_part n amount i ≡ true → IsBacked token rows b i → HasPromise b (token n) (Some amount)
  backs_part n amount (input.Answer call (outcome.Partial currency part)) h k =
      let parts = and_parts (nat_eq call.0 n) (nat_eq part amount) h in
      subst (λ (a : ℕ). HasPromise b (token n) (Some a)) (number_is part amount parts.1) (subst (λ (m : ℕ). HasPromise b (token m) (Some part)) (number_is call.0 n parts.0) k)
  backs_part n amount (input.Answer call outcome.Funded) h k = cc
  backs_part n amount (input.Answer call outcome.Refused) h k = cc
  backs_part n amount (input.Answer call outcome.Connection) h k = cc
  backs_part n amount (input.Answer call outcome.Application) h k = cc
  backs_part n amount _ h k = cc

  backs_refused : (n : ℕ) (i : Input) → is_answer n outcome.Refused i ≡ true → IsBacked token rows b i → HasPromise b (token n) None
  backs_refused n (input.Answer call outcome.Refused) h k = subst (λ (m : ℕ). HasPromise b (token m) None) (number_is call.0 n (and_parts (nat_eq call.0 n) true h).0) k
  backs_refused n (input.Answer call (outcome.Partial currency amount)) h k = let never : false ≡ true = (and_parts (nat_eq call.0 n) false h).1 in cc
  backs_refused n (input.Answer call outcome.Funded) h k = let never : false ≡ true = (and_parts (nat_eq call.0 n) false h).1 in cc
  backs_refused n (input.Answer call outcome.Connection) h k = let never : false ≡ true = (and_parts (nat_eq call.0 n) false h).1 in cc
  backs_refused n (input.Answer call outcome.Application) h k = let never : false ≡ true = (and_parts (nat_eq call.0 n) false h).1 in cc
  backs_refused n _ h k = cc

  backs_acked : (n : ℕ) (i : Input) → acks n i ≡ true → IsBacked token rows b i → is_noted b n ≡ true
  backs_acked n (input.Ack notice) h k = subst (λ (m : ℕ). is_noted b m ≡ true) (sym (number_is n notice h)) k
  backs_acked n _ h k = cc

  -- what the gateway stands behind of a call is of its amount
  whole_of : (c : CallNow) → Among c (calls_of rows) → HasWhole token rows b c.opened.call.0 → HasPromise b (token c.opened.call.0) (Some c.opened.amount)
  whole_of c among has =
      let same : call_now rows has.call ≡ c = same_call rs book (call_now rows has.call) c (call_of has.call has.among) among has.number_is in
      subst (λ (n : ℕ). HasPromise b (token c.opened.call.0) (Some n)) (ap (λ (x : CallNow). x.opened.amount) same) has.promised

  told_funded : (c : CallNow) → Among c (calls_of rows) → c.how ≡ Some how.Funded → HasPromise b (token c.opened.call.0) (Some c.opened.amount)
  told_funded c among e =
      let r = any_among (λ (r : Record). is_answer c.opened.call.0 outcome.Funded r.input) rs (book.funded c among e) in
      whole_of c among (backs_funded c.opened.call.0 r.0.input r.2 (each_among (λ (r : Record). IsBacked token rows b r.input) r.0 rs backed r.1))

  told_part : (c : CallNow) → Among c (calls_of rows) → (amount : ℕ) → c.how ≡ Some (how.Partial amount) → HasPromise b (token c.opened.call.0) (Some amount)
  told_part c among amount e =
      let r = any_among (λ (r : Record). funds_part c.opened.call.0 amount r.input) rs (book.partly c among amount e) in
      backs_part c.opened.call.0 amount r.0.input r.2 (each_among (λ (r : Record). IsBacked token rows b r.input) r.0 rs backed r.1)

  told_refused : (c : CallNow) → Among c (calls_of rows) → c.how ≡ Some how.Refused → HasPromise b (token c.opened.call.0) None
  told_refused c among e =
      let r = any_among (λ (r : Record). is_answer c.opened.call.0 outcome.Refused r.input) rs (book.refused c among e) in
      backs_refused c.opened.call.0 r.0.input r.2 (each_among (λ (r : Record). IsBacked token rows b r.input) r.0 rs backed r.1)

  told_acked : (number : ℕ) → list_any (λ (row : Row). acknowledges number row.entry) rows ≡ true → is_noted b number ≡ true
  told_acked number h =
      let r = any_among (λ (r : Record). acks number r.input) rs (book.acked number h) in
      backs_acked number r.0.input r.2 (each_among (λ (r : Record). IsBacked token rows b r.input) r.0 rs backed r.1)

  -- what voids a call's token is of a notice that names the call
  voided_named : (n : ℕ) → n ≤ length rs → is_voided b (token n) ≡ true → some_names n (notices_of rows) ≡ true
  voided_named n few h =
      let m = any_among (λ (m : Note). is_token_of (token n) m.token) b.notes h in
      let its : IsOfNotice token rows m.0 = each_among (IsOfNotice token rows) m.0 b.notes fair.notes m.1 in
      among_any (λ (x : Notice). is_call n x.call) its.its (notices_of rows) its.among
      (by its.its its.among its.its.call refl (sym (ap (is_token_of (token n)) its.named) ∙ m.2))
    where
      by : (x : Notice) → Among x (notices_of rows) → (o : Option CallId) → x.call ≡ o → is_token_of (token n) (option_map (λ (call : CallId). token call.0) o) ≡ true → is_call n o ≡ true
      by x among None e h = cc
      by x among (Some call) e h = sym (tokens call.0 n (book.called x among call e) few) ∙ h

  -- a note of a notice's number is of that notice
  its_notice : (x : Notice) → Among x (notices_of rows) → (m : Note) → Among m b.notes → nat_eq m.number x.number ≡ true → (its : IsOfNotice token rows m) × (its.its ≡ x)
  its_notice x among m there e =
      let its : IsOfNotice token rows m = each_among (IsOfNotice token rows) m b.notes fair.notes there in
      (its, same_notice rs book its.its x its.among among (sym its.number ∙ number_is m.number x.number e))

  -- a notice that names a call voids its token, once the gateway has acted on it
  acted_voids : (n : ℕ) (x : Notice) → Among x (notices_of rows) → is_call n x.call ≡ true → is_noted b x.number ≡ true → is_voided b (token n) ≡ true
  acted_voids n x among names acted =
      let m = any_among (λ (m : Note). nat_eq m.number x.number) b.notes acted in
      let its = its_notice x among m.0 m.1 m.2 in
      among_any (λ (m : Note). is_token_of (token n) m.token) m.0 b.notes m.1
      (ap (is_token_of (token n)) (its.0.named ∙ ap (λ (x : Notice). option_map (λ (call : CallId). token call.0) x.call) its.1) ∙ token_of x.call names)
    where
      token_of : (o : Option CallId) → is_call n o ≡ true → is_token_of (token n) (option_map (λ (call : CallId). token call.0) o) ≡ true
      token_of None h = cc
      token_of (Some call) h = same_name (token call.0) (token n) (ap token (number_is call.0 n h))

  abbrev facts : Facts
  facts = history_facts (history_of rs)

  -- no notice has acknowledged it
  abbrev waits : Notice → Bool
  waits x = not (list_any (λ (row : Row). acknowledges x.number row.entry) rows)

  pending_named : (n : ℕ) → is_void_pending facts n ≡ list_any (λ (x : Notice). waits x && is_call n x.call) (notices_of rows)
  pending_named n = any_filtered (λ (x : Notice). is_call n x.call) waits (notices_of rows)

  -- What is known of a call.
  record Known (c : CallNow) : Type 0 where
    not_voided : is_void c.how ≡ false → is_voided b (token c.opened.call.0) ≡ false
    not_pending : is_void c.how ≡ false → is_void_pending facts c.opened.call.0 ≡ false
    undone : is_void c.how ≡ true → is_void_pending facts c.opened.call.0 ≡ false → is_voided b (token c.opened.call.0) ≡ true

  unless : (t : Bool) → (t ≡ true → ⊥) → t ≡ false
  unless true h = absurd (h refl)
  unless false h = refl

  known : (c : CallNow) → Among c (calls_of rows) → Known c
  known c among =
      let n : ℕ = c.opened.call.0 in
      let named : some_names n (notices_of rows) ≡ is_void c.how = call_named rows c (each_among (λ (c : CallNow). times (names_call c.opened.call.0) rows ≡ one_where (is_void c.how)) c (calls_of rows) book.named among) in
      record {
        not_voided = λ h. unless (is_voided b (token n)) (λ v. let never : false ≡ true = sym h ∙ sym named ∙ voided_named n (book.few c among) v in cc);
        not_pending = λ h. pending_named n ∙ none_of_both waits (λ (x : Notice). is_call n x.call) (notices_of rows) (named ∙ h);
        undone = λ h none.
            let x = any_among (λ (x : Notice). is_call n x.call) (notices_of rows) (named ∙ h) in
            let acked : waits x.0 ≡ false = unless (waits x.0)
            (λ w. let never : false ≡ true = sym (sym (pending_named n) ∙ none) ∙ among_any (λ (x : Notice). waits x && is_call n x.call) x.0 (notices_of rows) x.1 (both_so (waits x.0) (is_call n x.0.call) w x.2) in cc)
            in
            acted_voids n x.0 x.1 x.2 (told_acked x.0.number (twice (list_any (λ (row : Row). acknowledges x.0.number row.entry) rows) acked));
      }
    where
      twice : (t : Bool) → not t ≡ false → t ≡ true
      twice true h = refl
      twice false h = cc

  -- a call ----

  -- what the gateway has funded for a call
  abbrev funded : CallNow → ℤ
  funded call = amount_or_none (funded_for token b call.opened.call.0)

  abbrev asked_value : Currency → CallNow → ℤ
  asked_value c call = cond (same_currency call.opened.currency c && is_asked call) (funded call) (pos 0)

  abbrev voided_value : Currency → CallNow → ℤ
  voided_value c call = cond (same_currency call.opened.currency c && is_void_pending facts call.opened.call.0 && not (is_voided b (token call.opened.call.0))) (funded call) (pos 0)

  sums_up : (z : ℤ) → z ≡ z +ℤ (pos 0 +ℤ pos 0)
  sums_up z = omega (arith, ints)

  last_sum : (z : ℤ) → z ≡ pos 0 +ℤ (pos 0 +ℤ z)
  last_sum z = omega (arith, ints)

  middle_sum : (z : ℤ) → z ≡ pos 0 +ℤ (z +ℤ pos 0)
  middle_sum z = omega (arith, ints)

  -- what stands of this much for a call in a currency, if it is asked, closed by the gateway's word, or void
  asked_stood : (s v w : Bool) (z : ℤ) → w ≡ false → v ≡ false → cond (s && not w) z (pos 0) ≡ cond s (pos 0) (pos 0) +ℤ (cond (s && true) z (pos 0) +ℤ cond (s && v && not w) z (pos 0))
  asked_stood true false false z e h = middle_sum z
  asked_stood false false false z e h = refl
  asked_stood s true w z e h = cc
  asked_stood s v true z e h = cc

  paid_stood : (s v w : Bool) (z : ℤ) (m : ℕ) → w ≡ false → v ≡ false → z ≡ pos m → cond (s && not w) z (pos 0) ≡ cond s (pos m) (pos 0) +ℤ (cond (s && false) z (pos 0) +ℤ cond (s && v && not w) z (pos 0))
  paid_stood true false false z m e h k = k ∙ sums_up (pos m)
  paid_stood false false false z m e h k = refl
  paid_stood s true w z m e h k = cc
  paid_stood s v true z m e h k = cc

  void_stood : (s v w : Bool) (z : ℤ) → (v ≡ false → w ≡ true) → cond (s && not w) z (pos 0) ≡ cond s (pos 0) (pos 0) +ℤ (cond (s && false) z (pos 0) +ℤ cond (s && v && not w) z (pos 0))
  void_stood true true true z u = refl
  void_stood true true false z u = last_sum z
  void_stood true false true z u = refl
  void_stood true false false z u = let never : false ≡ true = u refl in cc
  void_stood false v w z u = refl

  stood : (closed : Option How) (s v w : Bool) (z : ℤ) (amount : ℕ) → (is_void closed ≡ false → w ≡ false) → (is_void closed ≡ false → v ≡ false) → (is_void closed ≡ true → v ≡ false → w ≡ true)
      → (closed ≡ Some how.Funded → z ≡ pos amount) → ((part : ℕ) → closed ≡ Some (how.Partial part) → z ≡ pos part) → (closed ≡ Some how.Refused → z ≡ pos 0)
      → cond (s && not w) z (pos 0) ≡ cond s (pos (cost_of amount closed)) (pos 0) +ℤ (cond (s && is_none closed) z (pos 0) +ℤ cond (s && v && not w) z (pos 0))
  stood None s v w z amount nw nv u f p r = asked_stood s v w z (nw refl) (nv refl)
  stood (Some how.Funded) s v w z amount nw nv u f p r = paid_stood s v w z amount (nw refl) (nv refl) (f refl)
  stood (Some (how.Partial part)) s v w z amount nw nv u f p r = paid_stood s v w z part (nw refl) (nv refl) (p part refl)
  stood (Some how.Refused) s v w z amount nw nv u f p r = paid_stood s v w z 0 (nw refl) (nv refl) (r refl)
  stood (Some (how.Failed why)) s v w z amount nw nv u f p r = void_stood s v w z (u refl)
  stood (Some how.Abandoned) s v w z amount nw nv u f p r = void_stood s v w z (u refl)

  -- a promise that the gateway has is what it funded for the call
  has_funded : (call : CallNow) (o : Option ℕ) → HasPromise b (token call.opened.call.0) o → funded call ≡ amount_or_none o
  has_funded call o has = ap (λ (p : Option Promise). amount_or_none (funded_by p)) has.stands ∙ ap amount_or_none has.funded_is

  promise_currency : (c : CallNow) → Among c (calls_of rows) → (p : Promise) → promise_of b (token c.opened.call.0) ≡ Some p → (p.currency ≡ c.opened.currency) × (p.token ≡ token c.opened.call.0)
  promise_currency c among p e =
      let its : IsOfCall token rows p = each_among (IsOfCall token rows) p b.promises fair.promises (found_among (λ (p : Promise). bytes_eq p.token (token c.opened.call.0)) b.promises p e) in
      let named : p.token ≡ token c.opened.call.0 = one_name p.token (token c.opened.call.0) (found_passes (λ (p : Promise). bytes_eq p.token (token c.opened.call.0)) b.promises p e) in
      let number : its.its.call.0 ≡ c.opened.call.0 = same_token its.its.call.0 c.opened.call.0 (book.few (call_now rows its.its) (call_of its.its its.among)) (book.few c among) (sym its.named ∙ named) in
      let same : call_now rows its.its ≡ c = same_call rs book (call_now rows its.its) c (call_of its.its its.among) among number in
      (its.currency ∙ ap (λ (x : CallNow). x.opened.currency) same, named)

  -- what stands of the promise for a call
  promise_stands : (c : Currency) (call : CallNow) → Among call (calls_of rows)
      → worth_of (standing b c) (promise_of b (token call.opened.call.0)) ≡ cond (same_currency call.opened.currency c && not (is_voided b (token call.opened.call.0))) (funded call) (pos 0)
  promise_stands c call among = by (promise_of b (token call.opened.call.0)) refl
    where
      by : (o : Option Promise) → promise_of b (token call.opened.call.0) ≡ o
          → worth_of (standing b c) o ≡ cond (same_currency call.opened.currency c && not (is_voided b (token call.opened.call.0))) (amount_or_none (funded_by o)) (pos 0)
      by None e = none (same_currency call.opened.currency c && not (is_voided b (token call.opened.call.0)))
        where
          none : (t : Bool) → pos 0 ≡ cond t (pos 0) (pos 0)
          none true = refl
          none false = refl
      by (Some p) e =
          let its = promise_currency call among p e in
          ap₂ (λ (x : Currency) (t : List ℕ). cond (same_currency x c && not (is_voided b t)) (amount_or_none p.funded) (pos 0)) its.0 its.1

  call_balances : (c : Currency) (call : CallNow) → Among call (calls_of rows)
      → worth_of (standing b c) (promise_of b (token call.opened.call.0)) ≡ paid_for c call +ℤ (asked_value c call +ℤ voided_value c call)
  call_balances c call among =
      let k : Known call = known call among in
      promise_stands c call among
      ∙ stood call.how (same_currency call.opened.currency c) (is_void_pending facts call.opened.call.0) (is_voided b (token call.opened.call.0)) (funded call) call.opened.amount k.not_voided k.not_pending k.undone
      (λ e. has_funded call (Some call.opened.amount) (told_funded call among e)) (λ part e. has_funded call (Some part) (told_part call among part e)) (λ e. has_funded call None (told_refused call among e))

  -- a notice ----

  abbrev noted_value : Currency → Notice → ℤ
  noted_value c x = cond (same_currency x.currency c && not (is_noted b x.number)) (pos x.gateway) (pos 0)

  -- the note of a number
  abbrev note_of : ℕ → Option Note
  note_of number = find (λ (m : Note). nat_eq m.number number) b.notes

  notice_balances : (c : Currency) (x : Notice) → Among x (notices_of rows)
      → back_by c x ≡ worth_of (given_back c) (note_of x.number) +ℤ cond (waits x) (noted_value c x) (pos 0)
  notice_balances c x among = by (note_of x.number) refl
    where
      open_sum : (s : Bool) (z : ℤ) → cond s z (pos 0) ≡ pos 0 +ℤ cond true (cond (s && true) z (pos 0)) (pos 0)
      open_sum true z = none z
        where
          none : (z : ℤ) → z ≡ pos 0 +ℤ z
          none z = omega (arith, ints)
      open_sum false z = refl

      acted_sum : (s t : Bool) (z : ℤ) → z ≡ z +ℤ cond t (cond (s && false) (pos x.gateway) (pos 0)) (pos 0)
      acted_sum s t z = none z (cond t (cond (s && false) (pos x.gateway) (pos 0)) (pos 0)) (zero s t)
        where
          none : (z w : ℤ) → w ≡ pos 0 → z ≡ z +ℤ w
          none z w e = omega (arith, ints, e)

          zero : (s t : Bool) → cond t (cond (s && false) (pos x.gateway) (pos 0)) (pos 0) ≡ pos 0
          zero true true = refl
          zero true false = refl
          zero false true = refl
          zero false false = refl

      waiting : is_noted b x.number ≡ false → waits x ≡ true
      waiting e = by (list_any (λ (row : Row). acknowledges x.number row.entry) rows) refl
        where
          by : (t : Bool) → list_any (λ (row : Row). acknowledges x.number row.entry) rows ≡ t → not t ≡ true
          by true h = let never : false ≡ true = sym e ∙ told_acked x.number h in cc
          by false h = refl

      by : (o : Option Note) → note_of x.number ≡ o → back_by c x ≡ worth_of (given_back c) o +ℤ cond (waits x) (noted_value c x) (pos 0)
      by None e =
          let none : is_noted b x.number ≡ false = none_found (λ (m : Note). nat_eq m.number x.number) b.notes e in
          open_sum (same_currency x.currency c) (pos x.gateway)
          ∙ ap₂ (λ (t u : Bool). pos 0 +ℤ cond t (cond (same_currency x.currency c && not u) (pos x.gateway) (pos 0)) (pos 0)) (sym (waiting none)) (sym none)
      by (Some m) e =
          let there : Among m b.notes = found_among (λ (m : Note). nat_eq m.number x.number) b.notes m e in
          let own : nat_eq m.number x.number ≡ true = found_passes (λ (m : Note). nat_eq m.number x.number) b.notes m e in
          let acted : is_noted b x.number ≡ true = among_any (λ (m : Note). nat_eq m.number x.number) m b.notes there own in
          let its = its_notice x among m there own in
          ap₂ (λ (y : Currency) (n : ℕ). cond (same_currency y c) (pos n) (pos 0))
          (sym (its.0.currency ∙ ap (λ (x : Notice). x.currency) its.1)) (sym (its.0.gateway ∙ ap (λ (x : Notice). x.gateway) its.1))
          ∙ acted_sum (same_currency x.currency c) (waits x) (given_back c m)
          ∙ ap (λ (u : Bool). given_back c m +ℤ cond (waits x) (cond (same_currency x.currency c && not u) (pos x.gateway) (pos 0)) (pos 0)) (sym acted)

  -- all together ----

  abbrev of_call : Promise → CallNow → Bool
  of_call p call = bytes_eq p.token (token call.opened.call.0)

  abbrev of_notice : Note → Notice → Bool
  of_notice m x = nat_eq m.number x.number

  promise_belongs : (p : Promise) → IsOfCall token rows p → BelongsTo of_call (calls_of rows) p
  promise_belongs p its =
      let same : (call : CallNow) → Among call (calls_of rows) → nat_eq call.opened.call.0 its.its.call.0 ≡ of_call p call = λ call among.
      number-sym call.opened.call.0 its.its.call.0
      ∙ sym (tokens its.its.call.0 call.opened.call.0 (book.few (call_now rows its.its) (call_of its.its its.among)) (book.few call among)) ∙ ap (λ (t : List ℕ). bytes_eq t (token call.opened.call.0)) (sym its.named)
      in
      record {
        lone = lone_alike (λ (call : CallNow). nat_eq call.opened.call.0 its.its.call.0) (of_call p) (calls_of rows) same (calls_lone 1 its.its.call.0 (calls_of rows) book.calls);
        there = among_any (of_call p) (call_now rows its.its) (calls_of rows) (call_of its.its its.among) (same_name p.token (token its.its.call.0) its.named);
      }

  note_belongs : (m : Note) → IsOfNotice token rows m → BelongsTo of_notice (notices_of rows) m
  note_belongs m its =
      let same : (x : Notice) → Among x (notices_of rows) → nat_eq x.number its.its.number ≡ of_notice m x = λ x among.
      number-sym x.number its.its.number ∙ ap (λ (n : ℕ). nat_eq n x.number) (sym its.number)
      in
      record {
        lone = lone_alike (λ (x : Notice). nat_eq x.number its.its.number) (of_notice m) (notices_of rows) same (notices_lone 1 its.its.number (notices_of rows) book.notices);
        there = among_any (of_notice m) its.its (notices_of rows) its.among (ap (λ (n : ℕ). nat_eq n its.its.number) its.number ∙ same_number its.its.number);
      }

  promises_apart : (ps : List Promise) → AreOfOwnTokens ps → AreApart of_call ps
  promises_apart [] h = tt
  promises_apart (p ∷ ps) h =
      (λ call e. ap (λ (t : List ℕ). list_any (λ (q : Promise). bytes_eq q.token t) ps) (sym (one_name p.token (token call.opened.call.0) e)) ∙ h.0, promises_apart ps h.1)

  notes_apart : (ms : List Note) → AreOfOwnNumbers ms → AreApart of_notice ms
  notes_apart [] h = tt
  notes_apart (m ∷ ms) h =
      (λ x e. ap (λ (n : ℕ). list_any (λ (q : Note). nat_eq q.number n) ms) (sym (number_is m.number x.number e)) ∙ h.0, notes_apart ms h.1)

  standing_sum : (c : Currency)
      → sum_over (standing b c) b.promises
      ≡ sum_over (paid_for c) (calls_of rows) +ℤ (sum_of (asked_gap token facts b c) +ℤ sum_of (voided_gap token facts b c))
  standing_sum c =
      matched_sum (standing b c) of_call b.promises (calls_of rows) (each_weaker (IsOfCall token rows) (BelongsTo of_call (calls_of rows)) promise_belongs b.promises fair.promises)
      (promises_apart b.promises fair.tokens)
      ∙ sum_alike (λ (call : CallNow). worth_of (standing b c) (promise_of b (token call.opened.call.0))) (λ (call : CallNow). paid_for c call +ℤ (asked_value c call +ℤ voided_value c call)) (calls_of rows)
      (each_weaker (λ (call : CallNow). Among call (calls_of rows)) (λ (call : CallNow). worth_of (standing b c) (promise_of b (token call.opened.call.0)) ≡ paid_for c call +ℤ (asked_value c call +ℤ voided_value c call))
      (call_balances c) (calls_of rows) (all_among (calls_of rows)))
      ∙ sum_both (paid_for c) (λ (call : CallNow). asked_value c call +ℤ voided_value c call) (calls_of rows)
      ∙ ap (λ (z : ℤ). sum_over (paid_for c) (calls_of rows) +ℤ z)
      (sum_both (asked_value c) (voided_value c) (calls_of rows)
      ∙ ap₂ (λ (x y : ℤ). x +ℤ y)
      (sym (sum_listed (λ (call : CallNow). same_currency call.opened.currency c && is_asked call) (λ (call : CallNow). call.opened.call.0) (λ (call : CallNow). funded_for token b call.opened.call.0) (calls_of rows)))
      (sym (sum_listed (λ (call : CallNow). same_currency call.opened.currency c && is_void_pending facts call.opened.call.0 && not (is_voided b (token call.opened.call.0))) (λ (call : CallNow). call.opened.call.0)
      (λ (call : CallNow). funded_for token b call.opened.call.0) (calls_of rows))))

  back_sum : (c : Currency) → sum_over (back_by c) (notices_of rows) ≡ sum_over (given_back c) b.notes +ℤ sum_of (noted_gap facts b c)
  back_sum c =
      sum_alike (back_by c) (λ (x : Notice). worth_of (given_back c) (note_of x.number) +ℤ cond (waits x) (noted_value c x) (pos 0)) (notices_of rows)
      (each_weaker (λ (x : Notice). Among x (notices_of rows)) (λ (x : Notice). back_by c x ≡ worth_of (given_back c) (note_of x.number) +ℤ cond (waits x) (noted_value c x) (pos 0))
      (notice_balances c) (notices_of rows) (all_among (notices_of rows)))
      ∙ sum_both (λ (x : Notice). worth_of (given_back c) (note_of x.number)) (λ (x : Notice). cond (waits x) (noted_value c x) (pos 0)) (notices_of rows)
      ∙ ap₂ (λ (x y : ℤ). x +ℤ y)
      (sym (matched_sum (given_back c) of_notice b.notes (notices_of rows) (each_weaker (IsOfNotice token rows) (BelongsTo of_notice (notices_of rows)) note_belongs b.notes fair.notes)
      (notes_apart b.notes fair.numbers)))
      (sym (sum_listed (λ (x : Notice). same_currency x.currency c && not (is_noted b x.number)) (λ (x : Notice). x.number) (λ (x : Notice). Some x.gateway) facts.pending
      ∙ sum_filtered waits (noted_value c) (notices_of rows)))

  -- the gateway's total and the balance of its account differ by what is on its way between them
  pub reconciled : (c : Currency) → total b c +ℤ balance_in facts (account.Gateway c) ≡ gap token facts b c
  reconciled c =
      ap₂ (λ (t z : ℤ). t +ℤ z) (ap₂ (λ (x y : ℤ). x -ℤ y) (same_sum (standing b c) b.promises) (same_sum (given_back c) b.notes)) (book.balance c)
      ∙ sum (sum_over (standing b c) b.promises) (sum_over (given_back c) b.notes) (sum_over (back_by c) (notices_of rows)) (sum_over (paid_for c) (calls_of rows))
      (sum_of (asked_gap token facts b c)) (sum_of (voided_gap token facts b c)) (sum_of (noted_gap facts b c)) (standing_sum c) (back_sum c)
    where
      sum : (stand given back paid a v n : ℤ) → stand ≡ paid +ℤ (a +ℤ v) → back ≡ given +ℤ n → (stand -ℤ given) +ℤ (back -ℤ paid) ≡ a +ℤ v +ℤ n
      sum stand given back paid a v n e h = omega (arith, ints, e, h)
