-- What is due and what each kind of input makes opens no more use than it counts.
use Rattle.iss_model.specs.rules.Pieces.{call_for, Parts, abandoned_calls_entries, hold_entries, notice_entry, parts_held, post_entries, release_entries, taken_to_clear, user_account, void_entry}
use Rattle.std.proofs.Common.{◌≡◌, ℕ, pos, neg_ℤ, ◌+ℤ◌, ◌-◌, ◌≤◌, Bool, true, cond, ◌&&◌, List, [], ◌∷◌, ◌++◌, fold, refl, sym, ap, subst, ◌∙◌, arith}
use Rattle.std.proofs.lemmas.Bool.{and_parts}
use Rattle.std.proofs.lemmas.Bool.Decides.{nat_tests}
use Rattle.std.proofs.lemmas.Int.{ints}
use Rattle.std.specs.Prelude.{nat_lt, Option, Some, None, is_some, option_map}
use Rattle.std.specs.Option.{option_or}
use Rattle.std.specs.Str.{bytes_eq}
use Rattle.iss_model.specs.declared.account.Account.TheVariants as account
use Rattle.iss_model.specs.declared.account.Part.TheVariants as part
use Rattle.iss_model.specs.declared.call.How.{How}
use Rattle.iss_model.specs.declared.call.How.TheVariants as how
use Rattle.iss_model.specs.declared.call.Method.TheVariants as method
use Rattle.iss_model.specs.declared.call.Opened.{Opened}
use Rattle.iss_model.specs.declared.decision.Reason.TheVariants as reason
use Rattle.iss_model.specs.declared.decision.Verdict.TheVariants as verdict
use Rattle.iss_model.specs.declared.entry.Entry.{Entry}
use Rattle.iss_model.specs.declared.entry.Entry.TheVariants as entry
use Rattle.iss_model.specs.declared.input.Input.{Input}
use Rattle.iss_model.specs.declared.txn.Txn.{Txn}
use Rattle.iss_model.specs.rules.Activity.{TxnNow, CallNow, txn_named}
use Rattle.iss_model.specs.Currencies.{same_currency}
use Rattle.iss_model.specs.rules.Asks.{Ask, ask_usage, call_ask}
use Rattle.iss_model.specs.rules.CardReasons.{first_ask, txn_asked}
use Rattle.iss_model.specs.rules.Due.{DueThing, thing_entries}
use Rattle.iss_model.specs.rules.Facts.{Facts}
use Rattle.iss_model.specs.rules.Reasons.{is_some_with}
use Rattle.iss_model.specs.rules.Stepping.{entries_of}
use Rattle.iss_model.specs.state.Cores.{CoreState, after_entry, core_facts, is_live}
use Rattle.iss_acts.proofs.Passing.{both_pass, gateway_passes, one_passes, passing}
use Rattle.iss_state.specs.Dockets.{docket_of}
use Rattle.iss_state.specs.Well.{HaveOwnTokens, IsWellAmong, Known}
use Rattle.iss_state.proofs.docket.Closing.{StandsItself, all_stand}
use Rattle.iss_state.proofs.docket.Docketed.{clearing_silent}
use Rattle.iss_state.proofs.docket.Entering.{apart_too, txn_more}
use Rattle.iss_state.proofs.docket.Lists.{Each, each_weaker, inside}
use Rattle.iss_state.specs.Pending.{HasTakenUp}
use Rattle.iss_state.proofs.calls.Due.{its_token}
use Rattle.iss_state.specs.Holdings.{BegunBy, IsHeldWell}
use Rattle.iss_model.specs.rules.Acts.{Abandons, Act, Asks, Begins, Clears, Fails, Funds, FundsPart, GivesBack, HoldsOwn, LetsGo, Refuses, StandsIn, TurnsDown, Uses, act_entries}
use Rattle.iss_acts.specs.Causes.{Cause, ComesOf, FallsDue}
use Rattle.iss_acts.specs.Sources.{IsAskedCall, IsFirstAsk, IsFundedPart, IsFurtherAsk, IsMade, IsStart, IsTxnOf}
use Rattle.iss_acts.specs.Stages.{Frees, Fresh, Keeps, Seeks, Stage, stage_after}
use Rattle.iss_acts.proofs.Walk.{FromStart, Goes, due_goes, from_start, of_asked, own_goes, txn_of_ask, txn_of_call}
use Rattle.iss_state.proofs.held.Acts.{IsReadyFor}
use Rattle.iss_state.proofs.held.Begun.{authorization_stamp, begun_stands, first_unnamed, not_live}
use Rattle.iss_state.proofs.held.Inputs.{due_ready, input_ready}
use Rattle.iss_state.proofs.held.Pieces.{HoldsJust, abandoned_calm, calm_leaves, clearing_leaves, its_parts}
use Rattle.iss_laws.proofs.OpenPieces.{abandoned_txns, abandonment_pays, ask_within, asked_again, clearing_pays, declined_within, free_first, free_last, funded_within, hold_for, knows_after, paid_within, part_funded_within, post_free, release_pays, silent_calls, silent_txns}
use Rattle.iss_laws.proofs.OpenUse.{Pays, Within, begin_pays, both_within, close_within, free_pays, open_within, weaker}
use Rattle.iss_laws.proofs.OpenCalls.{Counting, IsCounting, IsOfThese, Knows, opens, head_none}

-- a transaction of the facts is known
knows_of_facts : (s : CoreState) (t : Txn) → HaveOwnTokens s.holdings.txns → IsTxnOf (core_facts s) t → Knows s.holdings.txns t
knows_of_facts s t own its =
    subst (Knows s.holdings.txns) its.same
    (record { own = own; now = its.now; stands = ap (λ (x : List ℕ). txn_named x s.holdings.txns) (its_token s.holdings.txns its.token its.now its.stands) ∙ its.stands; its = refl })

-- a stamp that counts makes later ones count, up to a moment
abbrev pub CountsOn : Counting → ℕ → Type 0
CountsOn k last = (t : Txn) (a b : ℕ) → k.counts_at t a ≡ true → a ≤ b → b ≤ last → k.counts_at t b ≡ true

some_live : (o : Option TxnNow) → is_some_with (λ t. t.live) o ≡ true → is_some o ≡ true
some_live None h = h
some_live (Some t) h = refl

-- asked calls are of transactions that stand
calls_of_these : (known : Known) (s : CoreState) → IsWellAmong known (docket_of s) → Each (IsOfThese s.holdings.txns) s.calls
calls_of_these known s well =
    each_weaker (StandsItself s.calls) (IsOfThese s.holdings.txns)
    (λ c stands asked. some_live (txn_named c.opened.txn s.holdings.txns) (well.live c.opened.call.0 c (record { stands = stands; asked = asked }))) s.calls (all_stand s.calls well.calls.numbers)

-- with one more, of a new token, tokens are still their own
own_tokens_more : (txns : List TxnNow) (t : TxnNow) → HaveOwnTokens txns → txn_named t.txn.token txns ≡ None → HaveOwnTokens (txns ++ t ∷ [])
own_tokens_more [] t h none = (refl, tt)
own_tokens_more (x ∷ xs) t h none =
    let parts = head_none (bytes_eq x.txn.token t.txn.token) x (txn_named t.txn.token xs) none in (
      txn_more x.txn.token xs t
          ∙ ap (λ (o : Option TxnNow). option_or o (cond (bytes_eq t.txn.token x.txn.token) (Some t) None)) h.0
          ∙ ap (λ (b : Bool). option_or None (cond b (Some t) None)) (apart_too x.txn.token t.txn.token parts.0),
      own_tokens_more xs t h.1 parts.1,
    )

-- a part that is funded is no more than its call's amount
part_below : {by : Cause} (o : Opened) (amount : ℕ) → IsFundedPart by o amount → amount ≤ o.amount
part_below o amount is = less amount o.amount (and_parts (o.partial && same_currency is.currency o.currency) (nat_lt amount o.amount) is.counts).1
  where
    less : (a b : ℕ) → nat_lt a b ≡ true → a ≤ b
    less a b h = grind (arith, nat_tests)

ask_stamp : (token : List ℕ) (amount : ℕ) (partial : Bool) (at : ℕ) (o : Option Txn) (x : Ask) → option_map (first_ask token amount partial at) o ≡ Some x → x.at ≡ at
ask_stamp token amount partial at None x e = cc
ask_stamp token amount partial at (Some t) x e = ap (λ (x : Ask). x.at) (sym (inside e))

-- What is known at each stage: the transaction of an ask, and what a transaction holds with its calls as they were.
abbrev IsKnown : CoreState → Stage → CoreState → Type 0
IsKnown s Fresh q = q ≡ s
IsKnown s (Seeks ask) q = Knows q.holdings.txns ask.txn
IsKnown s (Keeps t parts) q = Knows q.holdings.txns t × HoldsJust q.holdings.parts t.token parts × (q.calls ≡ s.calls)
IsKnown s (Frees t parts) q = Knows q.holdings.txns t × HoldsJust q.holdings.parts t.token parts
IsKnown s _ q = Unit {0}

-- what may be opened from a stage on
abbrev budget : Counting → Stage → ℕ
budget k (Seeks ask) = opens k ask
budget k _ = 0

-- a state is ready for a cause; an input's record is of this time, and of none after the last
record IsTimely (k : Counting) (by : Cause) (at last : ℕ) (s : CoreState) : Type 0 where
  ready : IsReadyFor by s
  early : (i : Input) → by ≡ ComesOf i → s.now ≤ at
  by_last : (i : Input) → by ≡ ComesOf i → at ≤ last
  on : (i : Input) → by ≡ ComesOf i → CountsOn k last
  begun : (i : Input) → by ≡ ComesOf i → BegunBy s.now s.holdings.txns

module _ (k : Counting) (counting : IsCounting k) (last : ℕ) (by : Cause) (at : ℕ) (s : CoreState) (timely : IsTimely k by at last s) where
  own_tokens : HaveOwnTokens s.holdings.txns
  own_tokens = timely.ready.well.txns.tokens

  known_at : (q : CoreState) {g h : Stage} → g ≡ h → IsKnown s g q → IsKnown s h q
  known_at q e known = subst (λ (g : Stage). IsKnown s g q) e known

  begun_knows : (ask : Ask) → IsFirstAsk (core_facts s) by at ask → Knows (fold after_entry s (act_entries (Begins ask))).holdings.txns ask.txn
  begun_knows ask first =
      let none = first_unnamed s ask timely.ready.taken first in
      let now : TxnNow = record { txn = ask.txn; live = is_live s.holdings.txns ask.txn.token } in
      record { own = own_tokens_more s.holdings.txns now own_tokens none; now = now; stands = begun_stands s.holdings.txns ask.txn none; its = refl }

  cleared_parts : (q : CoreState) (t : Txn) (parts : Parts) → q ≡ s → parts ≡ parts_held (core_facts s) t → HoldsJust q.holdings.parts t.token parts
  cleared_parts q t parts same e =
      subst (λ (q : CoreState). HoldsJust q.holdings.parts t.token parts) (sym same) (subst (HoldsJust s.holdings.parts t.token) (sym e) (its_parts s t timely.ready.held))

  known_next : (g : Stage) (q : CoreState) (a : Act) → IsMade (core_facts s) by at g a → IsKnown s g q → IsKnown s (stage_after g a) (fold after_entry q (act_entries a))
  known_next g q (Begins ask) made known =
      subst (λ (q : CoreState). Knows (fold after_entry q (act_entries (Begins ask))).holdings.txns ask.txn) (sym (known_at q made.from.0 known)) (begun_knows ask made.from.1)
  known_next g q (Uses ask) made known =
      subst (λ (q : CoreState). Knows q.holdings.txns ask.txn) (sym (known_at q made.from.0 known)) (knows_of_facts s ask.txn own_tokens (txn_of_ask made.from.1))
  known_next g q (Fails number o t why) made known =
      subst (λ (q : CoreState). Knows q.holdings.txns t) (sym (known_at q made.from.0 known)) (knows_of_facts s t own_tokens (txn_of_call made.from.1))
  known_next g q (Clears t parts amount when) made known =
      let es : List Entry = act_entries (Clears t parts amount when) in
      let quiet = clearing_silent t (taken_to_clear parts amount) amount when in
      let same : q ≡ s = known_at q made.from.0 known in (
        knows_after q es t (silent_txns q es quiet) (subst (λ (q : CoreState). Knows q.holdings.txns t) (sym same) (knows_of_facts s t own_tokens made.from.1)),
        (clearing_leaves q t parts amount when (cleared_parts q t parts same made.from.2)).just,
        silent_calls q es quiet ∙ ap (λ (q : CoreState). q.calls) same,
      )
  known_next g q (Abandons number t why calls parts) made known =
      let there = known_at q made.from.0 known in (
        knows_after q (abandoned_calls_entries number t why calls) t (abandoned_txns q number t why calls) there.0,
        (calm_leaves q (abandoned_calls_entries number t why calls) t.token parts (abandoned_calm number t why calls) there.1).just,
      )
  known_next g q _ made known = tt

  -- what an act may open of what its stage may, so that the next stage may open the rest
  abbrev Spends : Stage → CoreState → Act → Type 0
  Spends g q a = Within k q (act_entries a) (pos (budget k g) +ℤ neg_ℤ (pos (budget k (stage_after g a))))

  -- entries that open no more than they count
  paid : (g : Stage) (q : CoreState) (es : List Entry) → Pays k q es → Within k q es (pos (budget k g) +ℤ neg_ℤ (pos 0))
  paid g q es pays = weaker k q es (pos 0) (pos (budget k g) +ℤ neg_ℤ (pos 0)) (omega (arith, ints)) pays

  -- entries that count what the next stage may open
  counted : (g : Stage) (q : CoreState) (es : List Entry) (n : ℕ) → Within k q es (neg_ℤ (pos n)) → Within k q es (pos (budget k g) +ℤ neg_ℤ (pos n))
  counted g q es n h = weaker k q es (neg_ℤ (pos n)) (pos (budget k g) +ℤ neg_ℤ (pos n)) (omega (arith, ints)) h

  -- entries that open what an ask may
  settled : (g : Stage) (q : CoreState) (es : List Entry) (ask : Ask) → g ≡ Seeks ask → Within k q es (pos (opens k ask)) → Within k q es (pos (budget k g) +ℤ neg_ℤ (pos 0))
  settled g q es ask e h =
      subst (λ (g : Stage). Within k q es (pos (budget k g) +ℤ neg_ℤ (pos 0))) (sym e) (weaker k q es (pos (opens k ask)) (pos (opens k ask) +ℤ neg_ℤ (pos 0)) (omega (arith, ints)) h)

  -- what a call may open is freed if it is closed, and opened by what settles its ask
  closed : (o : Opened) (t : Txn) (w : How) → IsAskedCall (core_facts s) o t → Within k s (entry.Closed o.call w ∷ []) (neg_ℤ (pos (opens k (call_ask o t))))
  closed o t w asked =
      of_asked (λ o t. Within k s (entry.Closed o.call w ∷ []) (neg_ℤ (pos (opens k (call_ask o t))))) asked
      (close_within k counting s asked.number asked.its asked.now.txn w (knows_of_facts s asked.now.txn own_tokens (record { token = asked.its.opened.txn; now = asked.now; stands = asked.txn_stands; same = refl }))
      (sym (its_token s.holdings.txns asked.its.opened.txn asked.now asked.txn_stands)) (record { stands = asked.stands; asked = asked.asked }))

  answered : (o : Opened) (t : Txn) (w : How) (es : List Entry) → IsAskedCall (core_facts s) o t → Within k (after_entry s (entry.Closed o.call w)) es (pos (opens k (call_ask o t))) → Pays k s (entry.Closed o.call w ∷ es)
  answered o t w es asked h =
      weaker k s (entry.Closed o.call w ∷ es) (neg_ℤ (pos (opens k (call_ask o t))) +ℤ pos (opens k (call_ask o t))) (pos 0) (omega (arith, ints))
      (both_within k s (entry.Closed o.call w ∷ []) es (neg_ℤ (pos (opens k (call_ask o t)))) (pos (opens k (call_ask o t))) (closed o t w asked) h)

  -- the stamp of an ask counts if its transaction's does
  first_counts : (ask : Ask) → IsFirstAsk (core_facts s) by at ask → k.counts_at ask.txn ask.txn.at ≡ true → k.counts_at ask.txn ask.at ≡ true
  first_counts ask first counts =
      let f : Facts = core_facts s in
      let begun : ask.txn.at ≡ at = authorization_stamp f first.token first.card first.currency first.amount first.mcc first.mid first.partial at ask first.made in
      let stamp : ask.at ≡ at = ask_stamp first.token first.amount first.partial at (txn_asked f first.token first.card first.currency first.mcc first.mid at) ask first.made in
      timely.on _ first.its_input ask.txn ask.txn.at ask.at counts (omega (arith, begun ∙ sym stamp)) (subst (λ (n : ℕ). n ≤ last) (sym stamp) (timely.by_last _ first.its_input))

  further_counts : (ask : Ask) → IsFurtherAsk (core_facts s) by at ask → k.counts_at ask.txn ask.txn.at ≡ true → k.counts_at ask.txn ask.at ≡ true
  further_counts ask more =
      subst (λ (ask : Ask). k.counts_at ask.txn ask.txn.at ≡ true → k.counts_at ask.txn ask.at ≡ true) (sym more.made)
      (λ counts. timely.on _ more.its_input more.now.txn more.now.txn.at at counts (omega (arith, timely.begun _ more.its_input more.txn more.now more.stands, timely.early _ more.its_input))
      (timely.by_last _ more.its_input))

  act_within : (g : Stage) (q : CoreState) (a : Act) → IsMade (core_facts s) by at g a → IsKnown s g q → Spends g q a
  act_within g q (Begins ask) made known =
      subst (λ (q : CoreState). Spends g q (Begins ask)) (sym (known_at q made.from.0 known)) (counted g s (act_entries (Begins ask)) (opens k ask) begun)
    where
      begun : Within k s (act_entries (Begins ask)) (neg_ℤ (pos (opens k ask)))
      begun =
          weaker k s (act_entries (Begins ask)) (pos 0 +ℤ neg_ℤ (pos (opens k ask))) (neg_ℤ (pos (opens k ask))) (omega (arith, ints))
          (both_within k s (entry.Began ask.txn ∷ []) (entry.Usage (ask_usage ask) ∷ []) (pos 0) (neg_ℤ (pos (opens k ask)))
          (begin_pays k counting s ask.txn (timely.ready.held.ended ask.txn.token (not_live (txn_named ask.txn.token s.holdings.txns) (first_unnamed s ask timely.ready.taken made.from.1)))
          (calls_of_these timely.ready.known s timely.ready.well))
          (ask_within k counting (after_entry s (entry.Began ask.txn)) ask (first_counts ask made.from.1)))
  act_within g q (Uses ask) made known = counted g q (act_entries (Uses ask)) (opens k ask) (ask_within k counting q ask (further_counts ask made.from.1))
  act_within g q (HoldsOwn ask) made known =
      settled g q (act_entries (HoldsOwn ask)) ask made.from.0
      (free_last k counting q (hold_entries ask.txn part.S ask.amount) (entry.Decided ask.event verdict.Approved ∷ []) (opens k ask) (hold_for k counting q ask part.S (known_at q made.from.0 known)) (one_passes refl))
  act_within g q (Asks f product ask) made known =
      settled g q (act_entries (Asks f product ask)) ask made.from.0 (open_within k counting q (call_for f product ask) ask.txn ask (known_at q made.from.0 known) refl (asked_again product f ask))
  act_within g q (Funds o t) made known =
      subst (λ (q : CoreState). Spends g q (Funds o t)) (sym (known_at q made.from.0 known))
      (paid g s (act_entries (Funds o t)) (answered o t how.Funded _ made.from.1 (funded_within k counting _ (call_ask o t) (account.Gateway t.currency) part.G (knows_of_facts s t own_tokens (txn_of_call made.from.1)))))
  act_within g q (FundsPart o t amount) made known =
      subst (λ (q : CoreState). Spends g q (FundsPart o t amount)) (sym (known_at q made.from.0 known))
      (paid g s (act_entries (FundsPart o t amount)) (answered o t (how.Partial amount) _ made.from.1 (part_funded_within k counting _ o t amount (part_below o amount made.from.2) (knows_of_facts s t own_tokens (txn_of_call made.from.1)))))
  act_within g q (Refuses o t) made known =
      subst (λ (q : CoreState). Spends g q (Refuses o t)) (sym (known_at q made.from.0 known))
      (paid g s (act_entries (Refuses o t)) (answered o t how.Refused _ made.from.1 (declined_within k counting _ (call_ask o t) reason.GatewayDeclined)))
  act_within g q (Fails number o t why) made known =
      subst (λ (q : CoreState). Spends g q (Fails number o t why)) (sym (known_at q made.from.0 known)) (counted g s (act_entries (Fails number o t why)) (opens k (call_ask o t)) failed)
    where
      failed : Within k s (act_entries (Fails number o t why)) (neg_ℤ (pos (opens k (call_ask o t))))
      failed =
          weaker k s (act_entries (Fails number o t why)) (neg_ℤ (pos (opens k (call_ask o t))) +ℤ pos 0) (neg_ℤ (pos (opens k (call_ask o t)))) (omega (arith, ints))
          (both_within k s (entry.Closed o.call (how.Failed why) ∷ []) (void_entry number t o ∷ []) (neg_ℤ (pos (opens k (call_ask o t)))) (pos 0) (closed o t (how.Failed why) made.from.1)
          (free_pays k counting _ (void_entry number t o ∷ []) (one_passes refl)))
  act_within g q (StandsIn number ask when set) made known =
      let t : Txn = ask.txn in
      let stood : List Entry = entry.Stood set.name t.product t.user ask.amount when ∷ [] in
      let money : List Entry = post_entries t (account.Programme t.currency) (user_account t) ask.amount ++ hold_entries t part.P ask.amount in
      let told : List Entry = notice_entry number method.StandIn t None ask.amount 0 ∷ entry.Decided ask.event verdict.Approved ∷ [] in
      settled g q (act_entries (StandsIn number ask when set)) ask made.from.0
      (free_first k counting q stood (money ++ told) (opens k ask) (one_passes refl)
      (free_last k counting (fold after_entry q stood) money told (opens k ask) (paid_within k counting (fold after_entry q stood) ask (account.Programme t.currency) part.P (known_at q made.from.0 known)) (passing refl)))
  act_within g q (TurnsDown ask why) made known = settled g q (act_entries (TurnsDown ask why)) ask made.from.0 (declined_within k counting q ask why)
  act_within g q (Abandons number t why calls parts) made known =
      let there = known_at q made.from.0 known in
      paid g q (abandoned_calls_entries number t why calls)
      (subst (λ (calls : List CallNow). Pays k q (abandoned_calls_entries number t why calls)) (sym made.from.2)
      (abandonment_pays k counting q number t why s.calls there.2 timely.ready.well.calls.numbers there.0))
  act_within g q (LetsGo t parts amount) made known =
      let there = known_at q made.from.0 known in paid g q (release_entries t parts amount) (release_pays k counting q t there.0 parts amount made.from.3 there.1)
  act_within g q (Clears t parts amount when) made known =
      let same : q ≡ s = known_at q made.from.0 known in
      paid g q (act_entries (Clears t parts amount when))
      (clearing_pays k counting q t (subst (λ (q : CoreState). Knows q.holdings.txns t) (sym same) (knows_of_facts s t own_tokens made.from.1)) parts amount when
      (cleared_parts q t parts same made.from.2))
  act_within g q (GivesBack t amount programme) made known =
      paid g q (act_entries (GivesBack t amount programme))
      (free_pays k counting q (act_entries (GivesBack t amount programme))
      (both_pass (post_free t (account.Network t.currency) (user_account t) amount)
      (gateway_passes t (both_pass (post_free t (user_account t) (account.Programme t.currency) programme) (post_free t (user_account t) (account.Gateway t.currency) (amount - programme))))))
  act_within g q a made known = paid g q (act_entries a) (free_pays k counting q (act_entries a) (passing refl))

  all_within : Goes (fold after_entry) (core_facts s) by at (IsKnown s) (λ g q es. Within k q es (pos (budget k g)))
  all_within =
      record {
        none = λ g q known. weaker k q [] (pos 0) (pos (budget k g)) (omega (arith, ints)) (free_pays k counting q [] (passing refl));
        next = known_next;
        then = λ g q a es made known rest.
            let n : ℕ = budget k (stage_after g a) in
            weaker k q (act_entries a ++ es) ((pos (budget k g) +ℤ neg_ℤ (pos n)) +ℤ pos n) (pos (budget k g)) (omega (arith, ints))
            (both_within k q (act_entries a) es (pos (budget k g) +ℤ neg_ℤ (pos n)) (pos n) (act_within g q a made known) rest);
      }

  start_known : (g : Stage) → IsStart (core_facts s) g → IsKnown s g s
  start_known = from_start (λ g. IsKnown s g s) refl (λ t its. (knows_of_facts s t own_tokens its, its_parts s t timely.ready.held, refl))

  -- nothing may be opened from the start of a row
  start_pays : (es : List Entry) → FromStart (core_facts s) (λ g q es. Within k q es (pos (budget k g))) s es → Pays k s es
  start_pays es row = from_start (λ g. Within k s es (pos (budget k g)) → Pays k s es) (λ h. h) (λ t its h. h) row.first row.starts row.holds

pub thing_uses : (k : Counting) → IsCounting k → (known : Known) (s : CoreState) (thing : DueThing) (at : ℕ) → IsWellAmong known (docket_of s) → IsHeldWell s
    → Pays k s (thing_entries thing at (core_facts s))
thing_uses k counting known s thing at well held =
    start_pays k counting 0 FallsDue at s timely (thing_entries thing at (core_facts s))
    (due_goes (core_facts s) thing at s (all_within k counting 0 FallsDue at s timely) (start_known k counting 0 FallsDue at s timely))
  where
    timely : IsTimely k FallsDue at 0 s
    timely = record { ready = due_ready well held; early = λ i e. cc; by_last = λ i e. cc; on = λ i e. cc; begun = λ i e. cc }

pub input_uses : (k : Counting) → IsCounting k → (last : ℕ) → CountsOn k last → (s : CoreState) (i : Input) (at : ℕ) → s.now ≤ at → at ≤ last → HasTakenUp s i → IsHeldWell s → BegunBy s.now s.holdings.txns
    → Pays k s (entries_of i at (core_facts s))
input_uses k counting last on s i at early by_last taken held begun =
    start_pays k counting last (ComesOf i) at s timely (entries_of i at (core_facts s))
    (own_goes (core_facts s) i at s (all_within k counting last (ComesOf i) at s timely) (start_known k counting last (ComesOf i) at s timely))
  where
    timely : IsTimely k (ComesOf i) at last s
    timely = record { ready = input_ready taken held; early = λ j e. early; by_last = λ j e. by_last; on = λ j e. on; begun = λ j e. begun }
