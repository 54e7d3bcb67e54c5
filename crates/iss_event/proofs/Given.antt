-- What holds of each input that the fields of a type may give holds of what they give.
use Rattle.std.proofs.Common.{codes, ◌≡◌, ℕ, ℤ, pos, ◌&&◌, ◌||◌, Bool, true, false, List, Option, Some, None, is_some, is_none, option_map, Result, Ok, Err, IfOk, IfSome, cond, refl, ap, ◌∙◌, arith}
use Rattle.std.specs.Option.{ok_or}
use Rattle.std.proofs.lemmas.Option.{IfSome_then}
use Rattle.std.proofs.lemmas.Bool.Decides.{nat_tests}
use Rattle.serde_json.specs.Data.{Data}
use Rattle.serde_json.specs.Find.{as_bool}
use Rattle.iss_model.specs.declared.limits.TheConstants.{SHORTEST_TIMEOUT, LONGEST_TIMEOUT, SHORTEST_HOLD, LONGEST_HOLD, GREATEST_USAGE}
use Rattle.iss_model.specs.declared.currency.Currency.{Currency}
use Rattle.iss_model.specs.declared.setting.Funding.{Funding}
use Rattle.iss_model.specs.declared.setting.Window.{Window}
use Rattle.iss_model.specs.declared.setting.Window.TheVariants as window
use Rattle.iss_model.specs.declared.setting.Association.{Association}
use Rattle.iss_model.specs.declared.setting.Scope.{Scope}
use Rattle.iss_model.specs.declared.setting.Moved.{Moved}
use Rattle.iss_model.specs.declared.input.Input.{Input}
use Rattle.iss_model.specs.declared.input.Input.TheVariants as input
use Rattle.iss_model.specs.Forms.{is_limit, is_usage_limit, is_none_or, is_mcc, is_timeout, is_hold_time, are_mccs, are_limits, may_count, is_scope, is_offset}
use Rattle.iss_field.specs.declared.name.Name.{Name}
use Rattle.iss_field.specs.declared.name.Name.TheVariants as name
use Rattle.iss_field.specs.Fields.{◌>>=◌, field, form_if, required_field, found_unless, required_field_unless, field_or, optional_field, optional_field_or}
use Rattle.iss_field.specs.Values.{token_of, currency_value, limit_of, whole_within, mcc_of, mccs_of, funding_of, window_of, offset_of}
use Rattle.iss_field.proofs.ValuesInForm.{Meets, IsWithin, limit_of-meets, whole_within-meets, mcc_of-meets, offset_of-meets}
use Rattle.iss_field.proofs.RisingCodes.{mccs_of-meets}
use Rattle.iss_field.proofs.FieldsInForm.{required-is, optional-is, optional_or-is}
use Rattle.iss_event.specs.Inputs.{user_input, card_input, whose_move, move_input, product_input, group_input, counts_purchases, limits_said, association_said, scope_named, scope_said, control_input, set_input, switch_input}

abbrev Text : Type 0
Text = Result (List ℕ) Name

abbrev Flag : Type 0
Flag = Result Bool Name

abbrev Number : Type 0
Number = Result ℕ Name

-- ---- settings

of_user : (P : Input → Type 0) (t u : Text) → ((token user : List ℕ) → P (input.User token user)) → IfOk (t >>= λ token. u >>= λ user. Ok (input.User token user)) P
of_user P (Ok token) (Ok user) h = h token user
of_user P _ _ h = tt

pub user-gives : (P : Input → Type 0) (d : Data) → ((token user : List ℕ) → P (input.User token user)) → IfOk (user_input d) P
unfolding user_input
user-gives P d h = of_user P (required_field token_of name.Token d) (required_field token_of name.User d) h

of_card : (P : Input → Type 0) (t c u p : Text) (a : Flag) → ((token card user product : List ℕ) (active : Bool) → P (input.Card token card user product active))
    → IfOk (t >>= λ token. c >>= λ card. u >>= λ user. p >>= λ product. a >>= λ active. Ok (input.Card token card user product active)) P
of_card P (Ok token) (Ok card) (Ok user) (Ok product) (Ok active) h = h token card user product active
of_card P _ _ _ _ _ h = tt

pub card-gives : (P : Input → Type 0) (d : Data) → ((token card user product : List ℕ) (active : Bool) → P (input.Card token card user product active)) → IfOk (card_input d) P
unfolding card_input
card-gives P d h =
    of_card P (required_field token_of name.Token d) (required_field token_of name.Card d) (required_field token_of name.User d)
    (optional_field_or token_of (codes "default") name.Product d) (optional_field_or as_bool true name.Active d) h

of_moved : (P : Input → Type 0) (token : List ℕ) (w : Result Moved Name) → ((token : List ℕ) (who : Moved) → P (input.Move token who)) → IfOk (w >>= λ who. Ok (input.Move token who)) P
of_moved P token (Ok who) h = h token who
of_moved P token (Err name) h = tt

of_move : (P : Input → Type 0) (t : Text) (c : Result (Option (List ℕ)) Name) (w : Option (List ℕ) → Result Moved Name) → ((token : List ℕ) (who : Moved) → P (input.Move token who))
    → IfOk (t >>= λ token. c >>= λ card. w card >>= λ who. Ok (input.Move token who)) P
of_move P (Ok token) (Ok card) w h = of_moved P token (w card) h
of_move P _ _ _ h = tt

pub move-gives : (P : Input → Type 0) (d : Data) → ((token : List ℕ) (who : Moved) → P (input.Move token who)) → IfOk (move_input d) P
unfolding move_input
move-gives P d h =
    of_move P (required_field token_of name.Token d) (optional_field token_of name.Card d) (λ card. whose_move card (is_some (field name.User d)) d) h

-- a product's times are in form
pub record HasTimes (timeout_ms hold_ms : ℕ) : Type 0 where
  pub timeout : is_timeout timeout_ms ≡ true
  pub hold : is_hold_time hold_ms ≡ true

of_product : (P : Input → Type 0) (t p : Text) (c : Result Currency Name) (f : Result Funding Name) (a h : Number) → IfOk a (Meets is_timeout) → IfOk h (Meets is_hold_time)
    → ((token product : List ℕ) (currency : Currency) (funding : Funding) (timeout_ms hold_ms : ℕ) → HasTimes timeout_ms hold_ms → P (input.Product token product currency funding timeout_ms hold_ms))
    → IfOk (t >>= λ token. p >>= λ product. c >>= λ currency. f >>= λ funding. a >>= λ timeout_ms. h >>= λ hold_ms. Ok (input.Product token product currency funding timeout_ms hold_ms)) P
of_product P (Ok token) (Ok product) (Ok currency) (Ok funding) (Ok timeout_ms) (Ok hold_ms) timeout hold g =
    g token product currency funding timeout_ms hold_ms (record { timeout = timeout; hold = hold })
of_product P _ _ _ _ _ _ _ _ g = tt

pub product-gives : (P : Input → Type 0) (d : Data)
    → ((token product : List ℕ) (currency : Currency) (funding : Funding) (timeout_ms hold_ms : ℕ) → HasTimes timeout_ms hold_ms → P (input.Product token product currency funding timeout_ms hold_ms))
    → IfOk (product_input d) P
unfolding product_input
product-gives P d h =
    of_product P (required_field token_of name.Token d) (required_field token_of name.Product d) (required_field currency_value name.Currency d)
    (required_field funding_of name.Funding d) (optional_field_or (whole_within SHORTEST_TIMEOUT LONGEST_TIMEOUT) 3000 name.TimeoutMs d)
    (optional_field_or (whole_within SHORTEST_HOLD LONGEST_HOLD) 604800000 name.HoldMs d)
    (optional_or-is (whole_within SHORTEST_TIMEOUT LONGEST_TIMEOUT) 3000 name.TimeoutMs d (Meets is_timeout) refl (whole_within-meets SHORTEST_TIMEOUT LONGEST_TIMEOUT))
    (optional_or-is (whole_within SHORTEST_HOLD LONGEST_HOLD) 604800000 name.HoldMs d (Meets is_hold_time) refl (whole_within-meets SHORTEST_HOLD LONGEST_HOLD)) h

of_group : (P : Input → Type 0) (t g : Text) (m : Result (List ℕ) Name) → IfOk m (λ mccs. are_mccs mccs ≡ true) → ((token group mccs : List ℕ) → are_mccs mccs ≡ true → P (input.Group token group mccs))
    → IfOk (t >>= λ token. g >>= λ group. m >>= λ mccs. Ok (input.Group token group mccs)) P
of_group P (Ok token) (Ok group) (Ok mccs) form h = h token group mccs form
of_group P _ _ _ form h = tt

pub group-gives : (P : Input → Type 0) (d : Data) → ((token group mccs : List ℕ) → are_mccs mccs ≡ true → P (input.Group token group mccs)) → IfOk (group_input d) P
unfolding group_input
group-gives P d h =
    of_group P (required_field token_of name.Token d) (required_field token_of name.Group d) (required_field mccs_of name.Mccs d)
    (required-is mccs_of name.Mccs d (λ mccs. are_mccs mccs ≡ true) mccs_of-meets) h

-- ---- the limits of a control

-- the amount limit is in form, and it is there if it isn't excused
record IsAmountLimit (excused : Bool) (limit : Option ℕ) : Type 0 where
  pub form : is_none_or is_limit limit ≡ true
  pub said : (is_some limit || excused) ≡ true

amount_limit_as : (excused : Bool) (o : Option ℕ) → IfSome o (Meets is_limit) → IfOk (ok_or (option_map Some o) name.AmountLimit) (IsAmountLimit excused)
amount_limit_as excused None form = tt
amount_limit_as excused (Some limit) form = record { form = form; said = refl }

amount_limit_found : (currency : Currency) (excused : Bool) (o : Option Data) → IfOk (found_unless excused (limit_of currency) name.AmountLimit o) (IsAmountLimit excused)
amount_limit_found currency true None = record { form = refl; said = refl }
amount_limit_found currency false None = tt
amount_limit_found currency excused (Some found) = amount_limit_as excused (limit_of currency found) (limit_of-meets currency found)

amount_limit : (currency : Currency) (excused : Bool) (d : Data) → IfOk (required_field_unless excused (limit_of currency) name.AmountLimit d) (IsAmountLimit excused)
unfolding required_field_unless
amount_limit currency excused d = amount_limit_found currency excused (field name.AmountLimit d)

-- the usage limit is in form and allowed, and read if its field is there
record IsUsageLimit (w : Window) (there : Bool) (limit : Option ℕ) : Type 0 where
  pub form : is_none_or is_usage_limit limit ≡ true
  pub allowed : may_count w limit ≡ true
  pub said : is_some limit ≡ there

none_counts : (w : Window) → may_count w None ≡ true
none_counts window.Transaction = refl
none_counts window.Day = refl
none_counts window.Week = refl
none_counts window.Month = refl
none_counts window.Lifetime = refl

usage_counts : (w : Window) (n : ℕ) → counts_purchases w ≡ true → may_count w (Some n) ≡ true
usage_counts window.Transaction n h = cc
usage_counts window.Day n h = refl
usage_counts window.Week n h = refl
usage_counts window.Month n h = refl
usage_counts window.Lifetime n h = refl

usage_limit_as : (w : Window) (counts : Bool) (o : Option ℕ) → counts_purchases w ≡ counts → IfSome o (Meets is_usage_limit)
    → IfOk (ok_or (option_map Some (cond counts o None)) name.UsageLimit) (IsUsageLimit w true)
usage_limit_as w false o is form = tt
usage_limit_as w true None is form = tt
usage_limit_as w true (Some n) is form = record { form = form; allowed = usage_counts w n is; said = refl }

from_zero : (n : ℕ) → IsWithin 0 GREATEST_USAGE n → is_usage_limit n ≡ true
from_zero n h = grind (arith, nat_tests)

usage_limit_found : (w : Window) (o : Option Data)
    → IfOk (field_or (λ found. option_map Some (form_if (counts_purchases w) (whole_within 0 GREATEST_USAGE) found)) None name.UsageLimit o) (IsUsageLimit w (is_some o))
usage_limit_found w None = record { form = refl; allowed = none_counts w; said = refl }
usage_limit_found w (Some found) =
    usage_limit_as w (counts_purchases w) (whole_within 0 GREATEST_USAGE found) refl
    (IfSome_then (whole_within 0 GREATEST_USAGE found) (whole_within-meets 0 GREATEST_USAGE found) from_zero)

usage_limit : (w : Window) (d : Data) → IfOk (optional_field (form_if (counts_purchases w) (whole_within 0 GREATEST_USAGE)) name.UsageLimit d) (IsUsageLimit w (is_some (field name.UsageLimit d)))
unfolding optional_field
usage_limit w d = usage_limit_found w (field name.UsageLimit d)

four : (a b c d : Bool) → a ≡ true → b ≡ true → c ≡ true → d ≡ true → (a && b && c && d) ≡ true
four a b c d h g f e = rw (h, g, f, e)

of_limits : (w : Window) (there : Bool) (a u : Result (Option ℕ) Name) → IfOk a (IsAmountLimit there) → IfOk u (IsUsageLimit w there)
    → IfOk {T = Option ℕ × Option ℕ} (a >>= λ most. u >>= λ often. Ok (most, often)) (λ limits. are_limits w limits.0 limits.1 ≡ true)
of_limits w there (Ok most) (Ok often) h g =
    four (is_none_or is_limit most) (is_none_or is_usage_limit often) (is_some most || is_some often) (may_count w often)
    h.form g.form (ap (λ (b : Bool). is_some most || b) g.said ∙ h.said) g.allowed
of_limits w there _ _ h g = tt

limits-are : (currency : Currency) (w : Window) (d : Data) → IfOk (limits_said currency w d) (λ limits. are_limits w limits.0 limits.1 ≡ true)
unfolding limits_said
limits-are currency w d =
    let there = is_some (field name.UsageLimit d) in
    of_limits w there (required_field_unless there (limit_of currency) name.AmountLimit d) (optional_field (form_if (counts_purchases w) (whole_within 0 GREATEST_USAGE)) name.UsageLimit d)
    (amount_limit currency there d) (usage_limit w d)

-- ---- the scope of a control, and the whole of it

scope_named-is : (mcc : Option ℕ) (group mid : Option (List ℕ)) → IfSome mcc (Meets is_mcc) → is_scope (scope_named mcc group mid) ≡ true
scope_named-is (Some mcc) group mid form = form
scope_named-is None (Some group) mid form = refl
scope_named-is None None (Some mid) form = refl
scope_named-is None None None form = refl

of_group_and_mid : (mcc : Option ℕ) (g : Result (Option (List ℕ)) Name) (m : Option (List ℕ) → Result (Option (List ℕ)) Name) → IfSome mcc (Meets is_mcc)
    → IfOk (g >>= λ group. m group >>= λ mid. Ok (scope_named mcc group mid)) (λ scope. is_scope scope ≡ true)
of_group_and_mid mcc (Ok group) m form = of_mid (m group)
  where
    of_mid : (m : Result (Option (List ℕ)) Name) → IfOk (m >>= λ mid. Ok (scope_named mcc group mid)) (λ scope. is_scope scope ≡ true)
    of_mid (Ok mid) = scope_named-is mcc group mid form
    of_mid (Err name) = tt
of_group_and_mid mcc (Err name) m form = tt

of_scope : (c : Result (Option ℕ) Name) (g : Option ℕ → Result (Option (List ℕ)) Name) (m : Option ℕ → Option (List ℕ) → Result (Option (List ℕ)) Name)
    → IfOk c (λ mcc. IfSome mcc (Meets is_mcc)) → IfOk (c >>= λ mcc. g mcc >>= λ group. m mcc group >>= λ mid. Ok (scope_named mcc group mid)) (λ scope. is_scope scope ≡ true)
of_scope (Ok mcc) g m form = of_group_and_mid mcc (g mcc) (m mcc) form
of_scope (Err name) g m form = tt

scope-is : (d : Data) → IfOk (scope_said d) (λ scope. is_scope scope ≡ true)
unfolding scope_said
scope-is d =
    of_scope (optional_field mcc_of name.Mcc d) (λ mcc. optional_field (form_if (is_none mcc) token_of) name.Group d)
    (λ mcc group. optional_field (form_if (is_none mcc && is_none group) token_of) name.Mid d)
    (optional-is mcc_of name.Mcc d (Meets is_mcc) mcc_of-meets)

abbrev ControlOf : (Input → Type 0) → Type 0
ControlOf P =
    (token control : List ℕ) (currency : Currency) (window : Window) (amount_limit usage_limit : Option ℕ) (association : Association) (scope : Scope) (offset : ℤ) (active : Bool)
    → are_limits window amount_limit usage_limit ≡ true → is_scope scope ≡ true → is_offset offset ≡ true
    → P (input.Control token control currency window amount_limit usage_limit association scope offset active)

of_controlled : (P : Input → Type 0) (token control : List ℕ) (currency : Currency) (window : Window) (l : Result (Option ℕ × Option ℕ) Name) (o : Result Association Name) (s : Result Scope Name) (z : Result ℤ Name) (a : Flag)
    → IfOk l (λ limits. are_limits window limits.0 limits.1 ≡ true) → IfOk s (λ scope. is_scope scope ≡ true) → IfOk z (λ offset. is_offset offset ≡ true) → ControlOf P
    → IfOk (l >>= λ limits. o >>= λ association. s >>= λ scope. z >>= λ offset. a >>= λ active. Ok (input.Control token control currency window limits.0 limits.1 association scope offset active)) P
of_controlled P token control currency window (Ok limits) (Ok association) (Ok scope) (Ok offset) (Ok active) h g k f =
    f token control currency window limits.0 limits.1 association scope offset active h g k
of_controlled P token control currency window _ _ _ _ _ h g k f = tt

of_control : (P : Input → Type 0) (t c : Text) (u : Result Currency Name) (w : Result Window Name) (l : Currency → Window → Result (Option ℕ × Option ℕ) Name) (o : Result Association Name) (s : Result Scope Name) (z : Result ℤ Name) (a : Flag)
    → ((currency : Currency) (window : Window) → IfOk (l currency window) (λ limits. are_limits window limits.0 limits.1 ≡ true)) → IfOk s (λ scope. is_scope scope ≡ true) → IfOk z (λ offset. is_offset offset ≡ true) → ControlOf P
    → IfOk (t >>= λ token. c >>= λ control. u >>= λ currency. w >>= λ window. l currency window >>= λ limits. o >>= λ association. s >>= λ scope. z >>= λ offset. a >>= λ active.
    Ok (input.Control token control currency window limits.0 limits.1 association scope offset active)) P
of_control P (Ok token) (Ok control) (Ok currency) (Ok window) l o s z a h g k f = of_controlled P token control currency window (l currency window) o s z a (h currency window) g k f
of_control P _ _ _ _ l o s z a h g k f = tt

pub control-gives : (P : Input → Type 0) (d : Data) → ControlOf P → IfOk (control_input d) P
unfolding control_input
control-gives P d h =
    of_control P (required_field token_of name.Token d) (required_field token_of name.Control d) (required_field currency_value name.Currency d) (required_field window_of name.Window d)
    (λ currency window. limits_said currency window d) (association_said d) (scope_said d) (optional_field_or offset_of (pos 0) name.UtcOffset d) (optional_field_or as_bool true name.Active d)
    (λ currency window. limits-are currency window d) (scope-is d)
    (optional_or-is offset_of (pos 0) name.UtcOffset d (λ o. is_offset o ≡ true) refl offset_of-meets) h

-- ---- sets and switches

abbrev SetOf : (Input → Type 0) → Type 0
SetOf P =
    (token set product : List ℕ) (currency : Currency) (connection timeout application : Bool) (max day_limit : ℕ) (active : Bool)
    → is_limit max ≡ true → is_limit day_limit ≡ true → P (input.Set token set product currency connection timeout application max day_limit active)

of_limited : (P : Input → Type 0) (token set product : List ℕ) (currency : Currency) (c t p : Flag) (m l : Number) (a : Flag) → IfOk m (Meets is_limit) → IfOk l (Meets is_limit) → SetOf P
    → IfOk (c >>= λ connection. t >>= λ timeout. p >>= λ application. m >>= λ max. l >>= λ day_limit. a >>= λ active.
    Ok (input.Set token set product currency connection timeout application max day_limit active)) P
of_limited P token set product currency (Ok connection) (Ok timeout) (Ok application) (Ok max) (Ok day_limit) (Ok active) h g f =
    f token set product currency connection timeout application max day_limit active h g
of_limited P token set product currency _ _ _ _ _ _ h g f = tt

of_set : (P : Input → Type 0) (t s p : Text) (u : Result Currency Name) (c o i : Flag) (m l : Currency → Number) (a : Flag)
    → ((currency : Currency) → IfOk (m currency) (Meets is_limit)) → ((currency : Currency) → IfOk (l currency) (Meets is_limit)) → SetOf P
    → IfOk (t >>= λ token. s >>= λ set. p >>= λ product. u >>= λ currency. c >>= λ connection. o >>= λ timeout. i >>= λ application. m currency >>= λ max. l currency >>= λ day_limit. a >>= λ active.
    Ok (input.Set token set product currency connection timeout application max day_limit active)) P
of_set P (Ok token) (Ok set) (Ok product) (Ok currency) c o i m l a h g f = of_limited P token set product currency c o i (m currency) (l currency) a (h currency) (g currency) f
of_set P _ _ _ _ c o i m l a h g f = tt

pub set-gives : (P : Input → Type 0) (d : Data) → SetOf P → IfOk (set_input d) P
unfolding set_input
set-gives P d h =
    of_set P (required_field token_of name.Token d) (required_field token_of name.Set d) (required_field token_of name.Product d) (required_field currency_value name.Currency d)
    (optional_field_or as_bool false name.Connection d) (optional_field_or as_bool false name.Timeout d) (optional_field_or as_bool false name.Application d)
    (λ currency. required_field (limit_of currency) name.Max d) (λ currency. required_field (limit_of currency) name.DayLimit d) (optional_field_or as_bool true name.Active d)
    (λ currency. required-is (limit_of currency) name.Max d (Meets is_limit) (limit_of-meets currency))
    (λ currency. required-is (limit_of currency) name.DayLimit d (Meets is_limit) (limit_of-meets currency)) h

of_switch : (P : Input → Type 0) (t p : Text) (o : Flag) → ((token product : List ℕ) (on : Bool) → P (input.Switch token product on))
    → IfOk (t >>= λ token. p >>= λ product. o >>= λ on. Ok (input.Switch token product on)) P
of_switch P (Ok token) (Ok product) (Ok on) h = h token product on
of_switch P _ _ _ h = tt

pub switch-gives : (P : Input → Type 0) (d : Data) → ((token product : List ℕ) (on : Bool) → P (input.Switch token product on)) → IfOk (switch_input d) P
unfolding switch_input
switch-gives P d h = of_switch P (required_field token_of name.Token d) (required_field token_of name.Product d) (required_field as_bool name.On d) h
