-- Each kind of input: what is spelled is taken again, whatever follows it.
use Rattle.std.proofs.Common.{◌≡◌, ℕ, ℤ, Bool, true, false, cond, ◌&&◌, List, [], ◌∷◌, ◌++◌, Option, Some, refl, sym, ap, ◌∙◌, append_assoc}
use Rattle.std.specs.List.{list_all}
use Rattle.std.proofs.lemmas.Bool.{and_parts}
use Rattle.std.proofs.lemmas.List.Folds.{list_all-append}
use Rattle.iss_model.specs.declared.currency.Currency.{Currency}
use Rattle.iss_model.specs.declared.setting.Funding.{Funding}
use Rattle.iss_model.specs.declared.setting.Window.{Window}
use Rattle.iss_model.specs.declared.setting.Moved.{Moved}
use Rattle.iss_model.specs.declared.setting.Association.{Association}
use Rattle.iss_model.specs.declared.setting.Scope.{Scope}
use Rattle.iss_model.specs.declared.input.Outcome.{Outcome}
use Rattle.iss_model.specs.declared.input.Outcome.TheVariants as outcome
use Rattle.iss_model.specs.declared.input.Input.{Input}
use Rattle.iss_model.specs.declared.input.Input.TheVariants as input
use Rattle.iss_model.specs.Forms.{is_amount, is_limit, is_mcc, is_number, is_timeout, is_hold_time, are_mccs, are_limits, is_scope, is_offset, is_outcome}
use Rattle.iss_model.specs.Inputs.{flag_contents, funding_number, window_number, outcome_number, spelled_moved, spelled_association}
use Rattle.iss_model.specs.texts.Spelling.{number_bytes, currency_bytes, amount_bytes, mcc_bytes, mccs_bytes, spelled_scope, spelled_fields, spelled_operation, kind_number, has_fields, is_utc, offset_bytes, answer_kind, moved_token, association_tokens, scope_tokens}
use Rattle.iss_codec.specs.Taking.{◌>>=◌}
use Rattle.iss_codec.specs.TakingRecords.{take_user, take_card, take_move, take_product, take_group, take_control, take_set, take_switch, take_operation, take_authorization, take_clearing, take_answer, take_part, take_ack, take_fields}
use Rattle.iss_codec.proofs.TakenFields.{IsField}
use Rattle.iss_codec.proofs.TakenParts.{amount_field, limit_field, mcc_field, id_field, timeout_field, hold_time_field, funding_field, window_field, is_numbered, outcome_field, currency_field, flag_field, both_limits, have_form, limits_field, offset_form, offset_field, mccs_field}
use Rattle.iss_codec.proofs.TakenChoices.{moved_form, moved_field, association_field, association_form, scope_field, scope_form}

-- a field before what the next steps read
again_step : {A B : Type 0} {taker : List ℕ → Option (A × List ℕ)} {text : A → List ℕ} {form : A → Bool} → IsField taker text form
    → (x : A) (rest : List ℕ) (f : A × List ℕ → Option B) (y : Option B) → form x ≡ true → f (x, rest) ≡ y → (taker (text x ++ rest) >>= f) ≡ y
again_step field x rest f y h e = ap (λ r. r >>= f) (field.again x rest h) ∙ e

-- texts in a row, the first one apart

grouped_2 : (a b r : List ℕ) → (a ++ b) ++ r ≡ a ++ (b ++ r)
grouped_2 a b r = append_assoc a b r

grouped_3 : (a b c r : List ℕ) → ((a ++ b) ++ c) ++ r ≡ a ++ (b ++ (c ++ r))
grouped_3 a b c r = append_assoc (a ++ b) c r ∙ grouped_2 a b (c ++ r)

grouped_4 : (a b c d r : List ℕ) → (((a ++ b) ++ c) ++ d) ++ r ≡ a ++ (b ++ (c ++ (d ++ r)))
grouped_4 a b c d r = append_assoc ((a ++ b) ++ c) d r ∙ grouped_3 a b c (d ++ r)

grouped_5 : (a b c d e r : List ℕ) → ((((a ++ b) ++ c) ++ d) ++ e) ++ r ≡ a ++ (b ++ (c ++ (d ++ (e ++ r))))
grouped_5 a b c d e r = append_assoc (((a ++ b) ++ c) ++ d) e r ∙ grouped_4 a b c d (e ++ r)

grouped_6 : (a b c d e f r : List ℕ) → (((((a ++ b) ++ c) ++ d) ++ e) ++ f) ++ r ≡ a ++ (b ++ (c ++ (d ++ (e ++ (f ++ r)))))
grouped_6 a b c d e f r = append_assoc ((((a ++ b) ++ c) ++ d) ++ e) f r ∙ grouped_5 a b c d e (f ++ r)

grouped_7 : (a b c d e f g r : List ℕ) → ((((((a ++ b) ++ c) ++ d) ++ e) ++ f) ++ g) ++ r ≡ a ++ (b ++ (c ++ (d ++ (e ++ (f ++ (g ++ r))))))
grouped_7 a b c d e f g r = append_assoc (((((a ++ b) ++ c) ++ d) ++ e) ++ f) g r ∙ grouped_6 a b c d e f (g ++ r)

grouped_8 : (a b c d e f g h r : List ℕ) → (((((((a ++ b) ++ c) ++ d) ++ e) ++ f) ++ g) ++ h) ++ r ≡ a ++ (b ++ (c ++ (d ++ (e ++ (f ++ (g ++ (h ++ r)))))))
grouped_8 a b c d e f g h r = append_assoc ((((((a ++ b) ++ c) ++ d) ++ e) ++ f) ++ g) h r ∙ grouped_7 a b c d e f g (h ++ r)

grouped_9 : (a b c d e f g h i r : List ℕ) → ((((((((a ++ b) ++ c) ++ d) ++ e) ++ f) ++ g) ++ h) ++ i) ++ r ≡ a ++ (b ++ (c ++ (d ++ (e ++ (f ++ (g ++ (h ++ (i ++ r))))))))
grouped_9 a b c d e f g h i r = append_assoc (((((((a ++ b) ++ c) ++ d) ++ e) ++ f) ++ g) ++ h) i r ∙ grouped_8 a b c d e f g h (i ++ r)

grouped_10 : (a b c d e f g h i j r : List ℕ) → (((((((((a ++ b) ++ c) ++ d) ++ e) ++ f) ++ g) ++ h) ++ i) ++ j) ++ r ≡ a ++ (b ++ (c ++ (d ++ (e ++ (f ++ (g ++ (h ++ (i ++ (j ++ r)))))))))
grouped_10 a b c d e f g h i j r = append_assoc ((((((((a ++ b) ++ c) ++ d) ++ e) ++ f) ++ g) ++ h) ++ i) j r ∙ grouped_9 a b c d e f g h i (j ++ r)

-- `name` is the field of a token, however it is spelled
module _ {take_name : List ℕ → Option (List ℕ × List ℕ)} {name_bytes : List ℕ → List ℕ} {is_name : List ℕ → Bool} (name : IsField take_name name_bytes is_name) where
  user_again : (token user : List ℕ) (rest : List ℕ) → is_name token ≡ true → is_name user ≡ true
      → take_user take_name (spelled_fields name_bytes (input.User token user) ++ rest) ≡ Some (input.User token user, rest)
  unfolding take_user
  user_again token user rest h1 h2 =
      ap (take_user take_name) (grouped_2 (name_bytes token) (name_bytes user) rest) ∙ again_step name token _ _ _ h1
      (again_step name user _ _ _ h2
      refl)

  card_again : (token card user product : List ℕ) (active : Bool) (rest : List ℕ) → is_name token ≡ true → is_name card ≡ true → is_name user ≡ true → is_name product ≡ true
      → take_card take_name (spelled_fields name_bytes (input.Card token card user product active) ++ rest) ≡ Some (input.Card token card user product active, rest)
  unfolding take_card
  card_again token card user product active rest h1 h2 h3 h4 =
      ap (take_card take_name) (grouped_5 (name_bytes token) (name_bytes card) (name_bytes user) (name_bytes product) (flag_contents active) rest) ∙ again_step name token _ _ _ h1
      (again_step name card _ _ _ h2
      (again_step name user _ _ _ h3
      (again_step name product _ _ _ h4
      (again_step flag_field active _ _ _ refl
      refl))))

  move_again : (token : List ℕ) (who : Moved) (rest : List ℕ) → is_name token ≡ true → moved_form is_name who ≡ true
      → take_move take_name (spelled_fields name_bytes (input.Move token who) ++ rest) ≡ Some (input.Move token who, rest)
  unfolding take_move
  move_again token who rest h1 h2 =
      ap (take_move take_name) (grouped_2 (name_bytes token) (spelled_moved name_bytes who) rest) ∙ again_step name token _ _ _ h1
      (again_step (moved_field name) who _ _ _ h2
      refl)

  product_again : (token product : List ℕ) (currency : Currency) (funding : Funding) (timeout_ms hold_ms : ℕ) (rest : List ℕ) → is_name token ≡ true → is_name product ≡ true → is_timeout timeout_ms ≡ true → is_hold_time hold_ms ≡ true
      → take_product take_name (spelled_fields name_bytes (input.Product token product currency funding timeout_ms hold_ms) ++ rest) ≡ Some (input.Product token product currency funding timeout_ms hold_ms, rest)
  unfolding take_product
  product_again token product currency funding timeout_ms hold_ms rest h1 h2 h5 h6 =
      ap (take_product take_name) (grouped_6 (name_bytes token) (name_bytes product) (currency_bytes currency) (funding_number funding ∷ []) (number_bytes 4 timeout_ms) (number_bytes 4 hold_ms) rest) ∙ again_step name token _ _ _ h1
      (again_step name product _ _ _ h2
      (again_step currency_field currency _ _ _ refl
      (again_step funding_field funding _ _ _ refl
      (again_step timeout_field timeout_ms _ _ _ h5
      (again_step hold_time_field hold_ms _ _ _ h6
      refl)))))

  group_again : (token group codes : List ℕ) (rest : List ℕ) → is_name token ≡ true → is_name group ≡ true → are_mccs codes ≡ true
      → take_group take_name (spelled_fields name_bytes (input.Group token group codes) ++ rest) ≡ Some (input.Group token group codes, rest)
  unfolding take_group
  group_again token group codes rest h1 h2 h3 =
      ap (take_group take_name) (grouped_3 (name_bytes token) (name_bytes group) (mccs_bytes codes) rest) ∙ again_step name token _ _ _ h1
      (again_step name group _ _ _ h2
      (again_step mccs_field codes _ _ _ h3
      refl))

  control_again : (local : Bool) (token control : List ℕ) (currency : Currency) (window : Window) (limits : Option ℕ × Option ℕ) (association : Association) (scope : Scope) (offset : ℤ) (active : Bool) (rest : List ℕ)
      → is_name token ≡ true → is_name control ≡ true → have_form window limits ≡ true → association_form is_name association ≡ true → scope_form is_name scope ≡ true → offset_form local offset ≡ true
      → take_control take_name local (spelled_fields name_bytes (input.Control token control currency window limits.0 limits.1 association scope offset active) ++ rest) ≡ Some (input.Control token control currency window limits.0 limits.1 association scope offset active, rest)
  unfolding take_control
  control_again local token control currency window limits association scope offset active rest h1 h2 h5 h6 h7 h8 =
      ap (take_control take_name local) (grouped_9 (name_bytes token) (name_bytes control) (currency_bytes currency) (window_number window ∷ []) (both_limits limits) (spelled_association name_bytes association) (spelled_scope name_bytes scope) (flag_contents active) (offset_bytes offset) rest) ∙ again_step name token _ _ _ h1
      (again_step name control _ _ _ h2
      (again_step currency_field currency _ _ _ refl
      (again_step window_field window _ _ _ refl
      (again_step (limits_field window) limits _ _ _ h5
      (again_step (association_field name) association _ _ _ h6
      (again_step (scope_field name) scope _ _ _ h7
      (again_step flag_field active _ _ _ refl
      (again_step (offset_field local) offset _ _ _ h8
      refl))))))))

  -- a control is read again by the kind that its offset gives
  control_by_kind : (b : Bool) (token control : List ℕ) (currency : Currency) (window : Window) (limits : Option ℕ × Option ℕ) (association : Association) (scope : Scope) (offset : ℤ) (active : Bool) (rest : List ℕ)
      → is_utc offset ≡ b → is_name token ≡ true → is_name control ≡ true → have_form window limits ≡ true → association_form is_name association ≡ true → scope_form is_name scope ≡ true → is_offset offset ≡ true
      → take_fields take_name (cond b 6 18) (spelled_fields name_bytes (input.Control token control currency window limits.0 limits.1 association scope offset active) ++ rest) ≡ Some (input.Control token control currency window limits.0 limits.1 association scope offset active, rest)
  unfolding take_fields
  control_by_kind true token control currency window limits association scope offset active rest is h1 h2 h5 h6 h7 h8 =
      control_again false token control currency window limits association scope offset active rest h1 h2 h5 h6 h7 is
  control_by_kind false token control currency window limits association scope offset active rest is h1 h2 h5 h6 h7 h8 =
      control_again true token control currency window limits association scope offset active rest h1 h2 h5 h6 h7 (rw (h8, is) refl)

  set_again : (token set product : List ℕ) (currency : Currency) (connection timeout application : Bool) (max day_limit : ℕ) (active : Bool) (rest : List ℕ) → is_name token ≡ true → is_name set ≡ true → is_name product ≡ true → is_limit max ≡ true → is_limit day_limit ≡ true
      → take_set take_name (spelled_fields name_bytes (input.Set token set product currency connection timeout application max day_limit active) ++ rest) ≡ Some (input.Set token set product currency connection timeout application max day_limit active, rest)
  unfolding take_set
  set_again token set product currency connection timeout application max day_limit active rest h1 h2 h3 h8 h9 =
      ap (take_set take_name) (grouped_10 (name_bytes token) (name_bytes set) (name_bytes product) (currency_bytes currency) (flag_contents connection) (flag_contents timeout) (flag_contents application) (amount_bytes max) (amount_bytes day_limit) (flag_contents active) rest) ∙ again_step name token _ _ _ h1
      (again_step name set _ _ _ h2
      (again_step name product _ _ _ h3
      (again_step currency_field currency _ _ _ refl
      (again_step flag_field connection _ _ _ refl
      (again_step flag_field timeout _ _ _ refl
      (again_step flag_field application _ _ _ refl
      (again_step limit_field max _ _ _ h8
      (again_step limit_field day_limit _ _ _ h9
      (again_step flag_field active _ _ _ refl
      refl)))))))))

  switch_again : (token product : List ℕ) (on : Bool) (rest : List ℕ) → is_name token ≡ true → is_name product ≡ true
      → take_switch take_name (spelled_fields name_bytes (input.Switch token product on) ++ rest) ≡ Some (input.Switch token product on, rest)
  unfolding take_switch
  switch_again token product on rest h1 h2 =
      ap (take_switch take_name) (grouped_3 (name_bytes token) (name_bytes product) (flag_contents on) rest) ∙ again_step name token _ _ _ h1
      (again_step name product _ _ _ h2
      (again_step flag_field on _ _ _ refl
      refl))

  operation_again : (make : List ℕ → List ℕ → Currency → ℕ → Input) (token about : List ℕ) (currency : Currency) (amount : ℕ) (rest : List ℕ) → is_name token ≡ true → is_name about ≡ true → is_amount amount ≡ true
      → take_operation take_name make (spelled_operation name_bytes token about currency amount ++ rest) ≡ Some (make token about currency amount, rest)
  unfolding take_operation
  operation_again make token about currency amount rest h1 h2 h4 =
      ap (take_operation take_name make) (grouped_4 (name_bytes token) (name_bytes about) (currency_bytes currency) (amount_bytes amount) rest) ∙ again_step name token _ _ _ h1
      (again_step name about _ _ _ h2
      (again_step currency_field currency _ _ _ refl
      (again_step amount_field amount _ _ _ h4
      refl)))

  authorization_again : (token card : List ℕ) (currency : Currency) (amount mcc : ℕ) (mid : List ℕ) (partial : Bool) (rest : List ℕ) → is_name token ≡ true → is_name card ≡ true → is_amount amount ≡ true → is_mcc mcc ≡ true → is_name mid ≡ true
      → take_authorization take_name partial (spelled_fields name_bytes (input.Authorization token card currency amount mcc mid partial) ++ rest) ≡ Some (input.Authorization token card currency amount mcc mid partial, rest)
  unfolding take_authorization
  authorization_again token card currency amount mcc mid partial rest h1 h2 h4 h5 h6 =
      ap (take_authorization take_name partial) (grouped_6 (name_bytes token) (name_bytes card) (currency_bytes currency) (amount_bytes amount) (mcc_bytes mcc) (name_bytes mid) rest) ∙ again_step name token _ _ _ h1
      (again_step name card _ _ _ h2
      (again_step currency_field currency _ _ _ refl
      (again_step amount_field amount _ _ _ h4
      (again_step mcc_field mcc _ _ _ h5
      (again_step name mid _ _ _ h6
      refl)))))

  -- an authorisation is read again by the kind that says what it permits
  authorization_by_kind : (partial : Bool) (token card : List ℕ) (currency : Currency) (amount mcc : ℕ) (mid rest : List ℕ) → is_name token ≡ true → is_name card ≡ true → is_amount amount ≡ true → is_mcc mcc ≡ true → is_name mid ≡ true
      → take_fields take_name (cond partial 20 10) (spelled_fields name_bytes (input.Authorization token card currency amount mcc mid partial) ++ rest) ≡ Some (input.Authorization token card currency amount mcc mid partial, rest)
  unfolding take_fields
  authorization_by_kind true token card currency amount mcc mid rest h1 h2 h4 h5 h6 = authorization_again token card currency amount mcc mid true rest h1 h2 h4 h5 h6
  authorization_by_kind false token card currency amount mcc mid rest h1 h2 h4 h5 h6 = authorization_again token card currency amount mcc mid false rest h1 h2 h4 h5 h6

  clearing_again : (token txn : List ℕ) (currency : Currency) (amount : ℕ) (last : Bool) (rest : List ℕ) → is_name token ≡ true → is_name txn ≡ true → is_amount amount ≡ true
      → take_clearing take_name (spelled_fields name_bytes (input.Clearing token txn currency amount last) ++ rest) ≡ Some (input.Clearing token txn currency amount last, rest)
  unfolding take_clearing
  clearing_again token txn currency amount last rest h1 h2 h4 =
      ap (take_clearing take_name) (grouped_5 (name_bytes token) (name_bytes txn) (currency_bytes currency) (amount_bytes amount) (flag_contents last) rest) ∙ again_step name token _ _ _ h1
      (again_step name txn _ _ _ h2
      (again_step currency_field currency _ _ _ refl
      (again_step amount_field amount _ _ _ h4
      (again_step flag_field last _ _ _ refl
      refl))))

  answer_again : (call : ℕ) (outcome : Outcome) (rest : List ℕ) → is_number call ≡ true → is_numbered outcome ≡ true
      → take_answer (number_bytes 4 call ++ (outcome_number outcome ∷ []) ++ rest) ≡ Some (input.Answer (record { 0 = call }) outcome, rest)
  unfolding take_answer
  answer_again call outcome rest h1 h2 =
      ap take_answer (grouped_2 (number_bytes 4 call) (outcome_number outcome ∷ []) rest) ∙ again_step id_field call _ _ _ h1
      (again_step outcome_field outcome _ _ _ h2
      refl)

  part_again : (call : ℕ) (currency : Currency) (amount : ℕ) (rest : List ℕ) → is_number call ≡ true → is_amount amount ≡ true
      → take_part (number_bytes 4 call ++ (currency_bytes currency ++ amount_bytes amount) ++ rest) ≡ Some (input.Answer (record { 0 = call }) (outcome.Partial currency amount), rest)
  unfolding take_part
  part_again call currency amount rest h1 h3 =
      ap take_part (grouped_2 (number_bytes 4 call) (currency_bytes currency ++ amount_bytes amount) rest ∙ ap (λ (t : List ℕ). number_bytes 4 call ++ t) (grouped_2 (currency_bytes currency) (amount_bytes amount) rest))
      ∙ again_step id_field call _ _ _ h1
      (again_step currency_field currency _ _ _ refl
      (again_step amount_field amount _ _ _ h3
      refl))

  -- an answer is read again by the kind of its outcome
  answer_by_kind : (call : ℕ) (o : Outcome) (rest : List ℕ) → is_number call ≡ true → is_outcome o ≡ true
      → take_fields take_name (answer_kind o) (spelled_fields name_bytes (input.Answer (record { 0 = call }) o) ++ rest) ≡ Some (input.Answer (record { 0 = call }) o, rest)
  unfolding take_fields
  answer_by_kind call outcome.Funded rest h1 h2 = answer_again call outcome.Funded rest h1 refl
  answer_by_kind call outcome.Refused rest h1 h2 = answer_again call outcome.Refused rest h1 refl
  answer_by_kind call outcome.Connection rest h1 h2 = answer_again call outcome.Connection rest h1 refl
  answer_by_kind call outcome.Application rest h1 h2 = answer_again call outcome.Application rest h1 refl
  answer_by_kind call (outcome.Partial currency amount) rest h1 h2 = part_again call currency amount rest h1 h2

  ack_again : (notice : ℕ) (rest : List ℕ) → is_number notice ≡ true
      → take_ack (spelled_fields name_bytes (input.Ack notice) ++ rest) ≡ Some (input.Ack notice, rest)
  unfolding take_ack
  ack_again notice rest h1 =
      again_step id_field notice _ _ _ h1
      refl

  two_tokens : (a b : List ℕ) → list_all is_name (a ∷ b ∷ []) ≡ true → (is_name a ≡ true) × (is_name b ≡ true)
  two_tokens a b h =
      let p = and_parts (is_name a) (list_all is_name (b ∷ [])) h in (p.0, (and_parts (is_name b) true p.1).0)

  three_tokens : (a b c : List ℕ) → list_all is_name (a ∷ b ∷ c ∷ []) ≡ true → (is_name a ≡ true) × (is_name b ≡ true) × (is_name c ≡ true)
  three_tokens a b c h =
      let p = and_parts (is_name a) (list_all is_name (b ∷ c ∷ [])) h in
      let q = two_tokens b c p.1 in (p.0, q.0, q.1)

  -- whatever kind of input it is
  pub fields_again : (i : Input) (rest : List ℕ) → has_fields is_name i ≡ true → take_fields take_name (kind_number i) (spelled_fields name_bytes i ++ rest) ≡ Some (i, rest)
  unfolding take_fields
  fields_again (input.User token user) rest h = let p = two_tokens token user h in user_again token user rest p.0 p.1
  fields_again (input.Card token card user product active) rest h =
      let p = and_parts (is_name token) (list_all is_name (card ∷ user ∷ product ∷ [])) h in
      let q = three_tokens card user product p.1 in card_again token card user product active rest p.0 q.0 q.1 q.2
  fields_again (input.Move token who) rest h = let p = two_tokens token (moved_token who) h in move_again token who rest p.0 p.1
  fields_again (input.Product token product currency funding timeout_ms hold_ms) rest h =
      let f = and_parts (is_timeout timeout_ms && is_hold_time hold_ms) (list_all is_name (token ∷ product ∷ [])) h in
      let g = and_parts (is_timeout timeout_ms) (is_hold_time hold_ms) f.0 in
      let p = two_tokens token product f.1 in product_again token product currency funding timeout_ms hold_ms rest p.0 p.1 g.0 g.1
  fields_again (input.Group token group mccs) rest h =
      let f = and_parts (are_mccs mccs) (list_all is_name (token ∷ group ∷ [])) h in
      let p = two_tokens token group f.1 in group_again token group mccs rest p.0 p.1 f.0
  fields_again (input.Control token control currency window amount_limit usage_limit association scope offset active) rest h =
      let f = and_parts (are_limits window amount_limit usage_limit && is_scope scope && is_offset offset) (list_all is_name (token ∷ control ∷ association_tokens association ++ scope_tokens scope)) h in
      let o = and_parts (are_limits window amount_limit usage_limit && is_scope scope) (is_offset offset) f.0 in
      let g = and_parts (are_limits window amount_limit usage_limit) (is_scope scope) o.0 in
      let p = and_parts (is_name token) (list_all is_name (control ∷ association_tokens association ++ scope_tokens scope)) f.1 in
      let q = and_parts (is_name control) (list_all is_name (association_tokens association ++ scope_tokens scope)) p.1 in
      let r = and_parts (association_form is_name association) (list_all is_name (scope_tokens scope)) (sym (list_all-append is_name (association_tokens association) (scope_tokens scope)) ∙ q.1) in
      control_by_kind (is_utc offset) token control currency window (amount_limit, usage_limit) association scope offset active rest refl p.0 q.0 g.0 r.0 (rw (g.1, r.1) refl) o.1
  fields_again (input.Set token set product currency connection timeout application max day_limit active) rest h =
      let f = and_parts (is_limit max && is_limit day_limit) (list_all is_name (token ∷ set ∷ product ∷ [])) h in
      let g = and_parts (is_limit max) (is_limit day_limit) f.0 in
      let p = three_tokens token set product f.1 in
      set_again token set product currency connection timeout application max day_limit active rest p.0 p.1 p.2 g.0 g.1
  fields_again (input.Switch token product on) rest h = let p = two_tokens token product h in switch_again token product on rest p.0 p.1
  fields_again (input.Load token user currency amount) rest h =
      let f = and_parts (is_amount amount) (list_all is_name (token ∷ user ∷ [])) h in
      let p = two_tokens token user f.1 in operation_again input.Load token user currency amount rest p.0 p.1 f.0
  fields_again (input.Authorization token card currency amount mcc mid partial) rest h =
      let f = and_parts (is_amount amount && is_mcc mcc) (list_all is_name (token ∷ card ∷ mid ∷ [])) h in
      let g = and_parts (is_amount amount) (is_mcc mcc) f.0 in
      let p = three_tokens token card mid f.1 in authorization_by_kind partial token card currency amount mcc mid rest p.0 p.1 g.0 g.1 p.2
  fields_again (input.Increment token txn currency amount) rest h =
      let f = and_parts (is_amount amount) (list_all is_name (token ∷ txn ∷ [])) h in
      let p = two_tokens token txn f.1 in operation_again input.Increment token txn currency amount rest p.0 p.1 f.0
  fields_again (input.Reversal token txn currency amount) rest h =
      let f = and_parts (is_amount amount) (list_all is_name (token ∷ txn ∷ [])) h in
      let p = two_tokens token txn f.1 in operation_again input.Reversal token txn currency amount rest p.0 p.1 f.0
  fields_again (input.Clearing token txn currency amount last) rest h =
      let f = and_parts (is_amount amount) (list_all is_name (token ∷ txn ∷ [])) h in
      let p = two_tokens token txn f.1 in clearing_again token txn currency amount last rest p.0 p.1 f.0
  fields_again (input.Refund token txn currency amount) rest h =
      let f = and_parts (is_amount amount) (list_all is_name (token ∷ txn ∷ [])) h in
      let p = two_tokens token txn f.1 in operation_again input.Refund token txn currency amount rest p.0 p.1 f.0
  fields_again (input.Answer call outcome) rest h =
      let f = and_parts (is_number call.0 && is_outcome outcome) true h in
      let g = and_parts (is_number call.0) (is_outcome outcome) f.0 in answer_by_kind call.0 outcome rest g.0 g.1
  fields_again (input.Ack notice) rest h = ack_again notice rest (and_parts (is_number notice) true h).0
  fields_again input.Time rest h = refl
