-- Inputs of equal contents are equal, and so are inputs that are spelled alike.
use Rattle.std.proofs.Common.{◌≡◌, ℕ, ℤ, Bool, true, List, [], ◌∷◌, ◌++◌, drop, refl, sym, ap, ◌∙◌}
use Rattle.std.specs.Prelude.{◌↔◌, IsTrue, Option}
use Rattle.std.proofs.lemmas.List.{append-nil}
use Rattle.std.proofs.lemmas.Slice.Eq.{bytes_eq-Decides}
use Rattle.iss_model.specs.declared.currency.Currency.{Currency}
use Rattle.iss_model.specs.declared.setting.Funding.{Funding}
use Rattle.iss_model.specs.declared.setting.Window.{Window}
use Rattle.iss_model.specs.declared.setting.Moved.{Moved}
use Rattle.iss_model.specs.declared.setting.Association.{Association}
use Rattle.iss_model.specs.declared.setting.Scope.{Scope}
use Rattle.iss_model.specs.declared.call.CallId.{CallId}
use Rattle.iss_model.specs.declared.input.Outcome.{Outcome}
use Rattle.iss_model.specs.declared.input.Input.{Input}
use Rattle.iss_model.specs.declared.input.Input.TheVariants as input
use Rattle.iss_model.specs.declared.input.Record.{Record}
use Rattle.iss_model.specs.Inputs.{contents, same_contents}
use Rattle.iss_model.specs.texts.Spelling.{number_bytes, kind_number, field_bytes, has_spelling, spelling}
use Rattle.iss_codec.proofs.TakenRecords.{begins_none}
use Rattle.iss_codec.specs.Meanings.{HaveSpellings, AreSpelledAlike}
use Rattle.iss_codec.proofs.Cuts.{IsCut, pair_cut, number_cut, text_cut, flag_cut, currency_cut, funding_cut, window_cut, outcome_cut, optional_cut, moved_cut, association_cut, scope_cut, int_cut}

-- lists that come apart are equal only if their values are
alone : {A : Type 0} {f : A → List ℕ} → IsCut f → (a b : A) → f a ≡ f b → a ≡ b
alone {f = f} c a b e = (c.cut a b [] [] (append-nil (f a) ∙ e ∙ sym (append-nil (f b)))).0

-- equal contents are equal after the kind
rest : (k : ℕ) (x y : List ℕ) → k ∷ x ≡ k ∷ y → x ≡ y
rest k x y e = ap (λ (l : List ℕ). drop 1 l) e

user_is : (t : List ℕ) (u : List ℕ) (b : Input) → contents (input.User t u) ≡ contents b → input.User t u ≡ b
user_is t u (input.User t' u') e =
    ap (λ p. input.User p.0 p.1) (alone (pair_cut text_cut text_cut) (t, u) (t', u') (rest 1 _ _ e))
user_is t u _ e = cc

card_is : (t : List ℕ) (c : List ℕ) (u : List ℕ) (p : List ℕ) (a : Bool) (b : Input) → contents (input.Card t c u p a) ≡ contents b → input.Card t c u p a ≡ b
card_is t c u p a (input.Card t' c' u' p' a') e =
    ap (λ p. input.Card p.0.0.0.0 p.0.0.0.1 p.0.0.1 p.0.1 p.1) (alone (pair_cut (pair_cut (pair_cut (pair_cut text_cut text_cut) text_cut) text_cut) flag_cut) ((((t, c), u), p), a) ((((t', c'), u'), p'), a') (rest 2 _ _ e))
card_is t c u p a _ e = cc

move_is : (t : List ℕ) (w : Moved) (b : Input) → contents (input.Move t w) ≡ contents b → input.Move t w ≡ b
move_is t w (input.Move t' w') e =
    ap (λ p. input.Move p.0 p.1) (alone (pair_cut text_cut moved_cut) (t, w) (t', w') (rest 3 _ _ e))
move_is t w _ e = cc

product_is : (t : List ℕ) (p : List ℕ) (c : Currency) (f : Funding) (m : ℕ) (h : ℕ) (b : Input) → contents (input.Product t p c f m h) ≡ contents b → input.Product t p c f m h ≡ b
product_is t p c f m h (input.Product t' p' c' f' m' h') e =
    ap (λ p. input.Product p.0.0 p.0.1 p.1.0 p.1.1.0 p.1.1.1.0 p.1.1.1.1) (alone (pair_cut (pair_cut text_cut text_cut) (pair_cut currency_cut (pair_cut funding_cut (pair_cut number_cut number_cut)))) ((t, p), (c, (f, (m, h)))) ((t', p'), (c', (f', (m', h')))) (rest 4 _ _ e))
product_is t p c f m h _ e = cc

group_is : (t : List ℕ) (g : List ℕ) (m : List ℕ) (b : Input) → contents (input.Group t g m) ≡ contents b → input.Group t g m ≡ b
group_is t g m (input.Group t' g' m') e =
    ap (λ p. input.Group p.0.0 p.0.1 p.1) (alone (pair_cut (pair_cut text_cut text_cut) text_cut) ((t, g), m) ((t', g'), m') (rest 5 _ _ e))
group_is t g m _ e = cc

control_is : (t : List ℕ) (v : List ℕ) (c : Currency) (w : Window) (m : Option ℕ) (n : Option ℕ) (s : Association) (o : Scope) (z : ℤ) (a : Bool) (b : Input) → contents (input.Control t v c w m n s o z a) ≡ contents b → input.Control t v c w m n s o z a ≡ b
control_is t v c w m n s o z a (input.Control t' v' c' w' m' n' s' o' z' a') e =
    ap (λ p. input.Control p.0.0.0.0.0.0.0 p.0.0.0.0.0.0.1 p.0.0.0.0.0.1.0 p.0.0.0.0.0.1.1.0 p.0.0.0.0.0.1.1.1 p.0.0.0.0.1 p.0.0.0.1 p.0.0.1 p.0.1 p.1) (alone (pair_cut (pair_cut (pair_cut (pair_cut (pair_cut (pair_cut (pair_cut text_cut text_cut) (pair_cut currency_cut (pair_cut window_cut optional_cut))) optional_cut) association_cut) scope_cut) int_cut) flag_cut) (((((((t, v), (c, (w, m))), n), s), o), z), a) (((((((t', v'), (c', (w', m'))), n'), s'), o'), z'), a') (rest 6 _ _ e))
control_is t v c w m n s o z a _ e = cc

set_is : (t : List ℕ) (v : List ℕ) (p : List ℕ) (c : Currency) (x : Bool) (y : Bool) (z : Bool) (m : ℕ) (d : ℕ) (a : Bool) (b : Input) → contents (input.Set t v p c x y z m d a) ≡ contents b → input.Set t v p c x y z m d a ≡ b
set_is t v p c x y z m d a (input.Set t' v' p' c' x' y' z' m' d' a') e =
    ap (λ p. input.Set p.0.0.0.0.0.0 p.0.0.0.0.0.1 p.0.0.0.0.1 p.0.0.0.1.0 p.0.0.0.1.1 p.0.0.1 p.0.1 p.1.0 p.1.1.0 p.1.1.1) (alone (pair_cut (pair_cut (pair_cut (pair_cut (pair_cut (pair_cut text_cut text_cut) text_cut) (pair_cut currency_cut flag_cut)) flag_cut) flag_cut) (pair_cut number_cut (pair_cut number_cut flag_cut))) ((((((t, v), p), (c, x)), y), z), (m, (d, a))) ((((((t', v'), p'), (c', x')), y'), z'), (m', (d', a'))) (rest 7 _ _ e))
set_is t v p c x y z m d a _ e = cc

switch_is : (t : List ℕ) (p : List ℕ) (a : Bool) (b : Input) → contents (input.Switch t p a) ≡ contents b → input.Switch t p a ≡ b
switch_is t p a (input.Switch t' p' a') e =
    ap (λ p. input.Switch p.0.0 p.0.1 p.1) (alone (pair_cut (pair_cut text_cut text_cut) flag_cut) ((t, p), a) ((t', p'), a') (rest 8 _ _ e))
switch_is t p a _ e = cc

load_is : (t : List ℕ) (u : List ℕ) (c : Currency) (n : ℕ) (b : Input) → contents (input.Load t u c n) ≡ contents b → input.Load t u c n ≡ b
load_is t u c n (input.Load t' u' c' n') e =
    ap (λ p. input.Load p.0.0 p.0.1 p.1.0 p.1.1) (alone (pair_cut (pair_cut text_cut text_cut) (pair_cut currency_cut number_cut)) ((t, u), (c, n)) ((t', u'), (c', n')) (rest 9 _ _ e))
load_is t u c n _ e = cc

authorization_is : (t : List ℕ) (c : List ℕ) (m : Currency) (n : ℕ) (k : ℕ) (d : List ℕ) (p : Bool) (b : Input) → contents (input.Authorization t c m n k d p) ≡ contents b → input.Authorization t c m n k d p ≡ b
authorization_is t c m n k d p (input.Authorization t' c' m' n' k' d' p') e =
    ap (λ p. input.Authorization p.0.0.0.0 p.0.0.0.1 p.0.0.1.0 p.0.0.1.1.0 p.0.0.1.1.1 p.0.1 p.1) (alone (pair_cut (pair_cut (pair_cut (pair_cut text_cut text_cut) (pair_cut currency_cut (pair_cut number_cut number_cut))) text_cut) flag_cut) ((((t, c), (m, (n, k))), d), p) ((((t', c'), (m', (n', k'))), d'), p') (rest 10 _ _ e))
authorization_is t c m n k d p _ e = cc

increment_is : (t : List ℕ) (u : List ℕ) (c : Currency) (n : ℕ) (b : Input) → contents (input.Increment t u c n) ≡ contents b → input.Increment t u c n ≡ b
increment_is t u c n (input.Increment t' u' c' n') e =
    ap (λ p. input.Increment p.0.0 p.0.1 p.1.0 p.1.1) (alone (pair_cut (pair_cut text_cut text_cut) (pair_cut currency_cut number_cut)) ((t, u), (c, n)) ((t', u'), (c', n')) (rest 11 _ _ e))
increment_is t u c n _ e = cc

reversal_is : (t : List ℕ) (u : List ℕ) (c : Currency) (n : ℕ) (b : Input) → contents (input.Reversal t u c n) ≡ contents b → input.Reversal t u c n ≡ b
reversal_is t u c n (input.Reversal t' u' c' n') e =
    ap (λ p. input.Reversal p.0.0 p.0.1 p.1.0 p.1.1) (alone (pair_cut (pair_cut text_cut text_cut) (pair_cut currency_cut number_cut)) ((t, u), (c, n)) ((t', u'), (c', n')) (rest 12 _ _ e))
reversal_is t u c n _ e = cc

clearing_is : (t : List ℕ) (u : List ℕ) (c : Currency) (n : ℕ) (a : Bool) (b : Input) → contents (input.Clearing t u c n a) ≡ contents b → input.Clearing t u c n a ≡ b
clearing_is t u c n a (input.Clearing t' u' c' n' a') e =
    ap (λ p. input.Clearing p.0.0 p.0.1 p.1.0 p.1.1.0 p.1.1.1) (alone (pair_cut (pair_cut text_cut text_cut) (pair_cut currency_cut (pair_cut number_cut flag_cut))) ((t, u), (c, (n, a))) ((t', u'), (c', (n', a'))) (rest 13 _ _ e))
clearing_is t u c n a _ e = cc

refund_is : (t : List ℕ) (u : List ℕ) (c : Currency) (n : ℕ) (b : Input) → contents (input.Refund t u c n) ≡ contents b → input.Refund t u c n ≡ b
refund_is t u c n (input.Refund t' u' c' n') e =
    ap (λ p. input.Refund p.0.0 p.0.1 p.1.0 p.1.1) (alone (pair_cut (pair_cut text_cut text_cut) (pair_cut currency_cut number_cut)) ((t, u), (c, n)) ((t', u'), (c', n')) (rest 14 _ _ e))
refund_is t u c n _ e = cc

answer_is : (c : CallId) (o : Outcome) (b : Input) → contents (input.Answer c o) ≡ contents b → input.Answer c o ≡ b
answer_is c o (input.Answer c' o') e =
    ap (λ p. input.Answer (record { 0 = p.0 }) p.1) (alone (pair_cut number_cut outcome_cut) (c.0, o) (c'.0, o') (rest 15 _ _ e))
answer_is c o _ e = cc

ack_is : (n : ℕ) (b : Input) → contents (input.Ack n) ≡ contents b → input.Ack n ≡ b
ack_is n (input.Ack n') e = ap input.Ack (alone number_cut n n' (rest 16 _ _ e))
ack_is n _ e = cc

time_is : (b : Input) → contents input.Time ≡ contents b → input.Time ≡ b
time_is input.Time e = refl
time_is _ e = cc

contents_tell : (a b : Input) → contents a ≡ contents b → a ≡ b
contents_tell (input.User t u) b e = user_is t u b e
contents_tell (input.Card t c u p a) b e = card_is t c u p a b e
contents_tell (input.Move t w) b e = move_is t w b e
contents_tell (input.Product t p c f m h) b e = product_is t p c f m h b e
contents_tell (input.Group t g m) b e = group_is t g m b e
contents_tell (input.Control t v c w m n s o z a) b e = control_is t v c w m n s o z a b e
contents_tell (input.Set t v p c x y z m d a) b e = set_is t v p c x y z m d a b e
contents_tell (input.Switch t p a) b e = switch_is t p a b e
contents_tell (input.Load t u c n) b e = load_is t u c n b e
contents_tell (input.Authorization t c m n k d p) b e = authorization_is t c m n k d p b e
contents_tell (input.Increment t u c n) b e = increment_is t u c n b e
contents_tell (input.Reversal t u c n) b e = reversal_is t u c n b e
contents_tell (input.Clearing t u c n a) b e = clearing_is t u c n a b e
contents_tell (input.Refund t u c n) b e = refund_is t u c n b e
contents_tell (input.Answer c o) b e = answer_is c o b e
contents_tell (input.Ack n) b e = ack_is n b e
contents_tell input.Time b e = time_is b e

-- inputs have the same contents exactly if they are equal
pub same_exactly : (a b : Input) → IsTrue (same_contents a b) ↔ (a ≡ b)
same_exactly a b =
    let d = bytes_eq-Decides (contents a) (contents b) in
    (λ h. contents_tell a b (d.0 h), λ e. d.1 (ap contents e))

-- inputs in form that are spelled alike are equal
alike_equal : (a b : Input) → has_spelling a ≡ true → has_spelling b ≡ true → AreSpelledAlike a b → a ≡ b
unfolding spelling
alike_equal a b h k e =
    let r : Record = record { at = 0; input = b } in
    let s : Record = record { at = 0; input = a } in
    let all : spelling s ≡ spelling r ++ [] = (λ i. e.0 i ∷ (number_bytes 8 0 ++ e.1 i)) ∙ sym (append-nil (spelling r)) in
    ap (λ (r : Record). r.input) (begins_none r s [] k h all).0

-- inputs in form have the same contents exactly if they are spelled alike
pub same_alike : (a b : Input) → HaveSpellings a b → IsTrue (same_contents a b) ↔ AreSpelledAlike a b
same_alike a b both =
    let same = same_exactly a b in (
      λ c. (ap kind_number (same.0 c), ap field_bytes (same.0 c)),
      λ alike. same.1 (alike_equal a b both.0 both.1 alike),
    )
