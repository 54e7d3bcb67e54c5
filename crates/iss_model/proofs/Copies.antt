-- A copy of an input is equal to it.
use Rattle.std.proofs.Common.{◌≡◌, ℕ, refl, ap}
use Rattle.std.specs.Prelude.{Option, Some, None}
use denote.Builtin.{u64}
use Rattle.std.specs.contracts.prelude.OptionClone.TheImpl as option_clone
use Rattle.std.specs.contracts.prelude.U64Clone.TheImpl as u64_clone
use Rattle.iss_model.specs.declared.input.Input.{Input}
use Rattle.iss_model.specs.declared.input.Input.TheVariants as input
use Rattle.iss_model.specs.contracts.input.InputClone.TheImpl as input_clone

-- a limit and its copy are both there and equal, or both left out
limit_is : (limit copy : Option ℕ) → (option_clone.ghosts u64 u64_clone.ghosts u64_clone.dict u64_clone.dict).is_clone limit copy → copy ≡ limit
limit_is None None h = refl
limit_is (Some x) (Some y) h = ap (λ (n : ℕ). Some n) h
limit_is _ _ h = elim h [ ]

-- what the derived copying of an input returns is equal to it
pub copy_is : (i copy : Input) → (input_clone.ghosts).is_clone i copy → copy ≡ i
copy_is (input.User t u) (input.User t' u') h = λ k. input.User (h.0 k) (h.1 k)
copy_is (input.Card t c u p a) (input.Card t' c' u' p' a') h = λ k. input.Card (h.0 k) (h.1.0 k) (h.1.1.0 k) (h.1.1.1.0 k) (h.1.1.1.1 k)
copy_is (input.Move t w) (input.Move t' w') h = λ k. input.Move (h.0 k) (h.1 k)
copy_is (input.Product t p c f m n) (input.Product t' p' c' f' m' n') h =
    λ k. input.Product (h.0 k) (h.1.0 k) (h.1.1.0 k) (h.1.1.1.0 k) (h.1.1.1.1.0 k) (h.1.1.1.1.1 k)
copy_is (input.Group t g m) (input.Group t' g' m') h = λ k. input.Group (h.0 k) (h.1.0 k) (h.1.1 k)
copy_is (input.Control t v c w m n s o z a) (input.Control t' v' c' w' m' n' s' o' z' a') h =
    λ k. input.Control (h.0 k) (h.1.0 k) (h.1.1.0 k) (h.1.1.1.0 k) (limit_is m m' h.1.1.1.1.0 k)
    (limit_is n n' h.1.1.1.1.1.0 k) (h.1.1.1.1.1.1.0 k) (h.1.1.1.1.1.1.1.0 k) (h.1.1.1.1.1.1.1.1.0 k) (h.1.1.1.1.1.1.1.1.1 k)
copy_is (input.Set t v p c x y z m d a) (input.Set t' v' p' c' x' y' z' m' d' a') h =
    λ k. input.Set (h.0 k) (h.1.0 k) (h.1.1.0 k) (h.1.1.1.0 k) (h.1.1.1.1.0 k) (h.1.1.1.1.1.0 k) (h.1.1.1.1.1.1.0 k) (h.1.1.1.1.1.1.1.0 k) (h.1.1.1.1.1.1.1.1.0 k) (h.1.1.1.1.1.1.1.1.1 k)
copy_is (input.Switch t p a) (input.Switch t' p' a') h = λ k. input.Switch (h.0 k) (h.1.0 k) (h.1.1 k)
copy_is (input.Load t u c n) (input.Load t' u' c' n') h = λ k. input.Load (h.0 k) (h.1.0 k) (h.1.1.0 k) (h.1.1.1 k)
copy_is (input.Authorization t c m n d e p) (input.Authorization t' c' m' n' d' e' p') h =
    λ k. input.Authorization (h.0 k) (h.1.0 k) (h.1.1.0 k) (h.1.1.1.0 k) (h.1.1.1.1.0 k) (h.1.1.1.1.1.0 k) (h.1.1.1.1.1.1 k)
copy_is (input.Increment t x c n) (input.Increment t' x' c' n') h = λ k. input.Increment (h.0 k) (h.1.0 k) (h.1.1.0 k) (h.1.1.1 k)
copy_is (input.Reversal t x c n) (input.Reversal t' x' c' n') h = λ k. input.Reversal (h.0 k) (h.1.0 k) (h.1.1.0 k) (h.1.1.1 k)
copy_is (input.Clearing t x c n l) (input.Clearing t' x' c' n' l') h = λ k. input.Clearing (h.0 k) (h.1.0 k) (h.1.1.0 k) (h.1.1.1.0 k) (h.1.1.1.1 k)
copy_is (input.Refund t x c n) (input.Refund t' x' c' n') h = λ k. input.Refund (h.0 k) (h.1.0 k) (h.1.1.0 k) (h.1.1.1 k)
copy_is (input.Answer c o) (input.Answer c' o') h = λ k. input.Answer (h.0 k) (h.1 k)
copy_is (input.Ack n) (input.Ack n') h = λ k. input.Ack (h k)
copy_is input.Time input.Time h = λ k. input.Time
copy_is _ _ h = elim h [ ]
