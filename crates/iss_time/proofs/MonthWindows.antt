-- The window of a stamp, put together.
use Rattle.std.proofs.Common.{◌≡◌, ℕ, ℤ, sym, ap, ◌∙◌}
use Rattle.iss_model.specs.declared.setting.Window.{Window}
use Rattle.iss_model.specs.declared.setting.Window.TheVariants.{Month}
use Rattle.iss_model.specs.Calendar.{day_at, month_of, window_at}

along : (f : ℤ → ℤ) (x y a b c : ℤ) → a ≡ b → b ≡ f x → x ≡ y → f y ≡ c → a ≡ c
along f x y a b c p q r s = p ∙ q ∙ ap f r ∙ s

-- the month of the stamp's day is its window
pub month_window : (kind : Window) (at : ℕ) (offset day number stored : ℤ) → kind ≡ Month → stored ≡ number → number ≡ month_of day → day ≡ day_at at offset → stored ≡ window_at kind at offset
month_window kind at offset day number stored k s n d =
    along month_of day (day_at at offset) stored number (window_at kind at offset) s n d (ap (λ (w : Window). window_at w at offset) (sym k))

-- one number twice
pub meets : (a b c : ℤ) → a ≡ b → c ≡ b → a ≡ c
meets a b c p q = p ∙ sym q
