-- Up to ten digits write a number below 10^10.
use Rattle.std.proofs.Common.{ℕ, ◌+◌, ◌*◌, ◌^◌, ◌<◌, zero, suc, arith}

pub fits : (k n : ℕ) → k < 10 → n < 10 ^ k → n < 1000000000
fits zero n less h = omega (arith, h)
fits (suc zero) n less h = omega (arith, h)
fits (suc (suc zero)) n less h = omega (arith, h)
fits (suc (suc (suc zero))) n less h = omega (arith, h)
fits (suc (suc (suc (suc zero)))) n less h = omega (arith, h)
fits (suc (suc (suc (suc (suc zero))))) n less h = omega (arith, h)
fits (suc (suc (suc (suc (suc (suc zero)))))) n less h = omega (arith, h)
fits (suc (suc (suc (suc (suc (suc (suc zero))))))) n less h = omega (arith, h)
fits (suc (suc (suc (suc (suc (suc (suc (suc zero)))))))) n less h = omega (arith, h)
fits (suc (suc (suc (suc (suc (suc (suc (suc (suc zero))))))))) n less h = h
fits (suc (suc (suc (suc (suc (suc (suc (suc (suc (suc k)))))))))) n less h = absurd (omega (arith, less))

pub more_digits : (k n d : ℕ) → k < 10 → n < 10 ^ k → d < 10 → n * 10 + d < 10 ^ (k + 1)
more_digits zero n d less h digit = omega (arith, h, digit)
more_digits (suc zero) n d less h digit = omega (arith, h, digit)
more_digits (suc (suc zero)) n d less h digit = omega (arith, h, digit)
more_digits (suc (suc (suc zero))) n d less h digit = omega (arith, h, digit)
more_digits (suc (suc (suc (suc zero)))) n d less h digit = omega (arith, h, digit)
more_digits (suc (suc (suc (suc (suc zero))))) n d less h digit = omega (arith, h, digit)
more_digits (suc (suc (suc (suc (suc (suc zero)))))) n d less h digit = omega (arith, h, digit)
more_digits (suc (suc (suc (suc (suc (suc (suc zero))))))) n d less h digit = omega (arith, h, digit)
more_digits (suc (suc (suc (suc (suc (suc (suc (suc zero)))))))) n d less h digit = omega (arith, h, digit)
more_digits (suc (suc (suc (suc (suc (suc (suc (suc (suc zero))))))))) n d less h digit = omega (arith, h, digit)
more_digits (suc (suc (suc (suc (suc (suc (suc (suc (suc (suc k)))))))))) n d less h digit = absurd (omega (arith, less))
