-- Worked examples of the logarithm, which antt computes. The results are those of the same steps in IEEE doubles elsewhere. Assumes nothing.
use Rattle.std.proofs.Common.{◌≡◌, ℕ, pos, refl}
use lib.Ieee.{binary64, size, add, sub, mul, div, le, of_bits, of_int}
use Rattle.num.specs.Ln.{significand_of, exponent_of, terms, ln_of}

-- ln of the number n, and of the float with the bits b, has the bits r
abbrev Of : ℕ → ℕ → Type 0
Of n r = ln_of (of_int binary64 (pos n)) ≡ of_bits binary64 r

abbrev At : ℕ → ℕ → Type 0
At b r = ln_of (of_bits binary64 b) ≡ of_bits binary64 r

-- minus infinity, 0.0, 0.6931471805599453, 1.0986122886681098, 2.302585092994046, 6.907755278982137, 22.18070977791825 and 44.3614195558365
numbers : Of 0 0xFFF0000000000000 × Of 1 0x0000000000000000 × Of 2 0x3FE62E42FEFA39EF × Of 3 0x3FF193EA7AAD030B × Of 10 0x40026BB1BBB55516 × Of 1000 0x401BA18A998FFFA0 × Of 4294967296 0x40362E42FEFA39EF × Of 18446744073709551615 0x40462E42FEFA39EF
unfolding ln_of significand_of exponent_of terms size add sub mul div le of_bits of_int
numbers = (refl, refl, refl, refl, refl, refl, refl, refl)

-- -0.0; 1.25; SQRT_2, which is halved; and the float below it, which is not: minus infinity, 0.22314355131420974, 0.3465735902799727 and 0.34657359027997253
floats : At 0x8000000000000000 0xFFF0000000000000 × At 0x3FF4000000000000 0x3FCC8FF7C79A9A21 × At 0x3FF6A09E667F3BCD 0x3FD62E42FEFA39F0 × At 0x3FF6A09E667F3BCC 0x3FD62E42FEFA39ED
unfolding ln_of significand_of exponent_of terms size add sub mul div le of_bits of_int
floats = (refl, refl, refl, refl)
