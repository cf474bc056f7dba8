-- Digests, and a generator's numbers. Definitions only.
use Rattle.std.specs.Prelude.{◌≡◌, ℕ, ◌+◌, ◌*◌, ◌/◌, ◌%◌, ◌^◌, cond, List, [], ◌∷◌, map, ◌==◌, bit_and, bit_or}
use Rattle.std.specs.Prelude.{bit_xor, nat_le, slice_index}

-- `digest.rotate_left(1) ^ word`
abbrev pub mixed : ℕ → ℕ → ℕ
mixed d w = bit_xor (bit_or (d * 2 ^ 1 % 2 ^ 64) (d / 2 ^ 63)) w

unfoldable pub mixed_all : ℕ → List ℕ → ℕ
mixed_all d [] = d
mixed_all d (w ∷ ws) = mixed_all (mixed d w) ws

-- r is the digest of a list's elements, each read as the one word that it converts to
abbrev pub DigestsTo : {A : Type 0} → (A → ℕ → Type 0) → ℕ → List A → ℕ → Type 0
DigestsTo {A} converts d xs r =
    (f : A → ℕ) → ((x : A) (w : ℕ) → converts x w → w ≡ f x) → r ≡ mixed_all d (map f xs)

-- the next of a generator's words: xorshift by 13, 7 and 17
abbrev pub shifted_up : ℕ → ℕ → ℕ
shifted_up k x = bit_xor x (x * 2 ^ k % 2 ^ 64)

abbrev pub shifted_down : ℕ → ℕ → ℕ
shifted_down k x = bit_xor x (x / 2 ^ k)

abbrev pub turned_of : ℕ → ℕ
turned_of x = shifted_up 17 (shifted_down 7 (shifted_up 13 x))

-- word 1, at every third place `word 1 + (x & word 2)`, modulo 2^64
abbrev pub raised_of : List ℕ → ℕ → ℕ → ℕ
raised_of ws place x =
    cond (place % 3 == 0) ((slice_index ws 1 + bit_and x (slice_index ws 2)) % 2 ^ 64) (slice_index ws 1)

-- the hurdle at a place; `left` counts it and those after it, and where that is at most word 3, word 4 is added,
-- modulo 2^64
abbrev pub replayed_hurdle : List ℕ → ℕ → ℕ → ℕ → ℕ
replayed_hurdle ws place left x =
    cond (nat_le left (slice_index ws 3)) ((raised_of ws place x + slice_index ws 4) % 2 ^ 64) (raised_of ws place x)
