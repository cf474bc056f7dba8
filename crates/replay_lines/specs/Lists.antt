-- Lists of words. Definitions only.
use Rattle.std.specs.Prelude.{ℕ, ◌+◌, ◌%◌, List, [], ◌∷◌, take, drop, slice_index}

-- the list whose length stands at a place, as far as there are elements
abbrev pub list_at : List ℕ → ℕ → List ℕ
list_at ws at = take (slice_index ws at) (drop (at + 1) ws)

-- the elements of the first list over those of the second, as far as that has places
unfoldable pub over : {A : Type 0} → List A → List A → List A
over [] out = out
over (x ∷ xs) [] = []
over (x ∷ xs) (y ∷ out) = x ∷ over xs out

abbrev pub low32 : ℕ → ℕ
low32 x = x % 4294967296

abbrev pub low8 : ℕ → ℕ
low8 x = x % 256
