-- Searches of a list. Definitions only.
use Rattle.std.specs.Prelude.{ℕ, zero, suc, ◌+◌, ◌-◌, ◌/◌, min, Bool, cond, List, length, ltb, get_or}

-- of n places from i on, the first at which p holds, and i + n where there is none: `position`; where p goes on holding once it holds, `partition_point` of its contrary
unfoldable pub seek : (ℕ → Bool) → ℕ → ℕ → ℕ
seek p i zero = i
seek p i (suc n) = cond (p i) i (seek p (suc i) n)

-- binary search from lo to hi in k turns; where elements ascend, the first place whose element is at least v
unfoldable pub bisect : ℕ → List ℕ → ℕ → ℕ → ℕ → ℕ
bisect zero xs v lo hi = lo
bisect (suc k) xs v lo hi =
    let mid = lo + (hi - lo) / 2 in
    cond (ltb lo hi) (cond (ltb (get_or xs mid 0) v) (bisect k xs v (mid + 1) hi) (bisect k xs v lo mid)) lo

-- the same search from lo to hi, or to the end of the list where hi lies past it; where lo lies past both there is nothing to search, and lo is found
unfoldable pub lower_bound : List ℕ → ℕ → ℕ → ℕ → ℕ
lower_bound xs lo hi v =
    let end = min hi (length xs) in
    bisect (end - lo) xs v lo end
