-- The constant table of edges: one test that is computed over the whole of it, the rule and strict ascent at each index, which follow, and what they say of a rate. Assumes nothing.
use Rattle.std.proofs.Common.{◌≡◌, ℕ, zero, suc, ◌+◌, ◌<◌, ◌≤◌, Bool, true, false, cond, ◌&&◌, T, eqb, ltb, List, [], ◌∷◌, length, get_or, sym, refl, ap, ◌∙◌, inl, inr, le_refl, le_of_suc-le-suc, not-suc-le-zero, add-zero, eq-or-lt_of_le, arith, eqb→eq, ltb→lt, ext_get_or, ltb-true}
use lib.Ieee.Fits.{and_l, and_r}
use Rattle.num.specs.Word.{saturating_add}
use Rattle.slices.proofs.Lists.{tabulate-at, tabulate-length}
use Rattle.rbitcoin_mempool.specs.Edges.{series, edge_at, flow_bucket_edges, first_above, first_bucket_above}

pub edge-at : (k : ℕ) → k < 401 → get_or flow_bucket_edges k 0 ≡ edge_at k
unfolding flow_bucket_edges
edge-at k h = tabulate-at edge_at 0 401 k h

pub table-length : length flow_bucket_edges ≡ 401
unfolding flow_bucket_edges
table-length = tabulate-length edge_at 0 401

-- the constant table of `flow_bucket_edges`
unfoldable pub edges : List ℕ
edges =
    100 ∷ 102 ∷ 105 ∷ 107 ∷ 110 ∷ 112 ∷ 115 ∷ 117 ∷ 120 ∷ 123 ∷ 126 ∷ 129 ∷ 132 ∷ 135 ∷ 138 ∷ 141 ∷ 145 ∷ 148 ∷ 151 ∷
    155 ∷ 158 ∷ 162 ∷ 166 ∷ 170 ∷ 174 ∷ 178 ∷ 182 ∷ 186 ∷ 191 ∷ 195 ∷ 200 ∷ 204 ∷ 209 ∷ 214 ∷ 219 ∷ 224 ∷ 229 ∷ 234 ∷
    240 ∷ 245 ∷ 251 ∷ 257 ∷ 263 ∷ 269 ∷ 275 ∷ 282 ∷ 288 ∷ 295 ∷ 302 ∷ 309 ∷ 316 ∷ 324 ∷ 331 ∷ 339 ∷ 347 ∷ 355 ∷ 363 ∷
    372 ∷ 380 ∷ 389 ∷ 398 ∷ 407 ∷ 417 ∷ 427 ∷ 437 ∷ 447 ∷ 457 ∷ 468 ∷ 479 ∷ 490 ∷ 501 ∷ 513 ∷ 525 ∷ 537 ∷ 550 ∷ 562 ∷
    575 ∷ 589 ∷ 603 ∷ 617 ∷ 631 ∷ 646 ∷ 661 ∷ 676 ∷ 692 ∷ 708 ∷ 724 ∷ 741 ∷ 759 ∷ 776 ∷ 794 ∷ 813 ∷ 832 ∷ 851 ∷ 871 ∷
    891 ∷ 912 ∷ 933 ∷ 955 ∷ 977 ∷ 1000 ∷ 1023 ∷ 1047 ∷ 1072 ∷ 1096 ∷ 1122 ∷ 1148 ∷ 1175 ∷ 1202 ∷ 1230 ∷ 1259 ∷ 1288 ∷
    1318 ∷ 1349 ∷ 1380 ∷ 1413 ∷ 1445 ∷ 1479 ∷ 1514 ∷ 1549 ∷ 1585 ∷ 1622 ∷ 1660 ∷ 1698 ∷ 1738 ∷ 1778 ∷ 1820 ∷ 1862 ∷
    1905 ∷ 1950 ∷ 1995 ∷ 2042 ∷ 2089 ∷ 2138 ∷ 2188 ∷ 2239 ∷ 2291 ∷ 2344 ∷ 2399 ∷ 2455 ∷ 2512 ∷ 2570 ∷ 2630 ∷ 2692 ∷
    2754 ∷ 2818 ∷ 2884 ∷ 2951 ∷ 3020 ∷ 3090 ∷ 3162 ∷ 3236 ∷ 3311 ∷ 3388 ∷ 3467 ∷ 3548 ∷ 3631 ∷ 3715 ∷ 3802 ∷ 3890 ∷
    3981 ∷ 4074 ∷ 4169 ∷ 4266 ∷ 4365 ∷ 4467 ∷ 4571 ∷ 4677 ∷ 4786 ∷ 4898 ∷ 5012 ∷ 5129 ∷ 5248 ∷ 5370 ∷ 5495 ∷ 5623 ∷
    5754 ∷ 5888 ∷ 6026 ∷ 6166 ∷ 6310 ∷ 6457 ∷ 6607 ∷ 6761 ∷ 6918 ∷ 7079 ∷ 7244 ∷ 7413 ∷ 7586 ∷ 7762 ∷ 7943 ∷ 8128 ∷
    8318 ∷ 8511 ∷ 8710 ∷ 8913 ∷ 9120 ∷ 9333 ∷ 9550 ∷ 9772 ∷ 10000 ∷ 10233 ∷ 10471 ∷ 10715 ∷ 10965 ∷ 11220 ∷ 11482 ∷
    11749 ∷ 12023 ∷ 12303 ∷ 12589 ∷ 12882 ∷ 13183 ∷ 13490 ∷ 13804 ∷ 14125 ∷ 14454 ∷ 14791 ∷ 15136 ∷ 15488 ∷ 15849 ∷
    16218 ∷ 16596 ∷ 16982 ∷ 17378 ∷ 17783 ∷ 18197 ∷ 18621 ∷ 19055 ∷ 19498 ∷ 19953 ∷ 20417 ∷ 20893 ∷ 21380 ∷ 21878 ∷
    22387 ∷ 22909 ∷ 23442 ∷ 23988 ∷ 24547 ∷ 25119 ∷ 25704 ∷ 26303 ∷ 26915 ∷ 27542 ∷ 28184 ∷ 28840 ∷ 29512 ∷ 30200 ∷
    30903 ∷ 31623 ∷ 32359 ∷ 33113 ∷ 33884 ∷ 34674 ∷ 35481 ∷ 36308 ∷ 37154 ∷ 38019 ∷ 38905 ∷ 39811 ∷ 40738 ∷ 41687 ∷
    42658 ∷ 43652 ∷ 44668 ∷ 45709 ∷ 46774 ∷ 47863 ∷ 48978 ∷ 50119 ∷ 51286 ∷ 52481 ∷ 53703 ∷ 54954 ∷ 56234 ∷ 57544 ∷
    58884 ∷ 60256 ∷ 61660 ∷ 63096 ∷ 64565 ∷ 66069 ∷ 67608 ∷ 69183 ∷ 70795 ∷ 72444 ∷ 74131 ∷ 75858 ∷ 77625 ∷ 79433 ∷
    81283 ∷ 83176 ∷ 85114 ∷ 87096 ∷ 89125 ∷ 91201 ∷ 93325 ∷ 95499 ∷ 97724 ∷ 100000 ∷ 102329 ∷ 104713 ∷ 107152 ∷
    109648 ∷ 112202 ∷ 114815 ∷ 117490 ∷ 120226 ∷ 123027 ∷ 125893 ∷ 128825 ∷ 131826 ∷ 134896 ∷ 138038 ∷ 141254 ∷
    144544 ∷ 147911 ∷ 151356 ∷ 154882 ∷ 158489 ∷ 162181 ∷ 165959 ∷ 169824 ∷ 173780 ∷ 177828 ∷ 181970 ∷ 186209 ∷
    190546 ∷ 194984 ∷ 199526 ∷ 204174 ∷ 208930 ∷ 213796 ∷ 218776 ∷ 223872 ∷ 229087 ∷ 234423 ∷ 239883 ∷ 245471 ∷
    251189 ∷ 257040 ∷ 263027 ∷ 269153 ∷ 275423 ∷ 281838 ∷ 288403 ∷ 295121 ∷ 301995 ∷ 309030 ∷ 316228 ∷ 323594 ∷
    331131 ∷ 338844 ∷ 346737 ∷ 354813 ∷ 363078 ∷ 371535 ∷ 380189 ∷ 389045 ∷ 398107 ∷ 407380 ∷ 416869 ∷ 426580 ∷
    436516 ∷ 446684 ∷ 457088 ∷ 467735 ∷ 478630 ∷ 489779 ∷ 501187 ∷ 512861 ∷ 524807 ∷ 537032 ∷ 549541 ∷ 562341 ∷
    575440 ∷ 588844 ∷ 602560 ∷ 616595 ∷ 630957 ∷ 645654 ∷ 660693 ∷ 676083 ∷ 691831 ∷ 707946 ∷ 724436 ∷ 741310 ∷
    758578 ∷ 776247 ∷ 794328 ∷ 812831 ∷ 831764 ∷ 851138 ∷ 870964 ∷ 891251 ∷ 912011 ∷ 933254 ∷ 954993 ∷ 977237 ∷
    1000000 ∷ []

-- from place i on, with x before it: each entry is the edge of its place by the rule, and above the entry before
right : ℕ → ℕ → List ℕ → Bool
right i x [] = true
right i x (y ∷ ys) = eqb y (edge_at i) && (ltb x y && right (suc i) y ys)

-- the one test that is computed, over the whole table
table_right : T (right 0 0 edges)
unfolding right edges edge_at series
table_right = tt

-- what it says at each place
right-at : (i x : ℕ) (ys : List ℕ) → T (right i x ys) → (k : ℕ) → k < length ys
    → (get_or ys k 0 ≡ edge_at (i + k)) × (get_or (x ∷ ys) k 0 < get_or ys k 0)
unfolding right
right-at i x [] t k h = absurd (not-suc-le-zero h)
right-at i x (y ∷ ys) t zero h =
    let u = and_r (eqb y (edge_at i)) (ltb x y && right (suc i) y ys) t in
    (eqb→eq y (edge_at i) (and_l (eqb y (edge_at i)) (ltb x y && right (suc i) y ys) t) ∙ ap edge_at (sym (add-zero i)), ltb→lt x y (and_l (ltb x y) (right (suc i) y ys) u))
right-at i x (y ∷ ys) t (suc k) h =
    let u = and_r (eqb y (edge_at i)) (ltb x y && right (suc i) y ys) t in
    let r = right-at (suc i) y ys (and_r (ltb x y) (right (suc i) y ys) u) k (le_of_suc-le-suc h) in
    let e : suc i + k ≡ i + suc k = omega arith in
    (r.0 ∙ ap edge_at e, r.1)

listed-length : length edges ≡ 401
unfolding edges
listed-length = refl

-- the rule, and strict ascent, at each index
pub edge_rule : (k : ℕ) → k < 401 → get_or edges k 0 ≡ edge_at k
edge_rule k h = let e : 0 + k ≡ k = omega arith in (right-at 0 0 edges table_right k (omega (arith, listed-length))).0 ∙ ap edge_at e

pub edge_rises : (k : ℕ) → k < 400 → edge_at k < edge_at (suc k)
edge_rises k h =
    omega (arith, (right-at 0 0 edges table_right (suc k) (omega (arith, listed-length))).1, edge_rule k (omega arith), edge_rule (suc k) (omega arith))

pub listed : edges ≡ flow_bucket_edges
listed = ext_get_or 0 edges flow_bucket_edges (listed-length ∙ sym table-length) (λ k h. let r : k < 401 = omega (arith, listed-length) in edge_rule k r ∙ sym (edge-at k r))

pub edge_mono : (i j : ℕ) → i ≤ j → j < 401 → edge_at i ≤ edge_at j
edge_mono i zero a b = let e : i ≡ 0 = omega arith in rw e (le_refl (edge_at 0))
edge_mono i (suc j) a b =
    elim (eq-or-lt_of_le a) [
      | inl e ↦ rw e (le_refl (edge_at (suc j)))
      | inr l ↦ omega (arith, edge_mono i j (le_of_suc-le-suc l) (omega arith), edge_rises j (omega arith))
    ]

pub first_bucket-lt : (rate : ℕ) → first_bucket_above rate < 403
unfolding first_bucket_above
first_bucket-lt rate = go (ltb (first_above rate) 401) refl (ltb rate (saturating_add (edge_at 400) 1))
  where
    go : (a : Bool) → ltb (first_above rate) 401 ≡ a → (b : Bool) → cond a (first_above rate) (cond b 401 402) < 403
    go true e b = omega (arith, ltb-true (first_above rate) 401 e)
    go false e true = omega arith
    go false e false = omega arith
