-- `fee_est::target::Line::wide` meets its contract. Assumes nothing.
use Rattle.std.proofs.Common.{◌≡◌, ℕ, ◌+◌, ◌-◌, ◌*◌, ◌/◌, ◌%◌, ◌^◌, ◌<◌, ◌≤◌, leb, rules, ◌∙◌, lt_of_lt_of_le, le_of_lt, mod-lt, mul-le-mul, arith, lit≤}
use Rattle.std.proofs.Math.Nat.{div-le_self}
use Rattle.num.specs.Wide.{value, divided}
use Rattle.num.proofs.WideLaws.{divided-by}
use Rattle.slices.proofs.Halving.{at_most_one}
use Rattle.rbitcoin_mempool.specs.Target.{nearest_quotient}
use Rattle.rbitcoin_mempool.proofs.fee_est.target.Line.wide.Goals as goal

-- the quotient of a numerator of these is far below 2 ^ 128
small : (left right dist span : ℕ) → left < 2 ^ 64 → right < 2 ^ 64 → dist ≤ span → span < 2 ^ 32 → (left * (span - dist) + right * dist) / span < 2 ^ 98
small left right dist span l r d s =
    let f : span - dist ≤ 2 ^ 32 = omega arith in
    let g : dist ≤ 2 ^ 32 = omega arith in
    omega (arith, mul-le-mul (le_of_lt l) f, mul-le-mul (le_of_lt r) g, div-le_self (left * (span - dist) + right * dist) span)

parts : {n q r : ℕ} (numer span : ℕ) → n ≡ numer → 0 < span → (q, r) ≡ divided n span → (q ≡ numer / span) × (r ≡ numer % span)
parts numer span e p d = divided-by numer span p (rw e at d)

pub overflow_mul-up : goal.overflow_mul-up
overflow_mul-up c =
    let p = divided-by (value c.from-5.result) c.args.self.span c.args.self.apart c.wide_divide-parts.ensures in
    record { fits = omega (arith, p.1, mod-lt (value c.from-5.result) c.args.self.apart) }

pub overflow_add-from : goal.overflow_add-from
overflow_add-from c =
    let numer = c.args.self.left * (c.args.self.span - c.args.self.dist) + c.args.self.right * c.args.self.dist in
    let p = parts numer c.args.self.span (cc) c.args.self.apart c.wide_divide-parts.ensures in
    let q : c.from-6.result ≡ numer / c.args.self.span = c.from-6.ensures ∙ p.0 in
    let s = small c.args.self.left c.args.self.right c.args.self.dist c.args.self.span (omega arith) (omega arith) (omega arith) (omega arith) in
    let k : c.from-6.result + c.from-7.result < 2 ^ 99 = omega (arith, q, s, at_most_one (leb c.args.self.span (c.wide_divide-parts.result.remainder * 2))) in
    record { fits = lt_of_lt_of_le k (lit≤ tt) }

pub returns : goal.returns
unfolding nearest_quotient
returns c =
    let numer = c.args.self.left * (c.args.self.span - c.args.self.dist) + c.args.self.right * c.args.self.dist in
    let p = parts numer c.args.self.span (cc) c.args.self.apart c.wide_divide-parts.ensures in
    let q : c.from-6.result ≡ numer / c.args.self.span = c.from-6.ensures ∙ p.0 in
    let r : c.wide_divide-parts.result.remainder ≡ numer % c.args.self.span = p.1 in
    search rules
