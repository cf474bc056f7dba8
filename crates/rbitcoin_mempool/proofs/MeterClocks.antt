-- The clocks of the fee flow meter: a clock that went back leaves the meter as it is, a decay moves its clock only forwards, and an admission sets the admit clock, backwards too. Assumes nothing.
use Rattle.std.proofs.Common.{◌≡◌, ℕ, ◌-◌, ◌≤◌, Bool, true, false, cond, leb, sym, refl, ◌∙◌, true≢false, le_refl, arith, leb-false, leb-true}
use lib.Ieee.{add, div, le, lt, eq, of_int, round}
use Rattle.num.specs.Float.{of_u64}
use Rattle.rbitcoin_mempool.specs.declared.fee_flow.FeeFlowMeter.{FeeFlowMeter}
use Rattle.rbitcoin_mempool.specs.Meter.{gap, decayed, decay_to, note_admit}
use Rattle.rbitcoin_mempool.proofs.Maps.{map_same}
use Rattle.rbitcoin_mempool.proofs.Meter.{decayed-none}

no_time : gap 0 0 ≡ of_u64 0
unfolding gap add div of_int round
no_time = refl

-- '0 if the clock went back'
pub gap_back : (from to : ℕ) → to ≤ from → gap from to ≡ of_u64 0
unfolding gap
gap_back from to h = let e : to - from ≡ 0 = omega arith in rw e no_time

none_passed : le (of_u64 0) (of_u64 0) ≡ true
unfolding le lt eq of_int
none_passed = refl

pub decay-back : (m : FeeFlowMeter) (now : ℕ) → now ≤ m.last → decay_to m now ≡ m
unfolding decay_to
decay-back m now h =
    let e = gap_back m.last now h in
    rw (e, map_same (decayed (of_u64 0)) (λ x. decayed-none (of_u64 0) x none_passed) m.admit_wu_s, decayed-none (of_u64 0) m.admitted_wu none_passed, none_passed)

-- 'the decay clock only forwards'
pub clock_forward : (m : FeeFlowMeter) (now : ℕ) → m.last ≤ (decay_to m now).last
unfolding decay_to
clock_forward m now = go (le (gap m.last now) (of_u64 0)) refl (leb now m.last) refl
  where
    go : (a : Bool) → le (gap m.last now) (of_u64 0) ≡ a → (b : Bool) → leb now m.last ≡ b → m.last ≤ cond a m.last now
    go true e b f = le_refl m.last
    go false e false f = let l = leb-false now m.last f in omega arith
    go false e true f =
        let z : le (gap m.last now) (of_u64 0) ≡ true = rw (gap_back m.last now (leb-true now m.last f)) none_passed in
        absurd (true≢false (sym z ∙ e))

-- 'An admission sets the admit clock even backwards', and a read leaves it
pub admit_clock : (m : FeeFlowMeter) (weight rate now : ℕ) → (note_admit m weight rate now).last_admit ≡ now
unfolding note_admit
admit_clock m weight rate now = refl

pub read_keeps : (m : FeeFlowMeter) (now : ℕ) → (decay_to m now).last_admit ≡ m.last_admit
unfolding decay_to
read_keeps m now = refl
