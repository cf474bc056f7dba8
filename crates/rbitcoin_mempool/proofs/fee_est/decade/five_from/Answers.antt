-- `fee_est::decade::five_from` meets its contract: each row is computed. Assumes nothing.
use Rattle.std.proofs.Common.{refl, arith}
use Rattle.slices.specs.Lists.{tabulate}
use Rattle.rbitcoin_mempool.specs.Edges.{series}
use Rattle.rbitcoin_mempool.specs.Decade.{fine_edge}
use Rattle.rbitcoin_mempool.proofs.Decade.{row_test, low_test, high_test, row_holds}
use Rattle.rbitcoin_mempool.proofs.fee_est.decade.five_from.Goals as goal

pub returns-in-15 : goal.returns-in-15
unfolding tabulate row_test low_test high_test fine_edge series
returns-in-15 c = row_holds c.args.eighth 15 0 _ (omega arith) refl refl

pub returns-in-16 : goal.returns-in-16
unfolding tabulate row_test low_test high_test fine_edge series
returns-in-16 c = row_holds c.args.eighth 16 3 _ (omega arith) refl refl

pub returns-in-17 : goal.returns-in-17
unfolding tabulate row_test low_test high_test fine_edge series
returns-in-17 c = row_holds c.args.eighth 17 8 _ (omega arith) refl refl

pub returns-in-18 : goal.returns-in-18
unfolding tabulate row_test low_test high_test fine_edge series
returns-in-18 c = row_holds c.args.eighth 18 12 _ (omega arith) refl refl

pub returns-in-19 : goal.returns-in-19
unfolding tabulate row_test low_test high_test fine_edge series
returns-in-19 c = row_holds c.args.eighth 19 16 _ (omega arith) refl refl

pub returns-in-20 : goal.returns-in-20
unfolding tabulate row_test low_test high_test fine_edge series
returns-in-20 c = row_holds c.args.eighth 20 20 _ (omega arith) refl refl

pub returns-in-21 : goal.returns-in-21
unfolding tabulate row_test low_test high_test fine_edge series
returns-in-21 c = row_holds c.args.eighth 21 24 _ (omega arith) refl refl

pub returns-in-22 : goal.returns-in-22
unfolding tabulate row_test low_test high_test fine_edge series
returns-in-22 c = row_holds c.args.eighth 22 27 _ (omega arith) refl refl

pub returns-in-23 : goal.returns-in-23
unfolding tabulate row_test low_test high_test fine_edge series
returns-in-23 c = row_holds c.args.eighth 23 30 _ (omega arith) refl refl

pub returns-in-24 : goal.returns-in-24
unfolding tabulate row_test low_test high_test fine_edge series
returns-in-24 c = row_holds c.args.eighth 24 33 _ (omega arith) refl refl

pub returns-in-25 : goal.returns-in-25
unfolding tabulate row_test low_test high_test fine_edge series
returns-in-25 c = row_holds c.args.eighth 25 38 _ (omega arith) refl refl

pub returns-in-26 : goal.returns-in-26
unfolding tabulate row_test low_test high_test fine_edge series
returns-in-26 c = row_holds c.args.eighth 26 42 _ (omega arith) refl refl

pub returns-in-27 : goal.returns-in-27
unfolding tabulate row_test low_test high_test fine_edge series
returns-in-27 c = row_holds c.args.eighth 27 46 _ (omega arith) refl refl

pub returns-in-28 : goal.returns-in-28
unfolding tabulate row_test low_test high_test fine_edge series
returns-in-28 c = row_holds c.args.eighth 28 50 _ (omega arith) refl refl

pub returns-in-29 : goal.returns-in-29
unfolding tabulate row_test low_test high_test fine_edge series
returns-in-29 c = row_holds c.args.eighth 29 54 _ (omega arith) refl refl

pub returns-in-30 : goal.returns-in-30
unfolding tabulate row_test low_test high_test fine_edge series
returns-in-30 c = row_holds c.args.eighth 30 57 _ (omega arith) refl refl

pub returns-in-31 : goal.returns-in-31
unfolding tabulate row_test low_test high_test fine_edge series
returns-in-31 c = row_holds c.args.eighth 31 60 _ (omega arith) refl refl

pub returns-in-32 : goal.returns-in-32
unfolding tabulate row_test low_test high_test fine_edge series
returns-in-32 c = row_holds c.args.eighth 32 63 _ (omega arith) refl refl

pub returns-in-33 : goal.returns-in-33
unfolding tabulate row_test low_test high_test fine_edge series
returns-in-33 c = row_holds c.args.eighth 33 68 _ (omega arith) refl refl

pub returns-in-34 : goal.returns-in-34
unfolding tabulate row_test low_test high_test fine_edge series
returns-in-34 c = row_holds c.args.eighth 34 72 _ (omega arith) refl refl

pub returns-in-35 : goal.returns-in-35
unfolding tabulate row_test low_test high_test fine_edge series
returns-in-35 c = row_holds c.args.eighth 35 77 _ (omega arith) refl refl

pub returns-in-36 : goal.returns-in-36
unfolding tabulate row_test low_test high_test fine_edge series
returns-in-36 c = row_holds c.args.eighth 36 80 _ (omega arith) refl refl

pub returns-in-37 : goal.returns-in-37
unfolding tabulate row_test low_test high_test fine_edge series
returns-in-37 c = row_holds c.args.eighth 37 84 _ (omega arith) refl refl

pub returns-in-38 : goal.returns-in-38
unfolding tabulate row_test low_test high_test fine_edge series
returns-in-38 c = row_holds c.args.eighth 38 87 _ (omega arith) refl refl

pub returns-in-39 : goal.returns-in-39
unfolding tabulate row_test low_test high_test fine_edge series
returns-in-39 c = row_holds c.args.eighth 39 90 _ (omega arith) refl refl

pub returns-in-40 : goal.returns-in-40
unfolding tabulate row_test low_test high_test fine_edge series
returns-in-40 c = row_holds c.args.eighth 40 93 _ (omega arith) refl refl

pub returns-in_default : goal.returns-in_default
unfolding tabulate row_test low_test high_test fine_edge series
returns-in_default c = row_holds c.args.eighth 41 95 _ (omega arith) refl refl
