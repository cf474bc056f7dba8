-- `put_quotes` meets its contract: after i turns, the lines of i targets are written. Assumes nothing.
use Rattle.std.proofs.Common.{◌≡◌, ◌++◌, ◌+◌, ◌*◌, ◌≤◌, take}
use Rattle.arrayvec.specs.ArrayVec.{array_vec_len}
use Rattle.quote_board.specs.Text.{quote_lines}
use Rattle.quote_board.proofs.put_quotes.Given as goal

abbrev pub invariant-loop-target : goal.invariant-loop-target
invariant-loop-target l = record {
  text : l.out.items ≡ l.initial.out.items ++ quote_lines l.board.depths l.board.rates l.board.marks (take l.target-index l.board.targets);
  room : array_vec_len l.out ≤ array_vec_len l.initial.out + 42 * l.target-index;
}
