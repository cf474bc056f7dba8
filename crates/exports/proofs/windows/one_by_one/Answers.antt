-- `exports::windows::one_by_one` meets its contract: sixteen elements are the whole array. Assumes nothing.
use mathlib.Core.Path.{◌≡◌, sym}
use lib.ListN.{length}
use Rattle.exports.proofs.OneByOne.{next, end}
use Rattle.exports.proofs.windows.one_by_one.Goals as goal

pub returns : goal.returns
returns g c =
    let t = c.args.t in
    let e : 16 ≡ length t = sym c.well_formed.0.1.0.1 in
    next t 0 15 _ _ e (
    next t 1 14 _ _ e (
    next t 2 13 _ _ e (
    next t 3 12 _ _ e (
    next t 4 11 _ _ e (
    next t 5 10 _ _ e (
    next t 6 9 _ _ e (
    next t 7 8 _ _ e (
    next t 8 7 _ _ e (
    next t 9 6 _ _ e (
    next t 10 5 _ _ e (
    next t 11 4 _ _ e (
    next t 12 3 _ _ e (
    next t 13 2 _ _ e (
    next t 14 1 _ _ e (
    next t 15 0 _ _ e (
    end t 16 e))))))))))))))))
