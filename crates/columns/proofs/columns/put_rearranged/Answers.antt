-- `columns::put_rearranged` meets its contract.
-- Three parts are stored, one behind the other.
use mathlib.Core.Path.{ap}
use Prim.Native.Nat.{◌+◌, ◌*◌}
use native.Mathlib.Omega.{arith}
use lib.ListN.{take, drop}
use lib.Seq.{length-take-le}
use Rattle.columns.specs.Columns.{transposed}
use Rattle.columns.proofs.Transposed.{transposed_length}
use Rattle.columns.proofs.Storing.{three_stored}
use Rattle.columns.proofs.columns.put_rearranged.Goals as goal

pub returns : goal.returns
returns c =
    let a = c.args in
    let s = a.s.now in
    three_stored a.at (a.at + a.n * a.m) (take a.at s) (transposed a.m a.n (drop a.at s)) (drop (a.at + a.n * a.m) s) a.out.now _ _ _
    (length-take-le a.at s (omega (arith, c.requires)))
    (ap (λ k. a.at + k) (transposed_length a.m a.n (drop a.at s)))
    (omega (arith, c.requires))
    (rw c.part.ensures.0 at c.put_slice.ensures.text)
    c.put_columns.ensures
    (rw c.from.ensures.0 at c.put_slice-2.ensures.text)
