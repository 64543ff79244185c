-- `columns::put_columns` meets its contract.
-- The invariant: the first j columns are stored, one behind the other.
use mathlib.Core.Path.{◌≡◌, refl}
use native.Mathlib.Nat.{zero-mul}
use native.Mathlib.Omega.{arith}
use Rattle.lists.specs.PutLaws.{put_none}
use Rattle.columns.specs.Columns.{transposed}
use Rattle.columns.proofs.Transposed.{next_row}
use Rattle.columns.proofs.Storing.{column_more}
use Rattle.columns.proofs.columns.put_columns.Goals as goal

pub loop-j-init : goal.loop-j-init
loop-j-init c =
    let a = c.args in
    (omega arith, omega (arith, zero-mul a.m), refl, rw (zero-mul, put_none))

pub loop-j-preserved : goal.loop-j-preserved
loop-j-preserved c =
    let a = c.args in
    let l = c.loop-j in (
      omega arith,
      omega (arith, next_row l.j a.m),
      omega arith,
      rw (c.put_column.ensures, l.invariant.3, l.invariant.1) (column_more a.m a.n a.at l.j a.s.now a.out.now),
    )

pub returns : goal.returns
unfolding transposed
returns c =
    let e : c.loop-j.j ≡ c.args.n = omega arith in
    rw e at c.loop-j.invariant.3
