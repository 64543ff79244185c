-- `columns::put_column` meets its contract.
-- The invariant: the column's first i bytes are stored, and the next stands where `from` is.
use mathlib.Core.Path.{refl, sym}
use Prim.Native.Nat.{◌+◌, ◌*◌}
use native.Mathlib.Nat.{zero-mul}
use native.Mathlib.Omega.{arith}
use lib.ListN.{get_or, length-set}
use Rattle.lists.specs.PutLaws.{put_none}
use Rattle.columns.proofs.Transposed.{next_row}
use Rattle.columns.proofs.Storing.{entry_more}
use Rattle.columns.proofs.columns.put_column.Goals as goal

pub loop-i-init : goal.loop-i-init
loop-i-init c = (omega arith, omega (arith, zero-mul c.args.n), refl, sym (put_none _ _))

pub loop-i-preserved : goal.loop-i-preserved
loop-i-preserved c =
    let a = c.args in
    let l = c.loop-i in (
      omega arith,
      omega (arith, next_row l.i a.n),
      simp length-set (omega arith),
      rw (l.invariant.3, l.invariant.1) (entry_more (λ k. get_or a.s.now (a.first + k * a.n) 0) a.to l.i a.out.now),
    )
