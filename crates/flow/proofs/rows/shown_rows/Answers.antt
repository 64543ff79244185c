-- `shown_rows` meets its contract.
-- The invariant: to store the rows from here on is to store all of them.
use native.Mathlib.Omega.{arith}
use Rattle.flow.specs.Rows.{shown_row}
use Rattle.flow.proofs.Storing.{left_step}
use Rattle.flow.proofs.Row.{shown_stored}
use Rattle.flow.proofs.rows.shown_rows.Goals as goal

pub loop-i-preserved : goal.loop-i-preserved
unfolding shown_row
loop-i-preserved c =
    let a = c.args in
    let v = c.loop-i.invariant in (
      v.0,
      left_step v.1 c.loop-i-test.true (omega arith)
          (shown_stored a.h a.rec.now _ _ _ c.loop-i.out _ _ _ _ v.0 c.from.ensures c.body_at.ensures
          c.is_shown_itself-shown.ensures c.from-in-loop-i.ensures c.store.ensures),
    )
