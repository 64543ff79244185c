-- Whether each row is one: `rows_held` meets its contract.
-- All before the one at hand are.
use Rattle.csv_rows.proofs.Checks.{rows_turn, rows_fail}
use Rattle.csv_rows.proofs.held.rows_held.Goals as goal

pub loop-i-preserved : goal.loop-i-preserved
loop-i-preserved c = rw (← c.l.view_is) (rows_turn (rw (← c.l.view_is) at c.loop-i.invariant) c.loop-i-test.true c.end_at-e.ensures c.row_held.ensures c.if-not-row_held.false)

pub returns-then-not-row_held : goal.returns-then-not-row_held
returns-then-not-row_held c = rw (← c.l.view_is) (rows_fail (rw (← c.l.view_is) at c.loop-i.invariant) c.loop-i-test.true c.end_at-e.ensures c.row_held.ensures c.if-not-row_held.true)
