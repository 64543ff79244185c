-- Whether each row is one: `rows_held` meets its contract.
-- All before the one at hand are.
use Rattle.csv_rows.proofs.Checks.{Rows}
use Rattle.csv_rows.proofs.held.rows_held.Given as goal

abbrev pub invariant-loop-i : goal.invariant-loop-i
invariant-loop-i l = Rows l.l l.m l.n l.i
