-- `shown_rows` meets its contract.
-- The invariant: to store the rows from here on is to store all of them.
use mathlib.Core.Path.{◌≡◌}
use Rattle.flow.specs.Rows.{shown_row}
use Rattle.record.specs.Layout.{bodies_of}
use Rattle.flow.proofs.Storing.{Left}
use Rattle.flow.proofs.rows.shown_rows.Given as goal

abbrev pub invariant-loop-i : goal.invariant-loop-i
invariant-loop-i l = (l.bodies ≡ bodies_of l.h l.rec) × Left (shown_row l.h l.rec) l.h.instructions l.initial.out l.i l.out l.i
