-- `edge_rows` meets its contract.
-- The invariant: to store the rows from here on is to store all of them.
use mathlib.Core.Path.{◌≡◌}
use Prim.Native.Nat.{◌*◌}
use Rattle.flow.specs.Rows.{edge_row}
use Rattle.record.specs.Layout.{targets_of, edge_kinds_of}
use Rattle.flow.proofs.Storing.{Left}
use Rattle.flow.proofs.rows.edge_rows.Given as goal

abbrev pub invariant-loop-e : goal.invariant-loop-e
invariant-loop-e l = (l.targets ≡ targets_of l.fn.h l.rec) × (l.kinds ≡ edge_kinds_of l.fn.h l.rec) × Left (edge_row l.fn.h l.rec) l.fn.h.edges l.initial.out (2 * l.e) l.out l.e
