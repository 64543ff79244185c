-- `block_rows` meets its contract.
-- The invariant: the running indexes, and to store the rows from here on is to store all of them.
use mathlib.Core.Path.{◌≡◌}
use Prim.Native.Nat.{◌*◌}
use Rattle.flow.specs.Rows.{block_row}
use Rattle.record.specs.Layout.{marks_of}
use Rattle.record.specs.Blocks.{first_instruction, first_edge}
use Rattle.flow.proofs.Storing.{Left}
use Rattle.flow.proofs.rows.block_rows.Given as goal

abbrev pub invariant-loop-k : goal.invariant-loop-k
invariant-loop-k l =
    (l.marks ≡ marks_of l.fn.h l.rec) × (l.first ≡ first_instruction l.marks l.k) × (l.edge ≡ first_edge l.marks l.k)
    × Left (block_row l.fn.h l.rec) l.fn.h.blocks l.initial.out (8 * l.k) l.out l.k
