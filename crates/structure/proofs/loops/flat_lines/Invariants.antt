-- The blocks of a do-body before its last: `flat_lines` meets its contract.
-- The invariant: to store the lines of the blocks that are left is to store those of all.
use Prim.Native.Nat.{◌-◌}
use Rattle.structure.specs.Plan.{flat_lines}
use Rattle.structure.specs.Codes.{codes}
use Rattle.structure.proofs.Storing.{Left}
use Rattle.structure.proofs.loops.flat_lines.Given as goal

abbrev pub invariant-loop-k : goal.invariant-loop-k
invariant-loop-k l =
    Left l.initial.out l.at (codes (flat_lines l.g.blocks.now l.g.shown.now l.i.0 l.last l.i.0 (l.last - l.i.0) l.indent)) l.out l.next (codes (flat_lines l.g.blocks.now l.g.shown.now l.i.0 l.last l.k (l.last - l.k) l.indent))
