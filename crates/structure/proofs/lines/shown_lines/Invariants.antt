-- The lines of a run of instructions: `shown_lines` meets its contract.
-- The invariant: to store the lines of the instructions that are left is to store those of all.
use Prim.Native.Nat.{◌-◌, ◌≤◌}
use Rattle.structure.specs.Plan.{shown_lines}
use Rattle.structure.specs.Codes.{codes}
use Rattle.structure.proofs.Storing.{Left}
use Rattle.structure.proofs.lines.shown_lines.Given as goal

abbrev pub invariant-loop-i : goal.invariant-loop-i
invariant-loop-i l = (l.i ≤ l.end) × Left l.initial.out l.at (codes (shown_lines l.shown l.k.0 l.first l.n l.indent)) l.out l.next (codes (shown_lines l.shown l.k.0 l.i (l.end - l.i) l.indent))
