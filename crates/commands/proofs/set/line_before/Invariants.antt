-- The search back for the line that sets a register: `line_before` meets its contract.
-- Of the lines that are left the answer is that of all.
use mathlib.Core.Path.{◌≡◌}
use Rattle.commands.specs.Table.{line_before}
use Rattle.commands.proofs.Search.{Sought}
use Rattle.commands.proofs.set.line_before.Given as goal

abbrev pub invariant-loop-j : goal.invariant-loop-j
invariant-loop-j l = line_before l.l l.register l.p l.j ≡ Sought l.l l.register l.k
