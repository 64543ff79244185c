-- `read_input` meets its contract.
-- Each turn reads a byte or more, what is read lies within the list, and its first bytes are those that came.
use Rattle.std.proofs.Common.{◌≡◌, ◌-◌, ◌≤◌, length, take}
use Rattle.std.specs.Io.KnownBytes.{Consumes}
use Rattle.stdio.proofs.input.read_input.Given as goal

abbrev pub invariant-loop-n : goal.invariant-loop-n
invariant-loop-n g l = (length l.list ≡ length l.initial.list) × (l.n ≤ length l.list) × Consumes (g.R.Read.remaining l.initial.from) (g.R.Read.remaining l.from) (take l.n l.list)

abbrev pub decreases-loop-n : goal.decreases-loop-n
decreases-loop-n g l = length l.list - l.n
