-- `read_full` meets its contract.
-- Each turn reads a byte or more, and what is read lies within the list.
use Rattle.std.proofs.Common.{◌≡◌, ◌-◌, ◌≤◌, length}
use Rattle.replay.proofs.read_full.Given as goal

abbrev pub invariant-loop-n : goal.invariant-loop-n
invariant-loop-n g l = (length l.list ≡ length l.initial.list) × (l.n ≤ length l.list)

abbrev pub decreases-loop-n : goal.decreases-loop-n
decreases-loop-n g l = length l.list - l.n
