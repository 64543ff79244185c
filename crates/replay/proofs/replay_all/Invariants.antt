-- `replay_all` meets its contract.
-- No count passes the number of cases, and the offset stays small.
use Rattle.std.proofs.Common.{◌≤◌}
use Rattle.replay.proofs.replay_all.Given as goal

abbrev pub invariant-loop-n : goal.invariant-loop-n
invariant-loop-n g l = (l._n ≤ l.count) × (l.differ ≤ l._n)
