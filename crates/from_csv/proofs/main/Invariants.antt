-- `main` is safe and ends.
-- Eleven parts at most, and each is told a list of its own length.
use mathlib.Core.Path.{◌≡◌}
use lib.ListN.{length}
use Rattle.from_csv.proofs.main.Given as goal

abbrev pub invariant-loop-p : goal.invariant-loop-p
invariant-loop-p l = length l.out ≡ 1318156
