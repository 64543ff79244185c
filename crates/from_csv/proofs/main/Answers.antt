-- `main` is safe and ends.
-- Eleven parts at most, and each is told a list of its own length.
use Prim.Native.Nat.{ℕ}
use lib.ListN.{length-replicate}
use Rattle.from_csv.proofs.main.Goals as goal

pub loop-p-init : goal.loop-p-init
loop-p-init c = length-replicate {A = ℕ} 1318156 0
