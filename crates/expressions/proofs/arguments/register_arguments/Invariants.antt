-- `arguments::register_arguments` meets its contract.
-- The invariant: the registers coded and those left are all of them.
use Rattle.codes.specs.Tables.{table_bytes}
use mathlib.Core.Path.{◌≡◌}
use mathlib.Core.List.{List}
use Prim.Native.Nat.{ℕ, ◌≤◌}
use lib.ListN.{length}
use Rattle.expressions.proofs.Commas.{registers_left}
use Rattle.expressions.proofs.Turns.{Sofar}
use Rattle.expressions.proofs.arguments.register_arguments.Given as goal

abbrev pub invariant-loop-k : goal.invariant-loop-k
invariant-loop-k l =
    (length l.codes ≡ length l.initial.codes) × (l.k ≤ l.n) × ((s : List ℕ) → Sofar table_bytes s l.initial.codes l.codes (registers_left l.convention l.n 0) (registers_left l.convention l.n l.k))
