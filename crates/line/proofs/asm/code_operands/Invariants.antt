-- `asm::code_operands` meets its contract.
-- The invariant: the operands coded and those left are all of them.
use Rattle.codes.specs.Tables.{table_bytes}
use mathlib.Core.Path.{◌≡◌}
use Prim.Native.Nat.{◌≤◌}
use lib.ListN.{length}
use Rattle.expressions.proofs.Turns.{Sofar}
use Rattle.line.proofs.Names.{operands_left}
use Rattle.line.proofs.asm.code_operands.Given as goal

abbrev pub invariant-loop-i : goal.invariant-loop-i
invariant-loop-i l =
    (length l.codes ≡ length l.initial.codes) × (l.i ≤ l.n) × Sofar table_bytes l.rec l.initial.codes l.codes (operands_left l.h l.rec l.body l.n 0) (operands_left l.h l.rec l.body l.n l.i)
