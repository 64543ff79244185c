-- `arguments::pushed_arguments` meets its contract.
-- The invariant: the pushes coded and those left are all of them.
use mathlib.Core.Bool.{false}
use Prim.Native.Nat.{◌-◌}
use Rattle.codes.specs.Tables.{table_bytes}
use Rattle.expressions.specs.Arguments.{pushes_back, pushed}
use Rattle.expressions.proofs.Turns.{Sofar}
use Rattle.expressions.proofs.arguments.pushed_arguments.Given as goal

abbrev pub invariant-loop-j : goal.invariant-loop-j
invariant-loop-j l =
    Sofar table_bytes l.rec l.initial.codes l.codes (pushed l.h l.rec false (pushes_back l.bits l.frame l.bodies l.first (l.i - l.first))) (pushed l.h l.rec l.comma (pushes_back l.bits l.frame l.bodies l.first (l.j - l.first)))
