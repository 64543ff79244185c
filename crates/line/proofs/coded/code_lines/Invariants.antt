-- `coded::code_lines` meets its contract.
-- The invariant: the lines coded and those left, printed with the registers written before them, are all of them.
use Rattle.codes.specs.Tables.{table_bytes}
use mathlib.Core.Path.{◌≡◌}
use mathlib.Core.List.{map}
use Prim.Native.Nat.{◌≤◌}
use lib.ListN.{length, drop}
use Rattle.line.specs.Lines.{line_in}
use Rattle.line.specs.Print.{printed}
use Rattle.line.proofs.CodedTurns.{LinesSofar}
use Rattle.line.proofs.coded.code_lines.Given as goal

abbrev pub invariant-loop-code : goal.invariant-loop-code
invariant-loop-code l =
    (length l.codes ≡ length l.initial.codes) × (l.code-index ≤ length l.plan)
    × LinesSofar table_bytes l.rec l.initial.codes l.codes (printed l.h l.rec l.range l.written (map line_in l.plan)) (printed l.h l.rec l.range l.mask (map line_in (drop l.code-index l.plan)))
