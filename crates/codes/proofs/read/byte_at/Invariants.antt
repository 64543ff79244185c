-- `read::byte_at` meets its contract.
-- The invariant: index k of the text from code i on is index j of the whole.
use Rattle.std.proofs.Common.{◌≡◌, ◌-◌, length, get_or, drop}
use Rattle.codes.specs.Code.{decode}
use Rattle.codes.specs.Spelled.{spelled}
use Rattle.codes.proofs.read.byte_at.Given as goal

abbrev pub invariant-loop-i : goal.invariant-loop-i
invariant-loop-i l = get_or (spelled (decode l.tables l.rec (drop l.i l.codes))) l.k 0 ≡ get_or (spelled (decode l.tables l.rec l.codes)) l.j 0

abbrev pub decreases-loop-i : goal.decreases-loop-i
decreases-loop-i l = length l.codes - l.i
