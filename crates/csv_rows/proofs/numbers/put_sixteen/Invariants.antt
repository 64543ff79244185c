-- Sixteen hex digits: `put_sixteen` meets its contract.
-- Each turn stores the last digit that is left.
use Rattle.csv_rows.proofs.Digits.{Hex}
use Rattle.csv_rows.proofs.numbers.put_sixteen.Given as goal

abbrev pub invariant-loop-i : goal.invariant-loop-i
invariant-loop-i l = Hex l.at l.v l.initial.out l.w l.i l.out

abbrev pub decreases-loop-i : goal.decreases-loop-i
decreases-loop-i l = l.i
