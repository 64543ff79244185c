-- `literal::measure` meets its contract.
-- By what was found of each part.
use Rattle.strings.proofs.Measuring.{unopened, unended, measured}
use Rattle.strings.proofs.literal.measure.Goals as goal

pub returns-in_err-at : goal.returns-in_err-at
returns-in_err-at c = rw c.from_residual.ensures (unopened _ c.in_err-at.ensures)

pub returns-in_err-cut : goal.returns-in_err-cut
returns-in_err-cut c =
    rw c.from_residual-in_err-cut.ensures
    (unended _ _ _ _ _ _ c.in_ok-at.ensures c.from-inside.ensures.0 c.characters-run.ensures c.from.ensures.0 c.in_err-cut.ensures)

pub returns : goal.returns
returns c = measured _ _ _ _ _ _ c.in_ok-at.ensures c.from-inside.ensures.0 c.characters-run.ensures c.from.ensures.0 _ c.in_ok-cut.ensures
