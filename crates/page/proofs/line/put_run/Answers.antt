-- `line::put_run` meets its contract.
-- What is filled is the run as far as the list goes; past the list nothing is stored.
use Rattle.page.proofs.Pieces.{filled}
use Rattle.page.proofs.line.put_run.Goals as goal

pub returns : goal.returns
returns c = filled _ _ _ _ _ _ c.min-start.ensures c.min-end.ensures _ (c.fill.ensures.after (λ y e. e))
