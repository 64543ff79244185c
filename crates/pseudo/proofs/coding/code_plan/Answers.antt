-- `code_plan` meets its contract.
-- Where nothing was coded before, what is counted is what the lines have: no sum wraps.
use Rattle.pseudo.proofs.Listing.{sizes_are, holds_lines}
use Rattle.pseudo.proofs.coding.code_plan.Goals as goal

pub returns : goal.returns
returns c = record { sizes = sizes_are _ _ _ _ _ c.start.ensures c.code_lines.ensures c.requires.fits c.args.h c.args.plan.now; codes = holds_lines _ _ _ _ _ c.start.ensures c.code_lines.ensures c.requires.fits c.code_lines.auto.codes }
