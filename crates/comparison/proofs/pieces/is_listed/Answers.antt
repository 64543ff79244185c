-- `pieces::is_listed` meets its contract.
-- The header is the record's.
use Rattle.comparison.specs.Pieces.{is_listed}
use Rattle.comparison.proofs.pieces.is_listed.Goals as goal

pub returns : goal.returns
unfolding is_listed
returns c = rw (c.record_first_no.ensures, ← c.requires)
