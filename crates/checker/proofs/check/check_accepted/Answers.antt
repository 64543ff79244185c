-- What an accepted record breaks: `check_accepted` meets its contract.
-- By whether it breaks an assumption, over the rows, read back.
use Rattle.checker.proofs.Planned.{counted, rows_are}
use Rattle.checker.proofs.Answers.{checks_follows}
use Rattle.checker.proofs.check.check_accepted.Goals as goal

pub block_rows-requires : goal.block_rows-requires
block_rows-requires c = counted c.args.h c.args.rec.now c.requires

pub check_assumptions-requires : goal.check_assumptions-requires
check_assumptions-requires c = record { accepted = c.requires; blocks_value = rows_are c.args.h c.args.rec.now c.requires _ _ _ c.block_rows.ensures c.part.ensures.0 c.size.ensures.0 }

pub returns : goal.returns
returns c = checks_follows c.args.h c.args.rec.now c.requires c.in_ok-check_assumptions.ensures
