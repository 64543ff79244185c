-- Whether a block's last instruction is skip-marked: `last_marked` meets its contract.
-- By its mark.
use Rattle.checker.specs.Rows.{last_marked}
use Rattle.checker.proofs.blocks.last_marked.Goals as goal

pub returns : goal.returns
unfolding last_marked
returns c = simp (c.skip_mark.ensures, c.last_body.ensures, c.count_in.ensures.0)
