-- `put_ending` meets its contract.
-- The readers ensure what the row's second half says.
use Rattle.flow.proofs.Row.{array, ending_stored}
use Rattle.flow.proofs.rows.put_ending.Goals as goal

pub returns : goal.returns
returns c =
    ending_stored _ _ _ _ _ c.requires _ _ _ _ _ _ _ _ _ _ (array _ _ _ _ c.marks_at.ensures.0 c.from.ensures.0) c.label_mark-label.ensures
    (array _ _ _ _ c.bodies_at.ensures.0 c.from-2.ensures.0) c.last_at.ensures c.body_at-last.ensures
    c.ending_in-ending.ensures c.branch_of-branch.ensures c.from-3.ensures c.put_four.ensures
