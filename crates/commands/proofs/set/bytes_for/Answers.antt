-- The bytes set for a call: `bytes_for` meets its contract.
-- By the line found, and what that line sets.
use Rattle.commands.proofs.For.{for_none, for_line, few_found}
use Rattle.commands.proofs.set.bytes_for.Goals as goal

pub returns-in_err-i : goal.returns-in_err-i
returns-in_err-i c = rw c.from_residual.ensures (record { gives = for_none _ _ _ _ c.line_before.ensures _ c.in_err-i.was; few = tt })

pub returns : goal.returns
returns c = record { gives = for_line _ _ _ _ c.line_before.ensures _ c.in_ok-i.was _ _ c.set_by.ensures; few = few_found _ _ _ c.set_by.ensures }
