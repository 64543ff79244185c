-- The string of a literal that is not cut: `read_string` meets its contract.
-- By the reader's answer, which is a string or 17 where there is room for 80 bytes.
use Rattle.commands.proofs.Given.{none_read, cut_read, whole_read}
use Rattle.commands.proofs.set.read_string.Goals as goal

pub returns-then-v : goal.returns-then-v
returns-then-v c = cut_read _ _ _ _ _ c.requires c.read_literal.ensures _ c.in-Ok.is c.if-v.true

pub returns-else-v : goal.returns-else-v
returns-else-v c = whole_read _ _ _ _ _ c.requires c.read_literal.ensures _ c.in-Ok.is c.if-v.false

pub returns-in-Err : goal.returns-in-Err
returns-in-Err c = none_read _ _ _ _ _ c.requires c.read_literal.ensures _ c.in-Err.is
