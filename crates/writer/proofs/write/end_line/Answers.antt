-- `write::end_line` meets its contract.
-- One store of the token count, and the next line.
use Rattle.writer.proofs.PageLaws.{line_ended}
use Rattle.writer.proofs.write.end_line.Goals as goal

pub returns : goal.returns
returns c x e k = line_ended x e k _ _
