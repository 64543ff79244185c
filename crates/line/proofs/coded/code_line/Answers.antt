-- `coded::code_line` meets its contract.
-- The line's tokens from its start, and its end.
use Rattle.codes.proofs.CodedLines.{line_coded}
use Rattle.line.proofs.coded.code_line.Goals as goal

pub returns : goal.returns
returns c = line_coded _ _ c.requires.at_line c.code_tokens.ensures c.put_end.ensures
