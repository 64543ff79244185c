-- `copy::copy_eight` meets its contract.
-- The bytes read are those of the part.
use Rattle.writer.proofs.CopyLaws.{eight}
use Rattle.writer.proofs.copy.copy_eight.Goals as goal

pub returns : goal.returns
returns c = eight c.args.s.now c.args.to c.args.from c.args.out.now c.requires.1
