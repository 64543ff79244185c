-- `copy::copy_four` meets its contract.
-- The bytes read are those of the part.
use Rattle.writer.proofs.CopyLaws.{four}
use Rattle.writer.proofs.copy.copy_four.Goals as goal

pub returns : goal.returns
returns c = four c.args.s.now c.args.to c.args.from c.args.out.now c.requires.1
