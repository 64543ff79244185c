-- `copy::copy_two` meets its contract.
-- The bytes read are those of the part.
use Rattle.writer.proofs.CopyLaws.{two}
use Rattle.writer.proofs.copy.copy_two.Goals as goal

pub returns : goal.returns
returns c = two c.args.s.now c.args.to c.args.from c.args.out.now c.requires.1
