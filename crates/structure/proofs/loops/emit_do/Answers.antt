-- The body of a do-loop: `emit_do` meets its contract.
-- Its blocks before the last, then the last, one after the other.
use Rattle.structure.proofs.Parts.{do_parts}
use Rattle.structure.proofs.Storing.{stored_none, stored_three}
use Rattle.structure.proofs.loops.emit_do.Goals as goal

pub returns : goal.returns
returns c =
    let a = c.args in
    stored_three (do_parts a.g.now.blocks.now a.g.now.shown.now a.i.0 a.j.0 a.indent) (stored_none a.out.now a.at) c.flat_lines-n.ensures c.test_block.ensures
