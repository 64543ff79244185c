-- The block of an if-region: `emit_head` meets its contract.
-- Its label, its shown instructions, its opening line, one after the other.
use Rattle.structure.proofs.Parts.{head_parts}
use Rattle.structure.proofs.Storing.{stored_three}
use Rattle.structure.proofs.blocks.emit_head.Goals as goal

pub returns : goal.returns
returns c = let a = c.args in
    record { lines = stored_three (head_parts a.g.now.blocks.now a.g.now.edges.now a.g.now.shown.now a.g.now.count a.from.0 a.i.0 a.to.0 a.indent) (rw c.is_labelled-wanted.ensures.found at c.label-n.ensures) c.body_lines-m.ensures (rw c.last_in.ensures.0 at c.put_line-next.ensures); looks = c.is_labelled-wanted.ensures.looks }
