-- A block of a range: `emit_block` meets its contract.
-- Its label, its shown instructions, its closing line, one after the other.
use Rattle.structure.proofs.Parts.{block_parts}
use Rattle.structure.proofs.Storing.{room_first, room_second, room_third, stored_three}
use borrow.Author.Rules.{rules}
use Rattle.structure.proofs.blocks.emit_block.Goals as goal

pub label-n-requires : goal.label-n-requires
label-n-requires c =
    let a = c.args in
    (search rules, room_first (block_parts a.blocks.now a.shown.now a.wanted a.k.0 a.to.0 a.indent) c.requires.1)

pub body_lines-m-requires : goal.body_lines-m-requires
body_lines-m-requires c =
    let a = c.args in
    (search rules, room_second (block_parts a.blocks.now a.shown.now a.wanted a.k.0 a.to.0 a.indent) c.label-n.ensures c.requires.1)

pub closing_line-requires : goal.closing_line-requires
closing_line-requires c =
    let a = c.args in
    (search rules, room_third (block_parts a.blocks.now a.shown.now a.wanted a.k.0 a.to.0 a.indent) c.label-n.ensures c.body_lines-m.ensures c.requires.1)

pub returns : goal.returns
returns c =
    let a = c.args in
    stored_three (block_parts a.blocks.now a.shown.now a.wanted a.k.0 a.to.0 a.indent) c.label-n.ensures c.body_lines-m.ensures c.closing_line.ensures
