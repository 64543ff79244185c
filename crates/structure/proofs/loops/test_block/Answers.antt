-- The last block of a do-body: `test_block` meets its contract.
-- Its label, its shown instructions before the last, its while-line, one after the other.
use Rattle.structure.proofs.Parts.{test_parts}
use Rattle.structure.proofs.Storing.{room_first, room_second, room_third, stored_three, room_one}
use borrow.Author.Rules.{rules}
use Rattle.structure.proofs.loops.test_block.Goals as goal

pub label-n-requires : goal.label-n-requires
label-n-requires c =
    let a = c.args in
    (search rules, rw c.label_wanted-wanted.ensures (room_first (test_parts a.g.now.blocks.now a.g.now.shown.now a.j.0 a.indent) c.requires.1))

pub shown_lines-m-requires : goal.shown_lines-m-requires
shown_lines-m-requires c =
    let a = c.args in
    (search rules, search rules, rw (c.first_in-first.ensures.0, c.saturating_sub-size.ensures, c.from.ensures, c.count_in.ensures.0) (room_second (test_parts a.g.now.blocks.now a.g.now.shown.now a.j.0 a.indent) (rw c.label_wanted-wanted.ensures at c.label-n.ensures) c.requires.1))

pub put_line-requires : goal.put_line-requires
put_line-requires c =
    let a = c.args in
    let room = room_third (test_parts a.g.now.blocks.now a.g.now.shown.now a.j.0 a.indent) (rw c.label_wanted-wanted.ensures at c.label-n.ensures) (rw (c.first_in-first.ensures.0, c.saturating_sub-size.ensures, c.from.ensures, c.count_in.ensures.0) at c.shown_lines-m.ensures) c.requires.1 in
    (search rules, search rules, search rules, room_one room)

pub returns : goal.returns
returns c =
    let a = c.args in
    stored_three (test_parts a.g.now.blocks.now a.g.now.shown.now a.j.0 a.indent) (rw c.label_wanted-wanted.ensures at c.label-n.ensures) (rw (c.first_in-first.ensures.0, c.saturating_sub-size.ensures, c.from.ensures, c.count_in.ensures.0) at c.shown_lines-m.ensures) (rw c.last_in.ensures.0 at c.put_line.ensures)
