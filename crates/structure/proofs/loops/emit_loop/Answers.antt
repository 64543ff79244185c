-- A do-loop: `emit_loop` meets its contract.
-- Its head's label, its do-line, its body, one after the other.
use Rattle.structure.proofs.Parts.{loop_parts}
use Rattle.structure.proofs.Storing.{room_first, room_second, room_third, room_one, stored_three}
use borrow.Author.Rules.{rules}
use native.Mathlib.Omega.{arith}
use Rattle.structure.proofs.loops.emit_loop.Goals as goal

pub label-n-requires : goal.label-n-requires
label-n-requires c =
    let a = c.args in
    (search rules, rw c.head_labelled-wanted.ensures.found (room_first (loop_parts a.g.now.blocks.now a.g.now.edges.now a.g.now.shown.now a.g.now.count a.i.0 a.j.0 a.indent) c.requires.room))

pub put_line-m-requires : goal.put_line-m-requires
put_line-m-requires c =
    let a = c.args in
    let room = room_second (loop_parts a.g.now.blocks.now a.g.now.edges.now a.g.now.shown.now a.g.now.count a.i.0 a.j.0 a.indent) (rw c.head_labelled-wanted.ensures.found at c.label-n.ensures) c.requires.room in
    (search rules, search rules, search rules, room_one room)

pub emit_do-next-requires : goal.emit_do-next-requires
emit_do-next-requires c =
    let a = c.args in
    (omega (arith, c.requires.i_le_j, c.args.g.now.count_fits), search rules, room_third (loop_parts a.g.now.blocks.now a.g.now.edges.now a.g.now.shown.now a.g.now.count a.i.0 a.j.0 a.indent) (rw c.head_labelled-wanted.ensures.found at c.label-n.ensures) c.put_line-m.ensures c.requires.room)

pub returns : goal.returns
returns c = let a = c.args in
    record { lines = stored_three (loop_parts a.g.now.blocks.now a.g.now.edges.now a.g.now.shown.now a.g.now.count a.i.0 a.j.0 a.indent) (rw c.head_labelled-wanted.ensures.found at c.label-n.ensures) c.put_line-m.ensures c.emit_do-next.ensures; looks = c.head_labelled-wanted.ensures.looks }
