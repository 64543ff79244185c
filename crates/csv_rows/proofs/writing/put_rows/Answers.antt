-- Rows one behind the other: `put_rows` meets its contract.
-- What is left from here is one row and what is left behind it.
use native.Mathlib.Nat.{zero-add}
use Rattle.csv_rows.proofs.Going.{go_end}
use Rattle.csv_rows.proofs.Rows.{head_room, line_room, rows_turn, rows_none}
use Rattle.csv_rows.proofs.writing.put_rows.Goals as goal

pub put_head-q-requires : goal.put_head-q-requires
put_head-q-requires c =
    let v = rw (← c.l.view_is) at c.loop-i.invariant in
    head_room _ _ _ v.0 c.loop-i-test.true c.element_or-mark.ensures c.element_or-address.ensures c.element_or-place.ensures v.1 c.end_at-e.ensures (rw zero-add (rw (← c.l.view_is) at c.requires))

pub put_line-p-requires : goal.put_line-p-requires
put_line-p-requires c =
    let v = rw (← c.l.view_is) at c.loop-i.invariant in
    rw (← c.l.view_is)
    (line_room _ _ _ v.0 c.loop-i-test.true c.element_or-mark.ensures c.element_or-address.ensures c.element_or-place.ensures v.1 c.end_at-e.ensures (rw zero-add (rw (← c.l.view_is) at c.requires)) c.put_head-q.ensures)

pub loop-i-preserved : goal.loop-i-preserved
loop-i-preserved c =
    let v = rw (← c.l.view_is) at c.loop-i.invariant in
    rw (← c.l.view_is)
    (rows_turn _ _ _ v.0 c.loop-i-test.true c.element_or-mark.ensures c.element_or-address.ensures c.element_or-place.ensures v.1 c.end_at-e.ensures (rw zero-add (rw (← c.l.view_is) at c.requires)) c.put_head-q.ensures (rw (← c.l.view_is) at c.put_line-p.ensures), c.end_at-e.ensures)

pub returns : goal.returns
returns c = (go_end c.loop-i.invariant.0 (rows_none _ _ _ c.loop-i-test.false)).text
