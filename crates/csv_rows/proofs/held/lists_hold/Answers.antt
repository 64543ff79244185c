-- Whether lists hold rows: `lists_hold` meets its contract.
-- By its tests, in the order of the definition.
use mathlib.Core.Path.{sym, ◌∙◌}
use Rattle.csv_rows.proofs.Holds.{hold_all, hold_ends, hold_rooms, rooms_within}
use Rattle.csv_rows.proofs.held.lists_hold.Goals as goal

pub returns-then-is_err : goal.returns-then-is_err
returns-then-is_err c = hold_rooms _ _ _ c.ask_room.result c.rooms.ensures c.ask_room.ensures (sym c.is_err.ensures.value ∙ c.if-is_err.true)

pub tokens_held-requires : goal.tokens_held-requires
tokens_held-requires c = let w = rooms_within _ _ _ c.ask_room.result c.rooms.ensures c.ask_room.ensures (sym c.is_err.ensures.value ∙ c.if-is_err.false) in (w.ends, w.kinds)

pub rows_held-requires : goal.rows_held-requires
rows_held-requires c = let w = rooms_within _ _ _ c.ask_room.result c.rooms.ensures c.ask_room.ensures (sym c.is_err.ensures.value ∙ c.if-is_err.false) in (w.addresses, w.marks, w.lines)

pub returns-then-end_at-sizes : goal.returns-then-end_at-sizes
returns-then-end_at-sizes c =
    hold_all _ _ _ c.ask_room.result c.rooms.ensures c.ask_room.ensures (sym c.is_err.ensures.value ∙ c.if-is_err.false)
    (rw (← c.l.view_is) c.end_at.ensures) (rw (← c.l.view_is) c.end_at-2.ensures) c.if-end_at-sizes.true c.tokens_held.ensures c.rows_held.ensures

pub returns : goal.returns
returns c =
    hold_ends _ _ _ c.ask_room.result c.rooms.ensures c.ask_room.ensures (sym c.is_err.ensures.value ∙ c.if-is_err.false)
    (rw (← c.l.view_is) c.end_at.ensures) (rw (← c.l.view_is) c.end_at-2.ensures) c.if-end_at-sizes.false
