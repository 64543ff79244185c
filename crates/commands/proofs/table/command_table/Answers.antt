-- The call: `command_table` meets its contract.
-- By its questions in turn.
use mathlib.Core.Path.{sym, ◌∙◌}
use Rattle.std.proofs.lemmas.Result.{err_from_is_err_and}
use Rattle.commands.specs.Table.{table_lists}
use Rattle.commands.proofs.Called.{no_name, no_rows, no_room, makes}
use Rattle.commands.proofs.table.command_table.Goals as goal

pub returns-then-call-register : goal.returns-then-call-register
returns-then-call-register c = no_name _ _ _ _ _ c.if-call-register.true

pub returns-then-not-lists_hold : goal.returns-then-not-lists_hold
returns-then-not-lists_hold c = no_rows _ _ _ _ c.if-call-register.false _ (sym c.if-not-lists_hold.true ∙ c.lists_hold.ensures)

pub returns-in_err-ask_room : goal.returns-in_err-ask_room
returns-in_err-ask_room c =
    let p = err_from_is_err_and c.from_residual.result c.from_residual.ensures.1 in
    let a = c.args in
    rw (p.1, p.2)
    (no_room _ _ _ _ c.if-call-register.false (sym c.if-not-lists_hold.false ∙ c.lists_hold.ensures) c.measure-size.ensures _ (table_lists a.bytes.now a.rows.now a.calls.now)
    c.ask_room.result c.ask_room.ensures c.in_err-ask_room.was)

pub returns : goal.returns
returns c =
    let a = c.args in
    makes _ _ _ _ c.if-call-register.false (sym c.if-not-lists_hold.false ∙ c.lists_hold.ensures) c.measure-size.ensures _ (table_lists a.bytes.now a.rows.now a.calls.now)
    c.ask_room.result c.ask_room.ensures c.in_ok-ask_room.was _ c.fill.ensures
