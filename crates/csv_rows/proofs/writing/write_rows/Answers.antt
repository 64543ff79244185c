-- The call: `write_rows` meets its contract.
-- By its questions in turn.
use mathlib.Core.Path.{sym, ◌∙◌}
use native.Mathlib.Omega.{arith}
use Rattle.csv_rows.proofs.Calls.{refused, few, short, room, wrote}
use Rattle.csv_rows.proofs.writing.write_rows.Goals as goal

pub returns-then-not-lists_hold : goal.returns-then-not-lists_hold
returns-then-not-lists_hold c = refused _ _ _ (sym c.if-not-lists_hold.true ∙ c.lists_hold.ensures)

pub file_size-n-requires : goal.file_size-n-requires
file_size-n-requires c = few _ _ c.args.out.now (sym c.if-not-lists_hold.false ∙ c.lists_hold.ensures) c.numbers_fit.ensures

pub returns-then-out-n : goal.returns-then-out-n
returns-then-out-n c = short _ _ _ (sym c.if-not-lists_hold.false ∙ c.lists_hold.ensures) (rw (← c.l.view_is) c.file_size-n.ensures) c.if-out-n.true c.numbers_fit.ensures

pub put_rows-requires : goal.put_rows-requires
put_rows-requires c = room _ _ c.args.out.now (sym c.if-not-lists_hold.false ∙ c.lists_hold.ensures) {n = c.file_size-n.result} (rw (← c.l.view_is) c.file_size-n.ensures) (omega (arith, c.if-out-n.false))

pub returns : goal.returns
returns c = wrote _ _ _ (sym c.if-not-lists_hold.false ∙ c.lists_hold.ensures) (rw (← c.l.view_is) c.file_size-n.ensures) (omega (arith, c.if-out-n.false)) c.put_rows.ensures c.numbers_fit.ensures
