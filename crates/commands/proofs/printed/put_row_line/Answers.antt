-- A row's line: `put_row_line` meets its contract.
-- Sixteen digits, a space, the value and LF, one behind the other.
use native.Mathlib.Omega.{arith}
use Rattle.csv_rows.proofs.Wrote.{wrote_length}
use Rattle.commands.proofs.Printing.{sixteen_end, line_length, wrote_line}
use Rattle.commands.specs.Table.{table_lists}
use Rattle.commands.proofs.printed.put_row_line.Goals as goal

pub put_sixteen-p-requires : goal.put_sixteen-p-requires
put_sixteen-p-requires c = omega (arith, c.requires, line_length (table_lists c.args.bytes.now c.args.rows.now c.args.addresses.now) c.args.j)

pub overflow_add-p : goal.overflow_add-p
overflow_add-p c = omega (arith, c.requires, line_length (table_lists c.args.bytes.now c.args.rows.now c.args.addresses.now) c.args.j, sixteen_end _ c.put_sixteen-p.ensures)

pub put_value-q-requires : goal.put_value-q-requires
put_value-q-requires c = omega (arith, c.requires, line_length (table_lists c.args.bytes.now c.args.rows.now c.args.addresses.now) c.args.j, sixteen_end _ c.put_sixteen-p.ensures, wrote_length c.put_sixteen-p.ensures, c.store.auto)

pub overflow_add-result : goal.overflow_add-result
overflow_add-result c = omega (arith, c.requires, line_length (table_lists c.args.bytes.now c.args.rows.now c.args.addresses.now) c.args.j, sixteen_end _ c.put_sixteen-p.ensures, c.put_value-q.ensures.end)

pub returns : goal.returns
returns c = wrote_line _ _ c.element_or.ensures c.put_sixteen-p.ensures c.store.ensures c.put_value-q.ensures c.store-2.ensures
