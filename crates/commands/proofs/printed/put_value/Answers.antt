-- A row's value: `put_value` meets its contract.
-- A dash, or the pairs of the row's bytes.
use Rattle.csv_rows.proofs.Wrote.{wrote_one}
use Rattle.commands.proofs.Printing.{none_text, some_text}
use Rattle.commands.proofs.printed.put_value.Goals as goal

pub returns-then-row-eq1 : goal.returns-then-row-eq1
returns-then-row-eq1 c = rw (none_text _ _ _ c.element_or-row.ensures c.if-row-eq1.true) (wrote_one c.store.ensures)

pub put_pairs-requires : goal.put_pairs-requires
put_pairs-requires c = rw (some_text _ _ _ c.element_or-row.ensures c.if-row-eq1.false c.byte_end.ensures c.text_between.ensures) at c.requires

pub returns : goal.returns
returns c = rw (some_text _ _ _ c.element_or-row.ensures c.if-row-eq1.false c.byte_end.ensures c.text_between.ensures) c.put_pairs.ensures
