-- `answer_with` meets its contract.
-- By what reading answered: the table's text, or the number.
use native.Mathlib.Omega.{arith}
use Rattle.lists.specs.Question.{number}
use Rattle.page.proofs.Pieces.{stands_whole}
use Rattle.keyer.proofs.Table.{no_rows, listed_few, table_prints}
use Rattle.keyer.proofs.answer_with.Goals as goal

pub put_commands-requires : goal.put_commands-requires
put_commands-requires c = record { lists = listed_few c.args.call.now c.args.register.now _ _ _ c.requires.room _ c.read_rows.ensures c.requires.input.0 _ c.in-Ok.is; names = c.requires.input.1; room = c.requires.input.2 }

pub returns-in-Ok : goal.returns-in-Ok
returns-in-Ok c = table_prints _ _ _ _ _ c.requires.room _ c.read_rows.ensures c.requires.input.0 _ c.in-Ok.is _ c.put_commands.ensures

pub returns-in-Err : goal.returns-in-Err
returns-in-Err c = no_rows _ _ _ _ _ c.requires.room _ c.read_rows.ensures c.requires.input.0 _ _ c.in-Err.is (stands_whole _ _ _ _ (c.put_refusal.ensures.text number (λ _ _ is. is)).0 (c.put_refusal.ensures.text number (λ _ _ is. is)).1 (omega (arith, c.put_refusal.ensures.short, c.requires.input.2)))
