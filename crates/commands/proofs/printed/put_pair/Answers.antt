-- A byte as two digits: `put_pair` meets its contract.
-- Two stores, one behind the other.
use Rattle.commands.proofs.Printing.{wrote_pair}
use Rattle.commands.proofs.printed.put_pair.Goals as goal

pub returns : goal.returns
returns c = rw (← c.from-v.ensures) (wrote_pair _ c.digit_of.ensures c.store.ensures c.digit_of-2.ensures c.store-2.ensures)
