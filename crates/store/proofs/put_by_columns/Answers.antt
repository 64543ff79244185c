-- `put_by_columns` meets its contract.
-- By what the call left and what is printed of it.
use mathlib.Core.Path.{refl}
use Rattle.lists.specs.Question.{number}
use Rattle.store.proofs.Prints.{prints}
use Rattle.store.proofs.put_by_columns.Goals as goal

pub returns : goal.returns
returns c = prints _ _ _ (refl) _ _ _ _ c.requires c.to_columns-answer.ensures (c.put_stored.ensures number (λ _ _ is. is))
