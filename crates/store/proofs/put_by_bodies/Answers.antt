-- `put_by_bodies` meets its contract.
-- By what the call left and what is printed of it.
use native.Mathlib.Nat.{mul_comm}
use Rattle.lists.specs.Question.{number}
use Rattle.store.proofs.Prints.{prints}
use Rattle.store.proofs.put_by_bodies.Goals as goal

pub returns : goal.returns
returns c = prints _ _ _ (mul_comm _ 92) _ _ _ _ c.requires c.from_columns-answer.ensures (c.put_stored.ensures number (λ _ _ is. is))
