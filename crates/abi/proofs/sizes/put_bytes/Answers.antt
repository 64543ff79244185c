-- `put_bytes` meets its contract.
-- An error that is a question has its number.
use mathlib.Core.Path.{◌∙◌}
use Rattle.lists.specs.Question.{number}
use Rattle.abi.proofs.Exports.{number_at}
use Rattle.abi.proofs.sizes.put_bytes.Goals as goal

pub returns-clause-number : goal.returns-clause-number
returns-clause-number c = c.put_stored.ensures.number number (λ _ _ is. is) ∙ number_at c.args.answer
