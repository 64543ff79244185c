-- Whether every line is labelled: `all_labelled` meets its contract.
-- The invariant: what is left of the lines tells it.
use Rattle.route.specs.Assumed.{all_labelled}
use borrow.Author.Rules.{rules}
use Rattle.checker.proofs.labels.all_labelled.Goals as goal

pub loop-code-init : goal.loop-code-init
unfolding all_labelled
loop-code-init c = search rules
