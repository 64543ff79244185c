-- Question 6: `starts_differ` meets its contract.
-- Starts that rise differ. For the others the invariant: every start so far is new.
use mathlib.Core.Path.{sym, ◌∙◌}
use borrow.Author.Rules.{rules}
use Rattle.lists.specs.Below.{all_fails}
use Rattle.record.specs.Blocks.{start_is_new, starts_differ}
use Rattle.record.proofs.Rising.{rising_differ}
use Rattle.record.proofs.blocks.starts_differ.Goals as goal

pub returns-then-starts_rise : goal.returns-then-starts_rise
returns-then-starts_rise c = sym (rising_differ _ _ (sym c.starts_rise.ensures ∙ c.if-starts_rise.true))

pub returns-then-not-start_is_new : goal.returns-then-not-start_is_new
unfolding starts_differ
returns-then-not-start_is_new c =
    let a = c.args in
    let n = c.start_is_new in
    sym (all_fails (start_is_new a.starts.now) a.blocks c.loop-k.k (search rules) (sym n.ensures ∙ c.if-not-start_is_new.true))
