-- `plain_search` meets its contract.
-- The invariant: numbers below `low` are smaller than x, those from `high` on greater.
use mathlib.Core.Path.{sym, ◌∙◌}
use native.Mathlib.Omega.{arith}
use Rattle.record.proofs.SearchLaws.{find_nothing, find_first}
use Rattle.record.proofs.Halving.{between_none, found_first, go_up, go_down}
use Rattle.record.proofs.search.plain_search.Goals as goal

pub returns-then-a-x : goal.returns-then-a-x
returns-then-a-x c =
    let a = c.plain_u64-a.ensures.0 in
    sym (find_first _ _ 0 _ _ (omega arith) (omega arith) (found_first c.requires.rises a (omega arith) c.if-a-x.true) (sym a ∙ c.if-a-x.true))

pub loop-low-preserved-then-a-x-2 : goal.loop-low-preserved-then-a-x-2
loop-low-preserved-then-a-x-2 c =
    (omega arith, omega arith, go_up c.requires.rises c.plain_u64-a.ensures.0 (omega arith) c.loop-low.invariant.2 c.if-a-x-2.true)

pub loop-low-preserved : goal.loop-low-preserved
loop-low-preserved c =
    (omega arith, omega arith, go_down c.requires.rises c.plain_u64-a.ensures.0 (omega arith) c.loop-low.invariant.2 c.if-a-x-2.false c.if-a-x.false)

pub returns : goal.returns
returns c =
    sym (find_nothing _ _ 0 _ (λ j a. between_none c.loop-low.invariant.2 c.loop-low-test.false j (omega arith)))
