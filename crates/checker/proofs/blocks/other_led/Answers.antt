-- Whether a block that does not end in a jmp or return has its one Fall or False edge to the next block: `other_led` meets its contract.
-- By how it ends, and whether there is a next block.
use native.Mathlib.Omega.{arith}
use Rattle.checker.proofs.Led.{other_ends, other_last, other_next}
use Rattle.checker.proofs.blocks.other_led.Goals as goal

pub returns-then-count_in-ends_route : goal.returns-then-count_in-ends_route
returns-then-count_in-ends_route c =
    let a = c.args in
    other_ends a.starts.now a.targets.now a.kinds.now a.bodies.now a.blocks.now a.count a.k _ _ _ c.count_in.ensures.0 c.last_body.ensures c.ends_route.ensures c.if-count_in-ends_route.true

pub returns-then-count-k : goal.returns-then-count-k
returns-then-count-k c =
    let a = c.args in
    other_last a.starts.now a.targets.now a.kinds.now a.bodies.now a.blocks.now a.count a.k _ _ _ c.count_in.ensures.0 c.last_body.ensures c.ends_route.ensures c.if-count_in-ends_route.false (omega arith)

pub returns-then-count-k-eq1 : goal.returns-then-count-k-eq1
returns-then-count-k-eq1 c =
    let a = c.args in
    other_last a.starts.now a.targets.now a.kinds.now a.bodies.now a.blocks.now a.count a.k _ _ _ c.count_in.ensures.0 c.last_body.ensures c.ends_route.ensures c.if-count_in-ends_route.false (omega arith)

pub returns : goal.returns
returns c =
    let a = c.args in
    other_next a.starts.now a.targets.now a.kinds.now a.bodies.now a.blocks.now a.count a.k _ _ _ c.count_in.ensures.0 c.last_body.ensures c.ends_route.ensures c.if-count_in-ends_route.false _ _ (omega arith) c.start_at-va.ensures c.one_edge_to.ensures
