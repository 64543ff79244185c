-- What stands at a place and how many edges were read to tell: `shape_at` meets its contract.
-- By what the search for a loop found, which lies before the range's end.
use mathlib.Core.Path.{sym, ◌∙◌}
use native.Mathlib.Omega.{arith}
use Rattle.cfg.proofs.Within.{loop_before}
use Rattle.cfg.proofs.Stands.{stands_loop, stands_no_loop, stands_alone}
use Rattle.cfg.proofs.shape.shape_at.Goals as goal

pub is_loop-test-requires : goal.is_loop-test-requires
is_loop-test-requires c = let a = c.args in
    omega (arith, c.requires.i_lt_to, loop_before a.g.now.blocks.now a.g.now.edges.now a.i.0 a.to.0 c.in-Some.j (sym c.last_loop-sought.ensures.found ∙ c.in-Some.is))

pub returns-then-test : goal.returns-then-test
returns-then-test c = let a = c.args in
    let held = stands_loop a.g.now.blocks.now a.g.now.edges.now a.g.now.starts.now a.g.now.targets.now a.g.now.count a.i.0 a.to.0 c.requires.i_lt_to.0 c.requires.i_lt_to.1
    c.last_loop-sought.result.place c.last_loop-sought.result.looks c.last_loop-sought.ensures.found c.last_loop-sought.ensures.looks.0
    c.in-Some.j c.in-Some.is c.is_loop-test.ensures.found c.is_loop-test.ensures.looks.0 c.if-test.true in record { shape = held.0; looks = held.1 }

pub returns-else-test : goal.returns-else-test
returns-else-test c = let a = c.args in
    let held = stands_no_loop a.g.now.blocks.now a.g.now.edges.now a.g.now.starts.now a.g.now.targets.now a.g.now.count a.i.0 a.to.0 c.requires.i_lt_to.0 c.requires.i_lt_to.1
    c.last_loop-sought.result.place c.last_loop-sought.result.looks c.last_loop-sought.ensures.found c.last_loop-sought.ensures.looks.0
    c.in-Some.j c.in-Some.is c.is_loop-test.ensures.found c.is_loop-test.ensures.looks.0 c.if-test.false
    c.region_at.result.shape c.region_at.result.looks c.region_at.ensures.shape c.region_at.ensures.looks in record { shape = held.0; looks = held.1 }

pub returns-in-None : goal.returns-in-None
returns-in-None c = let a = c.args in
    let held = stands_alone a.g.now.blocks.now a.g.now.edges.now a.g.now.starts.now a.g.now.targets.now a.g.now.count a.i.0 a.to.0 c.requires.i_lt_to.0 c.requires.i_lt_to.1
    c.last_loop-sought.result.place c.last_loop-sought.result.looks c.last_loop-sought.ensures.found c.last_loop-sought.ensures.looks.0
    c.in-None.is c.region_at-in-None.result.shape c.region_at-in-None.result.looks c.region_at-in-None.ensures.shape c.region_at-in-None.ensures.looks in record { shape = held.0; looks = held.1 }
