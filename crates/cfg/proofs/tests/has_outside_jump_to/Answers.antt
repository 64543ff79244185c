-- Whether a block outside jumps to a place: `has_outside_jump_to` meets its contract.
-- By the definitions, with the test that was given.
use native.Mathlib.Omega.{arith}
use Rattle.cfg.specs.Graph.{jump_to, outside_jump}
use Rattle.cfg.specs.Looks.{outside_looks}
use Rattle.cfg.proofs.Few.{outside_few}
use borrow.Author.Rules.{rules}
use Rattle.cfg.proofs.tests.has_outside_jump_to.Goals as goal

pub returns : goal.returns
unfolding outside_jump outside_looks
returns c =
    let a = c.args in
    let r = c.read_outside.ensures.reads (jump_to a.edges.now a.i.0) (λ k b l q. search rules) in
    record { found = r.found; looks = (r.looks, omega (arith, r.looks, outside_few a.blocks.now a.edges.now a.count a.from.0 a.to.0 a.i.0)) }
