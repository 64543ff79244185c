-- Whether a part of the order is entered other than at its first place: `enters_inside` meets its contract.
-- By the definitions, with the test that was given.
use mathlib.Core.Path.{ap}
use mathlib.Core.Bool.{not}
use Rattle.cfg.specs.Graph.{enters, single_entry}
use Rattle.cfg.specs.Looks.{entry_looks}
use borrow.Author.Rules.{rules}
use Rattle.cfg.proofs.tests.enters_inside.Goals as goal

pub returns : goal.returns
unfolding single_entry entry_looks
returns c =
    let a = c.args in
    let r = c.read_outside.ensures.reads (enters a.edges.now a.from.0 a.to.0) (λ k b l q. search rules) in
    record { found = ap not r.found; looks = (r.looks, c.read_outside.ensures.few) }
