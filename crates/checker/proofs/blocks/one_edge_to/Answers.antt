-- Whether a block has one edge of a kind, to an address: `one_edge_to` meets its contract.
-- Both tests, over the edges that were read.
use Rattle.checker.specs.Rows.{one_edge_to}
use Rattle.checker.proofs.blocks.one_edge_to.Goals as goal

pub returns : goal.returns
unfolding one_edge_to
returns c = simp (c.lead_to.ensures, c.count_of.ensures, c.edges_in-n.ensures.0, c.first_edge_in-e.ensures.0)
