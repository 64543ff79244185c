-- Whether a name is a word of the flow: `is_flow_word` meets its contract.
-- One word after the other.
use Rattle.checker.specs.Broken.{is_flow_word}
use Rattle.checker.proofs.names.is_flow_word.Goals as goal

pub returns : goal.returns
unfolding is_flow_word
returns c = simp (c.begins_with-4.ensures, c.begins_with-3.ensures, c.begins_with-2.ensures, c.begins_with.ensures)
