-- `literal::characters` meets its contract.
-- The invariant: the text begins with the characters that were read.
use Rattle.strings.specs.Reading.{Begins}
use Rattle.strings.proofs.literal.characters.Given as goal

abbrev pub invariant-loop-n : goal.invariant-loop-n
invariant-loop-n l = Begins l.t l.n l.i
