-- `width::adds_to_word` meets its contract.
-- By whether the code has 16 bits.
use borrow.Author.Tests.{ne_eqb}
use Rattle.x86.specs.Width.{adds_to_word}
use Rattle.x86.proofs.width.adds_to_word.Goals as goal

pub returns-then-bits-ne16 : goal.returns-then-bits-ne16
unfolding adds_to_word
returns-then-bits-ne16 c = rw (ne_eqb _ 16 c.if-bits-ne16.true)

pub returns : goal.returns
unfolding adds_to_word
returns c = rw c.if-bits-ne16.false
