-- `literal::opening_size` meets its contract.
-- By the bytes that were read.
use mathlib.Core.Path.{sym, ◌∙◌}
use borrow.Author.Tests.{eqb-true}
use lib.Dec.{eqb}
use Rattle.lists.specs.Every.{both_yes}
use Rattle.strings.proofs.Quotes.{opens, opens_wide}
use Rattle.strings.proofs.literal.opening_size.Goals as goal

pub returns-then-u8_at-eq34 : goal.returns-then-u8_at-eq34
returns-then-u8_at-eq34 c = opens _ (sym c.u8_at.ensures.0 ∙ c.if-u8_at-eq34.true)

pub returns-then-u8_at : goal.returns-then-u8_at
returns-then-u8_at c =
    let f = both_yes (eqb c.u8_at-2.result 76) (eqb c.u8_at-3.result 34) c.if-u8_at.true in
    opens_wide _ (sym c.u8_at-2.ensures.0 ∙ eqb-true _ 76 f.0) (sym c.u8_at-3.ensures.0 ∙ eqb-true _ 34 f.1)
