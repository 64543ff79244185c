-- `character::first` meets its contract.
-- By what was read off and compared.
use mathlib.Core.Bool.{false≢true}
use Rattle.strings.proofs.Spellings.{too_large, found, other}
use Rattle.strings.proofs.character.first.Goals as goal

pub returns-then-is_same : goal.returns-then-is_same
returns-then-is_same c =
    found _ _ c.guess-b.ensures _ _ _ _ c.put_escape-n.ensures.count.0 c.put_escape-n.ensures.count.1 c.put_escape-n.ensures.text
    c.part.ensures.0 c.part-then-b-lt128.ensures.0 c.if-b-lt128.true (c.is_same.ensures.0 c.if-is_same.true)

pub returns-else-is_same : goal.returns-else-is_same
returns-else-is_same c =
    other _ _ c.guess-b.ensures _ _ _ _ c.put_escape-n.ensures.count.0 c.put_escape-n.ensures.count.1 c.put_escape-n.ensures.text
    c.part.ensures.0 c.part-then-b-lt128.ensures.0 (λ e. false≢true (rw c.if-is_same.false at c.is_same.ensures.1 e))

pub returns-else-b-lt128 : goal.returns-else-b-lt128
returns-else-b-lt128 c = too_large _ _ c.guess-b.ensures c.if-b-lt128.false
