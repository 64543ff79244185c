-- `alike::alike` meets its contract.
-- Texts of other lengths differ; the same codes have the same text.
use lib.Pointwise.{bytes_decides}
use mathlib.Core.Path.{sym, ◌∙◌}
use Rattle.operand.specs.Alike.{alike}
use Rattle.operand.proofs.SameText.{counts_differ, codes_same}
use Rattle.operand.proofs.alike.alike.Goals as goal

pub returns-then-n-element_or : goal.returns-then-n-element_or
unfolding alike
returns-then-n-element_or c = counts_differ _ _ _ _ _ _ c.code_alone.ensures c.code_alone-2.ensures _ _ c.element_or-n.ensures c.element_or.ensures c.if-n-element_or.true

pub returns-then-eq : goal.returns-then-eq
unfolding alike
returns-then-eq c = codes_same _ _ _ _ _ _ c.code_alone.ensures c.code_alone-2.ensures _ _ c.element_or-n.ensures c.element_or.ensures _ _ c.codes_of-a.ensures c.codes_of-b.ensures ((bytes_decides _ _).0 (sym c.eq.ensures ∙ c.if-eq.true))
