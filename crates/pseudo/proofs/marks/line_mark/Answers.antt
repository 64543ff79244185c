-- `line_mark` meets its contract.
-- By whether the line is a lone brace.
use Rattle.pseudo.proofs.Marking.{mark_none, mark_insn}
use Rattle.pseudo.proofs.marks.line_mark.Goals as goal

pub returns-then-what_of-eq5 : goal.returns-then-what_of-eq5
returns-then-what_of-eq5 c = mark_none c.args.code _ _ c.what_of.ensures c.indent_of-indent.ensures c.if-what_of-eq5.true

pub returns : goal.returns
returns c = mark_insn c.args.code _ _ c.what_of.ensures c.indent_of-indent.ensures c.if-what_of-eq5.false
