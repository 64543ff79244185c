-- `line_address` meets its contract.
-- By what the line is.
use Rattle.pseudo.proofs.Marking.{address_start, address_none, address_insn}
use Rattle.pseudo.proofs.marks.line_address.Goals as goal

pub returns-then-what-lt2 : goal.returns-then-what-lt2
returns-then-what-lt2 c = address_start c.args.h c.args.rec.now c.args.code _ c.what_of-what.ensures _ _ _ c.if-what-lt2.true c.from.ensures.0 c.place_of_line.ensures c.start_at.ensures

pub returns-then-what-eq5 : goal.returns-then-what-eq5
returns-then-what-eq5 c = address_none c.args.h c.args.rec.now c.args.code _ c.what_of-what.ensures c.if-what-eq5.true

pub returns : goal.returns
returns c = address_insn c.args.h c.args.rec.now c.args.code _ c.what_of-what.ensures _ _ _ _ c.if-what-lt2.false c.if-what-eq5.false c.addresses_at.ensures.0 c.from-2.ensures.0 c.instruction_of.ensures c.address_at.ensures
