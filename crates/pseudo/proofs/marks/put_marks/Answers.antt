-- `put_marks` meets its contract.
-- The invariant: the addresses, marks and places left, stored from here, are all of them stored from the start.
use native.Mathlib.Omega.{arith}
use Rattle.pseudo.specs.Listed.{line_address, line_mark, line_place}
use Rattle.pseudo.proofs.Marking.{place_is, marks_turn, marks_done}
use borrow.Author.Rules.{rules}
use Rattle.pseudo.proofs.marks.put_marks.Goals as goal

pub loop-i-preserved : goal.loop-i-preserved
loop-i-preserved c = (
  omega (arith, c.loop-i-test.true),
  search rules,
  search rules,
  search rules,
  marks_turn (line_address c.args.h c.args.rec.now) _ _ c.args.codes.now _ _ c.loop-i-test.true c.line_address.ensures c.loop-i.invariant.4,
  marks_turn line_mark _ _ c.args.codes.now _ _ c.loop-i-test.true c.line_mark.ensures c.loop-i.invariant.5,
  marks_turn line_place _ _ c.args.codes.now _ _ c.loop-i-test.true (place_is _ _ c.place_of_line.ensures) c.loop-i.invariant.6,
)

pub returns : goal.returns
returns c = record { addresses = marks_done (line_address c.args.h c.args.rec.now) _ _ c.args.codes.now _ c.loop-i-test.false c.loop-i.invariant.4; marks = marks_done line_mark _ _ c.args.codes.now _ c.loop-i-test.false c.loop-i.invariant.5; places = marks_done line_place _ _ c.args.codes.now _ c.loop-i-test.false c.loop-i.invariant.6 }
