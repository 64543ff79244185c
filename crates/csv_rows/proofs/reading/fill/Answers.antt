-- `reading::fill` meets its contract.
-- The invariant `Storing`: to store what is left is to store all. One turn, by the byte's effect.
use mathlib.Core.Path.{◌∙◌}
use native.Mathlib.Omega.{arith}
use Rattle.csv_rows.proofs.Turns.{scan_start, storing_start, storing_end, lists_turn}
use Rattle.csv_rows.proofs.reading.fill.Goals as goal
use Rattle.csv_rows.proofs.reading.fill.Goals.{in-Silent, in-Byte, in-Kind, in-TokenEnd, in-Head, in-RowEnd}

pub loop-c-init : goal.loop-c-init
loop-c-init c = (scan_start _, storing_start _ _)

pub loop-c-preserved : goal.loop-c-preserved
loop-c-preserved c =
    let z = c.loop-c.invariant.0 in
    let y = c.loop-c.invariant.1 in
    let h = c.loop-c-test.true in
    elim c.match-effect_of.branch [
      | in-Silent w ↦
          lists_turn z h _ w.in-Silent.ensures (omega (arith, w.x-is)) (omega (arith, w.n-is)) (omega (arith, w.l-is)) c.next-t.ensures c.requires.0 y
          w.text-is w.ends-is w.kinds-is w.addresses-is w.marks-is w.places-is w.lines-is
      | in-Byte w ↦
          lists_turn z h _ w.in-Byte.ensures w.x-is (omega (arith, w.n-is)) (omega (arith, w.l-is)) c.next-t.ensures c.requires.0 y
          (w.text-is ∙ w.store.ensures) w.ends-is w.kinds-is w.addresses-is w.marks-is w.places-is w.lines-is
      | in-Kind w ↦
          lists_turn z h _ w.in-Kind.ensures (omega (arith, w.x-is)) (omega (arith, w.n-is)) (omega (arith, w.l-is)) c.next-t.ensures c.requires.0 y
          w.text-is w.ends-is (w.kinds-is ∙ w.store-in-Kind.ensures ∙ rw w.kind_of.ensures) w.addresses-is w.marks-is w.places-is w.lines-is
      | in-TokenEnd w ↦
          lists_turn z h _ w.in-TokenEnd.ensures (omega (arith, w.x-is)) w.n-is (omega (arith, w.l-is)) c.next-t.ensures c.requires.0 y
          w.text-is (w.ends-is ∙ w.store-in-TokenEnd.ensures) w.kinds-is w.addresses-is w.marks-is w.places-is w.lines-is
      | in-Head w ↦
          lists_turn z h _ w.in-Head.ensures (omega (arith, w.x-is)) (omega (arith, w.n-is)) (omega (arith, w.l-is)) c.next-t.ensures c.requires.0 y
          w.text-is w.ends-is w.kinds-is (w.addresses-is ∙ w.store-in-Head.ensures) (w.marks-is ∙ w.store-in-Head-2.ensures ∙ rw w.mark_of.ensures) (w.places-is ∙ w.store-in-Head-3.ensures) w.lines-is
      | in-RowEnd w ↦
          lists_turn z h _ w.in-RowEnd.ensures (omega (arith, w.x-is)) (omega (arith, w.n-is)) w.l-is c.next-t.ensures c.requires.0 y
          w.text-is w.ends-is w.kinds-is w.addresses-is w.marks-is w.places-is (w.lines-is ∙ w.store-in-RowEnd.ensures)
    ]

pub returns : goal.returns
returns c = storing_end c.requires.0 c.loop-c.invariant.0 c.loop-c.invariant.1 c.loop-c-test.false
