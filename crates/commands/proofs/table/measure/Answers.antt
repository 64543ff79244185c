-- `measure` meets its contract.
-- The invariant `Counted`: what is counted up to here and what is left make the whole.
use mathlib.Core.Path.{refl}
use native.Mathlib.Omega.{arith}
use Rattle.commands.proofs.Turns.{going_on, counted_end, counted_call, counted_other, found_few}
use Rattle.commands.proofs.table.measure.Goals as goal
use Rattle.commands.proofs.table.measure.Goals.{then-calls_to, else-calls_to}

pub loop-k-preserved : goal.loop-k-preserved
loop-k-preserved c =
    let h = c.loop-k-test.true in
    elim c.if-calls_to.branch [
      | then-calls_to w ↦
          let f = w.bytes_for.ensures.gives.size in
          let y = w.unwrap_or-x.ensures in
          let q = found_few _ _ _ _ f in (
            going_on c.loop-k.invariant.0 h _ _ (omega (arith, w.n-is)) (omega (arith, w.x-is, y, q)) (rw w.found-is w.bytes_for.auto.out),
            rw (w.n-is, w.x-is) (counted_call _ _ _ _ _ h c.calls_to.ensures w.if-calls_to.true _ _ f y c.loop-k.invariant.1),
          )
      | else-calls_to w ↦ (
        going_on c.loop-k.invariant.0 h _ _ (omega (arith, w.n-is)) (omega (arith, w.x-is)) (rw w.found-is refl),
        rw (w.n-is, w.x-is) (counted_other _ _ _ _ _ h c.calls_to.ensures w.if-calls_to.false c.loop-k.invariant.1),
      )
    ]

pub returns : goal.returns
returns c = counted_end _ _ _ _ c.loop-k.k c.loop-k-test.false c.loop-k.invariant.0.within c.loop-k.invariant.1
