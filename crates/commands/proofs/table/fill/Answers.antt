-- `fill` meets its contract.
-- The invariant `Storing`: to store what is left is to store all.
use mathlib.Core.Path.{refl}
use native.Mathlib.Omega.{arith}
use Rattle.commands.proofs.Turns.{going_start, going_on, storing_start, storing_end, storing_call, storing_other, found_few}
use Rattle.commands.proofs.table.fill.Goals as goal
use Rattle.commands.proofs.table.fill.Goals.{then-calls_to, else-calls_to}

pub loop-k-init : goal.loop-k-init
loop-k-init c = (going_start _ _ c.requires.lines refl, storing_start _ _ _ c.args.m _ _ _ c.requires.room)

pub loop-k-preserved : goal.loop-k-preserved
loop-k-preserved c =
    let h = c.loop-k-test.true in
    elim c.if-calls_to.branch [
      | then-calls_to w ↦
          let f = w.bytes_for-c.ensures.gives.size in
          let q = found_few _ _ _ _ f in (
            going_on c.loop-k.invariant.0 h _ _ (omega (arith, w.n-is)) (omega (arith, w.x-is, w.put_row-x.ensures.end, q)) (rw w.found-is w.bytes_for-c.auto.out),
            rw (w.n-is, w.x-is, w.bytes-is, w.rows-is, w.calls-is)
                (storing_call _ _ _ _ _ h c.calls_to.ensures w.if-calls_to.true c.loop-k.invariant.1 f _ _ _ w.bytes_for-c.ensures.gives.bytes
                w.put_row-x.ensures.end w.put_row-x.ensures.bytes w.put_row-x.ensures.row (rw (← c.l.view_is) w.element_or.ensures) w.store.ensures),
          )
      | else-calls_to w ↦ (
        going_on c.loop-k.invariant.0 h _ _ (omega (arith, w.n-is)) (omega (arith, w.x-is)) (rw w.found-is refl),
        rw (w.n-is, w.x-is, w.bytes-is, w.rows-is, w.calls-is) (storing_other _ _ _ _ _ h c.calls_to.ensures w.if-calls_to.false c.loop-k.invariant.1),
      )
    ]

pub returns : goal.returns
returns c = storing_end _ _ _ _ c.loop-k.k c.loop-k-test.false c.loop-k.invariant.0.within c.loop-k.invariant.1
