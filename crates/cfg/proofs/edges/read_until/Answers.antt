-- Edges read up to the first that passes a test: `read_until` meets its contract.
-- The invariant: none of the edges so far passes.
use mathlib.Core.Path.{◌≡◌, sym}
use mathlib.Core.Bool.{true, false}
use Prim.Native.Nat.{◌+◌}
use native.Mathlib.Omega.{arith}
use Rattle.cfg.proofs.Reading.{none_until, reads_none, reads_at}
use Rattle.cfg.proofs.edges.read_until.Goals as goal

pub returns-then-passes-clause-reads : goal.returns-then-passes-clause-reads
returns-then-passes-clause-reads g c = λ p h.
    let a = c.args in
    let l = c.loop-m in
    reads_at p a.e a.n l.m c.loop-m-test.true
    (none_until p a.e l.m (λ j b. sym (h (a.e + j) false (omega arith) (l.invariant j b))))
    (sym (h (a.e + l.m) true (omega arith) c.if-passes.ensures))

pub returns-clause-reads : goal.returns-clause-reads
returns-clause-reads g c = λ p h.
    let a = c.args in
    let e : c.loop-m.m ≡ a.n = omega arith in
    reads_none p a.e a.n a.n (omega arith) (omega arith)
    (none_until p a.e a.n (λ j b. sym (h (a.e + j) false (omega arith) (c.loop-m.invariant j (omega arith)))))
