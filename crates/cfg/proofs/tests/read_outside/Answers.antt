-- Edges of blocks outside, up to the first that passes a test: `read_outside` meets its contract.
-- The blocks before and those behind have one part of the edges each; the second is read if the first has none.
use mathlib.Core.Path.{refl, ap}
use native.Mathlib.Omega.{arith}
use Rattle.cfg.specs.declared.edges.Looked.{Looked}
use Rattle.cfg.proofs.BlocksRead.{before_le, outside_first, outside_both}
use Rattle.cfg.proofs.tests.read_outside.Goals as goal

pub read_until-before-requires-clause-can : goal.read_until-before-requires-clause-can
read_until-before-requires-clause-can g c = λ k l. let b = before_le c.args.blocks.now c.args.from.0 c.args.count (omega (arith, c.requires.from_le_to)) in
    c.requires.can k (omega (arith, l, c.edges_before.ensures.0, b))

pub returns-then-before-clause-reads : goal.returns-then-before-clause-reads
returns-then-before-clause-reads g c = λ p h. let a = c.args in
    let b = before_le a.blocks.now a.from.0 a.count (omega (arith, c.requires.from_le_to)) in
    let r = c.read_until-before.ensures.reads p (λ k q l w. h k q (omega (arith, l, c.edges_before.ensures.0, b)) w) in
    let e = outside_first a.blocks.now p a.count a.from.0 a.to.0 c.requires.turns c.requires.from_le_to.0 c.requires.from_le_to.1 r c.edges_before.ensures.0 c.if-before.true in
    record { found = ap (λ (l : Looked). l.found) e; looks = ap (λ (l : Looked). l.looks) e }

pub overflow_sub-edges_before : goal.overflow_sub-edges_before
overflow_sub-edges_before g c =
    omega (arith, c.edges_before-2.ensures.0, c.edges_before-e.ensures.0, before_le c.args.blocks.now c.args.to.0 c.args.count c.requires.from_le_to.1)

pub read_until-behind-requires-clause-can : goal.read_until-behind-requires-clause-can
read_until-behind-requires-clause-can g c = λ k l. let b = before_le c.args.blocks.now c.args.to.0 c.args.count c.requires.from_le_to.1 in
    c.requires.can k (omega (arith, l, c.edges_before-2.ensures.0, c.edges_before-e.ensures.0, b))

pub returns-clause-reads : goal.returns-clause-reads
returns-clause-reads g c = λ p h. let a = c.args in
    let b = before_le a.blocks.now a.from.0 a.count (omega (arith, c.requires.from_le_to)) in
    let d = before_le a.blocks.now a.to.0 a.count c.requires.from_le_to.1 in
    let r = c.read_until-before.ensures.reads p (λ k q l w. h k q (omega (arith, l, c.edges_before.ensures.0, b)) w) in
    let s = c.read_until-behind.ensures.reads p (λ k q l w. h k q (omega (arith, l, c.edges_before-2.ensures.0, c.edges_before-e.ensures.0, d)) w) in
    let e = outside_both a.blocks.now p a.count a.from.0 a.to.0 c.requires.turns c.requires.from_le_to.0 c.requires.from_le_to.1 r c.edges_before.ensures.0 c.if-before.false s c.edges_before-e.ensures.0 c.edges_before-2.ensures.0 refl in
    record { found = ap (λ (l : Looked). l.found) e; looks = ap (λ (l : Looked). l.looks) e }

pub returns-clause-few : goal.returns-clause-few
returns-clause-few g c =
    omega (arith, c.read_until-before.ensures.few, c.read_until-behind.ensures.few, c.edges_before.ensures.0, c.edges_before-e.ensures, c.edges_before-2.ensures.1, before_le c.args.blocks.now c.args.from.0 c.args.to.0 c.requires.from_le_to.0)
