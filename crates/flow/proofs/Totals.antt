-- A block's instructions and edges stay within the record's totals, and the totals within question 3's limits.
-- Sums of numbers grow with the numbers added; what a question asked is read off its tests.
use Prim.Native.Nat.{ℕ, zero, suc, ◌+◌, ◌≤◌, ◌<◌}
use mathlib.Core.Bool.{true, ◌&&◌}
use mathlib.Core.List.{List}
use mathlib.Core.Path.{◌≡◌, ap, ◌∙◌}
use native.Mathlib.Decide.{dec_le}
use native.Mathlib.Omega.{arith}
use borrow.Author.Tests.{eqb-true, leb-true}
use lib.Dec.{leb}
use Rattle.lists.specs.Choice.{sum_below}
use Rattle.lists.specs.Every.{both_yes}
use Rattle.record.specs.declared.header.Header.{Header}
use Rattle.record.specs.Header.{limits_ok}
use Rattle.record.specs.Layout.{marks_of}
use Rattle.record.specs.Blocks.{instructions_in, edges_in, first_instruction, first_edge, marks_ok}
use Rattle.flow.specs.Counted.{Counted, BlockHas}

pub sum_grows : (f : ℕ → ℕ) (k n : ℕ) → k ≤ n → sum_below f k ≤ sum_below f n
sum_grows f k zero h = let e : k ≡ 0 = omega arith in rw e (omega arith)
sum_grows f k (suc n) h =
    elim (dec_le k n) [
      | yes a ↦ omega (arith, sum_grows f k n a)
      | no a ↦ let e : k ≡ suc n = omega arith in rw e (omega arith)
    ]

-- block k's instructions and edges end where the record's do, or before
module _ (marks : List ℕ) (k n : ℕ) (h : k < n) where
  pub instructions_within : first_instruction marks k + instructions_in marks k ≤ first_instruction marks n
  unfolding first_instruction
  instructions_within = sum_grows (instructions_in marks) (suc k) n h

  pub edges_within : first_edge marks k + edges_in marks k ≤ first_edge marks n
  unfolding first_edge
  edges_within = sum_grows (edges_in marks) (suc k) n h

-- the running indexes fit where the totals do
module _ (h : Header) (s : List ℕ) (t : Counted h s) (k : ℕ) (below : k < h.blocks) (marks : List ℕ) (e : marks ≡ marks_of h s) where
  pub block_has : (first n : ℕ) → h.instructions < 65536 → first ≡ first_instruction marks k → n ≡ instructions_in marks k → BlockHas h s k first n
  block_has first n i p q =
      let a = p ∙ ap (λ (m : List ℕ). first_instruction m k) e in
      let b = q ∙ ap (λ (m : List ℕ). instructions_in m k) e in
      record { begins = a; many = b; fits = omega (arith, instructions_within (marks_of h s) k h.blocks below, t.instructions) }

  pub edges_fit : (edge m : ℕ) → h.edges < 65536 → edge ≡ first_edge marks k → m ≡ edges_in marks k → edge + m < 65536
  edges_fit edge m i p q =
      let a = ap (λ (m : List ℕ). first_edge m h.blocks) e in
      omega (arith, edges_within marks k h.blocks below, t.edges)

-- question 5 sees to it
pub marks_counted : (h : Header) (s : List ℕ) → marks_ok (marks_of h s) h.blocks h.instructions h.edges ≡ true → Counted h s
unfolding marks_ok first_instruction first_edge
marks_counted h s ok =
    let p = both_yes _ _ ok in
    let q = both_yes _ _ p.0 in
    record { instructions = eqb-true _ _ q.0; edges = eqb-true _ _ q.1 }

-- question 3's limits on what the rows are made of, and on the indent
pub record Small (h : Header) : Type 0 where
  pub blocks : h.blocks ≤ 200
  pub instructions : h.instructions ≤ 500
  pub edges : h.edges ≤ 600
  pub indent : h.indent ≤ 55

pub limits_small : (h : Header) → limits_ok h ≡ true → Small h
limits_small h ok =
    let c = both_yes _ _ ok in
    let d = both_yes (leb h.blocks 200 && leb h.instructions 500) (leb h.edges 600) (both_yes _ _ (both_yes _ _ (both_yes _ _ c.0).0).0).0 in
    let e = both_yes (leb h.blocks 200) (leb h.instructions 500) d.0 in
    record { blocks = leb-true _ _ e.0; instructions = leb-true _ _ e.1; edges = leb-true _ _ d.1; indent = leb-true _ _ c.1 }
