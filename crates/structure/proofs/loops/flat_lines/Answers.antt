-- The blocks of a do-body before its last: `flat_lines` meets its contract.
-- The invariant: to store the lines of the blocks that are left is to store those of all.
use mathlib.Core.Path.{◌≡◌, ap, ◌∙◌}
use Prim.Native.Nat.{ℕ, ◌-◌}
use Rattle.structure.specs.Plan.{flat_lines}
use Rattle.structure.specs.Codes.{codes}
use Rattle.structure.proofs.Parts.{flats_turn, flats_over}
use Rattle.structure.proofs.Storing.{left_step, left_done, left_part}
use borrow.Author.Rules.{rules}
use native.Mathlib.Omega.{arith}
use Rattle.structure.proofs.loops.flat_lines.Goals as goal

pub emit_block-next-requires : goal.emit_block-next-requires
emit_block-next-requires c =
    let a = c.args in (
      search rules,
      rw c.inner_labelled-wanted.ensures
          (left_part c.loop-k.invariant c.requires.2 (flats_turn a.g.now.blocks.now a.g.now.shown.now a.i.0 a.j.0 c.loop-k.k a.indent c.loop-k-test.true)),
    )

pub loop-k-preserved : goal.loop-k-preserved
loop-k-preserved c =
    let a = c.args in
    left_step c.loop-k.invariant (flats_turn a.g.now.blocks.now a.g.now.shown.now a.i.0 a.j.0 c.loop-k.k a.indent c.loop-k-test.true)
    (rw c.inner_labelled-wanted.ensures at c.emit_block-next.ensures)

pub returns : goal.returns
returns c =
    let a = c.args in
    let e : a.j.0 - c.loop-k.k ≡ 0 = omega arith in
    left_done c.loop-k.invariant (ap (λ (m : ℕ). codes (flat_lines a.g.now.blocks.now a.g.now.shown.now a.i.0 a.j.0 c.loop-k.k m a.indent)) e ∙ flats_over _ _ _ _ _ _)
