-- The lines of a run of instructions: `shown_lines` meets its contract.
-- The invariant: to store the lines of the instructions that are left is to store those of all.
use mathlib.Core.Path.{◌≡◌, ap, ◌∙◌}
use Prim.Native.Nat.{ℕ, ◌+◌, ◌-◌}
use Rattle.structure.specs.Plan.{shown_lines}
use Rattle.structure.specs.Codes.{codes}
use Rattle.structure.proofs.Parts.{shown_turn, shown_over}
use Rattle.structure.proofs.Storing.{left_step, left_done, left_part}
use borrow.Author.Rules.{rules}
use native.Mathlib.Omega.{arith}
use Rattle.structure.proofs.lines.shown_lines.Goals as goal

pub shown_line-next-requires : goal.shown_line-next-requires
shown_line-next-requires c =
    let a = c.args in
    let room = left_part c.loop-i.invariant.1 c.requires.2 (shown_turn a.shown.now a.k.0 c.loop-i.i (a.first + a.n) a.indent c.loop-i-test.true) in
    (search rules, search rules, room)

pub loop-i-preserved : goal.loop-i-preserved
loop-i-preserved c =
    let a = c.args in
    (search rules, left_step c.loop-i.invariant.1 (shown_turn a.shown.now a.k.0 c.loop-i.i (a.first + a.n) a.indent c.loop-i-test.true) c.shown_line-next.ensures)

pub returns : goal.returns
returns c =
    let a = c.args in
    let e : a.first + a.n - c.loop-i.i ≡ 0 = omega arith in
    left_done c.loop-i.invariant.1 (ap (λ (m : ℕ). codes (shown_lines a.shown.now a.k.0 c.loop-i.i m a.indent)) e ∙ shown_over _ _ _ _)
