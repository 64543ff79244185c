-- `flag_writer` meets its contract.
-- The invariant: what is left to search has the same answer as the whole.
use mathlib.Core.Path.{sym, ◌∙◌}
use Rattle.expressions.proofs.Search.{writer_step, writer_none}
use Rattle.expressions.proofs.condition.flag_writer.Goals as goal

pub returns-then-writes_flags : goal.returns-then-writes_flags
returns-then-writes_flags c =
    let e = writer_step c.args.bodies.now c.args.first c.loop-j.j c.loop-j-test.true in
    sym (sym c.loop-j.invariant ∙ e ∙ (simp (sym c.body_at.ensures, sym c.mnemonic.ensures, sym c.writes_flags.ensures, c.if-writes_flags.true)))

pub loop-j-preserved : goal.loop-j-preserved
loop-j-preserved c =
    let e = writer_step c.args.bodies.now c.args.first c.loop-j.j c.loop-j-test.true in
    sym (e ∙ (simp (sym c.body_at.ensures, sym c.mnemonic.ensures, sym c.writes_flags.ensures, c.if-writes_flags.false))) ∙ c.loop-j.invariant

pub returns : goal.returns
returns c = sym (writer_none c.args.bodies.now c.args.first c.loop-j.j c.loop-j-test.false) ∙ c.loop-j.invariant
