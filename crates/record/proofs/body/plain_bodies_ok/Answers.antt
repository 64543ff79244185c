-- `plain_bodies_ok` meets its contract.
-- The invariant: every body so far is right.
use mathlib.Core.Path.{sym, ap, ◌∙◌}
use borrow.Author.Rules.{rules}
use Rattle.lists.specs.Below.{all_fails}
use Rattle.record.specs.Body.{body_at, body_ok, bodies_ok}
use Rattle.record.proofs.body.plain_bodies_ok.Goals as goal

pub returns-then-not-plain_body_ok : goal.returns-then-not-plain_body_ok
unfolding bodies_ok
returns-then-not-plain_body_ok c =
    let a = c.args in
    let n = c.plain_body_ok in
    sym (all_fails (λ j. body_ok (body_at a.bodies.now j)) a.instructions c.loop-i.i (search rules) (sym (n.ensures ∙ ap body_ok c.body_at.ensures) ∙ c.if-not-plain_body_ok.true))
