-- Whether no atlas entry stands at a block's start: `starts_unnamed` meets its contract.
-- The invariant: so far none breaks it, or `ok` is false.
use mathlib.Core.Path.{◌≡◌}
use native.Mathlib.Omega.{arith}
use Rattle.route.specs.Assumed.{starts_unnamed}
use Rattle.checker.proofs.blocks.starts_unnamed.Goals as goal

pub returns : goal.returns
unfolding starts_unnamed
returns c =
    let e : c.loop-k.k ≡ c.args.h.blocks = omega arith in
    simp (c.loop-k.invariant.1, e)
