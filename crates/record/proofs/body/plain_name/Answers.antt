-- `plain_name` meets its contract.
-- The invariant: so far every byte goes on as a name does, or `ok` is false; `before` is the last of them.
use mathlib.Core.Path.{◌≡◌}
use native.Mathlib.Omega.{arith}
use Rattle.record.specs.Body.{is_name}
use Rattle.record.proofs.body.plain_name.Goals as goal

pub returns : goal.returns
unfolding is_name
returns c =
    let e : c.loop-k.k ≡ 23 = omega arith in
    simp (c.name_byte-2.ensures, c.plain_u8-first.ensures.0, c.loop-k.invariant.1, e)
