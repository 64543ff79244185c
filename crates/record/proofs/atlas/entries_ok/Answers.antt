-- `entries_ok` meets its contract.
-- The invariant: so far addresses rise and kinds are right, or `ok` is false; `before` is the address of the entry before.
use mathlib.Core.Path.{◌≡◌}
use Prim.Native.Nat.{◌+◌, ◌-◌}
use native.Mathlib.Omega.{arith}
use Rattle.lists.specs.Below.{all_more}
use Rattle.record.proofs.atlas.entries_ok.Goals as goal

pub loop-k-preserved : goal.loop-k-preserved
loop-k-preserved c =
    let a = c.entry_address-a in
    let e : c.loop-k.k + 1 - 1 ≡ c.loop-k.k = omega arith in
    (rw e a.ensures, simp (all_more, c.loop-k.invariant.1, c.loop-k.invariant.0, a.ensures, c.entry_kind_ok.ensures, c.entry_kind.ensures))
