-- `list_accepted` meets its contract.
-- Each list is as long as a record of so many instructions and blocks asks for.
use mathlib.Core.Path.{◌≡◌}
use mathlib.Core.Bool.{true, ◌&&◌}
use Prim.Native.Nat.{ℕ, ◌+◌, ◌*◌, ◌≤◌}
use native.Mathlib.Omega.{arith}
use borrow.Author.Tests.{leb-true}
use lib.Dec.{leb}
use lib.ListN.{length-replicate}
use Rattle.lists.specs.Every.{both_yes}
use Rattle.flow.proofs.Totals.{limits_small}
use Rattle.pseudo.proofs.Calls.{limits, plan_room}
use Rattle.pseudo.proofs.call.list_accepted.Goals as goal

-- what i instructions and b blocks ask for, at most m and n
lent : (i b m n : ℕ) → (leb i m && leb b n) ≡ true → (8 * b ≤ 8 * n) × (i + 2 * b ≤ m + 2 * n)
lent i b m n t =
    let u = both_yes (leb i m) (leb b n) t in
    let p : i ≤ m = leb-true i m u.0 in
    let q : b ≤ n = leb-true b n u.1 in
    (omega (arith, q), omega (arith, p, q))

pub list_range-requires-2 : goal.list_range-requires-2
list_range-requires-2 c = let h = c.args.h in
    let s = c.args.rec.now in record { accepted = c.requires; blocks_in_bounds = omega (arith, (limits_small h (limits s c.args.from c.args.to h (c.requires))).blocks, length-replicate {A = ℕ} 1600 0); blocks_in_bounds_2 = omega (arith, plan_room s c.args.from c.args.to h (c.requires), length-replicate {A = ℕ} 900 0) }
