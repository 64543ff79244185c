-- `stores::put_little` meets its contract.
-- The invariant: to store what is left of the number where the loop stands is to store all of it where it began.
use mathlib.Core.Path.{◌≡◌, sym, ◌∙◌}
use mathlib.Core.List.{List}
use Prim.Native.Nat.{ℕ, suc, ◌+◌, ◌-◌, ◌/◌, ◌%◌, ◌<◌}
use native.Mathlib.Omega.{arith}
use lib.ListN.{set, length-set}
use Rattle.lists.specs.Little.{little}
use Rattle.lists.specs.Put.{put}
use Rattle.lists.specs.PutLaws.{put_cons, put_none}
use Rattle.lists.proofs.stores.put_little.Goals as goal

step : (at n i x : ℕ) (e : List ℕ) → i < n → put (at + (i + 1)) (little (n - (i + 1)) (x / 256)) (set e (at + i) (x % 256)) ≡ put (at + i) (little (n - i) x) e
unfolding little
step at n i x e h =
    let k : n - i ≡ suc (n - (i + 1)) = omega arith in
    let j : at + (i + 1) ≡ at + i + 1 = omega arith in
    rw (k, put_cons, j)

done : (at n i x : ℕ) (e : List ℕ) → n ≡ i → put (at + i) (little (n - i) x) e ≡ e
unfolding little
done at n i x e h = let k : n - i ≡ 0 = omega arith in rw k (put_none (at + i) e)

pub loop-i-preserved : goal.loop-i-preserved
loop-i-preserved c = (
  omega arith,
  simp (c.store.ensures, length-set) c.loop-i.invariant.1,
  rw c.store.ensures (step _ _ _ _ _ (omega arith) ∙ c.loop-i.invariant.2),
)

pub returns : goal.returns
returns c = sym (done _ _ _ _ _ (omega arith)) ∙ c.loop-i.invariant.2
