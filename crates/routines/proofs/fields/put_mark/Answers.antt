-- `fields::put_mark` meets its contract.
-- The stores, one behind the other.
use mathlib.Core.Path.{◌≡◌, refl}
use mathlib.Core.List.{List, ◌++◌}
use Prim.Native.Nat.{ℕ, ◌+◌, ◌%◌, ◌≤◌}
use native.Mathlib.Numerals.{add-two, add-three}
use native.Mathlib.Omega.{arith}
use lib.ListN.{set}
use Rattle.lists.specs.Little.{little}
use Rattle.lists.specs.Put.{put}
use Rattle.routines.proofs.fields.put_mark.Goals as goal

mark : (at m n : ℕ) (l a b c : List ℕ) → a ≡ put at (little 2 1) l → m ≡ n → m ≤ 2 → b ≡ set a (at + 2) m → c ≡ set b (at + 3) 1 → c ≡ put at (little 2 1 ++ little 1 n ++ little 1 1) l
unfolding little put
mark at m n l a b c p e s q r = let z : n % 256 ≡ n = omega arith in rw (r, q, p, z, e, add-two, add-three)

pub returns : goal.returns
returns c = record { end = refl; bytes = λ k. mark _ _ _ _ _ _ _ c.put_u16.ensures.bytes (c.edges_in.ensures.0 k) c.edges_in.ensures.1 c.store.ensures c.store-2.ensures }
