-- `routine::put_header` meets its contract.
-- The stores, one behind the other, are those of the whole header.
use mathlib.Core.Path.{◌≡◌}
use mathlib.Core.List.{List}
use Prim.Native.Nat.{ℕ}
use lib.ListN.{set}
use Rattle.lists.specs.Little.{little}
use Rattle.lists.specs.Put.{put}
use Rattle.routines.specs.Written.{header_bytes}
use Rattle.routines.proofs.routine.put_header.Goals as goal

stores : (b e : ℕ) (l m n o p q r s t u v : List ℕ) → m ≡ put 0 (little 2 64) l → n ≡ put 2 (little 2 1) m → o ≡ put 4 (little 2 b) n → p ≡ put 6 (little 2 b) o → q ≡ put 8 (little 2 e) p
    → r ≡ put 10 (little 2 0) q → s ≡ put 12 (little 8 0) r → t ≡ set s 20 0 → u ≡ set t 21 1 → v ≡ put 22 (little 2 0) u
    → v ≡ put 0 (header_bytes b e) l
unfolding little put
stores b e l m n o p q r s t u v h1 h2 h3 h4 h5 h6 h7 h8 h9 h10 = rw (h10, h9, h8, h7, h6, h5, h4, h3, h2, h1)

pub returns : goal.returns
returns c = record {
  end = c.put_u16-7.ensures.end;
  bytes =
      stores _ _ _ _ _ _ _ _ _ _ _ _ _ c.put_u16.ensures.bytes c.put_u16-2.ensures.bytes c.put_u16-3.ensures.bytes c.put_u16-4.ensures.bytes
      c.put_u16-5.ensures.bytes c.put_u16-6.ensures.bytes c.put_u64.ensures.bytes c.store.ensures c.store-2.ensures c.put_u16-7.ensures.bytes;
}
