-- The laws of rows: how many numbers they have, and which number stands where.
-- By induction on the number of rows, each of one length.
use Prim.Native.Nat.{ℕ, zero, suc, ◌+◌, ◌*◌, ◌<◌, ◌≤◌}
use mathlib.Core.List.{List}
use mathlib.Core.Path.{◌≡◌, ap, ◌∙◌}
use native.Mathlib.Nat.{not-suc-le-zero, add-zero, zero-add, mul-suc, mul-zero}
use native.Mathlib.Omega.{arith}
use lib.ListN.{length, take, drop, get_or, length-append, get_or-append}
use lib.Seq.{get_or-append-add, take-append-le, take_all}
use Rattle.lists.specs.Put.{put}
use Rattle.lists.specs.PutLaws.{put_fits}
use Rattle.flow.specs.Rows.{rows_from}

module _ (f : ℕ → List ℕ) (w : ℕ) (sized : (k : ℕ) → length (f k) ≡ w) where
  pub rows_length : (k n : ℕ) → length (rows_from f k n) ≡ w * n
  unfolding rows_from
  rows_length k zero = omega arith
  rows_length k (suc n) = rw length-append (omega (arith, sized k, rows_length (suc k) n, mul-suc w n))

  -- number i of row j
  pub rows_at : (k n j i : ℕ) → j < n → i < w → get_or (rows_from f k n) (w * j + i) 0 ≡ get_or (f (k + j)) i 0
  unfolding rows_from
  rows_at k zero j i h g = absurd (not-suc-le-zero h)
  rows_at k (suc n) zero i h g =
      let e : w * 0 + i ≡ i = omega (arith, mul-zero w) in
      rw (e, add-zero) (get_or-append (f k) (rows_from f (suc k) n) 0 i (omega (arith, sized k)))
  rows_at k (suc n) (suc j) i h g =
      let e : w * suc j + i ≡ length (f k) + (w * j + i) = omega (arith, mul-suc w j, sized k) in
      let d : k + suc j ≡ suc k + j = omega arith in
      rw (e, d) (get_or-append-add (f k) (rows_from f (suc k) n) (w * j + i) 0 ∙ rows_at (suc k) n j i (omega arith) g)

  -- number i of row k, of all rows
  pub row_at : (n k i : ℕ) → k < n → i < w → get_or (rows_from f 0 n) (w * k + i) 0 ≡ get_or (f k) i 0
  row_at n k i h g = rows_at 0 n k i h g ∙ ap (λ (j : ℕ). get_or (f j) i 0) (zero-add k)

-- of a list with room, the part of as many numbers as were stored is what was stored
pub put_read : (t e : List ℕ) (n : ℕ) → length t ≡ n → n ≤ length e → take n (put 0 t e) ≡ t
put_read t e n h g = rw (← h, put_fits 0 t e (omega arith)) (take-append-le (length t) t (drop (0 + length t) e) (omega arith) ∙ take_all (length t) t (omega arith))

-- what a writer left in a list with room, read back by its length
pub filled : (t e r p : List ℕ) (m n : ℕ) → length t ≡ n → n ≤ length e → m ≡ n → r ≡ put 0 t e → p ≡ take m r → p ≡ t
filled t e r p m n h g q a b = b ∙ rw (q, a) (put_read t e n h g)
