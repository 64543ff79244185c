-- The three words of a name are zero where its 24 bytes are.
-- A number is zero where its two halves are; halved down to bytes, the three words are the 24 bytes.
use mathlib.Core.Path.{◌≡◌}
use mathlib.Core.Bool.{◌&&◌, and_assoc, and-false, and-true}
use mathlib.Core.List.{List}
use Prim.Native.Nat.{ℕ, zero, suc, ◌+◌, ◌*◌, ◌≤◌}
use native.Mathlib.Nat.{zero-mul, add-zero, suc-mul}
use native.Mathlib.Omega.{arith}
use borrow.Author.Tests.{ne_eqb}
use lib.Dec.{eqb}
use Rattle.lists.specs.Bytes.{u64_at}
use Rattle.record.specs.Body.{is_zeros}

-- a number of two halves is zero where both are
zero_both : (k a b : ℕ) → 1 ≤ k → eqb (a + b * k) 0 ≡ (eqb a 0 && eqb b 0)
zero_both k a zero h = rw (zero-mul, add-zero, and-true)
zero_both k a (suc b) h = rw (suc-mul, ne_eqb (suc b) 0 (omega arith), and-false) (ne_eqb (a + (b * k + k)) 0 (omega arith))

bytes_zero : (a b : ℕ) → eqb (a + b * 256) 0 ≡ (eqb a 0 && eqb b 0)
bytes_zero a b = zero_both 256 a b (omega arith)

pairs_zero : (a b : ℕ) → eqb (a + b * 65536) 0 ≡ (eqb a 0 && eqb b 0)
pairs_zero a b = zero_both 65536 a b (omega arith)

fours_zero : (a b : ℕ) → eqb (a + b * 4294967296) 0 ≡ (eqb a 0 && eqb b 0)
fours_zero a b = zero_both 4294967296 a b (omega arith)

pub words_zero : (s : List ℕ) → ((eqb (u64_at s 0) 0 && eqb (u64_at s 8) 0) && eqb (u64_at s 16) 0) ≡ is_zeros s
unfolding is_zeros
words_zero s = simp (fours_zero, pairs_zero, bytes_zero, and_assoc)
