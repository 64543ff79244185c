-- The laws of a number's decimal text: one digit, one digit more, and how many there are.
-- More division steps than digits change nothing, so the text of v is that of v / 10 and one digit.
use mathlib.Core.Path.{◌≡◌, ap, ◌∙◌}
use mathlib.Core.List.{List, [], ◌∷◌, ◌++◌}
use Prim.Native.Nat.{ℕ, zero, suc, ◌+◌, ◌*◌, ◌^◌, ◌/◌, ◌%◌, ◌≤◌, ◌<◌}
use native.Mathlib.Decide.{dec_le}
use native.Mathlib.Omega.{arith}
use lib.ListN.{length, length-append}
use borrow.Author.Tests.{lt-ltb, le-ltb}
use Rattle.text.specs.Decimal.{decimal_of, decimal_text}

-- ten times as much for each digit more
unfoldable pub below : ℕ → ℕ
below zero = 10
below (suc k) = 10 * below k

enough : (k v : ℕ) → v < below k → decimal_of (suc k) v ≡ decimal_of (suc (suc k)) v
unfolding decimal_of below
enough zero v h = rw (lt-ltb v 10 h)
enough (suc k) v h =
    elim (dec_le 10 v) [
      | yes a ↦ rw (le-ltb v 10 a) (ap (λ (l : List ℕ). l ++ ((48 + v % 10) ∷ [])) (enough k (v / 10) (omega arith)))
      | no a ↦ rw (lt-ltb v 10 (omega arith))
    ]

pub decimal_one : (v : ℕ) → v < 10 → decimal_text v ≡ (48 + v) ∷ []
unfolding decimal_of
decimal_one v h = rw (lt-ltb v 10 h)

-- the digits of v are those of v / 10, and one more
pub decimal_more : (v : ℕ) → 10 ≤ v → v < 2 ^ 64 → decimal_text v ≡ decimal_text (v / 10) ++ ((48 + v % 10) ∷ [])
unfolding decimal_of below
decimal_more v a h = rw (le-ltb v 10 a) (ap (λ (l : List ℕ). l ++ ((48 + v % 10) ∷ [])) (enough 18 (v / 10) (omega arith)))

pub decimal_count_one : (v : ℕ) → v < 10 → length (decimal_text v) ≡ 1
decimal_count_one v h = ap length (decimal_one v h)

pub decimal_count_more : (v : ℕ) → 10 ≤ v → v < 2 ^ 64 → length (decimal_text v) ≡ length (decimal_text (v / 10)) + 1
decimal_count_more v a h = rw (decimal_more v a h, length-append)

pub decimal_two : (v : ℕ) → 10 ≤ v → v < 100 → decimal_text v ≡ (48 + v / 10) ∷ (48 + v % 10) ∷ []
decimal_two v a h = decimal_more v a (omega arith) ∙ rw (decimal_one (v / 10) (omega arith))

-- no number is without digits
pub decimal_some : (v : ℕ) → 1 ≤ length (decimal_text v)
unfolding decimal_of
decimal_some v =
    elim (dec_le 10 v) [
      | yes a ↦ rw (le-ltb v 10 a, length-append) (omega arith)
      | no a ↦ rw (lt-ltb v 10 (omega arith)) (omega arith)
    ]
