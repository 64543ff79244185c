-- A number's decimal digits: how many there are, and what a store of one leaves.
-- The text of w is that of w / 10 and one digit, and the last of a text may be stored first.
use mathlib.Core.Path.{◌≡◌, refl, sym, ap, ◌∙◌}
use mathlib.Core.List.{List, [], ◌∷◌, ◌++◌}
use Prim.Native.Nat.{ℕ, zero, suc, ◌+◌, ◌-◌, ◌/◌, ◌%◌, ◌≤◌, ◌<◌}
use native.Mathlib.Decide.{dec_lt}
use native.Mathlib.Omega.{arith}
use lib.ListN.{length, set, length-append}
use Rattle.lists.specs.Put.{put}
use Rattle.lists.specs.PutLaws.{put_snoc, put_none}
use Rattle.text.specs.Decimal.{decimal_text}
use Rattle.text.proofs.DecimalLaws.{decimal_one, decimal_more, decimal_count_one, decimal_count_more}

-- ---- how many digits
module _ (v : ℕ) (h : v < 65536) where
  pub digits_1 : v < 10 → 1 ≡ length (decimal_text v)
  digits_1 b = sym (decimal_count_one v b)

  pub digits_2 : 10 ≤ v → v < 100 → 2 ≡ length (decimal_text v)
  digits_2 a b = omega (arith, decimal_count_more v a (omega arith), decimal_count_one (v / 10) (omega arith))

  pub digits_3 : 100 ≤ v → v < 1000 → 3 ≡ length (decimal_text v)
  digits_3 a b =
      let f = decimal_count_more v (omega arith) (omega arith) in
      let g = decimal_count_more (v / 10) (omega arith) (omega arith) in
      omega (arith, f, g, decimal_count_one (v / 10 / 10) (omega arith))

  pub digits_4 : 1000 ≤ v → v < 10000 → 4 ≡ length (decimal_text v)
  digits_4 a b =
      let f = decimal_count_more v (omega arith) (omega arith) in
      let g = decimal_count_more (v / 10) (omega arith) (omega arith) in
      let i = decimal_count_more (v / 10 / 10) (omega arith) (omega arith) in
      omega (arith, f, g, i, decimal_count_one (v / 10 / 10 / 10) (omega arith))

  pub digits_5 : 10000 ≤ v → 5 ≡ length (decimal_text v)
  digits_5 a =
      let f = decimal_count_more v (omega arith) (omega arith) in
      let g = decimal_count_more (v / 10) (omega arith) (omega arith) in
      let i = decimal_count_more (v / 10 / 10) (omega arith) (omega arith) in
      let j = decimal_count_more (v / 10 / 10 / 10) (omega arith) (omega arith) in
      omega (arith, f, g, i, j, decimal_count_one (v / 10 / 10 / 10 / 10) (omega arith))

  -- of numbers below 1,000, and of all of 16 bits
  pub digits_few_3 : v < 1000 → length (decimal_text v) ≤ 3
  digits_few_3 b =
      elim (dec_lt v 10) [
        | yes c ↦ omega (arith, digits_1 c)
        | no c ↦
            elim (dec_lt v 100) [
              | yes d ↦ omega (arith, digits_2 (omega arith) d)
              | no d ↦ omega (arith, digits_3 (omega arith) b)
            ]
      ]

  pub digits_few : length (decimal_text v) ≤ 5
  digits_few =
      elim (dec_lt v 1000) [
        | yes c ↦ omega (arith, digits_few_3 c)
        | no c ↦
            elim (dec_lt v 10000) [
              | yes d ↦ omega (arith, digits_4 (omega arith) d)
              | no d ↦ omega (arith, digits_5 (omega arith))
            ]
      ]

-- ---- a turn stores the last digit that is left
-- the lowest k digits of v, the highest first
unfoldable pub decimal_digits : ℕ → ℕ → List ℕ
decimal_digits zero v = []
decimal_digits (suc k) v = decimal_digits k (v / 10) ++ ((48 + v % 10) ∷ [])

decimal_digits_length : (k v : ℕ) → length (decimal_digits k v) ≡ k
unfolding decimal_digits
decimal_digits_length zero v = refl
decimal_digits_length (suc k) v = rw (length-append, decimal_digits_length k (v / 10)) (omega arith)

-- where a number has as many, they are its text
digits_are : (k v : ℕ) → v < 65536 → k ≡ length (decimal_text v) → decimal_digits k v ≡ decimal_text v
unfolding decimal_digits
digits_are zero v l e = absurd (elim (dec_lt v 10) [ yes h ↦ omega (arith, e, decimal_count_one v h) | no h ↦ omega (arith, e, decimal_count_more v (omega arith) (omega arith)) ])
digits_are (suc k) v l e =
    elim (dec_lt v 10) [
      | yes h ↦
          let z : k ≡ 0 = omega (arith, e, decimal_count_one v h) in
          let m : v % 10 ≡ v = omega arith in
          rw (z, m, decimal_one v h)
      | no h ↦
          let f : k ≡ length (decimal_text (v / 10)) = omega (arith, e, decimal_count_more v (omega arith) (omega arith)) in
          rw (digits_are k (v / 10) (omega arith) f) (sym (decimal_more v (omega arith) (omega arith)))
    ]

pub decimal_turn : (at i w : ℕ) (e e' : List ℕ) → 0 < i → e' ≡ set e (at + (i - 1)) (48 + w % 10)
    → put at (decimal_digits (i - 1) (w / 10)) e' ≡ put at (decimal_digits i w) e
unfolding decimal_digits
decimal_turn at zero w e e' h q = absurd (omega arith)
decimal_turn at (suc k) w e e' h q =
    let i : suc k - 1 ≡ k = omega arith in
    rw (i, put_snoc, decimal_digits_length k (w / 10)) (ap (put at (decimal_digits k (w / 10))) (q ∙ rw i))

pub decimal_stored : (at i n v w : ℕ) (e e' : List ℕ) → i ≤ 0 → v < 65536 → n ≡ length (decimal_text v) → put at (decimal_digits i w) e' ≡ put at (decimal_digits n v) e
    → e' ≡ put at (decimal_text v) e
unfolding decimal_digits
decimal_stored at zero n v w e e' h l p q = sym (put_none at e') ∙ q ∙ ap (λ (t : List ℕ). put at t e) (digits_are n v l p)
decimal_stored at (suc k) n v w e e' h l p q = absurd (omega arith)
