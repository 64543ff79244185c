-- After CMP each of the conditions e ne b ae be a l ge le g holds exactly when a relation of the operands does, at every width.
-- By the signs of the operands: SF unlike OF says that the signed difference, as an integer, is below 0.
use mathlib.Core.Path.{◌≡◌, refl, sym, ap, ◌∙◌}
use mathlib.Core.Bool.{Bool, true, false, not, ◌||◌, or_comm, not-not}
use Prim.Native.Nat.{ℕ, zero, suc, ◌+◌, ◌-◌, ◌^◌, ◌≤◌, ◌<◌}
use native.Mathlib.Nat.{add-mod_right, mod-eq_of_lt, add-zero}
use native.Mathlib.Decide.{ℕ_discrete, dec_lt}
use native.Mathlib.Omega.{arith}
use borrow.Author.Tests.{lt-ltb, le-ltb, le-leb, lt-leb, eq-eqb, ne_eqb}
use lib.Dec.{ltb, leb, eqb}
use lib.IntN.{ℤ, pos, negsuc, sub_ℕ, ◌-ℤ◌}
use lib.Signed.{mag, lt_z, le_z}
use Rattle.lists.specs.Signed.{half, signed}
use Rattle.lists.specs.SignedLaws.{signed_low, signed_high, halves, negsuc_sub}
use Rattle.x86.specs.Conditions.{eq_z}
use Rattle.x86.specs.Flags.{fits, difference, cmp, unlike, condition_holds}

-- ---- tests on numbers that say the same

eqb_iff : (x y u v : ℕ) → (x ≡ y → u ≡ v) → (u ≡ v → x ≡ y) → eqb x y ≡ eqb u v
eqb_iff x y u v f g = go (ℕ_discrete u v)
  where
    go : Dec (u ≡ v) → eqb x y ≡ eqb u v
    go (yes e) = eq-eqb x y (g e) ∙ sym (eq-eqb u v e)
    go (no n) = ne_eqb x y (λ e. n (f e)) ∙ sym (ne_eqb u v n)

not_ltb : (x y : ℕ) → not (ltb x y) ≡ leb y x
not_ltb x y = go (dec_lt x y)
  where
    go : Dec (x < y) → not (ltb x y) ≡ leb y x
    go (yes l) = simp (lt-ltb x y l, lt-leb y x l)
    go (no n) = simp (le-ltb x y (omega arith), le-leb y x (omega arith))

pub lt_or_eq : (x y : ℕ) → (eqb x y || ltb x y) ≡ leb x y
lt_or_eq x y = go (dec_lt x y) (ℕ_discrete x y)
  where
    go : Dec (x < y) → Dec (x ≡ y) → (eqb x y || ltb x y) ≡ leb x y
    go (yes l) d = simp (lt-ltb x y l, ne_eqb x y (omega arith), le-leb x y (omega arith))
    go (no n) (yes e) = simp (eq-eqb x y e, le-leb x y (omega arith))
    go (no n) (no m) = simp (ne_eqb x y m, le-ltb x y (omega arith), lt-leb x y (omega arith))

not_leb : (x y : ℕ) → not (leb x y) ≡ ltb y x
not_leb x y = rw (← not_ltb y x) (not-not (ltb y x))

unlike_not : (b : Bool) → unlike b b ≡ false
unlike_not true = refl
unlike_not false = refl

-- ---- integers

pub not_lt_z : (x y : ℤ) → not (lt_z x y) ≡ le_z y x
not_lt_z (pos a) (pos b) = not_ltb a b
not_lt_z (pos a) (negsuc b) = refl
not_lt_z (negsuc a) (pos b) = refl
not_lt_z (negsuc a) (negsuc b) = not_ltb b a

pub not_le_z : (x y : ℤ) → not (le_z x y) ≡ lt_z y x
not_le_z x y = rw (← not_lt_z y x) (not-not (lt_z y x))

pos_sub : (a b : ℕ) → pos a -ℤ pos b ≡ sub_ℕ a b
pos_sub a zero = simp (add-zero, le-ltb a 0 (omega arith)) (ap pos (omega arith))
pos_sub a (suc b) = refl

mag_sub_lt : (a b : ℕ) → a < b → mag (sub_ℕ a b) ≡ b - suc a
mag_sub_lt a b l = simp (lt-ltb a b l)

mag_sub_ge : (a b : ℕ) → b ≤ a → mag (sub_ℕ a b) ≡ a - b
mag_sub_ge a b l = simp (le-ltb a b l)

-- ---- one width

module _ (w a b : ℕ) (h : 1 ≤ w) (ha : a < 2 ^ w) (hb : b < 2 ^ w) where
  difference_ge : b ≤ a → difference w a b ≡ a - b
  difference_ge l =
      let e : a + 2 ^ w - b ≡ (a - b) + 2 ^ w = omega arith in
      rw e (add-mod_right (a - b) (2 ^ w) ∙ mod-eq_of_lt (omega arith))

  difference_lt : a < b → difference w a b ≡ a + 2 ^ w - b
  difference_lt l = mod-eq_of_lt (omega arith)

  zf_right : eqb (difference w a b) 0 ≡ eqb a b
  zf_right = go (dec_lt a b)
    where
      go : Dec (a < b) → eqb (difference w a b) 0 ≡ eqb a b
      go (yes l) = rw difference_lt (eqb_iff (a + 2 ^ w - b) 0 a b (λ e. omega arith) (λ e. omega arith))
      go (no n) = let g : b ≤ a = omega arith in rw difference_ge (eqb_iff (a - b) 0 a b (λ e. omega arith) (λ e. omega arith))

  -- SF unlike OF, by the four signs
  low_low : a < half w → b < half w → unlike (leb (half w) (difference w a b)) (not (ltb (mag (pos a -ℤ pos b)) (half w))) ≡ ltb a b
  low_low p q = rw pos_sub (go (dec_lt a b))
    where
      go : Dec (a < b) → unlike (leb (half w) (difference w a b)) (not (ltb (mag (sub_ℕ a b)) (half w))) ≡ ltb a b
      go (yes l) =
          let t = halves w h in
          rw (difference_lt l, mag_sub_lt a b l)
          (simp (le-leb (half w) (a + 2 ^ w - b) (omega arith), lt-ltb (b - suc a) (half w) (omega arith), lt-ltb a b l))
      go (no n) =
          let l : b ≤ a = omega arith in
          rw (difference_ge l, mag_sub_ge a b l)
          (simp (lt-leb (half w) (a - b) (omega arith), lt-ltb (a - b) (half w) (omega arith), le-ltb a b l))

  low_high : a < half w → half w ≤ b → unlike (leb (half w) (difference w a b)) (not (ltb (mag (pos a -ℤ negsuc (2 ^ w - b - 1))) (half w))) ≡ false
  low_high p q =
      let l : a < b = omega arith in
      let e : a + suc (2 ^ w - b - 1) ≡ a + 2 ^ w - b = omega arith in
      rw (difference_lt l, e, not_ltb) (unlike_not (leb (half w) (a + 2 ^ w - b)))

  high_low : half w ≤ a → b < half w → unlike (leb (half w) (difference w a b)) (not (ltb (mag (negsuc (2 ^ w - a - 1) -ℤ pos b)) (half w))) ≡ true
  high_low p q = rw negsuc_sub (go (dec_lt (a - b) (half w)))
    where
      go : Dec (a - b < half w) → unlike (leb (half w) (difference w a b)) (not (ltb (2 ^ w - a - 1 + b) (half w))) ≡ true
      go (yes l) =
          let t = halves w h in
          let g : b ≤ a = omega arith in
          rw (difference_ge g) (simp (lt-leb (half w) (a - b) l, le-ltb (2 ^ w - a - 1 + b) (half w) (omega arith)))
      go (no n) =
          let t = halves w h in
          let g : b ≤ a = omega arith in
          rw (difference_ge g) (simp (le-leb (half w) (a - b) (omega arith), lt-ltb (2 ^ w - a - 1 + b) (half w) (omega arith)))

  high_high : half w ≤ a → half w ≤ b
      → unlike (leb (half w) (difference w a b)) (not (ltb (mag (sub_ℕ (suc (2 ^ w - b - 1)) (suc (2 ^ w - a - 1)))) (half w))) ≡ ltb (2 ^ w - b - 1) (2 ^ w - a - 1)
  high_high p q = go (dec_lt a b)
    where
      go : Dec (a < b) → unlike (leb (half w) (difference w a b)) (not (ltb (mag (sub_ℕ (suc (2 ^ w - b - 1)) (suc (2 ^ w - a - 1)))) (half w))) ≡ ltb (2 ^ w - b - 1) (2 ^ w - a - 1)
      go (yes l) =
          let t = halves w h in
          rw (difference_lt l, mag_sub_lt (suc (2 ^ w - b - 1)) (suc (2 ^ w - a - 1)) (omega arith))
          (simp (le-leb (half w) (a + 2 ^ w - b) (omega arith), lt-ltb (suc (2 ^ w - a - 1) - suc (suc (2 ^ w - b - 1))) (half w) (omega arith), lt-ltb (2 ^ w - b - 1) (2 ^ w - a - 1) (omega arith)))
      go (no n) =
          let t = halves w h in
          let l : b ≤ a = omega arith in
          rw (difference_ge l, mag_sub_ge (suc (2 ^ w - b - 1)) (suc (2 ^ w - a - 1)) (omega arith))
          (simp (lt-leb (half w) (a - b) (omega arith), lt-ltb (suc (2 ^ w - b - 1) - suc (2 ^ w - a - 1)) (half w) (omega arith), le-ltb (2 ^ w - b - 1) (2 ^ w - a - 1) (omega arith)))

  below_right : unlike (leb (half w) (difference w a b)) (not (fits w (signed w a -ℤ signed w b))) ≡ lt_z (signed w a) (signed w b)
  below_right = go (dec_lt a (half w)) (dec_lt b (half w))
    where
      go : Dec (a < half w) → Dec (b < half w) → unlike (leb (half w) (difference w a b)) (not (fits w (signed w a -ℤ signed w b))) ≡ lt_z (signed w a) (signed w b)
      go (yes p) (yes q) = rw (signed_low w a p, signed_low w b q) (low_low p q)
      go (yes p) (no q) = rw (signed_low w a p, signed_high w b (omega arith)) (low_high p (omega arith))
      go (no p) (yes q) = rw (signed_high w a (omega arith), signed_low w b q) (high_low (omega arith) q)
      go (no p) (no q) = rw (signed_high w a (omega arith), signed_high w b (omega arith)) (high_high (omega arith) (omega arith))

  less_or_same : (eqb a b || lt_z (signed w a) (signed w b)) ≡ le_z (signed w a) (signed w b)
  less_or_same = go (dec_lt a (half w)) (dec_lt b (half w))
    where
      go : Dec (a < half w) → Dec (b < half w) → (eqb a b || lt_z (signed w a) (signed w b)) ≡ le_z (signed w a) (signed w b)
      go (yes p) (yes q) = rw (signed_low w a p, signed_low w b q) (lt_or_eq a b)
      go (yes p) (no q) = rw (signed_low w a p, signed_high w b (omega arith)) (simp (ne_eqb a b (omega arith)))
      go (no p) (yes q) = rw (signed_high w a (omega arith), signed_low w b q) (simp (ne_eqb a b (omega arith)))
      go (no p) (no q) =
          rw (signed_high w a (omega arith), signed_high w b (omega arith), eqb_iff a b (2 ^ w - b - 1) (2 ^ w - a - 1) (λ e. omega arith) (λ e. omega arith))
          (lt_or_eq (2 ^ w - b - 1) (2 ^ w - a - 1))

  same_signed : eqb a b ≡ eq_z (signed w a) (signed w b)
  same_signed = go (dec_lt a (half w)) (dec_lt b (half w))
    where
      go : Dec (a < half w) → Dec (b < half w) → eqb a b ≡ eq_z (signed w a) (signed w b)
      go (yes p) (yes q) = rw (signed_low w a p, signed_low w b q)
      go (yes p) (no q) = rw (signed_low w a p, signed_high w b (omega arith)) (ne_eqb a b (omega arith))
      go (no p) (yes q) = rw (signed_high w a (omega arith), signed_low w b q) (ne_eqb a b (omega arith))
      go (no p) (no q) =
          rw (signed_high w a (omega arith), signed_high w b (omega arith))
          (eqb_iff a b (2 ^ w - a - 1) (2 ^ w - b - 1) (λ e. omega arith) (λ e. omega arith))

  pub cmp_same : eqb a b ≡ condition_holds 5 (cmp w a b)
  cmp_same = sym zf_right

  pub cmp_unlike : not (eqb a b) ≡ condition_holds 6 (cmp w a b)
  cmp_unlike = ap not cmp_same

  pub cmp_e : eq_z (signed w a) (signed w b) ≡ condition_holds 5 (cmp w a b)
  cmp_e = sym same_signed ∙ cmp_same

  pub cmp_ne : not (eq_z (signed w a) (signed w b)) ≡ condition_holds 6 (cmp w a b)
  cmp_ne = ap not cmp_e

  pub cmp_b : ltb a b ≡ condition_holds 3 (cmp w a b)
  cmp_b = refl

  pub cmp_ae : leb b a ≡ condition_holds 4 (cmp w a b)
  cmp_ae = sym (not_ltb a b)

  pub cmp_be : leb a b ≡ condition_holds 7 (cmp w a b)
  cmp_be = rw zf_right (sym (or_comm (ltb a b) (eqb a b) ∙ lt_or_eq a b))

  pub cmp_a : ltb b a ≡ condition_holds 8 (cmp w a b)
  cmp_a = rw (zf_right, or_comm, lt_or_eq) (sym (not_leb a b))

  pub cmp_l : lt_z (signed w a) (signed w b) ≡ condition_holds 13 (cmp w a b)
  cmp_l = sym below_right

  pub cmp_ge : le_z (signed w b) (signed w a) ≡ condition_holds 14 (cmp w a b)
  cmp_ge = rw below_right (sym (not_lt_z (signed w a) (signed w b)))

  pub cmp_le : le_z (signed w a) (signed w b) ≡ condition_holds 15 (cmp w a b)
  cmp_le = rw (zf_right, below_right) (sym less_or_same)

  pub cmp_g : lt_z (signed w b) (signed w a) ≡ condition_holds 16 (cmp w a b)
  cmp_g = rw (zf_right, below_right, less_or_same) (sym (not_le_z (signed w a) (signed w b)))
