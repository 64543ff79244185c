-- After TEST each of the conditions e ne s ns l ge le g holds exactly when the printed relation of the AND, read signed, with 0 does.
-- The AND is read as any number of w bits: zero and the sign are all that its flags say.
use mathlib.Core.Path.{◌≡◌, refl, sym, ap, ◌∙◌}
use mathlib.Core.Bool.{Bool, true, false, not, ◌||◌}
use Prim.Native.Nat.{ℕ, ◌-◌, ◌<◌}
use native.Mathlib.Decide.{dec_lt}
use native.Mathlib.Omega.{arith}
use borrow.Author.Tests.{le-ltb, le-leb, lt-leb, ne_eqb}
use lib.Dec.{leb, eqb}
use lib.Pow.{pow_pos}
use lib.Bits.{bit_and}
use lib.IntN.{ℤ, pos}
use lib.Signed.{lt_z, le_z}
use Rattle.x86.specs.Conditions.{eq_z}
use Rattle.lists.specs.Signed.{half, signed}
use Rattle.lists.specs.SignedLaws.{signed_low, signed_high}
use Rattle.x86.specs.Flags.{test, unlike, condition_holds}
use Rattle.x86.proofs.Cmp.{not_lt_z, not_le_z, lt_or_eq}

unlike_false : (b : Bool) → unlike b false ≡ b
unlike_false true = refl
unlike_false false = refl

module _ (w r : ℕ) where
  zero_right : eqb r 0 ≡ eq_z (signed w r) (pos 0)
  zero_right = go (dec_lt r (half w))
    where
      go : Dec (r < half w) → eqb r 0 ≡ eq_z (signed w r) (pos 0)
      go (yes p) = rw (signed_low w r p)
      go (no p) = rw (signed_high w r (omega arith), ne_eqb r 0 (omega (arith, pow_pos (w - 1))))

  sign_right : leb (half w) r ≡ lt_z (signed w r) (pos 0)
  sign_right = go (dec_lt r (half w))
    where
      go : Dec (r < half w) → leb (half w) r ≡ lt_z (signed w r) (pos 0)
      go (yes p) = rw (signed_low w r p) (simp (lt-leb (half w) r p, le-ltb r 0 (omega arith)))
      go (no p) = rw (signed_high w r (omega arith)) (simp (le-leb (half w) r (omega arith)))

  below_or_zero : (eqb r 0 || lt_z (signed w r) (pos 0)) ≡ le_z (signed w r) (pos 0)
  below_or_zero = go (dec_lt r (half w))
    where
      go : Dec (r < half w) → (eqb r 0 || lt_z (signed w r) (pos 0)) ≡ le_z (signed w r) (pos 0)
      go (yes p) = rw (signed_low w r p) (lt_or_eq r 0)
      go (no p) = rw (signed_high w r (omega arith)) (simp (ne_eqb r 0 (omega (arith, pow_pos (w - 1)))))

module _ (w a b : ℕ) where
  abbrev r : ℤ
  r = signed w (bit_and a b)

  pub test_e : eq_z r (pos 0) ≡ condition_holds 5 (test w a b)
  test_e = sym (zero_right w (bit_and a b))

  pub test_ne : not (eq_z r (pos 0)) ≡ condition_holds 6 (test w a b)
  test_ne = ap not test_e

  pub test_s : lt_z r (pos 0) ≡ condition_holds 9 (test w a b)
  test_s = sym (sign_right w (bit_and a b))

  pub test_ns : le_z (pos 0) r ≡ condition_holds 10 (test w a b)
  test_ns = sym (not_lt_z r (pos 0)) ∙ ap not test_s

  pub test_l : lt_z r (pos 0) ≡ condition_holds 13 (test w a b)
  test_l = test_s ∙ sym (unlike_false (condition_holds 9 (test w a b)))

  pub test_ge : le_z (pos 0) r ≡ condition_holds 14 (test w a b)
  test_ge = sym (not_lt_z r (pos 0)) ∙ ap not test_l

  pub test_le : le_z r (pos 0) ≡ condition_holds 15 (test w a b)
  test_le = rw (unlike_false, sign_right w (bit_and a b)) (sym (below_or_zero w (bit_and a b)))

  pub test_g : lt_z (pos 0) r ≡ condition_holds 16 (test w a b)
  test_g = sym (not_le_z r (pos 0)) ∙ ap not test_le
