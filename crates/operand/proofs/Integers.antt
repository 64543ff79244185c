-- Signed numbers of 64 bits: their sign, their size, the window, and the sum of two as sign and size.
-- By the sign of each; a local holds a number's bits, which are read back.
use mathlib.Core.Path.{◌≡◌, refl, sym, ap, ◌∙◌}
use mathlib.Core.Bool.{Bool, true, false, ◌&&◌}
use Prim.Native.Nat.{ℕ, suc, ◌+◌, ◌-◌, ◌≤◌}
use native.Mathlib.Decide.{dec_lt}
use native.Mathlib.Omega.{arith}
use borrow.Author.Tests.{lt-ltb, le-ltb, le-leb, lt-leb}
use lib.IntN.{ℤ, pos, negsuc, ◌+ℤ◌, ◌-ℤ◌, nat_abs, sub_ℕ}
use lib.Signed.{lt_z, le_z}
use mir.Syntax.{w32, w64}
use mir.Val.{to_z, of_z, SFits}
use mir.ValLaws.{to_z-of_z}
use Rattle.operand.specs.declared.numbers.Sized.{Sized}
use Rattle.operand.specs.Memory.{is_negative}
use Rattle.operand.specs.Operand.{in_window}
use Rattle.operand.specs.Sized.{sized_of, sized_difference}

differ : {A : Type 0} → false ≡ true → A
differ h = absurd (let z : ◌≡◌ {A = ℕ} 0 1 = cc in omega arith)

pub negative_asked : (z : ℤ) → SFits w64 z → lt_z (to_z w64 (of_z w64 z)) (pos 0) ≡ is_negative z
negative_asked z s = rw (to_z-of_z w64 z s) (go z)
  where
    go : (z : ℤ) → lt_z z (pos 0) ≡ is_negative z
    go (pos n) = le-ltb n 0 (omega arith)
    go (negsuc n) = refl

pub window_asked : (z : ℤ) → SFits w64 z → (le_z (negsuc 4095) (to_z w64 (of_z w64 z)) && lt_z (to_z w64 (of_z w64 z)) (pos 0)) ≡ in_window z
window_asked z s = rw (to_z-of_z w64 z s) (go z)
  where
    go : (z : ℤ) → (le_z (negsuc 4095) z && lt_z z (pos 0)) ≡ in_window z
    go (pos n) = le-ltb n 0 (omega arith)
    go (negsuc n) =
        elim (dec_lt n 4096) [
          | yes h ↦ rw (lt-ltb n 4096 h, le-leb n 4095 (omega arith))
          | no h ↦ rw (le-ltb n 4096 (omega arith), lt-leb n 4095 (omega arith))
        ]

pub small : (z : ℤ) → SFits w64 z → nat_abs z ≤ 0x8000_0000_0000_0000
small (pos n) s = omega arith
small (negsuc n) s = omega arith

pub small32 : (z : ℤ) → SFits w32 z → nat_abs z ≤ 0x8000_0000
small32 (pos n) s = omega arith
small32 (negsuc n) s = omega arith

pub wide : (z : ℤ) → SFits w32 z → SFits w64 z
wide (pos n) s = record { sfits = omega arith }
wide (negsuc n) s = record { sfits = omega arith }

-- -1 - z for a negative z, and z itself for another
pub turned : (z : ℤ) → is_negative z ≡ true → negsuc 0 -ℤ z ≡ pos (nat_abs z - 1)
turned (pos n) h = differ h
turned (negsuc n) h = simp (le-ltb (suc n) 1 (omega arith))

pub some : (z : ℤ) → is_negative z ≡ true → 1 ≤ nat_abs z
some (pos n) h = differ h
some (negsuc n) h = omega arith

pub plain : (z : ℤ) → is_negative z ≡ false → z ≡ pos (nat_abs z)
plain (pos n) h = refl
plain (negsuc n) h = differ (sym h)

sub_sized : (a b : ℕ) → sized_difference a b ≡ sized_of (sub_ℕ a b)
sub_sized a b =
    elim (dec_lt a b) [
      | yes h ↦ rw (lt-ltb a b h) (ap {B = Sized} (λ n. record { negative = true; size = n }) (omega arith))
      | no h ↦ rw (le-ltb a b (omega arith))
    ]

-- a number of 32 bits, widened, as it is read back
pub wide_back : (y z : ℤ) → SFits w32 z → y ≡ to_z w32 (of_z w32 z) → to_z w64 (of_z w64 y) ≡ z
wide_back y z s e =
    let q : y ≡ z = e ∙ to_z-of_z w32 z s in
    rw q (to_z-of_z w64 z (wide z s))

-- the sign of a number that was asked of what is read back
pub sign_is : (z : ℤ) (r b : Bool) → SFits w64 z → r ≡ is_negative (to_z w64 (of_z w64 z)) → r ≡ b → is_negative z ≡ b
sign_is z r b s p q = ap is_negative (sym (to_z-of_z w64 z s)) ∙ (sym p ∙ q)

-- x and y as they are read back are u and v
module _ (x y u v : ℤ) (d : x ≡ u) (e : y ≡ v) (a b : ℕ) (p : a ≡ nat_abs x) (q : b ≡ nat_abs y) where
  pub both : is_negative x ≡ true → is_negative y ≡ true → record { negative = true; size = a + b } ≡ sized_of (u +ℤ v)
  both h k = rw (p, q, ← d, ← e) (go x y h k)
    where
      go : (x y : ℤ) → is_negative x ≡ true → is_negative y ≡ true → record { negative = true; size = nat_abs x + nat_abs y } ≡ sized_of (x +ℤ y)
      go (negsuc m) (negsuc n) h k = ap {B = Sized} (λ n. record { negative = true; size = n }) (omega arith)
      go (pos m) y h k = differ h
      go (negsuc m) (pos n) h k = differ k

  pub neither : is_negative x ≡ false → is_negative y ≡ false → record { negative = false; size = a + b } ≡ sized_of (u +ℤ v)
  neither h k = rw (p, q, ← d, ← e, plain x h, plain y k)

  pub left : is_negative x ≡ true → is_negative y ≡ false → sized_difference b a ≡ sized_of (u +ℤ v)
  left h k = rw (p, q, ← d, ← e) (go x y h k)
    where
      go : (x y : ℤ) → is_negative x ≡ true → is_negative y ≡ false → sized_difference (nat_abs y) (nat_abs x) ≡ sized_of (x +ℤ y)
      go (negsuc m) (pos n) h k = sub_sized n (suc m)
      go (pos m) y h k = differ h
      go (negsuc m) (negsuc n) h k = differ (sym k)

  pub right : is_negative x ≡ false → is_negative y ≡ true → sized_difference a b ≡ sized_of (u +ℤ v)
  right h k = rw (p, q, ← d, ← e) (go x y h k)
    where
      go : (x y : ℤ) → is_negative x ≡ false → is_negative y ≡ true → sized_difference (nat_abs x) (nat_abs y) ≡ sized_of (x +ℤ y)
      go (pos m) (negsuc n) h k = sub_sized m (suc n)
      go (negsuc m) y h k = differ (sym h)
      go (pos m) (pos n) h k = differ k
