-- Displacements as code of each width reads them: whether one is added to a word register, and that 64 bits hold each.
-- The base and the index are as they were read; each of the readings of 16, 32 and 64 bits fits.
use mathlib.Core.Path.{◌≡◌, sym, ap₂, ◌∙◌}
use mathlib.Core.Bool.{Bool}
use mathlib.Core.List.{List}
use Prim.Native.Nat.{ℕ, ◌^◌, ◌≤◌}
use native.Mathlib.Omega.{arith}
use lib.Dec.{eqb}
use lib.IntN.{ℤ, pos, negsuc, nat_abs}
use mir.Syntax.{w64}
use mir.Val.{to_z, of_z, SFits}
use mir.ValLaws.{to_z-of_z}
use Rattle.lists.specs.Choice.{pick}
use Rattle.lists.specs.Signed.{signed_at}
use Rattle.lists.specs.SignedLaws.{signed_fits}
use Rattle.x86.specs.Width.{adds_to_word}
use Rattle.record.specs.declared.header.Header.{Header}
use Rattle.record.specs.Body.{base_of, index_of, memory_address}
use Rattle.operand.specs.Memory.{slot_displacement, displacement}
use Rattle.operand.proofs.Choices.{either}

pub fits_abs : (z : ℤ) → SFits w64 z → nat_abs z ≤ 2 ^ 63
fits_abs (pos n) p = omega (arith, p.sfits)
fits_abs (negsuc n) p = omega (arith, p.sfits)

-- a reading that 64 bits hold is read back from them
pub held_back : {x z : ℤ} → SFits w64 z → x ≡ z → to_z w64 (of_z w64 x) ≡ z
held_back {z = z} p e = rw e (to_z-of_z w64 z p)

module _ (h : Header) (b : List ℕ) where
  abbrev adds : Bool
  adds = adds_to_word h.bits (base_of b) (index_of b)

  pub adds_read : {base index : ℕ} {t u : Bool} → base ≡ base_of b → index ≡ index_of b → t ≡ adds_to_word h.bits base index → t ≡ u → adds ≡ u
  adds_read p q e t = sym (ap₂ (adds_to_word h.bits) p q) ∙ sym e ∙ t

  abbrev Fits : ℕ → Type 0
  Fits w = SFits w64 (signed_at w (memory_address b))

  fits_16 : Fits 16
  fits_16 = signed_fits w64 16 (memory_address b) (omega arith) (omega arith)

  fits_64 : Fits 64
  fits_64 = signed_fits w64 64 (memory_address b) (omega arith) (omega arith)

  pub slot_fits : SFits w64 (slot_displacement h b)
  unfolding slot_displacement
  slot_fits = either Fits adds 16 64 fits_16 fits_64

  pub displacement_fits : SFits w64 (displacement h b)
  unfolding displacement
  displacement_fits =
      either Fits adds 16 (pick (eqb h.bits 64) 64 32) fits_16
      (either Fits (eqb h.bits 64) 64 32 fits_64 (signed_fits w64 32 (memory_address b) (omega arith) (omega arith)))
