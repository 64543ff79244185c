-- The opening and the end of a literal, by the bytes that the code compares.
-- No opening begins as the other does, and no end.
use mathlib.Core.Path.{◌≡◌, refl, sym, ap, ◌∙◌}
use mathlib.Core.Bool.{Bool, true, false}
use mathlib.Core.List.{List, [], ◌∷◌, ◌++◌}
use Prim.Native.Nat.{ℕ}
use native.Mathlib.Omega.{arith}
use lib.ListN.{get_or}
use Rattle.lists.specs.Choice.{pick}
use Rattle.text.specs.Literal.{opening, closing}
use Rattle.std.specs.Prelude.{Some, None}
use Rattle.lists.proofs.Tests.{never}
use Rattle.strings.specs.Reading.{Opens, Ends}

abbrev byte : ℕ → List ℕ → ℕ
byte i t = get_or t i 0

-- no other opening stands there, and no other end
abbrev OnlyOpening : List ℕ → ℕ → Type 0
OnlyOpening t n = (wide : Bool) (r : List ℕ) → t ≡ opening wide ++ r → n ≡ pick wide 2 1

abbrev OnlyEnd : List ℕ → Bool → Type 0
OnlyEnd t b = (cut : Bool) → t ≡ closing cut → b ≡ cut

pub opens : (t : List ℕ) → byte 0 t ≡ 34 → Opens t (Some 1)
unfolding opening
opens [] h = absurd (omega arith)
opens (a ∷ t) h = record { is = ap (λ (b : ℕ). b ∷ t) h; only = one }
  where
    one : OnlyOpening (a ∷ t) 1
    one true r e = absurd (omega (arith, h, ap (byte 0) e))
    one false r e = refl

pub opens_wide : (t : List ℕ) → byte 0 t ≡ 76 → byte 1 t ≡ 34 → Opens t (Some 2)
unfolding opening
opens_wide [] h k = absurd (omega arith)
opens_wide (a ∷ []) h k = absurd (omega arith)
opens_wide (a ∷ b ∷ t) h k = record { is = rw (h, k); only = two }
  where
    two : OnlyOpening (a ∷ b ∷ t) 2
    two true r e = refl
    two false r e = absurd (omega (arith, h, ap (byte 0) e))

pub opens_not : (t : List ℕ) → (byte 0 t ≡ 34 → ⊥) → (byte 0 t ≡ 76 → byte 1 t ≡ 34 → ⊥) → Opens t None
unfolding opening
opens_not t n m true r e = m (ap (byte 0) e) (ap (byte 1) e)
opens_not t n m false r e = n (ap (byte 0) e)

module _ (t : List ℕ) (n : ℕ) where
  pub ends_whole : t ≡ closing false → Ends t n (Some false)
  unfolding closing
  ends_whole h = record { is = h; full = λ z. never z; only = one }
    where
      one : OnlyEnd t false
      one true e = absurd (omega (arith, ap (byte 0) (sym h ∙ e)))
      one false e = refl

  pub ends_cut : n ≡ 80 → t ≡ closing true → Ends t n (Some true)
  unfolding closing
  ends_cut k h = record { is = h; full = λ _. k; only = two }
    where
      two : OnlyEnd t true
      two true e = refl
      two false e = absurd (omega (arith, ap (byte 0) (sym h ∙ e)))

  pub ends_not : (t ≡ closing false → ⊥) → (n ≡ 80 → t ≡ closing true → ⊥) → Ends t n None
  ends_not p q true f e = q (f refl) e
  ends_not p q false f e = p e
