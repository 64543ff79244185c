-- What a mnemonic's class tells of an instruction, and the class read of the table.
-- A mnemonic of class 0 is none of those that have another class; one of class 1 is folded, or padding and no other noise.
use Prim.Native.Nat.{ℕ, ◌≤◌, ◌<◌}
use mathlib.Core.Path.{◌≡◌, refl, sym, ap, ◌∙◌}
use mathlib.Core.Bool.{Bool, true, false, ◌||◌, or-true}
use mathlib.Core.List.{List, [], ◌∷◌}
use native.Mathlib.Omega.{arith}
use borrow.Author.Tests.{ne_eqb, leb-true}
use lib.Dec.{eqb, leb}
use lib.ListN.{length, get_or}
use Rattle.lists.specs.Choice.{pick}
use Rattle.lists.specs.Entries.{entry}
use Rattle.lists.specs.Every.{both_yes}
use Rattle.x86.specs.Words.{is_one_of}
use Rattle.record.specs.Body.{mnemonic_of, skip_mark}
use Rattle.flow.specs.Classes.{silent_class, class_table}
use Rattle.flow.specs.Silent.{folded, padding, is_prologue_noise, is_silent_itself}

-- the table at a mnemonic
pub class_read : (t : List ℕ) → t ≡ class_table → (m : ℕ) → m < 256 → get_or t m 0 ≡ silent_class m
unfolding class_table
class_read t e m h = sym (entry silent_class 256 t 0 (sym e) m h)

pub class_length : (t : List ℕ) → t ≡ class_table → length t ≡ 256
unfolding class_table
class_length t e = ap length e

-- a mnemonic of another class
other : (m k : ℕ) {a b : ℕ} → silent_class m ≡ a → silent_class k ≡ b → (a ≡ b → ⊥) → eqb m k ≡ false
other m k p q d = ne_eqb m k (λ e. d (sym p ∙ ap silent_class e ∙ q))

module _ (bits frame : ℕ) (b : List ℕ) where
  abbrev m : ℕ
  m = mnemonic_of b

  padding_silent : padding m ≡ true → is_silent_itself bits frame b ≡ true
  unfolding is_silent_itself is_prologue_noise
  padding_silent e =
      let l : 41 ≤ m = leb-true 41 m (both_yes (leb 41 m) (leb m 45) e).0 in
      simp (ne_eqb m 21 (λ q. omega arith), ne_eqb m 22 (λ q. omega arith), ne_eqb m 10 (λ q. omega arith), ne_eqb m 9 (λ q. omega arith), ne_eqb m 1 (λ q. omega arith), ne_eqb m 5 (λ q. omega arith), e, or-true)

  -- class 1
  pub class_silent : silent_class m ≡ 1 → is_silent_itself bits frame b ≡ true
  unfolding silent_class is_silent_itself
  class_silent h = go (folded m) refl (padding m) refl (is_one_of m (1 ∷ 5 ∷ 9 ∷ 10 ∷ 22 ∷ 25 ∷ [])) h
    where
      go : (f : Bool) → folded m ≡ f → (p : Bool) → padding m ≡ p → (o : Bool) → ◌≡◌ {A = ℕ} (pick (f || p) 1 (pick o 2 0)) 1 → is_silent_itself bits frame b ≡ true
      go true e p q o h = simp (e, or-true)
      go false e true q o h = padding_silent q
      go false e false q true h = absurd (omega arith)
      go false e false q false h = absurd (omega arith)

  padding_class : (p : Bool) → padding m ≡ p → silent_class m ≡ 0 → padding m ≡ false
  unfolding silent_class
  padding_class true q h = let e : silent_class m ≡ 1 = simp (q, or-true) in absurd (omega arith)
  padding_class false q h = q

  -- class 0
  pub class_shown : silent_class m ≡ 0 → eqb (skip_mark b) 1 ≡ false → is_silent_itself bits frame b ≡ false
  unfolding silent_class is_silent_itself is_prologue_noise
  class_shown h k = simp (
    k,
    padding_class (padding m) refl h,
    one 21 refl,
    one 38 refl,
    one 39 refl,
    one 32 refl,
    one 33 refl,
    one 34 refl,
    one 35 refl,
    two 1 refl,
    two 5 refl,
    two 9 refl,
    two 10 refl,
    two 22 refl,
    two 25 refl,
  )
    where
      one : (c : ℕ) → silent_class c ≡ 1 → eqb m c ≡ false
      one c q = other m c h q (λ z. omega arith)

      two : (c : ℕ) → silent_class c ≡ 2 → eqb m c ≡ false
      two c q = other m c h q (λ z. omega arith)
