-- What a text that says a number is, and that it says no other.
-- The digits are stored with LF behind them, and the text is compared with both parts; the number is read back from its digits, one computed test.
use mathlib.Core.Path.{◌≡◌, refl, sym, ap, ◌∙◌}
use mathlib.Core.Bool.{Bool, true, false, ◌&&◌, ◌||◌}
use mathlib.Core.List.{List, [], ◌∷◌, ◌++◌}
use Prim.Native.Nat.{ℕ, ◌+◌, ◌-◌, ◌*◌, ◌≤◌, ◌<◌}
use native.Mathlib.Nat.{zero-add}
use native.Mathlib.Omega.{arith}
use lib.Dec.{eqb, T, eqb→eq}
use lib.ListN.{length, take, set, length-append}
use lib.Seq.{take_at, take-take}
use Rattle.lists.specs.Below.{below_at}
use Rattle.lists.specs.Choice.{pick, all_below}
use Rattle.lists.specs.Every.{both_left, both_right}
use Rattle.lists.specs.Put.{put}
use Rattle.lists.specs.PutLaws.{put_append, put_cons, put_none}
use Rattle.lists.proofs.Tests.{never}
use Rattle.text.specs.Decimal.{decimal_of, decimal_text}
use Rattle.page.specs.Page.{lf}
use Rattle.page.proofs.Pieces.{stands_whole}
use Rattle.routine.specs.Output.{Says}
use Rattle.routine.specs.Output.Says.{bare, line}

-- ---- both parts of the digits and LF
module _ (t e e₁ e₂ : List ℕ) (n : ℕ) (long : n ≡ length t) (room : n + 1 ≤ length e) (p : e₁ ≡ put 0 t e) (q : e₂ ≡ set e₁ n 10) where
  both : e₂ ≡ put 0 (t ++ lf) e
  both = q ∙ rw (p, long) (sym (rw (put_append 0 t lf e, zero-add, put_cons, put_none)))

  pub with_lf : take (n + 1) e₂ ≡ t ++ lf
  with_lf = stands_whole (t ++ lf) e e₂ (n + 1) (rw length-append (omega arith)) both room

  pub without_lf : take n e₂ ≡ t
  without_lf = sym (take-take n (n + 1) e₂ (omega arith)) ∙ ap (take n) with_lf ∙ take_at t lf n (sym long)

pub said_by : (s a b : List ℕ) (k : ℕ) (x y : Bool) → a ≡ decimal_text k → b ≡ decimal_text k ++ lf
    → (x ≡ true → s ≡ a) × (s ≡ a → x ≡ true) → (y ≡ true → s ≡ b) × (s ≡ b → y ≡ true)
    → ((x || y) ≡ true → Says s k) × (Says s k → (x || y) ≡ true)
said_by s a b k true y p q f g = (λ _. bare (f.0 refl ∙ p), λ _. refl)
said_by s a b k false y p q f g = (λ h. line (g.0 h ∙ q), back)
  where
    back : Says s k → y ≡ true
    back (bare e) = never (f.1 (e ∙ sym p))
    back (line e) = g.1 (e ∙ sym q)

-- ---- the number, read back
abbrev value_from : ℕ → List ℕ → ℕ
value_from a [] = a
value_from a (b ∷ s) = pick (eqb b 10) (value_from a s) (value_from (a * 10 + (b - 48)) s)

abbrev read_back : ℕ → Bool
read_back k = eqb (value_from 0 (decimal_text k)) k && eqb (value_from 0 (decimal_text k ++ lf)) k

all_read : T (all_below read_back 276)
unfolding decimal_of
all_read = tt

value_said : (s : List ℕ) (k : ℕ) → k < 276 → Says s k → value_from 0 s ≡ k
value_said s k h said =
    let x = eqb (value_from 0 (decimal_text k)) k in
    let y = eqb (value_from 0 (decimal_text k ++ lf)) k in
    let t = below_at read_back 276 all_read k h in
    elim said [
      | bare e ↦ rw e (eqb→eq (value_from 0 (decimal_text k)) k (both_left x y t))
      | line e ↦ rw e (eqb→eq (value_from 0 (decimal_text k ++ lf)) k (both_right x y t))
    ]

pub said_once : (s : List ℕ) (j k : ℕ) → j < 276 → k < 276 → Says s j → Says s k → j ≡ k
said_once s j k a b x y = sym (value_said s j a x) ∙ value_said s k b y
