-- A search by halving among n numbers that rise, for one that is x.
-- What stands below a number is smaller and what stands above it greater, so each look at one number settles one side of it.
use Prim.Native.Nat.{ℕ, ◌+◌, ◌<◌, ◌≤◌}
use mathlib.Core.Path.{◌≡◌}
use native.Mathlib.Decide.{ℕ_discrete, dec_lt}
use native.Mathlib.Omega.{arith}
use Rattle.record.specs.Search.{Rises}
use Rattle.record.proofs.Rising.{rise}

-- the numbers below `low` are smaller than x, those from `high` on greater
pub record Between (f : ℕ → ℕ) (n x low high : ℕ) : Type 0 where
  pub smaller : (j : ℕ) → j < low → f j < x
  pub greater : (j : ℕ) → high ≤ j → j < n → x < f j

pub between_all : (f : ℕ → ℕ) (n x : ℕ) → Between f n x 0 n
between_all f n x = record { smaller = λ j a. absurd (omega arith); greater = λ j a b. absurd (omega arith) }

-- nothing is left between: none of the numbers is x
pub between_none : {f : ℕ → ℕ} {n x low high : ℕ} → Between f n x low high → high ≤ low → (j : ℕ) → j < n → f j ≡ x → ⊥
between_none {f} {n} {x} {low} {high} b l j a e =
    elim (dec_lt j low) [
      | yes y ↦ omega (arith, b.smaller j y)
      | no y ↦ omega (arith, b.greater j (omega arith) a)
    ]

-- y is number m
module _ {f : ℕ → ℕ} {n : ℕ} (r : Rises f n) {m y : ℕ} (e : y ≡ f m) (below : m < n) where
  -- it is x, and none before it is
  pub found_first : {x : ℕ} → y ≡ x → (j : ℕ) → j < m → f j ≡ x → ⊥
  found_first q j a p = omega (arith, rise f n r j m a below)

  -- it is smaller, and so are those before it
  pub go_up : {x low high : ℕ} → Between f n x low high → y < x → Between f n x (m + 1) high
  go_up {x} b l = record {
    smaller = λ j a. elim (ℕ_discrete j m) [
      | yes z ↦ rw z (omega arith)
      | no z ↦ omega (arith, rise f n r j m (omega arith) below)
    ];
    greater = b.greater;
  }

  -- it is greater, and so are those behind it
  pub go_down : {x low high : ℕ} → Between f n x low high → x ≤ y → (y ≡ x → ⊥) → Between f n x low m
  go_down {x} b l ne = record {
    smaller = b.smaller;
    greater = λ j a c. elim (ℕ_discrete j m) [
      | yes z ↦ rw z (omega arith)
      | no z ↦ omega (arith, rise f n r m j (omega arith) c)
    ];
  }
