-- `ending::choice_at` meets its contract.
-- By how many blocks the routine has and which of them is meant: the rule of the numbering there.
use mathlib.Core.Path.{◌≡◌, refl}
use Prim.Native.Nat.{ℕ, ◌-◌, ◌/◌, ◌%◌, ◌≤◌, ◌<◌}
use native.Mathlib.Omega.{arith}
use lib.ListN.{length}
use Rattle.routines.specs.Numbered.{routine_at}
use Rattle.routines.proofs.Rule.{of_one, of_two, of_three, Chosen}
use Rattle.routines.proofs.Full.{length_one, length_two, length_three}
use Rattle.routines.proofs.ending.choice_at.Goals as goal

module _ (k j : ℕ) where
  of-1 : k < 2 → j < length (routine_at k) → Chosen (routine_at k) j k
  of-1 h b = let e : j ≡ 0 = omega (arith, length_one k h) in rw (of_one k h, e) (h, refl)

  of-2-first : 2 ≤ k → k < 20 → j ≡ 0 → Chosen (routine_at k) j ((k - 2) / 3)
  of-2-first l h e = rw (of_two k l h, e) (omega arith, refl)

  of-2-last : 2 ≤ k → k < 20 → 1 ≤ j → j < length (routine_at k) → Chosen (routine_at k) j ((k - 2) % 3)
  of-2-last l h a b = let e : j ≡ 1 = omega (arith, length_two k l h) in rw (of_two k l h, e) (omega arith, refl)

  of-3-first : 20 ≤ k → k < 276 → j ≡ 0 → Chosen (routine_at k) j ((k - 20) / 32)
  of-3-first l h e = rw (of_three k l h, e) (omega arith, refl)

  of-3-middle : 20 ≤ k → k < 276 → j ≡ 1 → Chosen (routine_at k) j ((k - 20) / 4 % 8)
  of-3-middle l h e = rw (of_three k l h, e) (omega arith, refl)

  of-3-last : 20 ≤ k → k < 276 → 2 ≤ j → j < length (routine_at k) → Chosen (routine_at k) j ((k - 20) % 4)
  of-3-last l h a b = let e : j ≡ 2 = omega (arith, length_three k l h) in rw (of_three k l h, e) (omega arith, refl)

pub returns-then-k-lt2 : goal.returns-then-k-lt2
returns-then-k-lt2 c = of-1 _ _ (omega arith) (omega arith)

pub returns-then-j-eq0 : goal.returns-then-j-eq0
returns-then-j-eq0 c = of-2-first _ _ (omega arith) (omega arith) (omega arith)

pub returns-else-j-eq0 : goal.returns-else-j-eq0
returns-else-j-eq0 c = of-2-last _ _ (omega arith) (omega arith) (omega arith) (omega arith)

pub returns-then-j-eq0-2 : goal.returns-then-j-eq0-2
returns-then-j-eq0-2 c = of-3-first _ _ (omega arith) (omega arith) (omega arith)

pub returns-then-j-eq1 : goal.returns-then-j-eq1
returns-then-j-eq1 c = of-3-middle _ _ (omega arith) (omega arith) (omega arith)

pub returns-else-j-eq1 : goal.returns-else-j-eq1
returns-else-j-eq1 c = of-3-last _ _ (omega arith) (omega arith) (omega arith) (omega arith)
