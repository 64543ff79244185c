-- What exists has a name: registers, those that the width of the code decides too, mnemonics, and relations; and a condition turned over is one.
-- One test of each table, computed; no register exists past the last class.
use mathlib.Core.Path.{◌≡◌, refl}
use mathlib.Core.Bool.{Bool, true, false, not, ◌&&◌, ◌||◌}
use Prim.Native.Nat.{ℕ, ◌+◌, ◌-◌, ◌/◌, ◌%◌, ◌≤◌, ◌<◌}
use native.Mathlib.Decide.{dec_lt}
use native.Mathlib.Omega.{arith}
use borrow.Author.Tests.{ne_eqb, ltb-true}
use lib.Dec.{T, eqb, leb, ltb, leb→le, ltb→lt}
use lib.ListN.{length, get_or-eq_default}
use Rattle.lists.specs.Choice.{pick}
use Rattle.lists.specs.Below.{below_at}
use Rattle.lists.specs.Every.{both_left, both_right}
use Rattle.x86.specs.Registers.{class_sizes, register_exists, register_names, register_name, word, dword, qword}
use Rattle.x86.specs.Width.{return_register, stack_pointer}
use Rattle.x86.specs.Mnemonics.{mnemonic_names, mnemonic_name}
use Rattle.x86.specs.Conditions.{operator_text, negate}

exists_below : (r : ℕ) → register_exists r ≡ true → r < 160
unfolding register_exists
exists_below r e =
    elim (dec_lt r 160) [
      | yes a ↦ a
      | no a ↦
          let c : 10 ≤ r / 16 = omega arith in
          absurd (omega (arith, ltb-true (r % 16) 0 (rw (ne_eqb r 0 (omega arith), get_or-eq_default class_sizes 0 c) at e)))
    ]

then_some : (b : Bool) (n : ℕ) → b ≡ true → T (not b || ltb 0 n) → 0 < n
then_some true n e t = ltb→lt 0 n t
then_some false n e t = absurd (let z : false ≡ true = e in let w : ◌≡◌ {A = ℕ} 0 1 = cc in omega arith)

pub register_some : (r : ℕ) → register_exists r ≡ true → 0 < length (register_name r)
unfolding register_exists register_name register_names
register_some r e =
    then_some (register_exists r) (length (register_name r)) e
    (below_at (λ r. not (register_exists r) || ltb 0 (length (register_name r))) 160 tt r (exists_below r e))

pub width_exists : (bits : ℕ) → (register_exists (return_register bits) ≡ true) × (register_exists (stack_pointer bits) ≡ true)
unfolding register_exists
width_exists bits = go (eqb bits 64) (eqb bits 16)
  where
    go : (a b : Bool)
        → (register_exists (pick a (qword 0) (pick b (word 0) (dword 0))) ≡ true) × (register_exists (pick a (qword 4) (pick b (word 4) (dword 4))) ≡ true)
    go true b = (refl, refl)
    go false true = (refl, refl)
    go false false = (refl, refl)

pub mnemonic_some : (m : ℕ) → 1 ≤ m → m ≤ 45 → 0 < length (mnemonic_name m)
unfolding mnemonic_name mnemonic_names
mnemonic_some m a b =
    let e : 1 + (m - 1) ≡ m = omega arith in
    ltb→lt _ _ (rw e at (below_at (λ k. ltb 0 (length (mnemonic_name (1 + k)))) 45 tt (m - 1) (omega arith)))

pub operator_some : (r : ℕ) → r < 6 → 0 < length (operator_text r)
unfolding operator_text
operator_some r h = ltb→lt _ _ (below_at (λ k. ltb 0 (length (operator_text k))) 6 tt r h)

pub negate_within : (k : ℕ) → 1 ≤ k → k ≤ 16 → (1 ≤ negate k) × (negate k ≤ 16)
unfolding negate
negate_within k a b =
    let e : 1 + (k - 1) ≡ k = omega arith in
    let t = rw e at (below_at (λ j. leb 1 (negate (1 + j)) && leb (negate (1 + j)) 16) 16 tt (k - 1) (omega arith)) in
    (leb→le _ _ (both_left (leb 1 (negate k)) (leb (negate k) 16) t), leb→le _ _ (both_right (leb 1 (negate k)) (leb (negate k) 16) t))
