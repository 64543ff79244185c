-- What the definitions say past the last register, mnemonic and condition: nothing, no, or the number itself.
-- Each test of the class or the number fails there.
use mathlib.Core.Path.{◌≡◌}
use mathlib.Core.Bool.{false, and-false}
use mathlib.Core.List.{[]}
use Prim.Native.Nat.{ℕ, ◌/◌, ◌≤◌}
use native.Mathlib.Omega.{arith}
use borrow.Author.Tests.{lt-ltb, lt-leb, ne_eqb}
use lib.ListN.{get_or-eq_default}
use Rattle.x86.specs.Conditions.{condition_names, condition_name, no_relation, relation_after_cmp, relation_after_test, relation_after_other, prints_unsigned, negate}
use Rattle.x86.specs.Mnemonics.{mnemonic_names, mnemonic_name, writes_flags}
use Rattle.x86.specs.Registers.{register_names, register_name, full_register, class_bytes, register_size}

module _ (r : ℕ) (h : 160 ≤ r) where
  high : 10 ≤ r / 16
  high = omega arith

  pub no_register : register_name r ≡ []
  unfolding register_names register_name
  no_register = let c = high in simp (ne_eqb r 0 (omega arith), get_or-eq_default register_names [] c)

  pub whole_itself : full_register r ≡ r
  unfolding full_register
  whole_itself = let c = high in simp (lt-leb (r / 16) 5 (omega arith), and-false, ne_eqb (r / 16) 6 (omega arith))

  pub no_size : register_size r ≡ 0
  unfolding register_size
  no_size = let c = high in simp (ne_eqb r 96 (omega arith), get_or-eq_default class_bytes 0 c)

module _ (m : ℕ) (h : 46 ≤ m) where
  pub no_mnemonic : mnemonic_name m ≡ []
  unfolding mnemonic_names mnemonic_name
  no_mnemonic = get_or-eq_default mnemonic_names [] h

  pub no_flags : writes_flags m ≡ false
  unfolding writes_flags
  no_flags = rw no_mnemonic

module _ (k : ℕ) (h : 17 ≤ k) where
  pub no_condition : condition_name k ≡ []
  unfolding condition_names condition_name
  no_condition = get_or-eq_default condition_names [] h

  pub none_after_cmp : relation_after_cmp k ≡ no_relation
  unfolding relation_after_cmp
  none_after_cmp = rw no_condition

  pub none_after_test : relation_after_test k ≡ no_relation
  unfolding relation_after_test
  none_after_test = rw no_condition

  pub none_after_other : relation_after_other k ≡ no_relation
  unfolding relation_after_other
  none_after_other = rw no_condition

  pub not_unsigned : prints_unsigned k ≡ false
  unfolding prints_unsigned
  not_unsigned = rw no_condition

  pub stays : negate k ≡ k
  unfolding negate
  stays = simp (ne_eqb k 0 (omega arith), lt-ltb 16 k h)
