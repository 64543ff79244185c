-- The table holds at each number's place what the definitions say of that number.
-- One test a column, which antt computes over all of its numbers, and one law that turns such a test into the rule at each number.
use mathlib.Core.Path.{◌≡◌, refl, ap, ap₂, sym}
use mathlib.Core.Bool.{Bool, true, false, beq}
use mathlib.Core.List.{List, [], ◌∷◌}
use Prim.Native.Nat.{ℕ, ◌+◌, ◌*◌, ◌≤◌, ◌<◌}
use native.Mathlib.Decide.{dec_lt}
use native.Mathlib.Omega.{arith}
use borrow.Author.Tests.{lt-ltb, le-ltb}
use lib.Dec.{T, eqb, ltb, eqb→eq}
use lib.ListN.{get_or, length}
use Rattle.lists.specs.Choice.{pick, all_below}
use Rattle.x86.specs.Conditions.{condition_names, condition_name, no_relation, relation_after_cmp, relation_after_test, relation_after_other, prints_unsigned, negate}
use Rattle.x86.specs.Mnemonics.{mnemonic_names, mnemonic_name, writes_flags}
use Rattle.x86.specs.Registers.{register_names, register_name, register_exists, full_register, register_size}
use Rattle.x86.specs.Table.{register_table, missing_table, mnemonic_table, condition_table, isa_bytes, bit, text_at}
use Rattle.x86.specs.Words.{same_word}
use Rattle.lists.specs.Every.{both_left, both_right, beq→eq}
use Rattle.lists.specs.Below.{below_at}
use Rattle.x86.proofs.Past.{whole_itself, no_size, no_flags, none_after_cmp, none_after_test, none_after_other, not_unsigned, stays}

same_eq : (w v : List ℕ) → T (same_word w v) → w ≡ v
same_eq [] [] t = refl
same_eq [] (b ∷ v) t = absurd t
same_eq (a ∷ w) [] t = absurd t
same_eq (a ∷ w) (b ∷ v) t =
    ap₂ {C = List ℕ} (λ x l. x ∷ l) (eqb→eq a b (both_left (eqb a b) (same_word w v) t)) (same_eq w v (both_right (eqb a b) (same_word w v) t))

-- a test of the byte at each number's place
abbrev byte_at : (ℕ → ℕ) → (ℕ → ℕ) → ℕ → Bool
byte_at at f k = eqb (get_or isa_bytes (at k) 0) (f k)

-- a column of n numbers, with d past them
column : (at f d : ℕ → ℕ) (n : ℕ) → T (all_below (byte_at at f) n) → ((k : ℕ) → n ≤ k → f k ≡ d k)
    → (t : List ℕ) → t ≡ isa_bytes → (k : ℕ) → pick (ltb k n) (get_or t (at k) 0) (d k) ≡ f k
column at f d n ok past t e k =
    elim (dec_lt k n) [
      | yes h ↦ rw (lt-ltb k n h, e) (eqb→eq _ _ (below_at (byte_at at f) n ok k h))
      | no h ↦ let g : n ≤ k = omega arith in rw (le-ltb k n g) (sym (past k g))
    ]

-- a test of each byte's place in the table of those that no register has
abbrev known : ℕ → Bool
known r = beq (eqb (get_or missing_table r 0) 0) (register_exists r)

pub register_known : (t : List ℕ) → t ≡ missing_table → (r : ℕ) → r < 256 → eqb (get_or t r 0) 0 ≡ register_exists r
unfolding missing_table register_exists
register_known t e r h = rw e (beq→eq _ _ (below_at known 256 tt r h))

pub missing_length : (t : List ℕ) → t ≡ missing_table → length t ≡ 256
unfolding missing_table register_exists
missing_length t e = ap length e

-- a test of the text at each number's place
abbrev spells : (ℕ → ℕ) → (ℕ → List ℕ) → ℕ → Bool
spells at f k = same_word (text_at isa_bytes (at k)) (f k)

texts : (at : ℕ → ℕ) (f : ℕ → List ℕ) (n : ℕ) → T (all_below (spells at f) n)
    → (t : List ℕ) → t ≡ isa_bytes → (k : ℕ) → k < n → text_at t (at k) ≡ f k
texts at f n ok t e k h = rw e (same_eq _ _ (below_at (spells at f) n ok k h))

-- a byte that is 1 for yes
bit_is : (b : Bool) → eqb (bit b) 1 ≡ b
bit_is true = refl
bit_is false = refl

yes_column : {x : ℕ} (b : Bool) → x ≡ bit b → eqb x 1 ≡ b
yes_column b e = rw e (bit_is b)

module _ (t : List ℕ) (e : t ≡ isa_bytes) where
  -- registers: 8 bytes each
  pub register_spelt : (r : ℕ) → r < 160 → text_at t (8 * r) ≡ register_name r
  unfolding isa_bytes register_table register_names register_name
  register_spelt = texts (λ r. 8 * r) register_name 160 tt t e

  pub register_full : (r : ℕ) → pick (ltb r 160) (get_or t (6 + 8 * r) 0) r ≡ full_register r
  unfolding isa_bytes register_table register_names register_name full_register
  register_full = column (λ r. 6 + 8 * r) full_register (λ r. r) 160 tt whole_itself t e

  pub register_sized : (r : ℕ) → pick (ltb r 160) (get_or t (7 + 8 * r) 0) 0 ≡ register_size r
  unfolding isa_bytes register_table register_names register_name register_size
  register_sized = column (λ r. 7 + 8 * r) register_size (λ r. 0) 160 tt no_size t e

  -- mnemonics: 16 bytes each, from 1280 on
  pub mnemonic_spelt : (m : ℕ) → m < 46 → text_at t (1280 + 16 * m) ≡ mnemonic_name m
  unfolding isa_bytes register_table mnemonic_table register_names register_name mnemonic_names mnemonic_name
  mnemonic_spelt = texts (λ m. 1280 + 16 * m) mnemonic_name 46 tt t e

  pub mnemonic_flags : (m : ℕ) → eqb (pick (ltb m 46) (get_or t (1295 + 16 * m) 0) 0) 1 ≡ writes_flags m
  unfolding isa_bytes register_table mnemonic_table register_names register_name mnemonic_names mnemonic_name writes_flags
  mnemonic_flags m =
      yes_column (writes_flags m)
      (column (λ m. 1295 + 16 * m) (λ m. bit (writes_flags m)) (λ m. 0) 46 tt (λ m h. ap bit (no_flags m h)) t e m)

  -- conditions: 8 bytes each, from 2016 on
  pub condition_cmp : (k : ℕ) → pick (ltb k 17) (get_or t (2016 + 8 * k) 0) no_relation ≡ relation_after_cmp k
  unfolding isa_bytes register_table mnemonic_table condition_table register_names register_name mnemonic_names mnemonic_name condition_names condition_name relation_after_cmp
  condition_cmp = column (λ k. 2016 + 8 * k) relation_after_cmp (λ k. no_relation) 17 tt none_after_cmp t e

  pub condition_test : (k : ℕ) → pick (ltb k 17) (get_or t (2017 + 8 * k) 0) no_relation ≡ relation_after_test k
  unfolding isa_bytes register_table mnemonic_table condition_table register_names register_name mnemonic_names mnemonic_name condition_names condition_name relation_after_test
  condition_test = column (λ k. 2017 + 8 * k) relation_after_test (λ k. no_relation) 17 tt none_after_test t e

  pub condition_other : (k : ℕ) → pick (ltb k 17) (get_or t (2018 + 8 * k) 0) no_relation ≡ relation_after_other k
  unfolding isa_bytes register_table mnemonic_table condition_table register_names register_name mnemonic_names mnemonic_name condition_names condition_name relation_after_other
  condition_other = column (λ k. 2018 + 8 * k) relation_after_other (λ k. no_relation) 17 tt none_after_other t e

  pub condition_unsigned : (k : ℕ) → eqb (pick (ltb k 17) (get_or t (2019 + 8 * k) 0) 0) 1 ≡ prints_unsigned k
  unfolding isa_bytes register_table mnemonic_table condition_table register_names register_name mnemonic_names mnemonic_name condition_names condition_name prints_unsigned
  condition_unsigned k =
      yes_column (prints_unsigned k)
      (column (λ k. 2019 + 8 * k) (λ k. bit (prints_unsigned k)) (λ k. 0) 17 tt (λ k h. ap bit (not_unsigned k h)) t e k)

  pub condition_negated : (k : ℕ) → pick (ltb k 17) (get_or t (2020 + 8 * k) 0) k ≡ negate k
  unfolding isa_bytes register_table mnemonic_table condition_table register_names register_name mnemonic_names mnemonic_name negate
  condition_negated = column (λ k. 2020 + 8 * k) negate (λ k. k) 17 tt stays t e
