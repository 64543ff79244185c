-- The flag rule, whole: after CMP and after TEST each condition that is printed as a relation holds exactly when the relation does.
-- One law a condition, put in the order of the conditions' numbers; a number that is printed as none is excluded.
use mathlib.Core.Path.{◌≡◌, refl, ap, sym, subst, ◌∙◌}
use Prim.Native.Nat.{ℕ, zero, suc, ◌^◌, ◌≤◌, ◌<◌}
use Prim.Native.String.{String}
use mathlib.Core.Bool.{true, false, beq}
use mathlib.Core.List.{[]}
use native.Mathlib.Decide.{dec_lt}
use native.Mathlib.Omega.{arith}
use lib.Bits.{bit_and, and_self}
use lib.Dec.{T}
use lib.IntN.{pos}
use Rattle.lists.specs.Choice.{all_below}
use Rattle.lists.specs.Signed.{signed}
use Rattle.x86.specs.Conditions.{condition_names, condition_name, among, is_relation, is_equality, no_relation, relation_after_cmp, relation_after_test, relation_after_other, related, prints_unsigned}
use Rattle.x86.specs.FlagRule.{FlagRule, RelationPrinted, Rule, read_for}
use Rattle.x86.specs.Flags.{cmp, test, condition_holds}
use Rattle.x86.specs.Words.{words_of, is_word_of}
use Rattle.lists.specs.Every.{beq→eq}
use Rattle.lists.specs.Below.{below_at}
use Rattle.x86.proofs.Cmp.{cmp_same, cmp_unlike, cmp_e, cmp_ne, cmp_b, cmp_ae, cmp_be, cmp_a, cmp_l, cmp_ge, cmp_le, cmp_g}
use Rattle.x86.proofs.Negate.{negate_turns}
use Rattle.x86.proofs.Past.{no_condition, none_after_cmp, none_after_test, none_after_other}
use Rattle.x86.proofs.Test.{test_e, test_ne, test_s, test_ns, test_l, test_ge, test_le, test_g}

-- a law at every number: at 0, at 1, and so on in the order of the conditions' numbers, and at the rest
record Each (P : ℕ → Type 0) : Type 0 where
  at : (k : ℕ) → P k

first : (P : ℕ → Type 0) → P zero → ((k : ℕ) → P (suc k)) → (k : ℕ) → P k
first P z s zero = z
first P z s (suc k) = s k

infixr 5 ◌▸◌
◌▸◌ : {P : ℕ → Type 0} → P zero → Each (λ k. P (suc k)) → Each P
◌▸◌ {P} z s = record { at = first P z s.at }

rest : {P : ℕ → Type 0} → ((k : ℕ) → P k) → Each P
rest f = record { at = f }

-- a test that fails does not hold
never : {A : Type 0} → false ≡ true → A
never x = absurd (subst T (sym x) tt)

module _ (w a b : ℕ) (h : 1 ≤ w) (ha : a < 2 ^ w) (hb : b < 2 ^ w) where
  abbrev Cmp : ℕ → Type 0
  Cmp k = is_relation (relation_after_cmp k) ≡ true → related (relation_after_cmp k) (read_for k w a) (read_for k w b) ≡ condition_holds k (cmp w a b)

  cmp_right : Each Cmp
  unfolding relation_after_cmp related prints_unsigned condition_names condition_name
  cmp_right =
      never
      ▸ never ▸ never ▸ (λ x. cmp_b w a b h ha hb) ▸ (λ x. cmp_ae w a b h ha hb)
      ▸ (λ x. cmp_e w a b h ha hb) ▸ (λ x. cmp_ne w a b h ha hb) ▸ (λ x. cmp_be w a b h ha hb) ▸ (λ x. cmp_a w a b h ha hb)
      ▸ never ▸ never ▸ never ▸ never
      ▸ (λ x. cmp_l w a b h ha hb) ▸ (λ x. cmp_ge w a b h ha hb) ▸ (λ x. cmp_le w a b h ha hb) ▸ (λ x. cmp_g w a b h ha hb)
      ▸ rest (λ n. never)

  abbrev Alike : ℕ → Type 0
  Alike k = is_equality (relation_after_cmp k) ≡ true → related (relation_after_cmp k) (pos a) (pos b) ≡ condition_holds k (cmp w a b)

  cmp_unsigned : Each Alike
  unfolding relation_after_cmp related condition_names condition_name
  cmp_unsigned =
      never
      ▸ never ▸ never ▸ never ▸ never
      ▸ (λ x. cmp_same w a b h ha hb) ▸ (λ x. cmp_unlike w a b h ha hb) ▸ never ▸ never
      ▸ never ▸ never ▸ never ▸ never
      ▸ never ▸ never ▸ never ▸ never
      ▸ rest (λ n. never)

module _ (w a b : ℕ) where
  abbrev Test : ℕ → Type 0
  Test k = is_relation (relation_after_test k) ≡ true → related (relation_after_test k) (signed w (bit_and a b)) (pos 0) ≡ condition_holds k (test w a b)

  test_right : Each Test
  unfolding relation_after_test related condition_names condition_name
  test_right =
      never
      ▸ never ▸ never ▸ never ▸ never
      ▸ (λ x. test_e w a b) ▸ (λ x. test_ne w a b) ▸ never ▸ never
      ▸ (λ x. test_s w a b) ▸ (λ x. test_ns w a b) ▸ never ▸ never
      ▸ (λ x. test_l w a b) ▸ (λ x. test_ge w a b) ▸ (λ x. test_le w a b) ▸ (λ x. test_g w a b)
      ▸ rest (λ n. never)

  test_alike : a ≡ b → (k : ℕ) → is_relation (relation_after_test k) ≡ true
      → related (relation_after_test k) (signed w a) (pos 0) ≡ condition_holds k (test w a b)
  test_alike e k x =
      let s : bit_and a b ≡ a = ap (bit_and a) (sym e) ∙ and_self a in
      ap (λ (n : ℕ). related (relation_after_test k) (signed w n) (pos 0)) (sym s) ∙ test_right.at k x

-- the rule at any width of at least one bit
pub flag_rule : (w : ℕ) → 1 ≤ w → FlagRule w
flag_rule w h =
    record {
      after_cmp_lem = λ a b ha hb. (cmp_right w a b h ha hb).at;
      after_cmp_unsigned = λ a b ha hb. (cmp_unsigned w a b h ha hb).at;
      after_test_lem = λ a b. (test_right w a b).at;
      after_test_alike = test_alike w;
    }

-- one computed test of the numbers below 17; past them nothing is printed, and no name is there
named : (f : ℕ → ℕ) (names : String) → T (all_below (λ k. beq (is_relation (f k)) (among k names)) 17)
    → is_word_of [] (words_of names) ≡ false → ((k : ℕ) → 17 ≤ k → f k ≡ no_relation) → (k : ℕ) → is_relation (f k) ≡ among k names
named f names ok e none k =
    elim (dec_lt k 17) [
      | yes h ↦ beq→eq (is_relation (f k)) (among k names) (below_at (λ j. beq (is_relation (f j)) (among j names)) 17 ok k h)
      | no h ↦ let g : 17 ≤ k = omega arith in rw (none k g, no_condition k g, e)
    ]

printed_named : RelationPrinted
unfolding relation_after_cmp relation_after_test relation_after_other condition_names condition_name
printed_named =
    record {
      after_cmp_lem = named relation_after_cmp "e ne b ae be a l ge le g" tt refl none_after_cmp;
      after_test_lem = named relation_after_test "e ne s ns l ge le g" tt refl none_after_test;
      after_other_lem = named relation_after_other "e ne s ns" tt refl none_after_other;
    }

pub rule : Rule
rule =
    record {
      printed = printed_named;
      at_8 = flag_rule 8 (omega arith);
      at_16 = flag_rule 16 (omega arith);
      at_32 = flag_rule 32 (omega arith);
      at_64 = flag_rule 64 (omega arith);
      turned = negate_turns;
    }
