-- "Flag rule from the SDM, shared by widths 8, 16, 32 and 64, if nothing in between touches flags: after CMP .. the printed
-- relation of the operands at that moment, read at their width, .. holds exactly when the condition does; after TEST the same,
-- read signed, .. if operands that print alike are equal. `negate` turns conditions 1 to 16 over on every flag setting."
use Rattle.std.specs.Prelude.{ℕ, ◌^◌, ◌≤◌, ◌<◌, ◌≡◌, true, not, ℤ, pos}
use Rattle.std.specs.Int.Bits.{bit_and}
use Rattle.lists.specs.Choice.{pick}
use Rattle.lists.specs.Signed.{signed}
use Rattle.x86.specs.Conditions.{is_relation, is_equality, relation_after_cmp, relation_after_test, relation_after_other, prints_unsigned, among, related, negate}
use Rattle.x86.specs.Flags.{Flags, cmp, test, condition_holds}

-- a number of w bits as the relation printed for condition k after CMP reads it
abbrev pub read_for : ℕ → ℕ → ℕ → ℤ
read_for k w n = pick (prints_unsigned k) (pos n) (signed w n)

-- after CMP and after TEST at w bits, for the conditions that are printed as a relation
pub record FlagRule (w : ℕ) : Type 0 where
  pub after_cmp_lem : (a b : ℕ) → a < 2 ^ w → b < 2 ^ w → (k : ℕ) → is_relation (relation_after_cmp k) ≡ true
      → related (relation_after_cmp k) (read_for k w a) (read_for k w b) ≡ condition_holds k (cmp w a b)
  -- == and != say the same of numbers read unsigned
  pub after_cmp_unsigned : (a b : ℕ) → a < 2 ^ w → b < 2 ^ w → (k : ℕ) → is_equality (relation_after_cmp k) ≡ true
      → related (relation_after_cmp k) (pos a) (pos b) ≡ condition_holds k (cmp w a b)
  pub after_test_lem : (a b : ℕ) → (k : ℕ) → is_relation (relation_after_test k) ≡ true
      → related (relation_after_test k) (signed w (bit_and a b)) (pos 0) ≡ condition_holds k (test w a b)
  -- operands that print alike are equal, and then the first is printed alone
  pub after_test_alike : (a b : ℕ) → a ≡ b → (k : ℕ) → is_relation (relation_after_test k) ≡ true
      → related (relation_after_test k) (signed w a) (pos 0) ≡ condition_holds k (test w a b)

-- condition k is turned over on every setting of the flags
abbrev pub Negates : ℕ → Type 0
Negates k = (f : Flags) → condition_holds (negate k) f ≡ not (condition_holds k f)

-- the conditions for which a relation is printed are those that the paper names
pub record RelationPrinted : Type 0 where
  pub after_cmp_lem : (k : ℕ) → is_relation (relation_after_cmp k) ≡ among k "e ne b ae be a l ge le g"
  pub after_test_lem : (k : ℕ) → is_relation (relation_after_test k) ≡ among k "e ne s ns l ge le g"
  pub after_other_lem : (k : ℕ) → is_relation (relation_after_other k) ≡ among k "e ne s ns"

pub record Rule : Type 0 where
  pub printed : RelationPrinted
  pub at_8 : FlagRule 8
  pub at_16 : FlagRule 16
  pub at_32 : FlagRule 32
  pub at_64 : FlagRule 64
  pub turned : (k : ℕ) → 1 ≤ k → k ≤ 16 → Negates k
