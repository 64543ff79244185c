-- What the tokens that show a condition say. Where CMP or TEST is the nearest flag writer: a relation of the operands that holds exactly
-- when the condition holds of Intel's flags; where the condition is shown turned over, exactly when it does not. Where BT or IMUL is: none.
use Rattle.std.specs.Prelude.{ℕ, ◌-◌, ◌^◌, ◌<◌, ◌≡◌, Bool, true, false, not, List, [], ◌∷◌, ◌++◌, pos}
use Rattle.std.specs.Int.Bits.{bit_and}
use Rattle.lists.specs.Choice.{pick}
use Rattle.lists.specs.Signed.{signed}
use Rattle.tokens.specs.Token.{Token}
use Rattle.tokens.specs.Listing.{text_of}
use Rattle.x86.specs.Words.{is_one_of}
use Rattle.x86.specs.Mnemonics as mnemonic
use Rattle.x86.specs.Mnemonics.{is_bt_or_imul}
use Rattle.x86.specs.Conditions.{related, among, negate}
use Rattle.x86.specs.Flags.{cmp, test, condition_holds}
use Rattle.x86.specs.FlagRule.{read_for}
use Rattle.record.specs.declared.header.Header.{Header}
use Rattle.std.specs.Prelude.{Some}
use Rattle.record.specs.Layout.{bodies_of}
use Rattle.record.specs.Body.{mnemonic_of}
use Rattle.operand.specs.Memory.{number}
use Rattle.operand.specs.Operand.{op_tokens}
use Rattle.operand.specs.Alike.{alike}
use Rattle.expressions.specs.Condition.{operator, flags_word, unsigned_if, flag_writer, body_of, tested}

-- a reading of operands as numbers of w bits, by their texts: "operands that print alike are equal"
pub record Reading (w : ℕ) : Type 0 where
  pub value : List ℕ → ℕ
  pub fits : (t : List ℕ) → value t < 2 ^ w

-- whether a condition holds, or where it is turned over whether it does not
abbrev pub turned_if : Bool → Bool → Bool
turned_if true holds = not holds
turned_if false holds = holds

module _ (h : Header) (s : List ℕ) where
  -- operand i of a body, so read
  abbrev pub value_of : {w : ℕ} → Reading w → List ℕ → ℕ → ℕ
  value_of r b i = r.value (text_of (op_tokens h s b i))

  -- what is printed of TEST's operands: the first where they print alike, else both joined by AND
  abbrev pub tested_of : {w : ℕ} → Reading w → List ℕ → ℕ
  tested_of r b = pick (alike h s b) (value_of r b 0) (bit_and (value_of r b 0) (value_of r b 1))

  -- "after CMP, for e ne b ae be a l ge le g, the printed relation of the operands at that moment, read at their width, signed for
  -- l ge le g and unsigned for b ae be a, holds exactly when the condition does"
  pub record AfterCmp (b : List ℕ) (k : ℕ) (turned : Bool) (ts : List Token) : Type 0 where
    pub relation : ℕ
    pub tokens : ts ≡ unsigned_if (among k "b ae be a") (op_tokens h s b 0) ++ (operator relation ∷ op_tokens h s b 1)
    pub right : (w : ℕ) → is_one_of w (8 ∷ 16 ∷ 32 ∷ 64 ∷ []) ≡ true → (r : Reading w)
        → related relation (read_for k w (value_of r b 0)) (read_for k w (value_of r b 1))
        ≡ turned_if turned (condition_holds k (cmp w (value_of r b 0) (value_of r b 1)))

  -- "after TEST the same, read signed, for e ne s ns l ge le g, if operands that print alike are equal"
  pub record AfterTest (b : List ℕ) (k : ℕ) (turned : Bool) (ts : List Token) : Type 0 where
    pub relation : ℕ
    pub tokens : ts ≡ tested h s b ++ (operator relation ∷ number false 0 ∷ [])
    pub right : (w : ℕ) → is_one_of w (8 ∷ 16 ∷ 32 ∷ 64 ∷ []) ≡ true → (r : Reading w)
        → related relation (signed w (tested_of r b)) (pos 0) ≡ turned_if turned (condition_holds k (test w (value_of r b 0) (value_of r b 1)))

  -- tokens that show condition k, or turned over, as tested by instruction i of a block whose first instruction is `first`: by the
  -- nearest flag writer before it, instruction p
  pub record Shows (first i k : ℕ) (turned : Bool) (ts : List Token) : Type 0 where
    pub after_cmp_lem : (p : ℕ) → flag_writer (bodies_of h s) first (i - first) ≡ Some p → mnemonic_of (body_of h s p) ≡ mnemonic.cmp
        → among k "e ne b ae be a l ge le g" ≡ true → AfterCmp (body_of h s p) k turned ts
    pub after_test_lem : (p : ℕ) → flag_writer (bodies_of h s) first (i - first) ≡ Some p → mnemonic_of (body_of h s p) ≡ mnemonic.test
        → among k "e ne s ns l ge le g" ≡ true → AfterTest (body_of h s p) k turned ts
    -- "After either of them, the conditions e, ne, s and ns now print the `__flags_` word with the condition's name": no relation is claimed
    -- after BT and IMUL, of any condition
    pub after_bt_imul : (p : ℕ) → flag_writer (bodies_of h s) first (i - first) ≡ Some p → is_bt_or_imul (mnemonic_of (body_of h s p)) ≡ true
        → ts ≡ flags_word (pick turned (negate k) k) ∷ []
