-- `condition`: what a condition of an instruction prints. "The nearest flag writer before the tested instruction, in the same block."
use Rattle.std.specs.Prelude.{ℕ, ◌-◌, Bool, true, false, ◌&&◌, List, [], ◌∷◌, ◌++◌, eqb, ltb}
use Rattle.lists.specs.Ascii.{ascii}
use Rattle.lists.specs.Choice.{pick}
use Rattle.tokens.specs.Token.{Token, token, punct, keyword}
use Rattle.x86.specs.Mnemonics.{cmp, test, writes_flags, is_bt_or_imul}
use Rattle.x86.specs.Conditions.{condition_name, operator_text, relation_after_cmp, relation_after_test, relation_after_other, prints_unsigned}
use Rattle.record.specs.declared.header.Header.{Header}
use Rattle.record.specs.Layout.{bodies_of}
use Rattle.record.specs.Body.{body_at, mnemonic_of}
use Rattle.operand.specs.Expr.{wrap_if}
use Rattle.operand.specs.Memory.{number}
use Rattle.operand.specs.Operand.{op_tokens}
use Rattle.operand.specs.Alike.{alike}
use Rattle.record.specs.Search.{last_from}
use Rattle.std.specs.Prelude.{Option, Some, None}

-- an operator, by the relation that the flag rule proves
abbrev pub operator : ℕ → Token
operator r = token 6 (operator_text r)

-- `__flags_` and the condition's name; a number that names no condition, which question 8 lets no line print, gives an empty text
abbrev pub flags_word : ℕ → Token
flags_word cc = pick (ltb 0 cc && ltb cc 17) (token 3 (ascii "__flags_" ++ condition_name cc)) (token 0 [])

-- a relation is printed if the table has one for the condition, else the `__flags_` word
abbrev pub relation_or : ℕ → ℕ → List Token → List Token
relation_or cc r ts = pick (ltb r 6) ts (flags_word cc ∷ [])

-- `(unsigned)` in front of the first operand
abbrev pub unsigned_if : Bool → List Token → List Token
unsigned_if true ts = keyword "(unsigned)" ∷ ts
unsigned_if false ts = ts

-- of the n instructions from `first` on the last that writes flags; the part given begins at the bodies
unfoldable pub flag_writer : List ℕ → ℕ → ℕ → Option ℕ
flag_writer bodies first n = last_from (λ k. writes_flags (mnemonic_of (body_at bodies k))) first n

module _ (h : Header) (s : List ℕ) where
  abbrev pub body_of : ℕ → List ℕ
  body_of i = body_at (bodies_of h s) i

  -- after CMP: both operands, the first as unsigned where the rule reads unsigned
  abbrev pub after_cmp : List ℕ → ℕ → List Token
  after_cmp b cc =
      relation_or cc (relation_after_cmp cc)
      (unsigned_if (prints_unsigned cc) (op_tokens h s b 0) ++ (operator (relation_after_cmp cc) ∷ op_tokens h s b 1))

  -- what TEST compares with 0: one operand if both print alike, else their AND in parentheses
  abbrev pub tested : List ℕ → List Token
  tested b = pick (alike h s b) (op_tokens h s b 0) (wrap_if true (op_tokens h s b 0 ++ (punct " & " ∷ op_tokens h s b 1)))

  abbrev pub after_test : List ℕ → ℕ → List Token
  after_test b cc = relation_or cc (relation_after_test cc) (tested b ++ (operator (relation_after_test cc) ∷ number false 0 ∷ []))

  -- "After the other writers e ne s ns print the first operand against 0." After BT and IMUL "the conditions e, ne, s and ns now print the
  -- `__flags_` word with the condition's name", as the others do
  abbrev pub after_other : List ℕ → ℕ → List Token
  after_other b cc =
      pick (is_bt_or_imul (mnemonic_of b)) (flags_word cc ∷ [])
      (relation_or cc (relation_after_other cc) (op_tokens h s b 0 ++ (operator (relation_after_other cc) ∷ number false 0 ∷ [])))

  -- after the flag writer with this body
  unfoldable pub after_writer : List ℕ → ℕ → List Token
  after_writer b cc = pick (eqb (mnemonic_of b) cmp) (after_cmp b cc) (pick (eqb (mnemonic_of b) test) (after_test b cc) (after_other b cc))

  abbrev pub condition_after : Option ℕ → ℕ → List Token
  condition_after (Some p) cc = after_writer (body_of p) cc
  condition_after None cc = flags_word cc ∷ []

  -- condition cc tested by instruction i of the block whose first instruction is `first`
  unfoldable pub condition_tokens : ℕ → ℕ → ℕ → List Token
  condition_tokens first i cc = condition_after (flag_writer (bodies_of h s) first (i - first)) cc
