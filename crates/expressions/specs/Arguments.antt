-- `args_expr`: the arguments that a call prints, and the registers written since the last call.
use Rattle.std.specs.Prelude.{ℕ, zero, suc, ◌+◌, ◌-◌, Bool, true, false, not, ◌&&◌, List, [], ◌∷◌, ◌++◌, eqb, ltb, take}
use Rattle.lists.specs.Choice.{pick}
use Rattle.tokens.specs.Token.{Token, punct}
use Rattle.x86.specs.Mnemonics.{push, call}
use Rattle.x86.specs.Registers.{full_register}
use Rattle.x86.specs.Width.{passes_registers}
use Rattle.x86.specs.Conventions.{argument_registers, argument_count, with_written}
use Rattle.record.specs.declared.header.Header.{Header}
use Rattle.record.specs.Layout.{bodies_of}
use Rattle.record.specs.Body.{body_at, mnemonic_of, operand_count, operand_kind, operand_register}
use Rattle.operand.specs.Memory.{register_token}
use Rattle.operand.specs.Operand.{op_tokens}
use Rattle.flow.specs.Silent.{is_skipped}
use Rattle.expressions.specs.Condition.{body_of}

-- ", " between, nothing before the first
abbrev pub comma_if : Bool → List Token → List Token
comma_if true ts = punct ", " ∷ ts
comma_if false ts = ts

-- registers with commas between
unfoldable pub listed : Bool → List ℕ → List Token
listed comma [] = []
listed comma (r ∷ rs) = comma_if comma (register_token r ∷ listed true rs)

-- in registers: "Arguments run up to the last convention register written."
unfoldable pub register_arguments : ℕ → ℕ → List Token
register_arguments convention mask = listed false (take (argument_count convention mask) (argument_registers convention))

-- instruction i has mnemonic m and is not skipped; the part given begins at the bodies
unfoldable pub is_unskipped : ℕ → ℕ → List ℕ → ℕ → ℕ → Bool
is_unskipped bits frame bodies m i = eqb (mnemonic_of (body_at bodies i)) m && not (is_skipped bits frame (body_at bodies i))

-- by pushes: of the n instructions from `first` on the pushes since the last call that is not silent, the last one first
unfoldable pub pushes_back : ℕ → ℕ → List ℕ → ℕ → ℕ → List ℕ
pushes_back bits frame bodies first zero = []
pushes_back bits frame bodies first (suc n) =
    pick (is_unskipped bits frame bodies call (first + n)) []
    (pick (is_unskipped bits frame bodies push (first + n)) ((first + n) ∷ pushes_back bits frame bodies first n) (pushes_back bits frame bodies first n))

module _ (h : Header) (s : List ℕ) where
  unfoldable pub pushed : Bool → List ℕ → List Token
  pushed comma [] = []
  pushed comma (i ∷ is) = comma_if comma (op_tokens h s (body_of h s i) 0 ++ pushed true is)

  -- the arguments at instruction i of a range whose first instruction is `first`
  unfoldable pub argument_tokens : ℕ → ℕ → ℕ → List Token
  argument_tokens first i mask =
      pick (passes_registers h.bits) (register_arguments h.convention mask) (pushed false (pushes_back h.bits h.frame (bodies_of h s) first (i - first)))

-- the registers written once an instruction's line is there: a call clears them, any other adds its first operand's full register
unfoldable pub written_after : ℕ → List ℕ → ℕ
written_after mask b =
    pick (eqb (mnemonic_of b) call) 0
    (pick (ltb 0 (operand_count b) && eqb (operand_kind b 0) 0) (with_written mask (full_register (operand_register b 0))) mask)
