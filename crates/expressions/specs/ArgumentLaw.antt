-- What "Arguments run up to the last convention register written" says of the tokens between a call's parentheses, by the instructions
-- shown before it. Registers and instructions, no masks: an instruction writes the register that its first operand is, or is a part of.
use Rattle.std.specs.Prelude.{◌≡◌, Bool, true, false, ◌&&◌, ◌||◌, List, [], ◌∷◌, map, ℕ, suc, ◌≤◌, ◌<◌, eqb, ltb, length, take, get_or}
use Rattle.lists.specs.Choice.{pick}
use Rattle.tokens.specs.Token.{Token, token}
use Rattle.x86.specs.Mnemonics.{call}
use Rattle.x86.specs.Registers.{full_register, register_name}
use Rattle.x86.specs.Conventions.{argument_names, argument_registers}
use Rattle.record.specs.Body.{mnemonic_of, operand_count, operand_kind, operand_register}
use Rattle.expressions.specs.Arguments.{comma_if}

-- an instruction, given by its body, writes register r
abbrev pub writes : ℕ → List ℕ → Bool
writes r b = ltb 0 (operand_count b) && eqb (operand_kind b 0) 0 && eqb (full_register (operand_register b 0)) r

-- one of some instructions writes it
abbrev pub wrote : ℕ → List (List ℕ) → Bool
wrote r [] = false
wrote r (b ∷ bs) = writes r b || wrote r bs

abbrev pub is_call : List ℕ → Bool
is_call b = eqb (mnemonic_of b) call

abbrev pub has_call : List (List ℕ) → Bool
has_call [] = false
has_call (b ∷ bs) = is_call b || has_call bs

-- the instructions behind the last call; all of them where there is none
abbrev pub since_call : List (List ℕ) → List (List ℕ)
since_call [] = []
since_call (b ∷ bs) = pick (has_call (b ∷ bs)) (since_call bs) (b ∷ bs)

-- the first n of the registers rs end at the last one that some instructions wrote; n is 0 where they wrote none
pub record EndsAtLast (rs : List ℕ) (bs : List (List ℕ)) (n : ℕ) : Type 0 where
  pub within : n ≤ length rs
  pub last_written : (k : ℕ) → n ≡ suc k → wrote (get_or rs k 0) bs ≡ true
  pub none_behind : (k : ℕ) → n ≤ k → k < length rs → wrote (get_or rs k 0) bs ≡ false

-- registers by name, with commas between
abbrev pub separated : Bool → List (List ℕ) → List Token
separated comma [] = []
separated comma (name ∷ names) = comma_if comma (token 1 name ∷ separated true names)

-- tokens that are the convention's registers up to the last one that some instructions wrote
pub record UpToLast (convention : ℕ) (bs : List (List ℕ)) (ts : List Token) : Type 0 where
  pub named : map register_name (argument_registers convention) ≡ argument_names convention
  pub count : ℕ
  pub ends : EndsAtLast (argument_registers convention) bs count
  pub tokens : ts ≡ separated false (take count (argument_names convention))
