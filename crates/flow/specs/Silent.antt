-- Which instructions are silent by themselves, and how a block ends. Each definition speaks of the part that begins at a body.
use Rattle.std.specs.Prelude.{ℕ, Bool, not, ◌&&◌, ◌||◌, List, [], ◌∷◌, eqb, leb}
use Rattle.lists.specs.Choice.{pick}
use Rattle.x86.specs.Words.{is_one_of}
use Rattle.x86.specs.Registers.{callee_saved}
use Rattle.x86.specs.Width.{is_stack_pointer}
use Rattle.x86.specs.Mnemonics.{mov, lea, add, sub, push, pop, jmp, cdq, cqo, cdqe, cwde, cmp, test, leave, endbr32}
use Rattle.record.specs.Body.{mnemonic_of, condition_of, is_conditional_branch, skip_mark, operand_kind, operand_register}

-- "cmp, test, push, cdq, cqo, cdqe, cwde"
abbrev pub folded : ℕ → Bool
folded m = is_one_of m (cmp ∷ test ∷ push ∷ cdq ∷ cqo ∷ cdqe ∷ cwde ∷ [])

-- leave nop int3 endbr64 endbr32, which are the last
abbrev pub padding : ℕ → Bool
padding m = leb leave m && leb m endbr32

abbrev pub register_first : List ℕ → Bool
register_first b = eqb (operand_kind b 0) 0

-- a copy of the stack pointer to the frame register, "equal to nothing" where it is 0, or a write of the stack pointer
abbrev pub moves_frame : ℕ → ℕ → List ℕ → Bool
moves_frame bits frame b =
    (not (eqb frame 0) && eqb (operand_register b 0) frame && eqb (operand_kind b 1) 0 && is_stack_pointer bits (operand_register b 1))
    || is_stack_pointer bits (operand_register b 0)

-- "prologue noise (`is_prologue_noise` says so)": saves and restores of the registers that a callee saves, moves of the stack
-- pointer, and padding
unfoldable pub is_prologue_noise : ℕ → ℕ → List ℕ → Bool
is_prologue_noise bits frame b =
    let m = mnemonic_of b in
    pick (eqb m push || eqb m pop) (register_first b && callee_saved (operand_register b 0))
    (pick (eqb m sub || eqb m add) (register_first b && is_stack_pointer bits (operand_register b 0) && not (eqb (operand_kind b 1) 0))
    (pick (eqb m mov) (register_first b && moves_frame bits frame b)
    (pick (eqb m lea) (register_first b && is_stack_pointer bits (operand_register b 0))
    (padding m))))

-- a jmp to a near branch
abbrev pub is_direct_jmp : List ℕ → Bool
is_direct_jmp b = eqb (mnemonic_of b) jmp && eqb (operand_kind b 0) 2

-- "skip-marked or prologue noise"
abbrev pub is_skipped : ℕ → ℕ → List ℕ → Bool
is_skipped bits frame b = eqb (skip_mark b) 1 || is_prologue_noise bits frame b

-- "Silent: skip-marked or prologue noise ..; cmp, test, push, cdq, cqo, cdqe, cwde; a direct jmp .."; the structure says which
-- closing branch, loop test or last direct jmp has a line all the same
unfoldable pub is_silent_itself : ℕ → ℕ → List ℕ → Bool
is_silent_itself bits frame b = is_skipped bits frame b || folded (mnemonic_of b) || is_direct_jmp b

-- how a block with this last instruction ends: 1 with a condition but no near branch, 2 with a condition and a near branch as
-- first operand, 3 with a direct jmp, 0 otherwise
unfoldable pub ending_of : List ℕ → ℕ
ending_of b = pick (is_conditional_branch b) 2 (pick (not (eqb (condition_of b) 0)) 1 (pick (is_direct_jmp b) 3 0))
