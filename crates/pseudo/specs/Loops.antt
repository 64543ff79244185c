-- #108, "a loop closes on the wrong test": no longer. Of the addresses of the lines that a call leaves, beside what each line is written for.
use Rattle.std.specs.Prelude.{ℕ, true, List, [], ◌∷◌, ◌≡◌}
use Rattle.record.specs.declared.header.Header.{Header}
use Rattle.record.specs.Layout.{bodies_of}
use Rattle.record.specs.Body.{body_at, is_conditional_branch, operand_number}
use Rattle.structure.specs.Plan.{What, Line}
use Rattle.structure.specs.Plan.What.{label_line, do_line, open_line, if_goto, while_line, close_line, goto_line, tail_call, insn_line}

module _ (h : Header) (s : List ℕ) where
  -- instruction i has a condition and, as first operand, a near branch to an address
  abbrev pub BranchesTo : ℕ → ℕ → Type 0
  BranchesTo i va = (is_conditional_branch (body_at (bodies_of h s) i) ≡ true) × (operand_number (body_at (bodies_of h s) i) 0 ≡ va)

  -- a line at an address, written for instruction i, read with the address of the latest do-line; then the rest of the lines
  abbrev pub close_then : What → ℕ → ℕ → ℕ → (ℕ → Type 0) → Type 0
  close_then do_line va a i rest = rest a
  close_then while_line va a i rest = BranchesTo i va × rest va
  close_then label_line va a i rest = rest va
  close_then open_line va a i rest = rest va
  close_then if_goto va a i rest = rest va
  close_then close_line va a i rest = rest va
  close_then goto_line va a i rest = rest va
  close_then tail_call va a i rest = rest va
  close_then insn_line va a i rest = rest va

  -- a while-line closes "the latest do-line still open", and its instruction is a branch back to that line's address
  abbrev pub LoopsClose : ℕ → List Line → List ℕ → Type 0
  LoopsClose va [] addresses = Unit {0}
  LoopsClose va (l ∷ ls) [] = ⊥
  LoopsClose va (l ∷ ls) (a ∷ addresses) = close_then l.what va a l.at (λ va'. LoopsClose va' ls addresses)
