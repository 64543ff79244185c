-- An instruction's own line shows a condition only where the instruction is a setcc or a cmovcc.
-- Of the forms that the operands decide none shows one; of those that the mnemonic decides a test of the table, computed.
use mathlib.Core.Path.{◌≡◌, refl}
use mathlib.Core.Bool.{Bool, true, false, ◌&&◌, ◌||◌}
use mathlib.Core.List.{List, [], ◌∷◌}
use Prim.Native.Nat.{ℕ}
use lib.Dec.{T, eqb, leb}
use borrow.Author.Tests.{eqb-true}
use Rattle.lists.specs.Choice.{pick}
use Rattle.lists.specs.Every.{every, both_left, both_right}
use Rattle.x86.specs.Mnemonics as mnemonic
use Rattle.x86.specs.Registers.{register_size}
use Rattle.record.specs.Body.{mnemonic_of, operand_count, operand_kind, operand_register, base_of, sets_by_condition}
use Rattle.operand.specs.Memory.{is_ip}
use Rattle.operand.proofs.Choices.{either}
use Rattle.line.specs.Forms.{Piece, Form, row_of, cast_form, is_xor_self, is_and_zero, is_or_ones, imul_form, call_form, xchg_form, plain_forms, form_in, plain_form, logic_form, return_form, jump_form, insn_form}
use Rattle.line.specs.Forms.Piece.{fixed, op, address, zeros, ones, condition, negated, arguments, target, start, accumulator, assembly}

-- how much of the line's instruction a piece reads: 0 nothing, 1 what stands before it, 2 its body, 3 its condition
abbrev pub reach : Piece → ℕ
reach (fixed t) = 0
reach (op k) = 2
reach address = 2
reach zeros = 0
reach ones = 0
reach condition = 3
reach negated = 3
reach arguments = 1
reach (target w) = 0
reach start = 0
reach accumulator = 0
reach assembly = 2

abbrev pub reaches : ℕ → List Piece → Bool
reaches n ps = every (λ p. leb (reach p) n) ps

-- the form reads no condition, or the mnemonic sets by one
abbrev pub told : Form → ℕ → Bool
told f m = reaches 2 (row_of f) || sets_by_condition m

record Told (b : List ℕ) (f : Form) : Type 0 where
  is : T (told f (mnemonic_of b))

-- a form whose row reads none
read : {b : List ℕ} {f : Form} → reaches 2 (row_of f) ≡ true → Told b f
read e = record { is = rw e tt }

module _ (b : List ℕ) where
  abbrev m : ℕ
  m = mnemonic_of b

  by_mnemonic : (es : List (ℕ × Form)) → T (every (λ (e : ℕ × Form). told e.1 e.0) es) → Told b (form_in es m)
  unfolding row_of
  by_mnemonic [] t = record { is = tt }
  by_mnemonic (e ∷ es) t = go (eqb m e.0) refl (both_left (told e.1 e.0) _ t) (by_mnemonic es (both_right (told e.1 e.0) _ t))
    where
      go : (q : Bool) → eqb m e.0 ≡ q → T (told e.1 e.0) → Told b (form_in es m) → Told b (pick q e.1 (form_in es m))
      go true p t r = record { is = rw (eqb-true m e.0 p) t }
      go false p t r = r

  plain_told : Told b (plain_form m)
  unfolding plain_form row_of
  plain_told = by_mnemonic plain_forms tt

  form_told : (value : Bool) → Told b (insn_form value b)
  unfolding insn_form cast_form imul_form call_form return_form jump_form xchg_form logic_form row_of
  form_told value =
      let narrow = eqb (register_size (operand_register b 0)) 4 in
      either (Told b) (leb mnemonic.movzx m && leb m mnemonic.movsxd) _ _
      (either (Told b) (eqb m mnemonic.movzx) _ _
      (either (Told b) narrow _ _ (read refl) (read refl)) (either (Told b) narrow _ _ (read refl) (read refl)))
      (either (Told b) (eqb m mnemonic.imul) _ _
      (either (Told b) (eqb (operand_count b) 3) _ _ (read refl) (either (Told b) (leb 2 (operand_count b)) _ _ (read refl) (read refl)))
      (either (Told b) (eqb m mnemonic.call) _ _
      (either (Told b) (eqb (operand_kind b 0) 2) _ _ (read refl)
      (either (Told b) (eqb (operand_kind b 0) 1 && (is_ip (base_of b) || eqb (base_of b) 0)) _ _ (read refl) (read refl)))
      (either (Told b) (eqb m mnemonic.ret) _ _ (either (Told b) value _ _ (read refl) (read refl))
      (either (Told b) (eqb m mnemonic.jmp) _ _ (either (Told b) (eqb (operand_kind b 0) 1) _ _ (read refl) (read refl))
      (either (Told b) (eqb m mnemonic.xchg) _ _
      (either (Told b) (eqb (operand_kind b 0) 1) _ _ (read refl) (either (Told b) (eqb (operand_kind b 1) 1) _ _ (read refl) (read refl)))
      (either (Told b) (leb mnemonic.xor m && leb m mnemonic.or) _ _
      (either (Told b) (eqb m mnemonic.xor && is_xor_self b) _ _ (read refl)
      (either (Told b) (eqb m mnemonic.and && is_and_zero b) _ _ (read refl)
      (either (Told b) (eqb m mnemonic.or && is_or_ones b) _ _ (read refl) plain_told)))
      plain_told))))))

  pub insn_told : (value : Bool) → T (told (insn_form value b) (mnemonic_of b))
  insn_told value = (form_told value).is
