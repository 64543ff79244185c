-- The tokens of a condition and of a call's arguments are fit for rows, where question 8 got a yes of the bodies before the instruction.
-- A relation that is printed has an operator, a condition from 1 to 16 a word; the flag writer and the pushes stand before.
use mathlib.Core.Path.{◌≡◌, refl}
use mathlib.Core.Bool.{Bool, true, false}
use mathlib.Core.List.{List, [], ◌∷◌, ◌++◌}
use Prim.Native.Nat.{ℕ, zero, suc, ◌+◌, ◌-◌, ◌≤◌, ◌<◌}
use native.Mathlib.Decide.{dec_le}
use native.Mathlib.Omega.{arith}
use borrow.Author.Tests.{lt-ltb, ltb-true}
use lib.Dec.{eqb, ltb}
use lib.ListN.{take}
use Rattle.lists.specs.Every.{every, both_yes}
use Rattle.tokens.specs.Token.{Token, punct, keyword}
use Rattle.tokens.proofs.Fit.{Fit, none, fixed, one, behind}
use Rattle.x86.specs.Registers.{register_exists}
use Rattle.x86.specs.Mnemonics.{push, call, cmp, test, writes_flags, is_bt_or_imul}
use Rattle.x86.specs.Width.{passes_registers}
use Rattle.x86.specs.Conditions.{relation_after_cmp, relation_after_test, relation_after_other, prints_unsigned}
use Rattle.x86.specs.Conventions.{microsoft, system_v, argument_registers, argument_count}
use Rattle.x86.proofs.Named.{operator_some}
use Rattle.record.specs.declared.header.Header.{Header}
use Rattle.record.specs.Layout.{bodies_of}
use Rattle.record.specs.Body.{body_at, mnemonic_of}
use Rattle.record.proofs.Bodies.{Proper}
use Rattle.record.specs.Asked.{atlas_asked}
use Rattle.std.specs.Prelude.{Option, Some, None}
use Rattle.operand.specs.Alike.{alike}
use Rattle.operand.specs.Memory.{number}
use Rattle.operand.specs.Operand.{op_tokens}
use Rattle.operand.proofs.Choices.{either}
use Rattle.operand.proofs.Fit.{register_fit, number_fit, wrap_fit, op_fit}
use Rattle.cfg.proofs.Within.{FoundOk, last_ok, pick_both}
use Rattle.expressions.specs.Condition.{operator, flags_word, relation_or, unsigned_if, flag_writer, body_of, tested, after_writer, condition_after, condition_tokens}
use Rattle.expressions.specs.Arguments.{comma_if, listed, register_arguments, is_unskipped, pushes_back, pushed, argument_tokens}

pub comma_fit : (b : Bool) {ts : List Token} → Fit ts → Fit (comma_if b ts)
comma_fit true p = behind (fixed (punct ", ") tt) p
comma_fit false p = p

unsigned_fit : (b : Bool) {ts : List Token} → Fit ts → Fit (unsigned_if b ts)
unsigned_fit true p = behind (fixed (keyword "(unsigned)") tt) p
unsigned_fit false p = p

-- the argument registers
listed_fit : (comma : Bool) (n : ℕ) (rs : List ℕ) → every register_exists rs ≡ true → Fit (listed comma (take n rs))
unfolding listed
listed_fit comma zero rs e = none
listed_fit comma (suc n) [] e = none
listed_fit comma (suc n) (r ∷ rs) e =
    let f = both_yes (register_exists r) (every register_exists rs) e in
    comma_fit comma (behind (register_fit r f.0) (listed_fit true n rs f.1))

registers_fit : (convention mask : ℕ) → Fit (register_arguments convention mask)
unfolding register_arguments argument_registers register_exists
registers_fit convention mask =
    listed_fit false (argument_count convention mask) (argument_registers convention)
    (either (λ (rs : List ℕ). every register_exists rs ≡ true) (eqb convention 0) microsoft system_v refl refl)

-- condition cc is one of 1 to 16
module _ (cc : ℕ) (low : 1 ≤ cc) (high : cc ≤ 16) where
  flags_fit : Fit (flags_word cc ∷ [])
  flags_fit = rw (lt-ltb 0 cc low, lt-ltb cc 17 (omega arith)) (one 3 _ (omega arith) (omega arith))

  -- a relation is printed with its operator
  relation_fit : (r : ℕ) (ts : List Token) → (Fit (operator r ∷ []) → Fit ts) → Fit (relation_or cc r ts)
  relation_fit r ts f =
      pick_both Fit (ltb r 6) ts (flags_word cc ∷ []) (λ e. f (one 6 _ (omega arith) (operator_some r (ltb-true r 6 e)))) (λ _. flags_fit)

  module _ (h : Header) (s : List ℕ) (asked : atlas_asked h s ≡ true) where
    module _ (b : List ℕ) (ok : Proper b) where
      operand_fit : (k : ℕ) → k < 5 → Fit (op_tokens h s b k)
      operand_fit k l = op_fit h s asked b ok k l

      first_fit : Fit (op_tokens h s b 0)
      first_fit = operand_fit 0 (omega arith)

      second_fit : Fit (op_tokens h s b 1)
      second_fit = operand_fit 1 (omega arith)

      tested_fit : Fit (tested h s b)
      tested_fit = either Fit (alike h s b) _ _ first_fit (wrap_fit true (behind first_fit (behind (fixed (punct " & ") tt) second_fit)))

      against_zero : (r : ℕ) {ts : List Token} → Fit ts → Fit (relation_or cc r (ts ++ (operator r ∷ number false 0 ∷ [])))
      against_zero r p = relation_fit r _ (λ o. behind p (behind o (number_fit false 0)))

      after_writer_lem : Fit (after_writer h s b cc)
      unfolding after_writer
      after_writer_lem =
          either Fit (eqb (mnemonic_of b) cmp) _ _
          (relation_fit (relation_after_cmp cc) _ (λ o. behind (unsigned_fit (prints_unsigned cc) first_fit) (behind o second_fit)))
          (either Fit (eqb (mnemonic_of b) test) _ _ (against_zero (relation_after_test cc) tested_fit)
          (either Fit (is_bt_or_imul (mnemonic_of b)) _ _ flags_fit (against_zero (relation_after_other cc) first_fit)))

    pub condition_fit : (first i : ℕ) → ((k : ℕ) → k < i → Proper (body_of h s k)) → Fit (condition_tokens h s first i cc)
    unfolding condition_tokens flag_writer
    condition_fit first i ok = go (flag_writer (bodies_of h s) first (i - first)) (last_ok (λ k. writes_flags (mnemonic_of (body_at (bodies_of h s) k))) first (i - first))
      where
        go : (w : Option ℕ) → FoundOk (λ k. writes_flags (mnemonic_of (body_at (bodies_of h s) k))) first (i - first) w → Fit (condition_after h s w cc)
        go (Some p) f = after_writer_lem (body_of h s p) (ok p (omega (arith, f.0, f.1)))
        go None f = flags_fit

-- the pushes before a call
module _ (h : Header) (s : List ℕ) (asked : atlas_asked h s ≡ true) where
  abbrev pushes : ℕ → ℕ → List ℕ
  pushes first n = pushes_back h.bits h.frame (bodies_of h s) first n

  pushed_fit : (comma : Bool) (first n : ℕ) → ((k : ℕ) → k < first + n → Proper (body_of h s k)) → Fit (pushed h s comma (pushes first n))
  unfolding pushed pushes_back
  pushed_fit comma first zero ok = none
  pushed_fit comma first (suc n) ok =
      either (λ is. Fit (pushed h s comma is)) (is_unskipped h.bits h.frame (bodies_of h s) call (first + n)) _ _ none
      (either (λ is. Fit (pushed h s comma is)) (is_unskipped h.bits h.frame (bodies_of h s) push (first + n)) _ _
      (comma_fit comma
      (behind (op_fit h s asked (body_of h s (first + n)) (ok (first + n) (omega arith)) 0 (omega arith)) (pushed_fit true first n (λ k l. ok k (omega arith)))))
      (pushed_fit comma first n (λ k l. ok k (omega arith))))

  pub arguments_fit : (first i mask : ℕ) → ((k : ℕ) → k < i → Proper (body_of h s k)) → Fit (argument_tokens h s first i mask)
  unfolding argument_tokens pushes_back pushed
  arguments_fit first i mask ok =
      either Fit (passes_registers h.bits) _ _ (registers_fit h.convention mask)
      (elim (dec_le first i) [
        | yes a ↦ pushed_fit false first (i - first) (λ k l. ok k (omega arith))
        | no a ↦ let e : i - first ≡ 0 = omega arith in rw e none
      ])
