-- The name and the operands of `__asm`, from one of their parts to the next.
-- What is left of a name or of the operands is one shorter at each turn.
use mathlib.Core.Path.{◌≡◌, refl, ap, ◌∙◌}
use mathlib.Core.Bool.{true, false}
use mathlib.Core.List.{List, [], ◌++◌}
use Prim.Native.Nat.{ℕ, suc, ◌+◌, ◌-◌, ◌≤◌, ◌<◌}
use native.Mathlib.Numerals.{add-one}
use native.Mathlib.Omega.{arith}
use lib.Dec.{eqb, ltb}
use borrow.Author.Tests.{lt-ltb}
use Rattle.lists.specs.Choice.{pick}
use Rattle.lists.specs.Bytes.{u8_at}
use Rattle.tokens.specs.Token.{Token}
use Rattle.record.specs.declared.header.Header.{Header}
use Rattle.record.specs.Body.{operand_count}
use Rattle.operand.specs.Operand.{op_tokens}
use Rattle.expressions.specs.Arguments.{comma_if}
use Rattle.expressions.proofs.Commas.{comma_front}
use Rattle.line.specs.Print.{length_from, name_length, assembled}

module _ (n : List ℕ) (k : ℕ) where
  pub length_step : k < 24 → length_from n k (24 - k) ≡ pick (eqb (u8_at n k) 0) k (length_from n (k + 1) (24 - (k + 1)))
  unfolding length_from
  length_step h = let e : 24 - k ≡ suc (24 - (k + 1)) = omega arith in rw (e, add-one)

  pub length_end : 24 ≤ k → k ≤ 24 → length_from n k (24 - k) ≡ 24
  unfolding length_from
  length_end h g = let e : 24 - k ≡ 0 = omega arith in let f : k ≡ 24 = omega arith in rw (e, f)

pub length_all : (n : List ℕ) → length_from n 0 24 ≡ name_length n
unfolding name_length
length_all n = refl

module _ (h : Header) (s b : List ℕ) where
  -- the operands from i on, of n
  abbrev pub operands_left : ℕ → ℕ → List Token
  operands_left n i = assembled h s b (ltb 0 i) i (n - i)

  pub operand_step : (n i : ℕ) → i < n → operands_left n i ≡ comma_if (ltb 0 i) (op_tokens h s b i) ++ operands_left n (i + 1)
  unfolding assembled
  operand_step n i l =
      let d : n - i ≡ suc (n - (i + 1)) = omega arith in
      let t : ltb 0 (i + 1) ≡ true = lt-ltb 0 (i + 1) (omega arith) in
      let a : comma_if (ltb 0 i) (op_tokens h s b i) ++ assembled h s b true (suc i) (n - (i + 1)) ≡ comma_if (ltb 0 i) (op_tokens h s b i) ++ operands_left n (i + 1) =
      rw t (rw add-one) in
      ap (assembled h s b (ltb 0 i) i) d ∙ comma_front (ltb 0 i) (op_tokens h s b i) (assembled h s b true (suc i) (n - (i + 1))) ∙ a

  pub operands_done : (n i : ℕ) → n ≤ i → operands_left n i ≡ []
  unfolding assembled
  operands_done n i l = let d : n - i ≡ 0 = omega arith in rw d

  pub operands_all : (n : ℕ) → n ≡ operand_count b → operands_left n 0 ≡ assembled h s b false 0 (operand_count b)
  operands_all n e = let d : n - 0 ≡ n = omega arith in rw (d, e)
