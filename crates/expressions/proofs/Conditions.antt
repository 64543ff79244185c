-- A condition, by the tests that its coders make.
-- Each test picks its case, and a word by its number is the definition's token.
use mathlib.Core.Path.{◌≡◌, sym, ap, ◌∙◌}
use mathlib.Core.Bool.{Bool, true, false}
use mathlib.Core.List.{List, [], ◌∷◌, ◌++◌}
use Prim.Native.Nat.{ℕ, ◌-◌, ◌≤◌, ◌<◌}
use borrow.Author.Tests.{lt-ltb, le-ltb, eq-eqb, ne_eqb}
use Rattle.tokens.specs.Token.{Token, punct}
use Rattle.tokens.specs.Words.{words, word_token}
use Rattle.x86.specs.Mnemonics.{is_bt_or_imul}
use Rattle.x86.specs.Conditions.{relation_after_other}
use Rattle.record.specs.declared.header.Header.{Header}
use Rattle.std.specs.Prelude.{Option, Some, None}
use Rattle.record.specs.Layout.{bodies_of}
use Rattle.record.specs.Body.{body_at, mnemonic_of}
use Rattle.codes.specs.Coded.{Coded}
use Rattle.codes.proofs.Coding.{coded_more}
use Rattle.operand.specs.Expr.{wrap_if}
use Rattle.operand.specs.Memory.{number}
use Rattle.operand.specs.Operand.{op_tokens}
use Rattle.operand.specs.Alike.{alike}
use Rattle.expressions.specs.Condition.{operator, flags_word, relation_or, unsigned_if, flag_writer, after_cmp, tested, after_test, after_other, after_writer, condition_tokens}

module _ {t s c : List ℕ} where
  -- a relation between what is compared
  pub related : {c₁ c₂ : List ℕ} {a b : List Token} (cc r R : ℕ) → r ≡ R → r < 6 → Coded t s c c₁ a → Coded t s c₁ c₂ (operator r ∷ b)
      → Coded t s c c₂ (relation_or cc R (a ++ (operator R ∷ b)))
  related cc r R e h p q = rw (← e, lt-ltb r 6 h) (coded_more t s p q)

  -- `(unsigned)` in front, or not
  module _ {c₁ : List ℕ} {ts : List Token} (b U : Bool) (e : b ≡ U) where
    pub as_unsigned : {c₂ : List ℕ} → b ≡ true → Coded t s c c₁ (word_token 57 ∷ []) → Coded t s c₁ c₂ ts → Coded t s c c₂ (unsigned_if U ts)
    unfolding word_token words
    as_unsigned h p q = rw (← e, h) (coded_more t s p q)

    pub as_it_is : b ≡ false → Coded t s c c₁ ts → Coded t s c c₁ (unsigned_if U ts)
    as_it_is h p = rw (← e, h) p

  -- both operands of TEST, and the same in parentheses
  pub and_between : {c₁ c₂ c₃ : List ℕ} {a b : List Token} → Coded t s c c₁ a → Coded t s c₁ c₂ (word_token 9 ∷ []) → Coded t s c₂ c₃ b
      → Coded t s c c₃ (a ++ (punct " & " ∷ b))
  unfolding word_token words
  and_between p q r = coded_more t s p (coded_more t s q r)

  pub in_parentheses : {c₁ c₂ c₃ : List ℕ} {ts : List Token} → Coded t s c c₁ (word_token 2 ∷ []) → Coded t s c₁ c₂ ts → Coded t s c₂ c₃ (word_token 3 ∷ [])
      → Coded t s c c₃ (wrap_if true ts)
  unfolding word_token words
  in_parentheses p q r = coded_more t s p (coded_more t s q r)

-- no relation is printed
pub no_relation : (cc r R : ℕ) (ts : List Token) → r ≡ R → 6 ≤ r → flags_word cc ∷ [] ≡ relation_or cc R ts
no_relation cc r R ts e t = rw (← e, le-ltb r 6 t)

module _ (h : Header) (s b : List ℕ) where
  -- what TEST compares with 0
  module _ (a : Bool) (e : a ≡ alike h s b) where
    pub tested_one : a ≡ true → op_tokens h s b 0 ≡ tested h s b
    tested_one t = rw (← e, t)

    pub tested_both : a ≡ false → wrap_if true (op_tokens h s b 0 ++ (punct " & " ∷ op_tokens h s b 1)) ≡ tested h s b
    tested_both t = rw (← e, t)

  -- after the other writers: not BT or IMUL, or one of them
  module _ (cc m : ℕ) (e : m ≡ mnemonic_of b) where
    pub other_than : is_bt_or_imul m ≡ false
        → relation_or cc (relation_after_other cc) (op_tokens h s b 0 ++ (operator (relation_after_other cc) ∷ number false 0 ∷ [])) ≡ after_other h s b cc
    other_than t = rw (← e, t)

    pub bt_or_imul : is_bt_or_imul m ≡ true → flags_word cc ∷ [] ≡ after_other h s b cc
    bt_or_imul t = rw (← e, t)

  -- which writer it was
  module _ (cc m : ℕ) (e : m ≡ mnemonic_of b) where
    pub by_cmp : m ≡ 38 → after_cmp h s b cc ≡ after_writer h s b cc
    unfolding after_writer
    by_cmp t = rw (← e, eq-eqb m 38 t)

    pub by_test : (m ≡ 38 → ⊥) → m ≡ 39 → after_test h s b cc ≡ after_writer h s b cc
    unfolding after_writer
    by_test t u = rw (← e, ne_eqb m 38 t, eq-eqb m 39 u)

    pub by_other : (m ≡ 38 → ⊥) → (m ≡ 39 → ⊥) → after_other h s b cc ≡ after_writer h s b cc
    unfolding after_writer
    by_other t u = rw (← e, ne_eqb m 38 t, ne_eqb m 39 u)

-- whether there was one
module _ (h : Header) (s bodies : List ℕ) (first i cc : ℕ) (w : Option ℕ) (e : bodies ≡ bodies_of h s) (f : w ≡ flag_writer bodies first (i - first)) where
  found : (v : Option ℕ) → w ≡ v → flag_writer (bodies_of h s) first (i - first) ≡ v
  found v t = sym (ap (λ (l : List ℕ). flag_writer l first (i - first)) e) ∙ sym f ∙ t

  pub at_writer : (p : ℕ) (b : List ℕ) → w ≡ Some p → b ≡ body_at bodies p → after_writer h s b cc ≡ condition_tokens h s first i cc
  unfolding condition_tokens
  at_writer p b t u = rw (found (Some p) t) (ap (λ (l : List ℕ). after_writer h s l cc) (u ∙ ap (λ (l : List ℕ). body_at l p) e))

  pub at_none : w ≡ None → flags_word cc ∷ [] ≡ condition_tokens h s first i cc
  unfolding condition_tokens
  at_none t = rw (found None t)
