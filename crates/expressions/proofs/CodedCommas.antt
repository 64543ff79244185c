-- The arguments of a call, by the tests that their coders make.
-- Each test picks its case; word 4 is the comma.
use mathlib.Core.Path.{◌≡◌}
use mathlib.Core.Bool.{Bool, true, false}
use mathlib.Core.List.{List, [], ◌∷◌}
use Prim.Native.Nat.{ℕ, ◌-◌, ◌≤◌, ◌<◌}
use lib.Dec.{ltb}
use borrow.Author.Tests.{lt-ltb, le-ltb}
use Rattle.tokens.specs.Token.{Token}
use Rattle.tokens.specs.Words.{words, word_token}
use Rattle.record.specs.declared.header.Header.{Header}
use Rattle.record.specs.Layout.{bodies_of}
use Rattle.codes.specs.Coded.{Coded}
use Rattle.codes.proofs.Coding.{coded_more}
use Rattle.operand.specs.Memory.{register_token}
use Rattle.expressions.specs.Arguments.{comma_if, pushes_back, pushed}

module _ {t s c : List ℕ} where
  pub with_comma : {c₁ c₂ : List ℕ} {ts : List Token} (b : Bool) → b ≡ true → Coded t s c c₁ (word_token 4 ∷ []) → Coded t s c₁ c₂ ts → Coded t s c c₂ (comma_if b ts)
  unfolding word_token words
  with_comma b e p q = rw e (coded_more t s p q)

  pub no_comma : {c₁ : List ℕ} {ts : List Token} (b : Bool) → b ≡ false → Coded t s c c₁ ts → Coded t s c c₁ (comma_if b ts)
  no_comma b e p = rw e p

  -- register k as it was read
  module _ (r q k : ℕ) (e : r ≡ q) where
    pub nth_behind : {c₁ c₂ : List ℕ} → 0 < k → Coded t s c c₁ (word_token 4 ∷ []) → Coded t s c₁ c₂ (register_token r ∷ []) → Coded t s c c₂ (comma_if (ltb 0 k) (register_token q ∷ []))
    nth_behind h p x = rw (← e) (with_comma (ltb 0 k) (lt-ltb 0 k h) p x)

    pub nth_first : {c₁ : List ℕ} → k ≤ 0 → Coded t s c c₁ (register_token r ∷ []) → Coded t s c c₁ (comma_if (ltb 0 k) (register_token q ∷ []))
    nth_first h x = rw (← e) (no_comma (ltb 0 k) (le-ltb 0 k h) x)

-- the pushes in the record's bodies
pub all_pushed : (h : Header) (s bodies : List ℕ) (first i : ℕ) → bodies ≡ bodies_of h s
    → pushed h s false (pushes_back h.bits h.frame bodies first (i - first)) ≡ pushed h s false (pushes_back h.bits h.frame (bodies_of h s) first (i - first))
all_pushed h s bodies first i e = rw e
