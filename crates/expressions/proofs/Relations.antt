-- The words of the operators and of the conditions, by their numbers.
-- Each is computed once for all of them.
use mathlib.Core.Path.{◌≡◌, refl, sym, ap, ◌∙◌}
use mathlib.Core.Bool.{true, false, ◌&&◌, false≢true}
use mathlib.Core.List.{[]}
use Prim.Native.Nat.{ℕ, zero, suc, ◌+◌, ◌<◌}
use native.Mathlib.Omega.{arith}
use borrow.Author.Tests.{ltb-true}
use lib.Dec.{ltb}
use Rattle.lists.specs.Entries.{tab, entry}
use Rattle.lists.specs.Every.{both_yes}
use Rattle.tokens.specs.Token.{token}
use Rattle.tokens.specs.Words.{words, word_token}
use Rattle.x86.specs.Conditions.{condition_names, condition_name, operator_text}
use Rattle.expressions.specs.Condition.{operator, flags_word}

-- the words of the operators are the relations' texts, in order
operators : tab (λ r. word_token (10 + r)) 0 6 ≡ tab operator 0 6
unfolding word_token words operator_text
operators = refl

pub operator_word : (r : ℕ) → r < 6 → word_token (10 + r) ≡ operator r
operator_word r h =
    entry (λ r. word_token (10 + r)) 6 (tab operator 0 6) (token 0 []) operators r h
    ∙ sym (entry operator 6 (tab operator 0 6) (token 0 []) refl r h)

-- the words of the conditions, in order
conditions : tab (λ k. word_token (76 + k)) 0 16 ≡ tab (λ k. flags_word (suc k)) 0 16
unfolding word_token words condition_name condition_names
conditions = refl

pub flags_word_lem : (cc : ℕ) → (ltb 0 cc && ltb cc 17) ≡ true → word_token (75 + cc) ≡ flags_word cc
flags_word_lem zero t = absurd (false≢true t)
flags_word_lem (suc k) t =
    let h : k < 16 = omega (arith, ltb-true (suc k) 17 (both_yes (ltb 0 (suc k)) (ltb (suc k) 17) t).1) in
    let e : 75 + suc k ≡ 76 + k = omega arith in
    ap word_token e
    ∙ entry (λ k. word_token (76 + k)) 16 (tab (λ k. flags_word (suc k)) 0 16) (token 0 []) conditions k h
    ∙ sym (entry (λ k. flags_word (suc k)) 16 (tab (λ k. flags_word (suc k)) 0 16) (token 0 []) refl k h)

pub no_flags_word : (cc : ℕ) → (ltb 0 cc && ltb cc 17) ≡ false → word_token 255 ≡ flags_word cc
unfolding word_token words
no_flags_word cc t = rw t
