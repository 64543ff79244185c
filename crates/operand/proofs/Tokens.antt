-- Tokens coded one behind the other, and parentheses around.
-- Coders compose by `coded-more`; each law takes what the callees ensure of the lists between.
use mathlib.Core.Path.{◌≡◌}
use mathlib.Core.Bool.{Bool, true, false}
use mathlib.Core.List.{List, [], ◌∷◌, append-nil}
use Prim.Native.Nat.{ℕ}
use Rattle.lists.specs.Choice.{pick}
use Rattle.tokens.specs.Token.{Token}
use Rattle.tokens.specs.Words.{words, word_token}
use Rattle.codes.specs.Coded.{Coded}
use Rattle.codes.proofs.Coding.{coded_more}
use Rattle.operand.specs.Expr.{wrap_if}

module _ {t s : List ℕ} where
  -- tokens that are others
  pub as_tokens : {c c₁ : List ℕ} {a b : List Token} → a ≡ b → Coded t s c c₁ a → Coded t s c c₁ b
  as_tokens e x = rw (← e) x

  pub two : {c c₁ c₂ : List ℕ} {x y : Token} → Coded t s c c₁ (x ∷ []) → Coded t s c₁ c₂ (y ∷ []) → Coded t s c c₂ (x ∷ y ∷ [])
  two f g = coded_more t s f g

  pub three : {c c₁ c₂ c₃ : List ℕ} {x y z : Token} → Coded t s c c₁ (x ∷ []) → Coded t s c₁ c₂ (y ∷ []) → Coded t s c₂ c₃ (z ∷ [])
      → Coded t s c c₃ (x ∷ y ∷ z ∷ [])
  three f g k = coded_more t s f (two g k)

  -- parentheses where they are wanted
  pub enclosed : {c c₁ c₂ c₃ : List ℕ} (l : Bool) (ts : List Token) → Coded t s c c₁ (pick l (word_token 2 ∷ []) [])
      → Coded t s c₁ c₂ ts → Coded t s c₂ c₃ (pick l (word_token 3 ∷ []) []) → Coded t s c c₃ (wrap_if l ts)
  unfolding word_token words
  enclosed true ts p q r = coded_more t s p (coded_more t s q r)
  enclosed false ts p q r = as_tokens (append-nil ts) (coded_more t s p (coded_more t s q r))
