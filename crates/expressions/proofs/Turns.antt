-- A loop that codes tokens: those coded and those left are all of them.
-- One turn codes what stands in front of what is left.
use mathlib.Core.Path.{◌≡◌, refl, sym, ap, ◌∙◌}
use mathlib.Core.List.{List, [], ◌++◌, append_assoc, append-nil}
use Prim.Native.Nat.{ℕ}
use Rattle.tokens.specs.Token.{Token}
use Rattle.codes.specs.Coded.{Coded}
use Rattle.codes.proofs.Coding.{coded_more}
use Rattle.operand.proofs.Tokens.{as_tokens}

-- the list c became c': of all tokens those before `left` are coded
pub record Sofar (t s c c' : List ℕ) (all left : List Token) : Type 0 where
  pub front : List Token
  pub coded : Coded t s c c' front
  pub parts : all ≡ front ++ left

module _ {t s c : List ℕ} {all : List Token} where
  pub at_start : Coded t s c c [] → Sofar t s c c all all
  at_start x = record { front = []; coded = x; parts = refl }

  pub further : {c₁ c₂ : List ℕ} {ts a b : List Token} → Sofar t s c c₁ all ts → ts ≡ a ++ b → Coded t s c₁ c₂ a → Sofar t s c c₂ all b
  further {a = a} {b = b} p e x = record {
    front = p.front ++ a;
    coded = coded_more t s p.coded x;
    parts = p.parts ∙ ap (λ (l : List Token). p.front ++ l) e ∙ sym (append_assoc p.front a b);
  }

  -- a turn that codes nothing
  pub over : {c₁ : List ℕ} {ts b : List Token} → Sofar t s c c₁ all ts → ts ≡ b → Sofar t s c c₁ all b
  over p e = record { front = p.front; coded = p.coded; parts = p.parts ∙ ap (λ (l : List Token). p.front ++ l) e }

  pub at_end : {c₁ : List ℕ} {ts : List Token} → Sofar t s c c₁ all ts → ts ≡ [] → Coded t s c c₁ all
  at_end p e = as_tokens (sym (p.parts ∙ ap (λ (l : List Token). p.front ++ l) e ∙ append-nil p.front)) p.coded
