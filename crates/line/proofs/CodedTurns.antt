-- A loop that codes lines: those coded and those left are all of them; and the registers written behind a line.
-- One turn codes the line in front of what is left; only an instruction's own line changes the mask.
use mathlib.Core.Path.{◌≡◌, refl, sym, ap, ◌∙◌}
use mathlib.Core.List.{List, [], ◌∷◌, ◌++◌, map, append_assoc, append-nil}
use Prim.Native.Nat.{ℕ, ◌+◌, ◌≤◌, ◌<◌}
use native.Mathlib.Numerals.{add-one}
use lib.ListN.{length, get_or, drop, drop_of_length-le}
use lib.Seq.{drop-cons}
use Rattle.tokens.specs.Token.{Token}
use Rattle.record.specs.declared.header.Header.{Header}
use Rattle.codes.specs.Coded.{Coded}
use Rattle.codes.specs.Lines.{CodedLines}
use Rattle.codes.proofs.CodedLines.{lines_more}
use Rattle.structure.specs.Reads.{what_in, instruction_in}
use Rattle.expressions.specs.Condition.{body_of}
use Rattle.expressions.specs.Arguments.{written_after}
use Rattle.line.specs.Lines.{line_in}
use Rattle.line.specs.Print.{line_tokens, mask_after, printed}
use Rattle.line.proofs.Turns.{mask_early, mask_late}

-- what a way leaves stands where the ways meet
pub met : {t s c c₁ c₂ : List ℕ} {a b : List Token} → c₂ ≡ c₁ → a ≡ b → length c₁ ≡ length c → Coded t s c c₁ a → (length c₂ ≡ length c) × Coded t s c c₂ b
met e f n x = rw (e, ← f) (n, x)

-- the list c became c': of all lines those before `left` are coded
pub record LinesSofar (t s c c' : List ℕ) (all left : List (List Token)) : Type 0 where
  pub front : List (List Token)
  pub coded : CodedLines t s c c' front
  pub parts : all ≡ front ++ left

module _ {t s c : List ℕ} {all : List (List Token)} where
  pub at_first : CodedLines t s c c [] → LinesSofar t s c c all all
  at_first x = record { front = []; coded = x; parts = refl }

  pub next_line : {c₁ c₂ : List ℕ} {l : List Token} {ls rest : List (List Token)} → LinesSofar t s c c₁ all ls → ls ≡ l ∷ rest → CodedLines t s c₁ c₂ (l ∷ [])
      → LinesSofar t s c c₂ all rest
  next_line {l = l} {rest = rest} p e x = record {
    front = p.front ++ (l ∷ []);
    coded = lines_more t s p.coded x;
    parts = p.parts ∙ ap (λ (k : List (List Token)). p.front ++ k) e ∙ sym (append_assoc p.front (l ∷ []) rest);
  }

  pub at_last : {c₁ : List ℕ} {ls : List (List Token)} → LinesSofar t s c c₁ all ls → ls ≡ [] → CodedLines t s c c₁ all
  at_last p e = rw (p.parts ∙ ap (λ (k : List (List Token)). p.front ++ k) e ∙ append-nil p.front) p.coded

module _ (h : Header) (s : List ℕ) (mask code what : ℕ) (w : what ≡ what_in code) where
  pub mask_same : what < 8 → mask ≡ mask_after h s mask (line_in code).what (line_in code).at
  unfolding line_in
  mask_same l = rw (← w) (mask_early h s what mask (instruction_in code) l)

  pub mask_changed : (i r : ℕ) (b : List ℕ) → 8 ≤ what → i ≡ instruction_in code → b ≡ body_of h s i → r ≡ written_after mask b
      → r ≡ mask_after h s mask (line_in code).what (line_in code).at
  unfolding line_in
  mask_changed i r b l e p q = rw (← w, ← e) (mask_late h s what mask i r b l p q)

module _ (h : Header) (s : List ℕ) (range : ℕ) (cs : List ℕ) (i mask : ℕ) where
  -- the line in front, and those behind it with the mask m
  pub printed_step : (m : ℕ) → i < length cs → m ≡ mask_after h s mask (line_in (get_or cs i 0)).what (line_in (get_or cs i 0)).at
      → printed h s range mask (map line_in (drop i cs)) ≡ line_tokens h s range mask (line_in (get_or cs i 0)) ∷ printed h s range m (map line_in (drop (i + 1) cs))
  unfolding printed
  printed_step m l e = rw (drop-cons cs i 0 l, e, add-one)

  pub printed_done : length cs ≤ i → printed h s range mask (map line_in (drop i cs)) ≡ []
  unfolding printed
  printed_done l = rw (drop_of_length-le cs l)
