-- What the readers of an entry read is its token.
-- The part of the pairs and the part of the texts are the definition's.
use mathlib.Core.Path.{◌≡◌, sym, ap, ◌∙◌}
use mathlib.Core.List.{List}
use mathlib.Core.Bool.{Bool, true, false, ◌&&◌}
use Prim.Native.Nat.{ℕ, ◌+◌, ◌<◌}
use lib.Dec.{eqb, leb}
use lib.ListN.{drop, take}
use borrow.Author.Tests.{eq-eqb, ne_eqb}
use Rattle.lists.specs.Choice.{any_below}
use Rattle.lists.specs.Below.{any_found, any_goes_on}
use Rattle.text.specs.Literal.{literal_text}
use Rattle.tokens.specs.Token.{token}
use Rattle.record.specs.declared.header.Header.{Header}
use Rattle.record.specs.Layout.{pairs_of, texts_of, spans_of}
use Rattle.record.specs.Atlas.{entry_kind, entry_length, entry_text, text_start, span_first, span_last}
use Rattle.operand.specs.Names.{entry_token, in_span}

-- a part that begins at a is the one that begins at b
pub part_is : (s r : List ℕ) (a b : ℕ) → r ≡ drop a s → a ≡ b → r ≡ drop b s
part_is s r a b p q = p ∙ ap (λ (n : ℕ). drop n s) q

module _ (h : Header) (s pairs texts t : List ℕ) (k kind start n : ℕ)
    (p : pairs ≡ pairs_of h s) (q : kind ≡ entry_kind pairs k) (u : texts ≡ texts_of h s)
    (a : start ≡ text_start pairs k) (b : n ≡ entry_length pairs k) (v : t ≡ take n (drop start texts)) where
  kind_is : kind ≡ entry_kind (pairs_of h s) k
  kind_is = q ∙ ap (λ (l : List ℕ). entry_kind l k) p

  text_is : t ≡ entry_text (pairs_of h s) (texts_of h s) k
  text_is = rw (v, a, b, u, p)

  pub name_is : kind ≡ 3 → token 4 t ≡ entry_token h s k
  unfolding entry_token
  name_is e = rw (← kind_is, ← text_is, eq-eqb kind 3 e)

  pub literal_is : (kind ≡ 3 → ⊥) → token 5 (literal_text (eqb kind 2) t) ≡ entry_token h s k
  unfolding entry_token
  literal_is e = rw (← kind_is, ← text_is, ne_eqb kind 3 e)

-- span k holds the address
abbrev pub holds : List ℕ → ℕ → ℕ → Bool
holds spans va k = leb (span_first spans k) va && leb va (span_last spans k)

-- span k as it was read
module _ (spans : List ℕ) (va k f l : ℕ) (a : f ≡ span_first spans k) (b : l ≡ span_last spans k) where
  asked : (leb f va && leb va l) ≡ holds spans va k
  asked = simp (a, b)

  pub inside : (n : ℕ) → k < n → (leb f va && leb va l) ≡ true → true ≡ any_below (holds spans va) n
  inside n h e = sym (any_found (holds spans va) n k h (sym asked ∙ e))

  pub outside : any_below (holds spans va) k ≡ false → (leb f va && leb va l) ≡ false → any_below (holds spans va) (k + 1) ≡ false
  outside q e = any_goes_on (holds spans va) k q (sym asked ∙ e)

-- all spans are the record's
pub of_record_lem : (h : Header) (s spans : List ℕ) (va : ℕ) → spans ≡ spans_of h s → any_below (holds spans va) h.spans ≡ in_span h s va
unfolding in_span
of_record_lem h s spans va p = rw p

pub nowhere : (h : Header) (s spans : List ℕ) (va k : ℕ) → spans ≡ spans_of h s → k ≡ h.spans → any_below (holds spans va) k ≡ false → false ≡ in_span h s va
nowhere h s spans va k p q e = sym e ∙ ap (any_below (holds spans va)) q ∙ of_record_lem h s spans va p
