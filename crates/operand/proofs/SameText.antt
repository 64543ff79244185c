-- The text of tokens coded from the first code on, and whether two such texts are the same.
-- Codes behind none read back as the tokens, whose texts stand one behind the other; the same codes have the same text.
use mathlib.Core.Path.{◌≡◌, refl, sym, ap, ◌∙◌}
use mathlib.Core.Bool.{Bool, true, false}
use mathlib.Core.List.{List, [], ◌∷◌, ◌++◌, append-nil}
use Prim.Native.Nat.{ℕ, ◌+◌, ◌≤◌}
use native.Mathlib.Omega.{arith}
use lib.ListN.{length, get_or, take, length-drop}
use lib.Seq.{take_at}
use borrow.Author.Tests.{eq-eqb}
use Rattle.lists.specs.Put.{put}
use Rattle.lists.specs.PutLaws.{put_fits}
use Rattle.tokens.specs.Token.{Token}
use Rattle.tokens.specs.Listing.{text_of}
use Rattle.x86.specs.Words.{same_word}
use Rattle.codes.specs.Code.{decode}
use Rattle.codes.specs.Coded.{count_in, codes_in, last_in, is_plain, counted, marked, Coded, Started}
use Rattle.codes.specs.Spelled.{spelled}
use Rattle.operand.proofs.Texts.{other_lengths}
use Rattle.operand.specs.Alone.{Alone}

-- tokens keep their texts, whatever they count as
text_kept : (p : Bool) (l : ℕ) (ts : List Token) → spelled (marked l (counted p ts)) ≡ text_of ts
unfolding spelled marked counted text_of
text_kept p l [] = refl
text_kept true l (t ∷ ts) = ap (λ (x : List ℕ). t.bytes ++ x) (text_kept true 0 ts)
text_kept false l (t ∷ ts) = ap (λ (x : List ℕ). t.bytes ++ x) (text_kept false t.kind ts)

module _ (t s c c' : List ℕ) (ts : List Token) (a : Started c) (f : Coded t s c c' ts) where
  cells_text : spelled (decode t s f.cells) ≡ text_of ts
  unfolding decode
  cells_text =
      let M = marked (last_in c) (counted (is_plain c) ts) in
      ap (λ (l : List ℕ). spelled (decode t s l)) (sym (append-nil f.cells)) ∙ ap spelled (f.reads [] ∙ append-nil M) ∙ text_kept (is_plain c) (last_in c) ts

  pub coded_alone : 33 ≤ length c → length c' ≡ length c → length ts ≤ 14 → length (text_of ts) ≤ 487 → Alone t s c' (text_of ts)
  coded_alone room same few short =
      let n : count_in c' ≡ length f.cells = omega (arith, f.count, a.no_codes, f.few) in
      let z : count_in c ≡ 0 = a.no_codes in
      let fits : 0 + length f.cells ≤ length (codes_in c) = omega (arith, length-drop 5 c, f.few) in
      let codes : codes_in c' ≡ put 0 f.cells (codes_in c) = f.codes (omega (arith, z, f.few)) ∙ ap (λ (k : ℕ). put k f.cells (codes_in c)) z in
      let front : take (count_in c') (codes_in c') ≡ f.cells = rw (codes, put_fits 0 f.cells (codes_in c) fits) (take_at f.cells _ (count_in c') (sym n)) in
      record {
        bytes = omega (arith, f.bytes, a.no_bytes);
        fits = omega (arith, f.few);
        text = ap (λ (l : List ℕ). spelled (decode t s l)) front ∙ cells_text;
      }

pub same_self : (x : List ℕ) → same_word x x ≡ true
same_self [] = refl
same_self (x ∷ xs) = rw (eq-eqb x x refl, same_self xs)

-- two texts, each alone in a list
module _ (t s c d x y : List ℕ) (p : Alone t s c x) (q : Alone t s d y) (n m : ℕ) (e : n ≡ get_or c 0 0) (f : m ≡ get_or d 0 0) where
  pub counts_differ : (n ≡ m → ⊥) → false ≡ same_word x y
  counts_differ h = sym (other_lengths x y (λ l. h (e ∙ p.bytes ∙ l ∙ sym q.bytes ∙ sym f)))

  module _ (a b : List ℕ) (u : a ≡ take (count_in c) (codes_in c)) (v : b ≡ take (count_in d) (codes_in d)) where
    first_text : spelled (decode t s a) ≡ x
    first_text = ap (λ (l : List ℕ). spelled (decode t s l)) u ∙ p.text

    second_text : spelled (decode t s b) ≡ y
    second_text = ap (λ (l : List ℕ). spelled (decode t s l)) v ∙ q.text

    pub both_counts : n ≡ m → (n ≡ length (spelled (decode t s a))) × (n ≡ length (spelled (decode t s b)))
    both_counts h = (e ∙ p.bytes ∙ ap length (sym first_text), h ∙ f ∙ q.bytes ∙ ap length (sym second_text))

    pub codes_same : a ≡ b → true ≡ same_word x y
    codes_same h =
        let z : x ≡ y = sym first_text ∙ ap (λ (l : List ℕ). spelled (decode t s l)) h ∙ second_text in
        sym (same_self y) ∙ ap (λ (l : List ℕ). same_word l y) (sym z)

    pub texts_same : (r : Bool) → r ≡ same_word (spelled (decode t s a)) (spelled (decode t s b)) → r ≡ same_word x y
    texts_same r h = h ∙ rw (first_text, second_text)
