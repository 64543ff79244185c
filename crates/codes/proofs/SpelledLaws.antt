-- What stands at an index of the text of codes, and whether two texts are the same.
-- An index below the length of a code's text stands in it; one that is not stands in the text of the codes behind.
use Rattle.std.proofs.Common.{◌≡◌, ℕ, ◌+◌, ◌-◌, ◌<◌, ◌≤◌, true, false, ◌&&◌, eqb, leb, List, ◌∷◌, length, get_or, drop, sym, ap, ◌∙◌, add-one, arith, drop_of_length-le, drop-cons, eq-eqb, ne_eqb, le-leb}
use native.Mathlib.Decide.{dec_le}
use lib.ListN.{get_or-append}
use borrow.Author.Tests.{lt-leb}
use Rattle.lists.specs.Choice.{pick}
use Rattle.x86.specs.Words.{same_word}
use Rattle.text.proofs.ByteLaws.{at_behind}
use Rattle.codes.specs.Code.{Event, what_in, has_value, text_in, event, decode}
use Rattle.codes.specs.Spelled.{spelled}
use Rattle.codes.proofs.Decoded.{event_token, event_end, decode_at}

module _ (t s : List ℕ) where
  -- a code with m bytes of text before events
  module _ (c v m k : ℕ) (es : List Event) (e : m ≡ pick (leb 7 (what_in c)) 0 (length (text_in t s c v))) where
    none : 7 ≤ what_in c → m ≡ 0
    none h = rw (le-leb 7 (what_in c) h) at e

    all : what_in c < 7 → m ≡ length (text_in t s c v)
    all h = rw (lt-leb 7 (what_in c) h) at e

    in_first : k < m → get_or (spelled (event t s c v ∷ es)) k 0 ≡ get_or (text_in t s c v) k 0
    unfolding spelled
    in_first h =
        elim (dec_le 7 (what_in c)) [
          | yes p ↦ absurd (omega (arith, none p))
          | no p ↦
              let q : what_in c < 7 = omega arith in
              ap (λ (x : Event). get_or (spelled (x ∷ es)) k 0) (event_token t s c v q) ∙ get_or-append (text_in t s c v) (spelled es) 0 k (omega (arith, all q))
        ]

    behind_first : m ≤ k → get_or (spelled (event t s c v ∷ es)) k 0 ≡ get_or (spelled es) (k - m) 0
    unfolding spelled
    behind_first h =
        elim (dec_le 7 (what_in c)) [
          | yes p ↦
              let z : k ≡ k - m = omega (arith, none p) in
              ap (λ (x : Event). get_or (spelled (x ∷ es)) k 0) (event_end t s c v p) ∙ ap (λ (i : ℕ). get_or (spelled es) i 0) z
          | no p ↦
              let q : what_in c < 7 = omega arith in
              ap (λ (x : Event). get_or (spelled (x ∷ es)) k 0) (event_token t s c v q) ∙ at_behind (text_in t s c v) (spelled es) k m (all q) h
        ]

  -- the code at index i, which takes n numbers and has m bytes of text
  module _ (cs : List ℕ) (i n v m k : ℕ) (h : i < length cs) (a : n ≡ pick (has_value (get_or cs i 0)) 2 1) (b : v ≡ get_or cs (i + 1) 0)
      (e : m ≡ pick (leb 7 (what_in (get_or cs i 0))) 0 (length (text_in t s (get_or cs i 0) v))) where
    pub in_code : (r x : ℕ) → k < m → r ≡ get_or (text_in t s (get_or cs i 0) v) k 0 → get_or (spelled (decode t s (drop i cs))) k 0 ≡ x → r ≡ x
    in_code r x l f g =
        f ∙ sym (in_first (get_or cs i 0) v m k (decode t s (drop (i + n) cs)) e l) ∙ sym (ap (λ (es : List Event). get_or (spelled es) k 0) (decode_at t s cs i n v h a b)) ∙ g

    pub behind_code : m ≤ k → get_or (spelled (decode t s (drop i cs))) k 0 ≡ get_or (spelled (decode t s (drop (i + n) cs))) (k - m) 0
    behind_code l =
        ap (λ (es : List Event). get_or (spelled es) k 0) (decode_at t s cs i n v h a b) ∙ behind_first (get_or cs i 0) v m k (decode t s (drop (i + n) cs)) e l

  pub behind_all : (cs : List ℕ) (i k : ℕ) → length cs ≤ i → get_or (spelled (decode t s (drop i cs))) k 0 ≡ 0
  unfolding spelled decode
  behind_all cs i k h = rw (drop_of_length-le cs h)

-- two texts of n bytes, from index j on
module _ (A B : List ℕ) (n j : ℕ) (a : n ≡ length A) (b : n ≡ length B) where
  module _ (h : j < n) (x y : ℕ) (p : x ≡ get_or A j 0) (q : y ≡ get_or B j 0) where
    parted : same_word (drop j A) (drop j B) ≡ (eqb x y && same_word (drop (j + 1) A) (drop (j + 1) B))
    parted = rw (drop-cons A j 0 (omega arith), drop-cons B j 0 (omega arith), add-one, ← p, ← q)

    pub same_further : x ≡ y → same_word (drop (j + 1) A) (drop (j + 1) B) ≡ same_word (drop j A) (drop j B)
    same_further e = sym (parted ∙ rw (eq-eqb x y e))

    pub same_no_more : (x ≡ y → ⊥) → false ≡ same_word (drop j A) (drop j B)
    same_no_more e = sym (parted ∙ rw (ne_eqb x y e))

  pub same_all : n ≤ j → true ≡ same_word (drop j A) (drop j B)
  same_all h =
      let f : length A ≤ j = omega arith in
      let g : length B ≤ j = omega arith in
      rw (drop_of_length-le A f, drop_of_length-le B g)
