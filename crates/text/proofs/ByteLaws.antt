-- What stands at an index of a text made of two, of a number's hex text, and of a string's spellings.
-- An index past the first text stands in the second, less the first's length; the hex digits behind the j-th divide away.
use mathlib.Core.Path.{◌≡◌, ap, sym, ◌∙◌}
use mathlib.Core.Bool.{Bool}
use mathlib.Core.List.{List, [], ◌∷◌, ◌++◌, append_assoc}
use Prim.Native.Nat.{ℕ, ◌+◌, ◌-◌, ◌/◌, ◌%◌, ◌≤◌, ◌<◌, min}
use native.Mathlib.Decide.{dec_lt}
use native.Mathlib.Omega.{arith}
use lib.ListN.{length, take, drop, get_or, get_or-append}
use lib.Seq.{get_or-append-add, get_or_at}
use Rattle.text.specs.Number.{digit, hex_text}
use Rattle.text.specs.Literal.{escape, escapes}
use Rattle.text.proofs.LiteralLaws.{escapes_from, escapes_end}
use Rattle.text.specs.NumberLaws.{hex_one, hex_more, hex_count_more}

pub at_behind : (a b : List ℕ) (j n : ℕ) → n ≡ length a → n ≤ j → get_or (a ++ b) j 0 ≡ get_or b (j - n) 0
at_behind a b j n e h =
    let k : j ≡ length a + (j - n) = omega arith in
    ap (λ (i : ℕ). get_or (a ++ b) i 0) k ∙ get_or-append-add a b (j - n) 0

module _ (l : Bool) (w i j : ℕ) where
  -- the last digit
  pub hex_last : i ≡ length (hex_text l w) → i ≡ j + 1 → digit l (w % 16) ≡ get_or (hex_text l w) j 0
  hex_last n e =
      elim (dec_lt w 16) [
        | yes h ↦
            let z : j ≡ 0 = omega (arith, ap length (hex_one l w h)) in
            let m : w % 16 ≡ w = omega arith in
            rw (hex_one l w h, z, m)
        | no h ↦
            let z : length (hex_text l (w / 16)) ≡ j = omega (arith, hex_count_more l w (omega arith)) in
            sym (ap (λ (t : List ℕ). get_or t j 0) (hex_more l w (omega arith)) ∙ get_or_at (hex_text l (w / 16)) (digit l (w % 16)) [] 0 j z)
      ]

  many : i ≡ length (hex_text l w) → j + 1 < i → 16 ≤ w
  many n h = elim (dec_lt w 16) [ yes a ↦ absurd (omega (arith, ap length (hex_one l w a))) | no a ↦ omega arith ]

  -- and one before it
  pub hex_fewer : i ≡ length (hex_text l w) → j + 1 < i → i - 1 ≡ length (hex_text l (w / 16))
  hex_fewer n h = omega (arith, hex_count_more l w (many n h))

  pub hex_before : i ≡ length (hex_text l w) → j + 1 < i → get_or (hex_text l (w / 16)) j 0 ≡ get_or (hex_text l w) j 0
  hex_before n h =
      let b : j < length (hex_text l (w / 16)) = omega (arith, hex_fewer n h) in
      sym (ap (λ (t : List ℕ). get_or t j 0) (hex_more l w (many n h)) ∙ get_or-append (hex_text l (w / 16)) (digit l (w % 16) ∷ []) 0 j b)

-- the spellings from the i-th byte of a string on, and a text behind them
module _ (s z : List ℕ) (i : ℕ) where
  pub escapes_over : min 80 (length s) ≤ i → escapes (drop i (take 80 s)) ++ z ≡ z
  escapes_over h = rw (escapes_end s 80 i h)

  module _ (k m : ℕ) (h : i < min 80 (length s)) (e : m ≡ length (escape (get_or s i 0))) where
    parted : escapes (drop i (take 80 s)) ++ z ≡ escape (get_or s i 0) ++ (escapes (drop (i + 1) (take 80 s)) ++ z)
    parted = ap (λ (t : List ℕ). t ++ z) (escapes_from s 80 i h) ∙ append_assoc (escape (get_or s i 0)) (escapes (drop (i + 1) (take 80 s))) z

    pub escapes_here : k < m → get_or (escapes (drop i (take 80 s)) ++ z) k 0 ≡ get_or (escape (get_or s i 0)) k 0
    escapes_here b =
        ap (λ (t : List ℕ). get_or t k 0) parted ∙ get_or-append (escape (get_or s i 0)) (escapes (drop (i + 1) (take 80 s)) ++ z) 0 k (omega arith)

    pub escapes_further : m ≤ k → get_or (escapes (drop i (take 80 s)) ++ z) k 0 ≡ get_or (escapes (drop (i + 1) (take 80 s)) ++ z) (k - m) 0
    escapes_further b = ap (λ (t : List ℕ). get_or t k 0) parted ∙ at_behind (escape (get_or s i 0)) (escapes (drop (i + 1) (take 80 s)) ++ z) k m e b
