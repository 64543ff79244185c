-- The spelling of a byte below 0x80 tells the byte, whatever stands behind it, and does not begin as the end of a literal does.
-- One test, computed, of all such bytes. So a text begins with one spelling at most.
use mathlib.Core.Path.{◌≡◌, sym, ap, ◌∙◌}
use mathlib.Core.Bool.{Bool, true, false, ◌&&◌, ◌||◌, not}
use mathlib.Core.List.{List, [], ◌∷◌, ◌++◌}
use Prim.Native.Nat.{ℕ, ◌≤◌, ◌<◌}
use native.Mathlib.Omega.{arith}
use lib.Dec.{T, eqb, ltb, eqb→eq, ltb→lt}
use lib.ListN.{length, take, get_or, length-take, take-append-drop}
use lib.Seq.{take-append_seam}
use Rattle.lists.specs.Choice.{all_below}
use Rattle.lists.specs.Below.{below_at}
use Rattle.lists.specs.Every.{both_left, both_right}
use Rattle.lists.specs.Put.{put}
use Rattle.lists.specs.PutLaws.{put_fits}
use Rattle.text.specs.Number.{digit, hex_of, hex_text}
use Rattle.text.specs.Literal.{unseen, code_text, escape, closing}
use Rattle.std.specs.Prelude.{Some, None}
use Rattle.strings.specs.Reading.{guess_of, Spelt}

-- a byte that an end of a literal begins with
abbrev ends : ℕ → Bool
ends c = eqb c 34 || eqb c 0xe2

-- the spelling of x, with r behind it
abbrev tells : List ℕ → ℕ → Bool
tells r x = eqb (guess_of (escape x ++ r)) x && (ltb 0 (length (escape x)) && not (ends (get_or (escape x ++ r) 0 0)))

computed : (r : List ℕ) → T (all_below (tells r) 0x80)
unfolding escape unseen code_text hex_text hex_of digit
computed r = tt

module _ (x : ℕ) (r : List ℕ) (h : x < 0x80) where
  told : T (tells r x)
  told = below_at (tells r) 0x80 (computed r) x h

  abbrev further : Bool
  further = ltb 0 (length (escape x)) && not (ends (get_or (escape x ++ r) 0 0))

  behind : T further
  behind = both_right (eqb (guess_of (escape x ++ r)) x) further told

  pub spelling_tells : guess_of (escape x ++ r) ≡ x
  spelling_tells = eqb→eq (guess_of (escape x ++ r)) x (both_left (eqb (guess_of (escape x ++ r)) x) further told)

  pub spelling_some : 0 < length (escape x)
  spelling_some = ltb→lt 0 (length (escape x)) (both_left (ltb 0 (length (escape x))) _ behind)

  goes_on : T (not (ends (get_or (escape x ++ r) 0 0)))
  goes_on = both_right (ltb 0 (length (escape x))) _ behind

  pub no_end : (cut : Bool) → escape x ++ r ≡ closing cut → ⊥
  unfolding closing
  no_end true e = rw e at goes_on
  no_end false e = rw e at goes_on

-- ---- as the code has it: b was read off t, its spelling was stored in six bytes, and p and q are compared
module _ (t : List ℕ) (b : ℕ) (g : b ≡ guess_of t) where
  read_off : (x : ℕ) (r : List ℕ) → x < 0x80 → t ≡ escape x ++ r → b ≡ x
  read_off x r h e = g ∙ ap guess_of e ∙ spelling_tells x r h

  pub too_large : 0x80 ≤ b → Spelt t None
  too_large l x r h e = let q = read_off x r h e in omega arith

  module _ (n : ℕ) (w p q : List ℕ) (k : n ≡ length (escape b)) (few : n ≤ 6) (s : w ≡ put 0 (escape b) (0 ∷ 0 ∷ 0 ∷ 0 ∷ 0 ∷ 0 ∷ []))
      (f : p ≡ take n t) (d : q ≡ take n w) where
    stored : q ≡ escape b
    stored = d ∙ rw (s, put_fits 0 (escape b) (0 ∷ 0 ∷ 0 ∷ 0 ∷ 0 ∷ 0 ∷ []) (omega arith), k, take-append_seam)

    pub found : b < 0x80 → p ≡ q → Spelt t (Some (record { byte = b; size = n }))
    found l y =
        let e : take n t ≡ escape b = sym f ∙ y ∙ stored in
        record {
          within = omega (arith, length-take n t, ap length e);
          is = (l, sym (take-append-drop n t) ∙ rw e);
          only = λ x r h z. let v = read_off x r h z in (v, k ∙ ap (λ (m : ℕ). length (escape m)) v);
        }

    pub other : (p ≡ q → ⊥) → Spelt t None
    other y x r h z =
        let v = read_off x r h z in
        let e : p ≡ escape b = f ∙ rw (z, k, v, take-append_seam) in
        y (e ∙ sym stored)
