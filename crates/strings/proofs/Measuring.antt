-- What the first pass finds in a text is what the literal of a string says, and only a literal is found.
-- By its parts: the opening, the characters, the end.
use mathlib.Core.Path.{◌≡◌, sym, ap, ◌∙◌}
use mathlib.Core.Bool.{Bool, true, false}
use mathlib.Core.List.{List, [], ◌∷◌, ◌++◌}
use Prim.Native.Nat.{ℕ, ◌≤◌}
use native.Mathlib.Omega.{arith}
use lib.Dec.{eqb, ltb}
use lib.ListN.{length, drop, length-append, length-take}
use lib.Seq.{take_all, take_at}
use borrow.Author.Tests.{ltb-true, lt-ltb, le-ltb}
use Rattle.lists.specs.Choice.{pick}
use Rattle.text.specs.Literal.{escapes, opening, closing, literal_text}
use Rattle.lists.proofs.Tests.{split}
use Rattle.strings.specs.Called.{is_string, kept}
use Rattle.std.specs.Prelude.{Some, None}
use Rattle.strings.specs.Reading.{Opened, Opens, Characters, Ended, Ends, Found, Measured}
use Rattle.strings.specs.declared.literal.Literal.{Literal}
use Rattle.strings.proofs.Characters.{string_more, string_take, same_characters}

-- ---- a string with these characters, and one byte more if it was cut
abbrev Is : Bool → List ℕ → Bool → List ℕ → Type 0
Is wide u cut s = (is_string s ≡ true) × (literal_text wide s ≡ opening wide ++ (escapes u ++ closing cut))

cut_string : (wide : Bool) (u : List ℕ) → is_string u ≡ true → length u ≡ 80 → Is wide u true (u ++ (0 ∷ []))
unfolding literal_text
cut_string wide u h n =
    let l : ltb 80 (length (u ++ (0 ∷ []))) ≡ true = lt-ltb 80 (length (u ++ (0 ∷ []))) (rw length-append (omega arith)) in
    (string_more u 0 h (omega arith), rw (l, take_at u (0 ∷ []) 80 n))

whole_string : (wide : Bool) (u : List ℕ) → is_string u ≡ true → length u ≤ 80 → Is wide u false u
unfolding literal_text
whole_string wide u h n = (h, rw (le-ltb 80 (length u) n, take_all 80 u n))

-- ---- the text behind an opening
inside : (t x : List ℕ) (n : ℕ) (wide : Bool) → t ≡ opening wide ++ x → n ≡ pick wide 2 1 → drop n t ≡ x
unfolding opening
inside t x n true e h = rw (h, e)
inside t x n false e h = rw (h, e)

two_if : (n : ℕ) (b : Bool) → n ≡ pick b 2 1 → eqb n 2 ≡ b
two_if n true h = rw h
two_if n false h = rw h

-- ---- no opening, no literal
pub unopened : (t : List ℕ) → Opens t None → Measured t None
unfolding literal_text
unopened t o wide s g h = o wide _ (sym h)

-- ---- as the code has it: p is the text behind an opening of n bytes, q what stands behind its k characters of i bytes
module _ (t p q : List ℕ) (n k i : ℕ) (o : Opened t n) (e : p ≡ drop n t) (c : Characters p k i) (f : q ≡ drop i p) where
  abbrev u : List ℕ
  u = c.begins.bytes

  module _ (wide : Bool) (s : List ℕ) (g : is_string s ≡ true) (h : literal_text wide s ≡ t) where
    abbrev cut : Bool
    cut = ltb 80 (length s)

    opened : n ≡ pick wide 2 1
    unfolding literal_text
    opened = o.only wide _ (sym h)

    behind : p ≡ escapes (kept s) ++ closing cut
    unfolding literal_text
    behind = e ∙ inside t _ n wide (sym h) opened

    same : (u ≡ kept s) × (drop i p ≡ closing cut)
    same =
        same_characters u (kept s) (drop i p) cut c.begins.string (string_take 80 s g)
        (λ l. c.last (omega (arith, c.begins.count, length-take 80 s))) (sym c.begins.text ∙ behind)

    counted : k ≡ length (kept s)
    counted = sym c.begins.count ∙ ap length same.0

    full : cut ≡ true → k ≡ 80
    full y = omega (arith, counted, length-take 80 s, ltb-true 80 (length s) y)

  -- no end, no literal
  pub unended : Ends q k None → Measured t None
  unended d wide s g h = d (cut wide s g h) (full wide s g h) (f ∙ (same wide s g h).1)

  -- b says whether the literal was cut
  module _ (b : Bool) (d : Ended q k b) where
    abbrev found_literal : Literal
    found_literal = record { wide = eqb n 2; cut = b; start = n; count = k }

    -- the text is made of what was found
    text : opening (eqb n 2) ++ (escapes u ++ closing b) ≡ t
    text =
        sym (o.is ∙ ap (λ (l : List ℕ). opening (eqb n 2) ++ l) (sym e ∙ c.begins.text
        ∙ ap (λ (l : List ℕ). escapes c.begins.bytes ++ l) (sym f ∙ d.is)))

    string_of_lem : (s : List ℕ) × Is (eqb n 2) u b s
    string_of_lem =
        split b
        (λ h. (u ++ (0 ∷ []), rw h (cut_string (eqb n 2) u c.begins.string (c.begins.count ∙ d.full h))))
        (λ h. (u, rw h (whole_string (eqb n 2) u c.begins.string (omega (arith, c.begins.count, c.begins.few)))))

    found : (wide : Bool) (s : List ℕ) → is_string s ≡ true → literal_text wide s ≡ t → Found t found_literal wide s
    found wide s g h =
        record {
          is_wide = two_if n wide (opened wide s g h);
          is_cut = d.only (ltb 80 (length s)) (f ∙ (same wide s g h).1);
          count = counted wide s g h;
          text = sym e ∙ behind wide s g h;
        }

    pub measured : Measured t (Some found_literal)
    measured = let w = string_of_lem in record { is = (w.0, (w.1.0, w.1.1 ∙ text)); only = found }
