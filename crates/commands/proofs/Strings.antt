-- The string that a token tells is the one whose literal it is, and each literal of at most 80 characters tells its string.
-- Character by character: a spelling tells its byte, and does not begin with a quote.
use mathlib.Core.Path.{◌≡◌, refl, sym, ap, ◌∙◌}
use mathlib.Core.Bool.{Bool, true, false, ◌&&◌}
use mathlib.Core.List.{List, [], ◌∷◌, ◌++◌, append_assoc}
use Rattle.std.specs.Prelude.{Some, None}
use Prim.Native.Nat.{ℕ, zero, suc, ◌≤◌, ◌<◌}
use native.Mathlib.Omega.{arith}
use lib.Dec.{eqb, ltb}
use lib.ListN.{length, drop, get_or}
use lib.Seq.{take_all, drop-append_seam}
use borrow.Author.Tests.{eqb-true, eq-eqb, ne_eqb, ltb-true, le-ltb}
use Rattle.lists.specs.Every.{both_yes}
use Rattle.x86.specs.Words.{same_word}
use Rattle.text.specs.Literal.{escape, escapes, opening, closing, literal_text}
use Rattle.tokens.specs.Token.{Token}
use Rattle.lists.proofs.Tests.{split}
use Rattle.strings.specs.Called.{is_string, IsLiteral}
use Rattle.strings.specs.Reading.{guess_of}
use Rattle.strings.proofs.Spellings.{spelling_tells}
use Rattle.commands.specs.Literals.{characters_of, is_wide, read_off, string_of}
use Rattle.commands.proofs.Same.{same_equal, same_self}

-- ---- soundness
few_characters : (n : ℕ) (t : List ℕ) → length (characters_of n t) ≤ n
unfolding characters_of
few_characters zero t = omega arith
few_characters (suc n) t =
    split (eqb (get_or t 0 0) 34)
    (λ h. rw h (omega arith))
    (λ h. rw h (omega (arith, few_characters n (drop (length (escape (guess_of t))) t))))

pub string_sound : (t : Token) (s : List ℕ) → string_of t ≡ Some s → (wide : Bool) × (IsLiteral t.kind t.bytes wide s × (length s ≤ 80))
unfolding string_of
string_sound t s e =
    let w = is_wide t.bytes in
    let u = read_off t.bytes in
    let same = same_word (literal_text w u) t.bytes in
    split (eqb t.kind 5 && (is_string u && same))
    (λ h.
    let a = both_yes (eqb t.kind 5) (is_string u && same) h in
    let b = both_yes (is_string u) same a.1 in
    let f : Some u ≡ Some s = rw h at e in
    let g : u ≡ s = cc in
    let is : IsLiteral t.kind t.bytes w u = record { token = eqb-true t.kind 5 a.0; string = b.0; text = same_equal (literal_text w u) t.bytes b.1 } in
    (w, (rw g at is, rw g at (few_characters 80 (drop (length (opening w)) t.bytes)))))
    (λ h. let f : None ≡ Some s = rw h at e in let z : ◌≡◌ {A = ℕ} 0 1 = cc in absurd (omega arith))

-- ---- completeness
-- the spelling of a quote begins with a backslash
quote_spelling : (r : List ℕ) → get_or (escape 34 ++ r) 0 0 ≡ 92
unfolding escape
quote_spelling r = refl

no_quote : (x : ℕ) (r : List ℕ) → x < 0x80 → get_or (escape x ++ r) 0 0 ≡ 34 → ⊥
no_quote x r h e =
    let g : guess_of (escape x ++ r) ≡ 34 = rw e in
    let v : x ≡ 34 = sym (spelling_tells x r h) ∙ g in
    omega (arith, e, ap (λ (y : ℕ). get_or (escape y ++ r) 0 0) v, quote_spelling r)

-- the characters of a string are read off as the string, up to the quote
characters_back : (n : ℕ) (s : List ℕ) → is_string s ≡ true → length s ≤ n → characters_of n (escapes s ++ closing false) ≡ s
unfolding characters_of escapes closing
characters_back zero [] h l = refl
characters_back zero (b ∷ s) h l = absurd (omega arith)
characters_back (suc n) [] h l = refl
characters_back (suc n) (b ∷ s) h l =
    let q = both_yes (ltb b 0x80) (is_string s) h in
    let r = escapes s ++ closing false in
    let k : b < 0x80 = ltb-true b 0x80 q.0 in
    let e : eqb (get_or (escape b ++ r) 0 0) 34 ≡ false = ne_eqb (get_or (escape b ++ r) 0 0) 34 (no_quote b r k) in
    rw (append_assoc (escape b) (escapes s) (closing false), e, spelling_tells b r k, drop-append_seam (escape b) r, characters_back n s q.1 (omega arith))

wide_back : (wide : Bool) (s : List ℕ) → is_wide (literal_text wide s) ≡ wide
unfolding literal_text opening
wide_back true s = refl
wide_back false s = refl

module _ (wide : Bool) (s : List ℕ) (h : is_string s ≡ true) (l : length s ≤ 80) where
  inside : literal_text wide s ≡ opening wide ++ (escapes s ++ closing false)
  unfolding literal_text
  inside = rw (take_all 80 s l, le-ltb 80 (length s) l)

  read_back : read_off (literal_text wide s) ≡ s
  read_back = rw (wide_back, inside, drop-append_seam) (characters_back 80 s h l)

pub string_complete : (t : Token) (wide : Bool) (s : List ℕ) → IsLiteral t.kind t.bytes wide s → length s ≤ 80 → string_of t ≡ Some s
unfolding string_of
string_complete t wide s q l =
    rw (← q.text, read_back wide s q.string l, wide_back wide s, eq-eqb t.kind 5 q.token, q.string, same_self (literal_text wide s))
