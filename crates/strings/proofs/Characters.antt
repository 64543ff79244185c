-- Characters one behind the other: one more, the next one of a string, and that a literal has the characters of one string only.
-- Each by the first or the last byte of the string.
use mathlib.Core.Path.{◌≡◌, refl, sym, ap, ◌∙◌}
use mathlib.Core.Bool.{Bool, true}
use mathlib.Core.List.{List, [], ◌∷◌, ◌++◌, append_assoc, append-nil, append_cancel_left}
use Prim.Native.Nat.{ℕ, zero, suc, ◌+◌, ◌≤◌, ◌<◌}
use native.Mathlib.Numerals.{add-one}
use native.Mathlib.Omega.{arith}
use lib.Dec.{ltb}
use lib.ListN.{length, take, drop, get_or, set, length-append, length-drop, length-set, drop_of_length-le}
use lib.Seq.{drop-cons, drop-drop, drop_at}
use borrow.Author.Tests.{ltb-true, lt-ltb}
use Rattle.lists.specs.Every.{both_yes}
use Rattle.lists.specs.Put.{put}
use Rattle.lists.specs.PutLaws.{put_cons, put_none}
use Rattle.text.specs.Literal.{escape, escapes, closing}
use Rattle.strings.specs.Called.{is_string}
use Rattle.std.specs.Prelude.{None}
use Rattle.strings.specs.Reading.{guess_of, Begun, Spelt, Begins, Characters, Filled}
use Rattle.strings.proofs.Spellings.{spelling_tells, no_end}

-- ---- strings
small : (b : ℕ) (s : List ℕ) → is_string (b ∷ s) ≡ true → (b < 0x80) × (is_string s ≡ true)
small b s h = let f = both_yes (ltb b 0x80) (is_string s) h in (ltb-true b 0x80 f.0, f.1)

pub string_more : (s : List ℕ) (b : ℕ) → is_string s ≡ true → b < 0x80 → is_string (s ++ (b ∷ [])) ≡ true
string_more [] b h l = rw (lt-ltb b 0x80 l)
string_more (a ∷ s) b h l = let f = both_yes (ltb a 0x80) (is_string s) h in rw f.0 (string_more s b f.1 l)

pub string_take : (n : ℕ) (s : List ℕ) → is_string s ≡ true → is_string (take n s) ≡ true
string_take zero s h = refl
string_take (suc n) [] h = refl
string_take (suc n) (a ∷ s) h = let f = both_yes (ltb a 0x80) (is_string s) h in rw f.0 (string_take n s f.1)

string_drop : (n : ℕ) (s : List ℕ) → is_string s ≡ true → is_string (drop n s) ≡ true
string_drop zero s h = h
string_drop (suc n) [] h = refl
string_drop (suc n) (a ∷ s) h = string_drop n s (both_yes (ltb a 0x80) (is_string s) h).1

escapes_more : (s : List ℕ) (b : ℕ) → escapes (s ++ (b ∷ [])) ≡ escapes s ++ escape b
unfolding escapes
escapes_more [] b = append-nil (escape b)
escapes_more (a ∷ s) b = rw (escapes_more s b, append_assoc)

-- ---- one character more, where p is what is left of t
pub begins_none : (t : List ℕ) → Begins t 0 0
unfolding escapes
begins_none t = record { bytes = []; string = refl; count = refl; few = omega arith; within = omega arith; text = refl }

module _ (t p : List ℕ) (n i b k : ℕ) (e : p ≡ drop i t) (c : Begun p b k) (w : Begins t n i) where
  left_from_lem : p ≡ escape b ++ drop k p → t ≡ (escapes w.bytes ++ escape b) ++ drop (i + k) t
  left_from_lem q = w.text ∙ ap (λ (l : List ℕ). escapes w.bytes ++ l) (sym e ∙ q ∙ rw (e, drop-drop)) ∙ sym (append_assoc (escapes w.bytes) (escape b) (drop (i + k) t))

  pub begins_more : n < 80 → Begins t (n + 1) (i + k)
  begins_more l =
      let f = c.is in
      record {
        bytes = w.bytes ++ (b ∷ []);
        string = string_more w.bytes b w.string f.0;
        count = rw length-append (omega (arith, w.count));
        few = omega arith;
        within = omega (arith, c.within, ap length e, length-drop i t, w.within);
        text = rw escapes_more (left_from_lem f.1);
      }

pub begins_last : (t p : List ℕ) (n i : ℕ) → p ≡ drop i t → Spelt p None → Begins t n i → Characters t n i
begins_last t p n i e c w = record { begins = w; last = λ _ x r l q. c x r l (e ∙ q) }

pub begins_all : (t : List ℕ) (n i : ℕ) → 80 ≤ n → Begins t n i → Characters t n i
begins_all t n i h w = record { begins = w; last = λ l. absurd (omega arith) }

-- ---- the next character of a string s, with r behind its literal's characters
-- what is left to store, where i bytes of t are read and k of the n bytes are stored in l
pub record Filling (t : List ℕ) (n : ℕ) (out : List ℕ) (i k : ℕ) (l : List ℕ) : Type 0 where
  pub within : i ≤ length t
  pub few : k ≤ n
  pub long : length l ≡ length out
  pub text : (s r : List ℕ) → is_string s ≡ true → length s ≡ n → t ≡ escapes s ++ r → drop i t ≡ escapes (drop k s) ++ r
  pub bytes : (s r : List ℕ) → is_string s ≡ true → length s ≡ n → t ≡ escapes s ++ r → put k (drop k s) l ≡ put 0 s out

-- where no character is left, no more were asked for
pub filling_stop : (t p out l : List ℕ) (n i k : ℕ) → p ≡ drop i t → Spelt p None → Filling t n out i k l → k < n → Filled t n out l
unfolding escapes
filling_stop t p out l n i k e c w h =
    record {
      bytes = λ s r g q f.
          let d : drop k s ≡ get_or s k 0 ∷ drop (suc k) s = drop-cons s k 0 (omega arith) in
          let b : get_or s k 0 < 0x80 = (small (get_or s k 0) (drop (suc k) s) (ap is_string (sym d) ∙ string_drop k s g)).0 in
          absurd
          (c (get_or s k 0) (escapes (drop (suc k) s) ++ r) b
          (e ∙ w.text s r g q f ∙ ap (λ (z : List ℕ). escapes z ++ r) d ∙ append_assoc (escape (get_or s k 0)) (escapes (drop (suc k) s)) r));
    }

pub filling_end : (t : List ℕ) (n : ℕ) (out : List ℕ) (i k : ℕ) (l : List ℕ) → Filling t n out i k l → n ≤ k → Filled t n out l
filling_end t n out i k l w h =
    record { bytes = λ s r g q e. rw (drop_of_length-le s {i = k} (omega arith), put_none) at (w.bytes s r g q e) }

module _ (t p out l l' : List ℕ) (n i k b m : ℕ) (e : p ≡ drop i t) (c : Begun p b m) (d : l' ≡ set l k b) (w : Filling t n out i k l) (h : k < n) where
  module _ (s r : List ℕ) (g : is_string s ≡ true) (q : length s ≡ n) (f : t ≡ escapes s ++ r) where
    abbrev x : ℕ
    x = get_or s k 0

    abbrev later : List ℕ
    later = drop (k + 1) s

    parts : drop k s ≡ x ∷ later
    parts = rw add-one (drop-cons s k 0 (omega arith))

    is_small : x < 0x80
    is_small = (small x later (ap is_string (sym parts) ∙ string_drop k s g)).0

    here : p ≡ escape x ++ (escapes later ++ r)
    unfolding escapes
    here = e ∙ w.text s r g q f ∙ ap (λ (z : List ℕ). escapes z ++ r) parts ∙ append_assoc (escape x) (escapes later) r

    spelt : (b ≡ x) × (m ≡ length (escape x))
    spelt = c.only x (escapes later ++ r) is_small here

    next_text : drop (i + m) t ≡ escapes later ++ r
    next_text = sym (drop-drop m i t) ∙ rw (← e, here) (drop_at (escape x) (escapes later ++ r) m (sym spelt.1))

    next_bytes : put (k + 1) later l' ≡ put 0 s out
    next_bytes = rw (d, spelt.0) (sym (put_cons k x later l) ∙ ap (λ (z : List ℕ). put k z l) (sym parts) ∙ w.bytes s r g q f)

  pub filling_more : Filling t n out (i + m) (k + 1) l'
  filling_more =
      record {
        within = omega (arith, c.within, ap length e, length-drop i t, w.within);
        few = omega arith;
        long = ap length d ∙ length-set l k b ∙ w.long;
        text = next_text;
        bytes = next_bytes;
      }

-- ---- the characters s with u behind them are those of a literal
pub same_characters : (s z u : List ℕ) (cut : Bool) → is_string s ≡ true → is_string z ≡ true
    → (length s < length z → (x : ℕ) (r : List ℕ) → x < 0x80 → u ≡ escape x ++ r → ⊥) → escapes s ++ u ≡ escapes z ++ closing cut → (s ≡ z) × (u ≡ closing cut)
unfolding escapes
same_characters [] [] u cut g h f e = (refl, e)
same_characters [] (b ∷ z) u cut g h f e = absurd (f (omega arith) b _ (small b z h).0 (e ∙ append_assoc (escape b) (escapes z) (closing cut)))
same_characters (a ∷ s) [] u cut g h f e = absurd (no_end a _ (small a s g).0 cut (sym (append_assoc (escape a) (escapes s) u) ∙ e))
same_characters (a ∷ s) (b ∷ z) u cut g h f e =
    let i = small a s g in
    let j = small b z h in
    let q : escape a ++ (escapes s ++ u) ≡ escape b ++ (escapes z ++ closing cut)
    = sym (append_assoc (escape a) (escapes s) u) ∙ e ∙ append_assoc (escape b) (escapes z) (closing cut) in
    let v : a ≡ b = sym (spelling_tells a _ i.0) ∙ ap guess_of q ∙ spelling_tells b _ j.0 in
    let k = append_cancel_left (escape a) (escapes s ++ u) (escapes z ++ closing cut) (q ∙ rw v) in
    let y = same_characters s z u cut i.1 j.1 (λ l. f (omega arith)) k in
    (rw (v, y.0), y.1)
