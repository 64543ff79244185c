-- What a store of a hex digit leaves, how many digits there are, how a number's text begins, and the room behind its beginning.
-- The text of w is that of w / 16 and one digit, and the last of a text may be stored first.
use mathlib.Core.Path.{◌≡◌, refl, sym, ap, ◌∙◌}
use mathlib.Core.List.{List, [], ◌∷◌}
use mathlib.Core.Bool.{Bool, true, false}
use Prim.Native.Nat.{ℕ, zero, suc, ◌+◌, ◌-◌, ◌/◌, ◌%◌, ◌≤◌, ◌<◌}
use native.Mathlib.Decide.{dec_lt}
use native.Mathlib.Omega.{arith}
use lib.ListN.{length, set, length-take, length-drop}
use borrow.Author.Tests.{lt-ltb, le-ltb}
use borrow.Rule.Slice.PartMut.{mid_of}
use Rattle.lists.specs.Put.{put}
use Rattle.lists.specs.PutLaws.{put_snoc, put_none}
use Rattle.text.specs.Number.{digit, hex_digits, hex_text, sign, size_text, num_text}
use Rattle.text.specs.NumberLaws.{hex_one, hex_more, hex_count_more, hex_some, hex_digits_length}

-- the lowest k digits, where a number has as many, are its text
pub digits_are : (l : Bool) (k v : ℕ) → k ≡ length (hex_text l v) → hex_digits l k v ≡ hex_text l v
unfolding hex_digits
digits_are l zero v e = absurd (omega (arith, e, hex_some l v))
digits_are l (suc k) v e =
    elim (dec_lt v 16) [
      | yes h ↦
          let z : k ≡ 0 = omega (arith, e, ap length (hex_one l v h)) in
          let m : v % 16 ≡ v = omega arith in
          rw (z, m, hex_one l v h)
      | no h ↦
          let f : k ≡ length (hex_text l (v / 16)) = omega (arith, e, hex_count_more l v (omega arith)) in
          rw (digits_are l k (v / 16) f) (sym (hex_more l v (omega arith)))
    ]

-- a turn stores the last of the i digits that are left
pub digit_turn : (l : Bool) (i w d : ℕ) (e e' : List ℕ) → 0 < i → d ≡ digit l (w % 16) → e' ≡ set e (i - 1) d
    → put 0 (hex_digits l (i - 1) (w / 16)) e' ≡ put 0 (hex_digits l i w) e
unfolding hex_digits
digit_turn l zero w d e e' h p q = absurd (omega arith)
digit_turn l (suc k) w d e e' h p q =
    let at : suc k - 1 ≡ k = omega arith in
    let n : k ≡ 0 + length (hex_digits l k (w / 16)) = omega (arith, hex_digits_length l k (w / 16)) in
    rw (at, put_snoc, ← n, ← p) (ap (put 0 (hex_digits l k (w / 16))) (q ∙ rw at))

-- where none is left, all are stored
pub digits_stored : (l : Bool) (i n v w : ℕ) (e e' : List ℕ) → i ≤ 0 → n ≡ length (hex_text l v) → put 0 (hex_digits l i w) e' ≡ put 0 (hex_digits l n v) e → e' ≡ put 0 (hex_text l v) e
unfolding hex_digits
digits_stored l zero n v w e e' h p q = sym (put_none 0 e') ∙ q ∙ ap (λ (t : List ℕ). put 0 t e) (digits_are l n v p)
digits_stored l (suc k) n v w e e' h p q = absurd (omega arith)

-- how many digits a number below 65536 has
module _ (l : Bool) (v : ℕ) where
  pub digits_1 : v < 16 → 1 ≡ length (hex_text l v)
  digits_1 h = rw (hex_one l v h)

  pub digits_2 : 16 ≤ v → v < 256 → 2 ≡ length (hex_text l v)
  digits_2 h k = omega (arith, hex_count_more l v h, ap length (hex_one l (v / 16) (omega arith)))

more_digits : (l : Bool) (v : ℕ) → 256 ≤ v → length (hex_text l v) ≡ length (hex_text l (v / 256)) + 2
more_digits l v h =
    let e : v / 16 / 16 ≡ v / 256 = omega arith in
    hex_count_more l v (omega arith) ∙ rw (hex_count_more l (v / 16) (omega arith), e) (omega arith)

module _ (l : Bool) (v : ℕ) where
  pub digits_3 : 256 ≤ v → v < 4096 → 3 ≡ length (hex_text l v)
  digits_3 h k = omega (arith, more_digits l v h, digits_1 l (v / 256) (omega arith))

  pub digits_4 : 4096 ≤ v → v < 65536 → 4 ≡ length (hex_text l v)
  digits_4 h k = omega (arith, more_digits l v (omega arith), digits_2 l (v / 256) (omega arith) (omega arith))

  -- four digits more than those of v / 65536
  pub four_more : 65536 ≤ v → length (hex_text l v) ≡ length (hex_text l (v / 65536)) + 4
  four_more h =
      let e : v / 256 / 256 ≡ v / 65536 = omega arith in
      more_digits l v (omega arith) ∙ rw (more_digits l (v / 256) (omega arith), e) (omega arith)

module _ (l : Bool) (v : ℕ) where
  pub eight_more : 4294967296 ≤ v → length (hex_text l v) ≡ length (hex_text l (v / 4294967296)) + 8
  eight_more h =
      let e : v / 65536 / 65536 ≡ v / 4294967296 = omega arith in
      four_more l v (omega arith) ∙ rw (four_more l (v / 65536) (omega arith), e) (omega arith)

pub twelve_more : (l : Bool) (v : ℕ) → 281474976710656 ≤ v → length (hex_text l v) ≡ length (hex_text l (v / 281474976710656)) + 12
twelve_more l v h =
    let e : v / 65536 / 4294967296 ≡ v / 281474976710656 = omega arith in
    four_more l v (omega arith) ∙ rw (eight_more l (v / 65536) (omega arith), e) (omega arith)

pub size_one : (v : ℕ) → v < 10 → size_text v ≡ (48 + v) ∷ []
unfolding size_text
size_one v h = rw (lt-ltb v 10 h)

pub size_hex : (v : ℕ) → 10 ≤ v → size_text v ≡ 48 ∷ 120 ∷ hex_text false v
unfolding size_text
size_hex v h = rw (le-ltb v 10 h)

pub num_minus : (b : Bool) (v : ℕ) → b ≡ true → num_text b v ≡ 45 ∷ size_text v
unfolding num_text sign
num_minus b v h = rw h

pub num_plain : (b : Bool) (v : ℕ) → b ≡ false → num_text b v ≡ size_text v
unfolding num_text sign
num_plain b v h = rw h

pub one_stored : (x : ℕ) (e : List ℕ) → set e 0 x ≡ put 0 (x ∷ []) e
unfolding put
one_stored x e = refl

pub two_stored : (x y : ℕ) (e : List ℕ) → set (set e 0 x) 1 y ≡ put 0 (x ∷ y ∷ []) e
unfolding put
two_stored x y e = refl

-- what is lent from n on has room for what stands behind n
pub rest_room : (n : ℕ) (t e : List ℕ) → n + length t ≤ length e → length t ≤ length (mid_of n (length e - n) e)
rest_room n t e h = simp (length-take, length-drop) (omega arith)
