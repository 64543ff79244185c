-- A number stored as its lowest bytes is read back.
-- The bytes' value is the number, by induction on how many there are; where they fit in a list, its bytes there are they.
use mathlib.Core.Path.{◌≡◌, refl, ap, ◌∙◌}
use mathlib.Core.List.{List, ◌++◌}
use Prim.Native.Nat.{ℕ, zero, suc, ◌+◌, ◌*◌, ◌/◌, ◌%◌, ◌^◌, ◌≤◌, ◌<◌}
use native.Mathlib.Nat.{pow-suc, add_assoc}
use native.Mathlib.Omega.{arith}
use lib.ListN.{length, get_or, take, drop, length-append, get_or-append}
use lib.Seq.{get_or-append-add, length-take-le}
use Rattle.lists.specs.Bytes.{u16_at, u64_at}
use Rattle.lists.specs.Little.{little}
use Rattle.lists.specs.Put.{put}
use Rattle.lists.specs.PutLaws.{put_fits}

length_little : (n x : ℕ) → length (little n x) ≡ n
unfolding little
length_little zero x = refl
length_little (suc n) x = ap suc (length_little n (x / 256))

-- what n bytes of a list are, from an offset on
abbrev value : List ℕ → ℕ → ℕ → ℕ
value s at zero = 0
value s at (suc n) = get_or s at 0 + 256 * value s (at + 1) n

value_little : (n x : ℕ) → x < 256 ^ n → (s : List ℕ) (at : ℕ) → ((i : ℕ) → i < n → get_or s (at + i) 0 ≡ get_or (little n x) i 0) → value s at n ≡ x
unfolding little
value_little zero x h s at e = let z : x < 1 = h in omega arith
value_little (suc n) x h s at e =
    let first : get_or s at 0 ≡ x % 256 = ap (λ (k : ℕ). get_or s k 0) (omega arith) ∙ e 0 (omega arith) in
    let rest : value s (at + 1) n ≡ x / 256 =
    value_little n (x / 256) (omega (arith, pow-suc 256 n)) s (at + 1) (λ i l. ap (λ (k : ℕ). get_or s k 0) (omega arith) ∙ e (suc i) (omega arith))
    in
    omega arith

module _ (n at x : ℕ) (e : List ℕ) (h : x < 256 ^ n) (room : at + n ≤ length e) where
  byte_at : (i : ℕ) → i < n → get_or (put at (little n x) e) (at + i) 0 ≡ get_or (little n x) i 0
  byte_at i l =
      let w : length (take at e) ≡ at = length-take-le at e (omega arith) in
      let v : length (little n x) ≡ n = length_little n x in
      let k : at + i ≡ length (take at e) + i = omega arith in
      rw (put_fits at (little n x) e (omega arith))
      (get_or-append (take at e ++ little n x) (drop (at + length (little n x)) e) 0 (at + i) (simp length-append (omega arith))
      ∙ rw k (get_or-append-add (take at e) (little n x) i 0))

  back : value (put at (little n x) e) at n ≡ x
  back = value_little n x h (put at (little n x) e) at byte_at

pub back_u16 : (at x : ℕ) (e : List ℕ) → x < 2 ^ 16 → at + 2 ≤ length e → u16_at (put at (little 2 x) e) at ≡ x
back_u16 at x e h room = omega (arith, back 2 at x e h room)

pub back_u64 : (at x : ℕ) (e : List ℕ) → x < 2 ^ 64 → at + 8 ≤ length e → u64_at (put at (little 8 x) e) at ≡ x
back_u64 at x e h room = simp add_assoc (omega (arith, simp add_assoc at (back 8 at x e h room)))
