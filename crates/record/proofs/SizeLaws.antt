-- Questions 1 to 4 read the first 24 bytes and the length alone, and a record over 65,536 bytes gets a no from one of them.
-- The header is read from 24 bytes; sizes within the limits allow 64,336.
use mathlib.Core.Path.{◌≡◌, refl, sym, ap, ◌∙◌}
use mathlib.Core.Bool.{Bool, true, false, ◌&&◌}
use mathlib.Core.List.{List}
use Prim.Native.Nat.{ℕ, suc, ◌+◌, ◌≤◌, ◌<◌}
use native.Mathlib.Omega.{arith}
use borrow.Author.Tests.{leb-true, le-leb, ne_eqb}
use lib.Dec.{leb}
use lib.ListN.{length, take}
use lib.Seq.{get_or-take}
use Rattle.lists.specs.Choice.{ask}
use Rattle.lists.specs.Bytes.{u8_at, u16_at, u32_at}
use Rattle.lists.specs.Every.{both_yes}
use Rattle.record.specs.declared.header.Header.{Header}
use Rattle.record.specs.Header.{header_of, fields_ok, limits_ok}
use Rattle.record.specs.Layout.{size_of, length_ok}
use Rattle.record.specs.Asked.{sizes_no}

-- ---- the header is read from 24 bytes
module _ (s t : List ℕ) (same : take 24 s ≡ take 24 t) where
  u8_same : (i : ℕ) → i < 24 → u8_at s i ≡ u8_at t i
  u8_same i h = sym (get_or-take 24 s i 0 h) ∙ ap (λ (l : List ℕ). u8_at l i) same ∙ get_or-take 24 t i 0 h

  u16_same : (i : ℕ) → i + 1 < 24 → u16_at s i ≡ u16_at t i
  u16_same i h = rw (u8_same i (omega arith), u8_same (i + 1) h)

  u32_same : (i : ℕ) → i + 3 < 24 → u32_at s i ≡ u32_at t i
  u32_same i h = rw (u16_same i (omega arith), u16_same (i + 2) (omega arith))

  pub header_same : header_of s ≡ header_of t
  unfolding header_of
  header_same =
      rw (
        u16_same 0 (omega arith),
        u16_same 2 (omega arith),
        u16_same 4 (omega arith),
        u16_same 6 (omega arith),
        u16_same 8 (omega arith),
        u16_same 10 (omega arith),
        u16_same 12 (omega arith),
        u16_same 14 (omega arith),
        u32_same 16 (omega arith),
        u8_same 20 (omega arith),
        u8_same 21 (omega arith),
        u16_same 22 (omega arith),
      )

  pub sizes_same : length s ≡ length t → sizes_no s ≡ sizes_no t
  unfolding sizes_no
  sizes_same e = rw (header_same, e)

-- ---- how long a record may be
pub size_small : (h : Header) → limits_ok h ≡ true → size_of h ≤ 64336
size_small h ok =
    let b = leb h.blocks 200 in
    let i = leb h.instructions 500 in
    let e = leb h.edges 600 in
    let a = leb h.atlas 200 in
    let s = leb h.spans 32 in
    let t = leb h.text 4000 in
    let p = both_yes (b && i && e && a && s && t) (leb h.indent 55) ok in
    let q = both_yes (b && i && e && a && s) t p.0 in
    let r = both_yes (b && i && e && a) s q.0 in
    let u = both_yes (b && i && e) a r.0 in
    let v = both_yes (b && i) e u.0 in
    let w = both_yes b i v.0 in
    omega (
      arith,
      leb-true h.text 4000 q.1,
      leb-true h.spans 32 r.1,
      leb-true h.atlas 200 u.1,
      leb-true h.edges 600 v.1,
      leb-true h.instructions 500 w.1,
      leb-true h.blocks 200 w.0,
    )

-- one less than the number of the first question of 2 to 4 that a long input gets a no to
abbrev long_no : Header → ℕ
long_no h = ask 1 (fields_ok h) (ask 2 (limits_ok h) 3)

long_asked : (f l z : Bool) → (l ≡ true → z ≡ false) → ask 2 f (ask 3 l (ask 4 z 0)) ≡ suc (ask 1 f (ask 2 l 3))
long_asked false l z h = refl
long_asked true false z h = refl
long_asked true true z h = rw (h refl)

at_the_latest : (h : Header) → suc (long_no h) ≤ 4
at_the_latest h = go (fields_ok h) (limits_ok h)
  where
    go : (f l : Bool) → suc (ask 1 f (ask 2 l 3)) ≤ 4
    go true true = omega arith
    go true false = omega arith
    go false l = omega arith

long_sizes : (s : List ℕ) → 65536 < length s → sizes_no s ≡ suc (long_no (header_of s))
unfolding sizes_no
long_sizes s long =
    let h = header_of s in
    rw (le-leb 24 (length s) (omega arith))
    (long_asked (fields_ok h) (limits_ok h) (length_ok h s) (λ ok. ne_eqb (length s) (size_of h) (λ e. omega (arith, e, size_small h ok))))

-- a long input gets a no, from question 4 at the latest
pub long_no_lem : (s : List ℕ) → 65536 < length s → (k : ℕ) × ((sizes_no s ≡ suc k) × (suc k ≤ 4))
long_no_lem s long = (long_no (header_of s), (long_sizes s long, at_the_latest (header_of s)))

-- and its first 65,537 bytes or more get the same
pub long_judged : (s t : List ℕ) → take 24 s ≡ take 24 t → 65536 < length s → 65536 < length t → sizes_no s ≡ sizes_no t
long_judged s t same a b = long_sizes s a ∙ ap (λ (h : Header). suc (long_no h)) (header_same s t same) ∙ sym (long_sizes t b)
