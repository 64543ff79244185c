-- The parts of a page: how many lines each has, what its writer leaves, and that eleven of them are the page.
-- Each part begins with the line behind the last of the part before.
use mathlib.Core.Path.{◌≡◌, refl, sym, ap, ◌∙◌}
use mathlib.Core.List.{List, [], ◌++◌, append_assoc, append-nil}
use Prim.Native.Nat.{ℕ, zero, suc, ◌+◌, ◌-◌, ◌*◌, ◌≤◌, ◌<◌, min}
use native.Mathlib.Nat.{zero-add}
use native.Mathlib.Decide.{dec_le}
use native.Mathlib.Omega.{arith}
use lib.Dec.{eqb}
use lib.ListN.{length}
use borrow.Author.Tests.{eq-eqb, ne_eqb, le-leb, lt-leb}
use Rattle.lists.specs.Choice.{pick}
use Rattle.lists.specs.Put.{put}
use Rattle.lists.specs.PutLaws.{put_none}
use Rattle.rows.specs.Lists.{Lists}
use Rattle.page.specs.Page.{refusal, count_line, lines_text, page_text, page_of}
use Rattle.page.proofs.Pieces.{Puts, puts_then, lines_append}
use Rattle.from_csv.specs.Output.{part_count, page_part, page_parts}

-- ---- how many lines
pub part_all : (x : ℕ) → x ≤ 2000 → x ≡ part_count x
part_all x h = rw (le-leb x 2000 h)

pub part_full : (x : ℕ) → 2000 < x → 2000 ≡ part_count x
part_full x h = rw (lt-leb x 2000 h)

pub part_none : (n first : ℕ) → n ≤ first → 0 ≡ part_count (n - first)
part_none n first h = let d : n - first ≡ 0 = omega arith in rw d

pub part_min : (x : ℕ) → part_count x ≡ min x 2000
part_min x =
    elim (dec_le x 2000) [
      | yes a ↦ omega (arith, part_all x a)
      | no a ↦ omega (arith, part_full x (omega arith))
    ]

-- ---- what is written
module _ (l : Lists) (p n first k : ℕ) (size : n ≡ length l.addresses) (begin : first ≡ 2000 * p) (count : k ≡ part_count (n - first)) where
  abbrev own : List ℕ
  own = lines_text l first k

  pub first_part : (at r : ℕ) (e e₁ e₂ : List ℕ) → p ≡ 0 → at ≡ length (count_line n) → e₁ ≡ put 0 (count_line n) e → r ≡ at + length own → e₂ ≡ put at own e₁
      → Puts 0 (page_part l p) r e e₂
  unfolding page_part
  first_part at r e e₁ e₂ z h q i t =
      rw (eq-eqb p 0 z, ← size, ← begin, ← count) (puts_then 0 at r (count_line n) own e e₁ e₂ (record { text = q; end = omega arith }) t i)

  pub later_part : (r : ℕ) (e e₁ : List ℕ) → (p ≡ 0 → ⊥) → r ≡ 0 + length own → e₁ ≡ put 0 own e → Puts 0 (page_part l p) r e e₁
  unfolding page_part
  later_part r e e₁ z i t = rw (ne_eqb p 0 z, ← size, ← begin, ← count) (record { text = t; end = i })

-- a refusal
module _ (p n : ℕ) where
  abbrev refused : List ℕ
  refused = pick (eqb p 0) (refusal n) []

  pub first_refused : (r : ℕ) (e e₁ : List ℕ) → p ≡ 0 → (r ≡ length (refusal n)) × (r ≤ 10) → e₁ ≡ put 0 (refusal n) e → ((r ≡ length refused) × (r ≤ 10)) × (e₁ ≡ put 0 refused e)
  first_refused r e e₁ z h q = rw (eq-eqb p 0 z) (h, q)

  pub later_refused : (e : List ℕ) → (p ≡ 0 → ⊥) → ((0 ≡ length refused) × (0 ≤ 10)) × (e ≡ put 0 refused e)
  later_refused e z = rw (ne_eqb p 0 z) ((refl, omega arith), sym (put_none 0 e))

-- ---- all parts
module _ (l : Lists) where
  abbrev all : ℕ
  all = length l.addresses

  abbrev lines_from : ℕ → ℕ → List ℕ
  lines_from = lines_text l

  -- the lines of one part more
  next_part : (i : ℕ) → lines_from 0 (min all i) ++ lines_from i (part_count (all - i)) ≡ lines_from 0 (min all (i + 2000))
  unfolding lines_text
  next_part i =
      elim (dec_le i all) [
        | yes a ↦
            let c = part_count (all - i) in
            let d : min all i ≡ i = omega arith in
            let e : min all (i + 2000) ≡ i + c = omega (arith, part_min (all - i)) in
            rw (d, e) (sym (lines_append l 0 i c ∙ rw zero-add))
        | no a ↦
            let d : min all i ≡ all = omega arith in
            let e : min all (i + 2000) ≡ all = omega arith in
            rw (d, e, ← part_none all i (omega arith)) (append-nil (lines_from 0 all))
      ]

  parts_are : (k : ℕ) → page_parts l (suc k) ≡ count_line all ++ lines_from 0 (min all (2000 * suc k))
  unfolding page_parts page_part
  parts_are zero =
      let e : part_count (all - 2000 * 0) ≡ min all (2000 * suc 0) = omega (arith, part_min (all - 2000 * 0)) in
      ap (λ (j : ℕ). count_line all ++ lines_from 0 j) e
  parts_are (suc k) =
      let i = 2000 * suc k in
      let d : 2000 * suc (suc k) ≡ i + 2000 = omega arith in
      rw (ne_eqb (suc k) 0 (λ z. omega (arith, z)), parts_are k, d) (append_assoc (count_line all) (lines_from 0 (min all i)) (lines_from i (part_count (all - i))) ∙ ap (λ (t : List ℕ). count_line all ++ t) (next_part i))

  pub whole_page : all ≤ 22000 → page_parts l 11 ≡ page_of l
  unfolding page_text
  whole_page h = let d : min all (2000 * 11) ≡ all = omega arith in parts_are 10 ∙ rw d
