-- The numbers of a block's, a loop's and a region's lines, in the parts that are written one after the other.
-- By the definitions; the numbers of two runs of lines are those of the first, then those of the second.
use mathlib.Core.Path.{◌≡◌, refl}
use mathlib.Core.Bool.{Bool, true, false}
use mathlib.Core.List.{List, [], ◌∷◌, ◌++◌, map-append, append_assoc}
use Prim.Native.Nat.{ℕ, suc, ◌+◌, ◌-◌, ◌<◌}
use native.Mathlib.Numerals.{add-one}
use native.Mathlib.Omega.{arith}
use Rattle.lists.specs.Choice.{pick}
use Rattle.cfg.specs.Graph.{first_in, count_in, last_in, label_wanted, is_shown}
use Rattle.structure.specs.Plan.{Line, line, code_of, label_if, labelled, head_labelled, inner_labelled, body_lines, shown_lines, closing_lines, block_lines, flat_lines, test_block, loop_lines, region_lines}
use Rattle.structure.specs.Plan.What.{do_line, open_line, while_line, close_line, insn_line}
use Rattle.structure.specs.Codes.{codes, shown_line, head_lines, do_lines}
use Rattle.structure.proofs.Storing.{Splits, Three}

pub codes_join : (xs ys : List Line) → codes (xs ++ ys) ≡ codes xs ++ codes ys
codes_join xs ys = map-append code_of xs ys

pub codes_three : (xs ys zs : List Line) → codes (xs ++ (ys ++ zs)) ≡ codes xs ++ (codes ys ++ codes zs)
codes_three xs ys zs = simp map-append

pub shown_splits : (shown : List ℕ) (k i n d : ℕ) → Splits (codes (shown_lines shown k i (suc n) d)) (codes (shown_line shown k i d)) (codes (shown_lines shown k (suc i) n d))
unfolding shown_lines
shown_splits shown k i n d = record { is = by (is_shown shown i) }
  where
    by : (b : Bool) → codes (pick b (line insn_line k i d ∷ shown_lines shown k (suc i) n d) (shown_lines shown k (suc i) n d)) ≡ codes (pick b (line insn_line k i d ∷ []) []) ++ codes (shown_lines shown k (suc i) n d)
    by true = refl
    by false = refl

-- the same for the instructions from i up to an end
pub shown_turn : (shown : List ℕ) (k i end d : ℕ) → i < end
    → Splits (codes (shown_lines shown k i (end - i) d)) (codes (shown_line shown k i d)) (codes (shown_lines shown k (i + 1) (end - (i + 1)) d))
shown_turn shown k i end d h =
    let s : end - i ≡ suc (end - suc i) = omega arith in
    rw (s, add-one i) (shown_splits shown k i (end - suc i) d)

pub shown_over : (shown : List ℕ) (k i d : ℕ) → codes (shown_lines shown k i 0 d) ≡ []
unfolding shown_lines
shown_over shown k i d = refl

module _ (blocks shown : List ℕ) where
  pub block_parts : (b : Bool) (k to d : ℕ)
      → Three (codes (block_lines blocks shown b k to d)) (codes (label_if b k d)) (codes (body_lines blocks shown k d)) (codes (closing_lines blocks k to d))
  unfolding block_lines
  block_parts b k to d = record { is = codes_three (label_if b k d) (body_lines blocks shown k d) (closing_lines blocks k to d) }

  pub test_parts : (j d : ℕ)
      → Three (codes (test_block blocks shown j d)) (codes (label_if (label_wanted blocks j) j (d + 1)))
      (codes (shown_lines shown j (first_in blocks j) (count_in blocks j - 1) (d + 1))) (codes (line while_line j (last_in blocks j) d ∷ []))
  unfolding test_block
  test_parts j d = record { is = codes_three (label_if (label_wanted blocks j) j (d + 1)) (shown_lines shown j (first_in blocks j) (count_in blocks j - 1) (d + 1)) (line while_line j (last_in blocks j) d ∷ []) }

  pub do_parts : (i j d : ℕ) → Three (codes (do_lines blocks shown i j d)) [] (codes (flat_lines blocks shown i j i (j - i) (d + 1))) (codes (test_block blocks shown j d))
  do_parts i j d = record { is = codes_join (flat_lines blocks shown i j i (j - i) (d + 1)) (test_block blocks shown j d) }

  -- the blocks of a do-body from k up to its last
  pub flats_turn : (i j k d : ℕ) → k < j
      → Splits (codes (flat_lines blocks shown i j k (j - k) d)) (codes (block_lines blocks shown (inner_labelled blocks i k) k (j + 1) d))
      (codes (flat_lines blocks shown i j (k + 1) (j - (k + 1)) d))
  unfolding flat_lines
  flats_turn i j k d h =
      let s : j - k ≡ suc (j - suc k) = omega arith in
      rw (s, add-one k) (record { is = codes_join (block_lines blocks shown (inner_labelled blocks i k) k (j + 1) d) (flat_lines blocks shown i j (suc k) (j - suc k) d) })

  pub flats_over : (i j k d : ℕ) → codes (flat_lines blocks shown i j k 0 d) ≡ []
  unfolding flat_lines
  flats_over i j k d = refl

module _ (blocks edges shown : List ℕ) (B : ℕ) where
  pub head_parts : (from i to d : ℕ)
      → Three (codes (head_lines blocks edges shown B from i to d)) (codes (label_if (labelled blocks edges B from i to) i d)) (codes (body_lines blocks shown i d)) (codes (line open_line i (last_in blocks i) d ∷ []))
  head_parts from i to d = record { is = codes_three (label_if (labelled blocks edges B from i to) i d) (body_lines blocks shown i d) (line open_line i (last_in blocks i) d ∷ []) }

  pub loop_parts : (i j d : ℕ)
      → Three (codes (loop_lines blocks edges shown B i j d)) (codes (label_if (head_labelled blocks edges B i j) i d))
      (codes (line do_line i 0 d ∷ [])) (codes (do_lines blocks shown i j d))
  unfolding loop_lines
  loop_parts i j d = record { is = codes_three (label_if (head_labelled blocks edges B i j) i d) (line do_line i 0 d ∷ []) (do_lines blocks shown i j d) }

  pub region_parts : (inner : List Line) (from i to d : ℕ)
      → Three (codes (region_lines blocks edges shown B inner from i to d)) (codes (head_lines blocks edges shown B from i to d)) (codes inner) (codes (line close_line i 0 d ∷ []))
  region_parts inner from i to d = record { is = simp (map-append, append_assoc) }
