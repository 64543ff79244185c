-- Lines that open and close no brace: what holds of no line, of each such line up to an indent, and of two runs if of both, holds of a
-- block's lines. One walk serves every fact of that kind; each line is of its block's place, and of an instruction as it says.
use mathlib.Core.Path.{◌≡◌, refl}
use mathlib.Core.Bool.{Bool, true, ◌||◌, or-true}
use mathlib.Core.List.{List, [], ◌∷◌, ◌++◌}
use Prim.Native.Nat.{ℕ, zero, suc, ◌+◌, ◌-◌, ◌≤◌, ◌<◌}
use native.Mathlib.Nat.{le_refl}
use native.Mathlib.Omega.{arith}
use lib.Dec.{eqb}
use Rattle.lists.specs.Choice.{pick}
use Rattle.cfg.specs.Graph.{first_in, count_in, ending_in, has_condition, ends_in_branch, ends_in_jmp, branch_to, is_block, last_in, is_shown}
use Rattle.cfg.proofs.Within.{pick_both}
use Rattle.structure.specs.Plan.{What, Line, line, label_if, inner_labelled, shown_lines, body_count, body_lines, goes_next, jump_lines, closing_lines, block_lines, flat_lines}
use Rattle.structure.specs.Plan.What.{label_line, do_line, open_line, if_goto, while_line, close_line, goto_line, tail_call, insn_line}

-- a line that opens and closes no brace
abbrev pub Braceless : What → Type 0
Braceless label_line = Unit {0}
Braceless if_goto = Unit {0}
Braceless goto_line = Unit {0}
Braceless tail_call = Unit {0}
Braceless insn_line = Unit {0}
Braceless do_line = ⊥
Braceless open_line = ⊥
Braceless while_line = ⊥
Braceless close_line = ⊥

-- where block k's instructions end
abbrev pub end_in : List ℕ → ℕ → ℕ
end_in blocks k = first_in blocks k + count_in blocks k

-- which instruction a line of block k has, by what it is written for: none, the block's last, which has a condition where the line shows
-- one, or one of the block's
abbrev pub Stands : List ℕ → What → ℕ → ℕ → Type 0
Stands blocks label_line k i = i ≡ 0
Stands blocks do_line k i = i ≡ 0
Stands blocks close_line k i = i ≡ 0
Stands blocks open_line k i = (i ≡ last_in blocks k) × (has_condition blocks k ≡ true)
Stands blocks if_goto k i = (i ≡ last_in blocks k) × (has_condition blocks k ≡ true)
Stands blocks while_line k i = (i ≡ last_in blocks k) × (has_condition blocks k ≡ true)
Stands blocks goto_line k i = i ≡ last_in blocks k
Stands blocks tail_call k i = i ≡ last_in blocks k
Stands blocks insn_line k i = i < end_in blocks k

body_within : (blocks : List ℕ) (k : ℕ) → body_count blocks k ≤ count_in blocks k
unfolding body_count
body_within blocks k =
    pick_both (λ (n : ℕ). n ≤ count_in blocks k) (ends_in_branch blocks k || ends_in_jmp blocks k) _ _ (λ _. omega arith) (λ _. le_refl (count_in blocks k))

module _ (blocks shown : List ℕ) (P : List Line → Type 0) (none : P []) (join : (xs ys : List Line) → P xs → P ys → P (xs ++ ys)) (d : ℕ) where
  -- what is known of each line of block k
  abbrev pub One : ℕ → Type 0
  One k = (w : What) (i e : ℕ) → Braceless w → Stands blocks w k i → e ≤ d → P (line w k i e ∷ [])

  module _ (k : ℕ) (one : One k) where
    pub labels_all : (b : Bool) → P (label_if b k d)
    labels_all b = pick_both P b _ _ (λ _. one label_line 0 (d - 1) tt refl (omega arith)) (λ _. none)

    lines_all : (i n : ℕ) → i + n ≤ end_in blocks k → P (shown_lines shown k i n d)
    unfolding shown_lines
    lines_all i zero h = none
    lines_all i (suc n) h =
        pick_both P (is_shown shown i) _ _
        (λ _. join (line insn_line k i d ∷ []) (shown_lines shown k (suc i) n d) (one insn_line i d tt (omega arith) (le_refl d)) (lines_all (suc i) n (omega arith)))
        (λ _. lines_all (suc i) n (omega arith))

    pub body_all : P (body_lines blocks shown k d)
    body_all = lines_all (first_in blocks k) (body_count blocks k) (omega (arith, body_within blocks k))

    -- the instructions before a loop's closing test
    pub test_all : P (shown_lines shown k (first_in blocks k) (count_in blocks k - 1) d)
    test_all = lines_all (first_in blocks k) (count_in blocks k - 1) (omega arith)

    last_one : (w : What) → Braceless w × Stands blocks w k (last_in blocks k) → P (line w k (last_in blocks k) d ∷ [])
    last_one w l = one w (last_in blocks k) d l.0 l.1 (le_refl d)

    jump_all : (to : ℕ) → P (jump_lines blocks k to d)
    jump_all to =
        pick_both P (goes_next blocks k to) _ _ (λ _. none)
        (λ _. last_one (pick (is_block (branch_to blocks k)) goto_line tail_call)
        (pick_both (λ w. Braceless w × Stands blocks w k (last_in blocks k)) (is_block (branch_to blocks k)) goto_line tail_call (λ _. (tt, refl)) (λ _. (tt, refl))))

    closing_all : (to : ℕ) → P (closing_lines blocks k to d)
    unfolding closing_lines
    closing_all to =
        pick_both P (ends_in_branch blocks k) _ _ (λ e. last_one if_goto (tt, (refl, rw e (or-true (eqb (ending_in blocks k) 1)))))
        (λ _. pick_both P (ends_in_jmp blocks k) _ _ (λ _. jump_all to) (λ _. none))

    pub block_all : (b : Bool) (to : ℕ) → P (block_lines blocks shown b k to d)
    unfolding block_lines
    block_all b to = join (label_if b k d) _ (labels_all b) (join (body_lines blocks shown k d) _ body_all (closing_all to))

  -- n blocks of a do-body from k on
  pub flats_all : (i j k n : ℕ) → ((m : ℕ) → k ≤ m → m < k + n → One m) → P (flat_lines blocks shown i j k n d)
  unfolding flat_lines
  flats_all i j k zero one = none
  flats_all i j k (suc n) one =
      join (block_lines blocks shown (inner_labelled blocks i k) k (j + 1) d) _ (block_all k (one k (le_refl k) (omega arith)) (inner_labelled blocks i k) (j + 1))
      (flats_all i j (suc k) n (λ m a b. one m (omega arith) (omega arith)))
