-- The plan of a range: one line each for what the listing writes, with its place, instruction and indent, and no text. A fold over
-- the range's tree.
use Rattle.std.specs.Prelude.{ℕ, zero, suc, ◌+◌, ◌-◌, ◌*◌, List, [], ◌∷◌, ◌++◌, map, Bool, ◌&&◌, ◌||◌, ltb, eqb}
use Rattle.lists.specs.Choice.{pick}
use Rattle.cfg.specs.Graph.{first_in, count_in, label_wanted, ends_in_branch, ends_in_jmp, branch_to, is_block, last_in, is_shown, outside_jump}
use Rattle.structure.specs.Tree.{Tree, tree_of}
use Rattle.structure.specs.Tree.Tree.{over, plain, region, loop}

-- what a line is written for
pub data What : Type 0 where
  label_line : What
  do_line : What
  open_line : What
  if_goto : What
  while_line : What
  close_line : What
  goto_line : What
  tail_call : What
  insn_line : What

-- a line: what it is written for, the place of its block, its instruction (0 for a label or do-line), its indent
pub record Line : Type 0 where
  pub what : What
  pub place : ℕ
  pub at : ℕ
  pub indent : ℕ

abbrev pub line : What → ℕ → ℕ → ℕ → Line
line w k i d = record { what = w; place = k; at = i; indent = d }

abbrev pub what_number : What → ℕ
what_number label_line = 0
what_number do_line = 1
what_number open_line = 2
what_number if_goto = 3
what_number while_line = 4
what_number close_line = 5
what_number goto_line = 6
what_number tail_call = 7
what_number insn_line = 8

-- two lines are written for the same
abbrev pub is : What → What → Bool
is w v = eqb (what_number w) (what_number v)

-- a line as the plan's list holds it
abbrev pub code_of : Line → ℕ
code_of l = what_number l.what + 16 * (l.at + 65536 * (l.place + 65536 * l.indent))

-- "A label's indent is one less, never below 0."
abbrev pub label_if : Bool → ℕ → ℕ → List Line
label_if wanted k d = pick wanted (line label_line k 0 (d - 1) ∷ []) []

-- of n instructions from i on, a line for each that is shown
unfoldable pub shown_lines : List ℕ → ℕ → ℕ → ℕ → ℕ → List Line
shown_lines shown k i zero d = []
shown_lines shown k i (suc n) d = pick (is_shown shown i) (line insn_line k i d ∷ shown_lines shown k (suc i) n d) (shown_lines shown k (suc i) n d)

module _ (blocks : List ℕ) where
  -- a block's instructions before a closing conditional branch or direct jmp, which have a line of their own or none
  unfoldable pub body_count : ℕ → ℕ
  body_count k = pick (ends_in_branch blocks k || ends_in_jmp blocks k) (count_in blocks k - 1) (count_in blocks k)

  -- the branch of block i "goes to the next block when that lies in the range being written", which ends at `to`
  abbrev pub goes_next : ℕ → ℕ → Bool
  goes_next i to = eqb (branch_to blocks i) (i + 1) && ltb (i + 1) to

  -- a label in the body of the loop whose head is i: the "other blocks of the body whenever wanted"
  abbrev pub inner_labelled : ℕ → ℕ → Bool
  inner_labelled i k = ltb i k && label_wanted blocks k

  -- a last direct jmp: none if it goes to the next block so, else a goto to a block or a tail call
  abbrev pub jump_lines : ℕ → ℕ → ℕ → List Line
  jump_lines i to d =
      pick (goes_next i to) [] (line (pick (is_block (branch_to blocks i)) goto_line tail_call) i (last_in blocks i) d ∷ [])

  -- a closing conditional branch or last direct jmp
  unfoldable pub closing_lines : ℕ → ℕ → ℕ → List Line
  closing_lines i to d =
      pick (ends_in_branch blocks i) (line if_goto i (last_in blocks i) d ∷ []) (pick (ends_in_jmp blocks i) (jump_lines i to d) [])

module _ (blocks shown : List ℕ) where
  abbrev pub body_lines : ℕ → ℕ → List Line
  body_lines k d = shown_lines shown k (first_in blocks k) (body_count blocks k) d

  -- a block of a range that ends at `to`: its label, if it has one, its instructions, its closing branch or jmp
  unfoldable pub block_lines : Bool → ℕ → ℕ → ℕ → List Line
  block_lines wanted k to d = label_if wanted k d ++ (body_lines k d ++ closing_lines blocks k to d)

  -- n blocks from k on of the body of the loop from i to j, before its last: "Its body is flat." To each the loop is the range being
  -- written, so that its direct jmp gets "the same goto or return line as elsewhere" (#101)
  unfoldable pub flat_lines : ℕ → ℕ → ℕ → ℕ → ℕ → List Line
  flat_lines i j k zero d = []
  flat_lines i j k (suc n) d = block_lines (inner_labelled blocks i k) k (j + 1) d ++ flat_lines i j (suc k) n d

  -- the last block of a do-body, whose last instruction is the loop's closing test
  unfoldable pub test_block : ℕ → ℕ → List Line
  test_block j d =
      label_if (label_wanted blocks j) j (d + 1)
      ++ (shown_lines shown j (first_in blocks j) (count_in blocks j - 1) (d + 1) ++ (line while_line j (last_in blocks j) d ∷ []))

module _ (blocks edges : List ℕ) (B : ℕ) where
  -- "A plain block that wants a label gets it if it isn't first in its range, or if a block outside the range has an edge to
  -- it not of kind Fall."
  abbrev pub labelled : ℕ → ℕ → ℕ → Bool
  labelled from i to = label_wanted blocks i && (ltb from i || outside_jump blocks edges B from to i)

  -- "A do-head gets it only by the second way, outside meaning outside the loop"
  abbrev pub head_labelled : ℕ → ℕ → Bool
  head_labelled i j = label_wanted blocks i && outside_jump blocks edges B i (j + 1) i

module _ (blocks edges shown : List ℕ) (B : ℕ) where
  abbrev pub plain_lines : ℕ → ℕ → ℕ → ℕ → List Line
  plain_lines from i to d = block_lines blocks shown (labelled blocks edges B from i to) i to d

  -- a do-loop from i to j
  unfoldable pub loop_lines : ℕ → ℕ → ℕ → List Line
  loop_lines i j d =
      label_if (head_labelled blocks edges B i j) i d
      ++ (line do_line i 0 d ∷ (flat_lines blocks shown i j i (j - i) (d + 1) ++ test_block blocks shown j d))

  -- an if-region: its block's lines, the opening line for the branch, the lines inside, a lone closing brace
  abbrev pub region_lines : List Line → ℕ → ℕ → ℕ → ℕ → List Line
  region_lines inner from i to d =
      label_if (labelled blocks edges B from i to) i d
      ++ (body_lines blocks shown i d ++ (line open_line i (last_in blocks i) d ∷ (inner ++ (line close_line i 0 d ∷ []))))

  -- from place i on, in the range from `from` up to `to`; the range inside an if-region is one deeper
  unfoldable pub tree_lines : Tree → ℕ → ℕ → ℕ → ℕ → List Line
  tree_lines over from i to d = []
  tree_lines (plain r) from i to d = plain_lines from i to d ++ tree_lines r from (i + 1) to d
  tree_lines (region t a r) from i to d = region_lines (tree_lines a (i + 1) (i + 1) t (d + 1)) from i to d ++ tree_lines r from t to d
  tree_lines (loop j r) from i to d = loop_lines i j d ++ tree_lines r from (j + 1) to d

module _ (blocks edges shown starts targets : List ℕ) (B : ℕ) where
  unfoldable pub range_lines : ℕ → ℕ → ℕ → ℕ → List Line
  range_lines from i to d = tree_lines blocks edges shown B (tree_of blocks edges starts targets B i to) from i to d

  -- the plan of the range from `from` up to `to`, from indent d on
  abbrev pub plan_of : ℕ → ℕ → ℕ → List Line
  plan_of from to d = range_lines from from to d

  abbrev pub plan_codes : ℕ → ℕ → ℕ → List ℕ
  plan_codes from to d = map code_of (plan_of from to d)
