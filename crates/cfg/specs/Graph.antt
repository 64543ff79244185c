-- The graph of a record's blocks, as the structure reads it: a row of numbers for each block, two for each edge, one for each instruction.
-- `Rattle.flow` says what the rows of a record are; what is said here holds of any rows.
use Rattle.std.specs.Prelude.{ℕ, ◌+◌, ◌-◌, ◌*◌, List, Bool, not, ◌&&◌, ◌||◌, ltb, eqb, get_or}
use Rattle.lists.specs.Choice.{pick, any_below}
use Rattle.lists.specs.Bytes.{u64_at}

-- a row of `blocks`: first instruction, number of instructions, first edge, number of edges, label wanted, how the block
-- ends, place of its branch's target (65535 if that is no block), 0
abbrev pub first_in : List ℕ → ℕ → ℕ
first_in blocks k = get_or blocks (8 * k) 0

abbrev pub count_in : List ℕ → ℕ → ℕ
count_in blocks k = get_or blocks (8 * k + 1) 0

abbrev pub first_edge_in : List ℕ → ℕ → ℕ
first_edge_in blocks k = get_or blocks (8 * k + 2) 0

abbrev pub edges_in : List ℕ → ℕ → ℕ
edges_in blocks k = get_or blocks (8 * k + 3) 0

abbrev pub label_wanted : List ℕ → ℕ → Bool
label_wanted blocks k = eqb (get_or blocks (8 * k + 4) 0) 1

-- how a block ends, by its last instruction: with a condition but no near branch, with a condition and a near branch, with a
-- direct jmp; 0 otherwise or if it has no instruction
abbrev pub test_ending : ℕ
test_ending = 1

abbrev pub branch_ending : ℕ
branch_ending = 2

abbrev pub jmp_ending : ℕ
jmp_ending = 3

unfoldable pub ending_in : List ℕ → ℕ → ℕ
ending_in blocks k = pick (eqb (count_in blocks k) 0) 0 (get_or blocks (8 * k + 5) 0)

abbrev pub branch_to : List ℕ → ℕ → ℕ
branch_to blocks k = get_or blocks (8 * k + 6) 0

abbrev pub ends_in_branch : List ℕ → ℕ → Bool
ends_in_branch blocks k = eqb (ending_in blocks k) branch_ending

abbrev pub ends_in_jmp : List ℕ → ℕ → Bool
ends_in_jmp blocks k = eqb (ending_in blocks k) jmp_ending

-- what stands for the place of a target that is no block
abbrev pub no_block : ℕ
no_block = 65535

abbrev pub is_block : ℕ → Bool
is_block place = not (eqb place no_block)

-- a block's last instruction
abbrev pub last_in : List ℕ → ℕ → ℕ
last_in blocks k = first_in blocks k + count_in blocks k - 1

-- a row of `edges`: place of the target (65535 if that is no block), kind
abbrev pub edge_to : List ℕ → ℕ → ℕ
edge_to edges e = get_or edges (2 * e) 0

abbrev pub edge_kind : List ℕ → ℕ → ℕ
edge_kind edges e = get_or edges (2 * e + 1) 0

-- `shown` has 1 for an instruction that is not silent by itself
abbrev pub is_shown : List ℕ → ℕ → Bool
is_shown shown i = eqb (get_or shown i 0) 1

-- an edge to place i
abbrev pub goes_to : List ℕ → ℕ → ℕ → Bool
goes_to edges i e = eqb (edge_to edges e) i

-- "0 Uncond, 1 True, 2 False, 3 Fall, 4 Case"
abbrev pub true_kind : ℕ
true_kind = 1

abbrev pub fall_kind : ℕ
fall_kind = 3

-- "a True edge to i's start"
abbrev pub true_edge_to : List ℕ → ℕ → ℕ → Bool
true_edge_to edges i e = goes_to edges i e && eqb (edge_kind edges e) true_kind

-- the edge goes to an inside block other than the first
abbrev pub enters : List ℕ → ℕ → ℕ → ℕ → Bool
enters edges from to e = ltb from (edge_to edges e) && ltb (edge_to edges e) to

-- "an edge to it not of kind Fall"
abbrev pub jump_to : List ℕ → ℕ → ℕ → Bool
jump_to edges i e = goes_to edges i e && not (eqb (edge_kind edges e) fall_kind)

-- an "edge .. to an address below its first start, the target excepted": starts and targets are addresses, the parts of the
-- record that begin at them; the first block is at place `from`, the target at place `join`
abbrev pub leaves : List ℕ → List ℕ → ℕ → ℕ → ℕ → Bool
leaves starts targets from join e = ltb (u64_at targets (8 * e)) (u64_at starts (8 * from)) && not (eqb (u64_at targets (8 * e)) (u64_at starts (8 * join)))

-- place k lies outside the places from `from` up to `to`
abbrev pub outside : ℕ → ℕ → ℕ → Bool
outside from to k = ltb k from || not (ltb k to)

-- the last instruction of block j has a condition
abbrev pub has_condition : List ℕ → ℕ → Bool
has_condition blocks j = eqb (ending_in blocks j) test_ending || ends_in_branch blocks j

-- one of block k's edges, in record order, passes the test
unfoldable pub has_edge : List ℕ → (ℕ → Bool) → ℕ → Bool
has_edge blocks p k = any_below (λ m. p (first_edge_in blocks k + m)) (edges_in blocks k)

-- a block outside has an edge that passes the test; B is the number of blocks
abbrev pub outside_edge : List ℕ → ℕ → ℕ → ℕ → (ℕ → Bool) → Bool
outside_edge blocks B from to p = any_below (λ k. outside from to k && has_edge blocks p k) B

module _ (blocks edges : List ℕ) where
  -- "whose block has a True edge to i's start and whose last instruction has a condition"
  unfoldable pub closes_loop : ℕ → ℕ → Bool
  closes_loop i j = has_edge blocks (true_edge_to edges i) j && has_condition blocks j

  -- "no block outside i..j has an edge to an inside block other than i"
  unfoldable pub single_entry : ℕ → ℕ → ℕ → Bool
  single_entry B from to = not (outside_edge blocks B from to (enters edges from to))

  -- "if a block outside the range has an edge to it not of kind Fall"
  unfoldable pub outside_jump : ℕ → ℕ → ℕ → ℕ → Bool
  outside_jump B from to i = outside_edge blocks B from to (jump_to edges i)

-- "no edge from it to an address below its first start, the target excepted": the places from `from` up to `to`, whose target is
-- the place behind them
unfoldable pub escapes : List ℕ → List ℕ → List ℕ → ℕ → ℕ → Bool
escapes blocks starts targets from to = any_below (λ m. has_edge blocks (leaves starts targets from to) (from + m)) (to - from)
