-- Blocks and edges, and what questions 5 to 7 ask of them. Each definition speaks of the part that begins at its array.
use Rattle.std.specs.Prelude.{ℕ, ◌+◌, ◌-◌, ◌*◌, List, Bool, not, ◌&&◌, ◌||◌, ltb, leb, eqb}
use Rattle.lists.specs.Bytes.{u8_at, u16_at, u64_at}
use Rattle.lists.specs.Choice.{all_below, sum_below}

-- "B u64 block starts"
abbrev pub start_at : List ℕ → ℕ → ℕ
start_at starts k = u64_at starts (8 * k)

-- "B marks of u16 instruction count, u8 edge count, u8 label wanted (0 or 1)"
abbrev pub instructions_in : List ℕ → ℕ → ℕ
instructions_in marks k = u16_at marks (4 * k)

abbrev pub edges_in : List ℕ → ℕ → ℕ
edges_in marks k = u8_at marks (4 * k + 2)

abbrev pub label_mark : List ℕ → ℕ → ℕ
label_mark marks k = u8_at marks (4 * k + 3)

-- "Blocks .. own their edges and instructions in turn": how many stand before block k's first
unfoldable pub first_instruction : List ℕ → ℕ → ℕ
first_instruction marks k = sum_below (instructions_in marks) k

unfoldable pub first_edge : List ℕ → ℕ → ℕ
first_edge marks k = sum_below (edges_in marks) k

-- "E u64 targets; E u8 kinds: 0 Uncond, 1 True, 2 False, 3 Fall, 4 Case."
abbrev pub target_at : List ℕ → ℕ → ℕ
target_at targets e = u64_at targets (8 * e)

abbrev pub edge_kind_at : List ℕ → ℕ → ℕ
edge_kind_at kinds e = u8_at kinds e

-- "5. Instruction counts total I, edge counts E, label marks 0 or 1?"
unfoldable pub marks_ok : List ℕ → ℕ → ℕ → ℕ → Bool
marks_ok marks B I E =
    eqb (sum_below (instructions_in marks) B) I
    && eqb (sum_below (edges_in marks) B) E
    && all_below (λ k. leb (label_mark marks k) 1) B

-- blocks k and j start at different addresses
unfoldable pub differ : List ℕ → ℕ → ℕ → Bool
differ starts k j = not (eqb (start_at starts j) (start_at starts k))

-- block k's start differs from that of every block before it
unfoldable pub start_is_new : List ℕ → ℕ → Bool
start_is_new starts k = all_below (differ starts k) k

-- "6. Block starts all different?"
unfoldable pub starts_differ : List ℕ → ℕ → Bool
starts_differ starts B = all_below (start_is_new starts) B

-- block k starts above the block before it. "Blocks stand in listing order", which may be any order of their addresses
abbrev pub start_rises : List ℕ → ℕ → Bool
start_rises starts k = eqb k 0 || ltb (start_at starts (k - 1)) (start_at starts k)

-- each block does. No question asks it, but where it holds question 6 gets a yes, and places are found by halving
unfoldable pub starts_rise : List ℕ → ℕ → Bool
starts_rise starts B = all_below (start_rises starts) B

-- "7. Edge kinds 0 to 4?"
unfoldable pub edge_kinds_ok : List ℕ → ℕ → Bool
edge_kinds_ok kinds E = all_below (λ e. leb (edge_kind_at kinds e) 4) E
