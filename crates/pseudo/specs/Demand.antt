-- Demand 3 and #107, of the lists that a call fills: the addresses, marks, places and token ends of its lines, beside what each line is
-- written for.
use Rattle.std.specs.Prelude.{ℕ, ◌+◌, ◌-◌, ◌*◌, ◌%◌, ◌≤◌, ◌<◌, Bool, not, ◌||◌, List, [], ◌∷◌, map, ◌≡◌, length}
use Rattle.lists.specs.Choice.{pick}
use Rattle.record.specs.Header.{header_of}
use Rattle.record.specs.Layout.{starts_of, marks_of, targets_of, addresses_of}
use Rattle.record.specs.Blocks.{start_at, first_instruction}
use Rattle.record.specs.Body.{address_at}
use Rattle.structure.specs.Tree.{tree_of}
use Rattle.structure.specs.Plan.{What, Line, is}
use Rattle.structure.specs.Plan.What.{label_line, do_line}
use Rattle.structure.specs.Demand.{Context, Owned, Brace, is_left_out, open_then, rise_then, contexts}
use Rattle.flow.specs.Rows.{block_rows, edge_rows}
use Rattle.flow.specs.SilentList.{unsilent_in}
use Rattle.flow.specs.Planned.{record_plan}

-- of a list with an entry for each line, those of the lines that are written for what passes a test
unfoldable pub entries_of : (What → Bool) → List What → List ℕ → List ℕ
entries_of test [] xs = []
entries_of test (w ∷ ws) [] = []
entries_of test (w ∷ ws) (x ∷ xs) = pick (test w) (x ∷ entries_of test ws xs) (entries_of test ws xs)

-- "leave out the listing's labels, do-lines and lone closing braces": the entries of "the lines that stay"
abbrev pub staying : List What → List ℕ → List ℕ
staying ws xs = entries_of (λ w. not (is_left_out w)) ws xs

-- the entries of labels and do-lines, which stand for a block's start
abbrev pub starting : List What → List ℕ → List ℕ
starting ws xs = entries_of (λ w. is w label_line || is w do_line) ws xs

-- the indent in a line's mark: "indent, plus 256 if addressed"
abbrev pub indent_in : ℕ → ℕ
indent_in mark = mark % 256

-- "Each brace opened by an if or do closes once, the innermost first, at its own indent, and no closing stands without its opening.":
-- read with st open, the lines close all of it; #107: a lone brace has the place of its opening line
abbrev pub NestedBy : List Brace → List What → List ℕ → List ℕ → Type 0
NestedBy st [] ms ps = st ≡ []
NestedBy st (w ∷ ws) [] ps = ⊥
NestedBy st (w ∷ ws) (m ∷ ms) [] = ⊥
NestedBy st (w ∷ ws) (m ∷ ms) (p ∷ ps) = open_then w st (indent_in m) p (λ st'. NestedBy st' ws ms ps)

-- #107: no place is below k or below that of a line before, lone braces left out
abbrev pub RisingBy : ℕ → List What → List ℕ → Type 0
RisingBy k [] ps = Unit {0}
RisingBy k (w ∷ ws) [] = ⊥
RisingBy k (w ∷ ws) (p ∷ ps) = rise_then w k p (λ k'. RisingBy k' ws ps)

-- every indent is below n
abbrev pub ShallowBy : ℕ → List ℕ → Type 0
ShallowBy n [] = Unit {0}
ShallowBy n (m ∷ ms) = (indent_in m < n) × ShallowBy n ms

abbrev pub what_of : Line → What
what_of l = l.what

module _ (s : List ℕ) (from to : ℕ) where
  -- what each line of the listing is written for
  abbrev pub whats : List What
  whats = map what_of (record_plan (header_of s) s from to)

  -- where the regions put each block of the range
  abbrev pub placed : List Context
  placed =
      let h = header_of s in
      contexts (tree_of (block_rows h s) (edge_rows h s) (starts_of h s) (targets_of h s) h.blocks from to) from to

  -- "the range's instructions not on document 01's silent list, once each, in block order", each with the place of its own block
  abbrev pub not_silent : List Owned
  not_silent = unsilent_in (header_of s) s from placed

  -- the number of the range's instructions
  abbrev pub instructions : ℕ
  instructions = first_instruction (marks_of (header_of s) s) to - first_instruction (marks_of (header_of s) s) from

  pub record LinesDemand3 (addresses marks places lines : List ℕ) : Type 0 where
    -- one context for each place of the range
    pub contexts : length placed ≡ to - from
    -- "the addresses of the lines that stay, one a line, are exactly those of the range's instructions not on document 01's silent
    -- list, once each, in block order"
    pub shown : staying whats addresses ≡ map (λ (o : Owned). address_at (addresses_of (header_of s) s) o.insn) not_silent
    -- #107: "each instruction's line names its own block"
    pub named : staying whats places ≡ map (λ (o : Owned). o.place) not_silent
    -- a label's and a do-line's address is the start of the block that it names
    pub started : starting whats addresses ≡ map (start_at (starts_of (header_of s) s)) (starting whats places)
    -- "Each brace opened by an if or do closes once"
    pub nested : NestedBy [] whats marks places
    -- #107: "Instruction, opening and label lines have places that never fall from one line to the next."
    pub rising : RisingBy from whats places
    -- "There are at most I + 2 × B lines", and each has an address, a mark, a place and a token end
    pub few : length addresses ≤ instructions + 2 * (to - from)
    pub marked : length marks ≡ length addresses
    pub placed_lines : length places ≡ length addresses
    pub ended : length lines ≡ length addresses
    -- "no indent exceeds the starting one by B or more"
    pub shallow : ShallowBy ((header_of s).indent + (to - from)) marks
