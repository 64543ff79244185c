-- Demand 3, of the plan of a range: which instructions have a line, how braces nest, how many lines there are, how deep they stand; and
-- which block each line names (#107).
use Rattle.std.specs.Prelude.{ℕ, zero, suc, ◌+◌, ◌-◌, ◌*◌, ◌≤◌, ◌<◌, List, [], ◌∷◌, ◌++◌, Bool, false, not, ◌||◌, ◌≡◌, eqb, length, replicate}
use Rattle.lists.specs.Choice.{pick, sum_below}
use Rattle.cfg.specs.Graph.{first_in, count_in, ends_in_branch, ends_in_jmp, last_in, is_shown}
use Rattle.structure.specs.Tree.{Tree, tree_of}
use Rattle.structure.specs.Tree.Tree.{over, plain, region, loop}
use Rattle.structure.specs.Plan.{What, Line, is, goes_next, plan_of}
use Rattle.structure.specs.Plan.What.{label_line, do_line, open_line, if_goto, while_line, close_line, goto_line, tail_call, insn_line}

-- Where the regions put a block: in a range being written that ends at a place, or last in a do-body. To the other blocks of a do-body
-- the loop is that range.
pub data Context : Type 0 where
  in_range : ℕ → Context
  last_in_body : Context

-- the contexts of the places from i up to `to`, in order: a fold over the range's tree
unfoldable pub contexts : Tree → ℕ → ℕ → List Context
contexts over i to = []
contexts (plain r) i to = in_range to ∷ contexts r (i + 1) to
contexts (region t a r) i to = in_range to ∷ (contexts a (i + 1) t ++ contexts r t to)
contexts (loop j r) i to = replicate (j - i) (in_range (j + 1)) ++ (last_in_body ∷ contexts r (j + 1) to)

-- an instruction, and the place of the block that owns it
pub record Owned : Type 0 where
  pub place : ℕ
  pub insn : ℕ

abbrev pub owned : ℕ → ℕ → Owned
owned k i = record { place = k; insn = i }

module _ (blocks shown : List ℕ) where
  -- the last instruction of block k, in a context: "A block's closing conditional branch, a loop's closing test and a last direct jmp
  -- .. aren't silenced by the skip mark"; such a jmp is silent if it "goes to the next block when that lies in the range being written".
  -- #101: in a do-body too, "The silent list loses that entry, and the skip mark, for those jumps."
  abbrev pub last_silent : Context → ℕ → Bool
  last_silent last_in_body k = false
  last_silent (in_range end) k =
      pick (ends_in_branch blocks k) false (pick (ends_in_jmp blocks k) (goes_next blocks k end) (not (is_shown shown (last_in blocks k))))

  -- "Silent: ..", of instruction i of block k
  unfoldable pub silent : Context → ℕ → ℕ → Bool
  silent c k i = pick (eqb i (last_in blocks k)) (last_silent c k) (not (is_shown shown i))

  -- of n instructions of block k from i on, those that are not silent
  unfoldable pub unsilenced : Context → ℕ → ℕ → ℕ → List Owned
  unsilenced c k i zero = []
  unsilenced c k i (suc n) = pick (silent c k i) (unsilenced c k (suc i) n) (owned k i ∷ unsilenced c k (suc i) n)

  -- of blocks in order from place k on, each in its context
  unfoldable pub unsilenced_in : ℕ → List Context → List Owned
  unsilenced_in k [] = []
  unsilenced_in k (c ∷ cs) = unsilenced c k (first_in blocks k) (count_in blocks k) ++ unsilenced_in (suc k) cs

-- "leave out the listing's labels, do-lines and lone closing braces": the instructions of the other lines, in order, each with the place
-- that its line names.
abbrev pub is_left_out : What → Bool
is_left_out w = is w label_line || is w do_line || is w close_line

abbrev pub count : What → Owned → List Owned → List Owned
count w o r = pick (is_left_out w) r (o ∷ r)

unfoldable pub counted : List Line → List Owned
counted [] = []
counted (l ∷ ls) = count l.what (owned l.place l.at) (counted ls)

-- what is still open: an if-region's opening line, at its indent and of its place, or a do-line, at its indent
pub data Brace : Type 0 where
  if_brace : ℕ → ℕ → Brace
  do_brace : ℕ → Brace

-- "Each brace opened by an if or do closes once, the innermost first, at its own indent, and no closing stands without its
-- opening.":
-- "A lone brace closes the latest if-region's opening line still open, a while-line the latest do-line still open."; #107: a lone brace names
-- the place "of the block whose branch opened it".
abbrev pub closes : List Brace → Brace → (List Brace → Type 0) → Type 0
closes [] c rest = ⊥
closes (b ∷ st) c rest = (b ≡ c) × rest st

-- what is open behind a line with an indent and a place, and the rest of the lines read with it
abbrev pub open_then : What → List Brace → ℕ → ℕ → (List Brace → Type 0) → Type 0
open_then open_line st d k rest = rest (if_brace d k ∷ st)
open_then do_line st d k rest = rest (do_brace d ∷ st)
open_then close_line st d k rest = closes st (if_brace d k) rest
open_then while_line st d k rest = closes st (do_brace d) rest
open_then label_line st d k rest = rest st
open_then if_goto st d k rest = rest st
open_then goto_line st d k rest = rest st
open_then tail_call st d k rest = rest st
open_then insn_line st d k rest = rest st

-- read with st open, the lines close all of it
abbrev pub Nested : List Brace → List Line → Type 0
Nested st [] = st ≡ []
Nested st (l ∷ ls) = open_then l.what st l.indent l.place (λ st'. Nested st' ls)

-- #107, "Instruction, opening and label lines have places that never fall from one line to the next.": a line of place k, read with the place
-- m of the latest line before it that is no lone brace; then the rest of the lines. While-lines, of instructions too, do not fall either
abbrev pub rise_then : What → ℕ → ℕ → (ℕ → Type 0) → Type 0
rise_then close_line m k rest = rest m
rise_then label_line m k rest = (m ≤ k) × rest k
rise_then do_line m k rest = (m ≤ k) × rest k
rise_then open_line m k rest = (m ≤ k) × rest k
rise_then if_goto m k rest = (m ≤ k) × rest k
rise_then while_line m k rest = (m ≤ k) × rest k
rise_then goto_line m k rest = (m ≤ k) × rest k
rise_then tail_call m k rest = (m ≤ k) × rest k
rise_then insn_line m k rest = (m ≤ k) × rest k

-- no place is below m or below that of a line before
abbrev pub Rising : ℕ → List Line → Type 0
Rising m [] = Unit {0}
Rising m (l ∷ ls) = rise_then l.what m l.place (λ m'. Rising m' ls)

-- every line's indent is below m
abbrev pub Shallow : ℕ → List Line → Type 0
Shallow m [] = Unit {0}
Shallow m (l ∷ ls) = (l.indent < m) × Shallow m ls

-- the range's instructions
abbrev pub instructions_from : List ℕ → ℕ → ℕ → ℕ
instructions_from blocks from to = sum_below (λ m. count_in blocks (from + m)) (to - from)

module _ (blocks edges shown starts targets : List ℕ) (B : ℕ) where
  pub record Demand3 (from to d : ℕ) : Type 0 where
    -- "the addresses of the lines that stay, one a line, are exactly those of the range's instructions not on document 01's silent
    -- list, once each, in block order"; #107: "each instruction's line names its own block"
    pub addresses : counted (plan_of blocks edges shown starts targets B from to d)
        ≡ unsilenced_in blocks shown from (contexts (tree_of blocks edges starts targets B from to) from to)
    -- "Each brace opened by an if or do closes once"
    pub nested : Nested [] (plan_of blocks edges shown starts targets B from to d)
    -- #107: places "never fall"
    pub rising : from ≤ to → Rising from (plan_of blocks edges shown starts targets B from to d)
    -- "There are at most I + 2 × B lines"
    pub few : length (plan_of blocks edges shown starts targets B from to d) ≤ instructions_from blocks from to + 2 * (to - from)
    -- "no indent exceeds the starting one by B or more"
    pub shallow : Shallow (d + (to - from)) (plan_of blocks edges shown starts targets B from to d)
