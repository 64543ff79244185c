-- The listing of a range of a record's blocks: seven lists.
use Rattle.std.specs.Prelude.{ℕ, ◌+◌, ◌||◌, List, map}
use Rattle.lists.specs.Choice.{pick}
use Rattle.tokens.specs.Token.{Token}
use Rattle.tokens.specs.Listing.{listing}
use Rattle.rows.specs.Lists.{Lists, lists_of}
use Rattle.record.specs.declared.header.Header.{Header}
use Rattle.record.specs.Layout.{starts_of, addresses_of}
use Rattle.record.specs.Blocks.{start_at}
use Rattle.record.specs.Body.{address_at}
use Rattle.cfg.specs.Graph.{first_in}
use Rattle.structure.specs.Plan.{What, Line, is}
use Rattle.structure.specs.Plan.What.{label_line, do_line, close_line}
use Rattle.flow.specs.Rows.{block_rows}
use Rattle.flow.specs.Planned.{record_plan}
use Rattle.line.specs.Print.{printed}

-- "line addresses (u64, 0 if none)": a label's and a do-line's is its block's start, a lone brace has none, every other line has
-- its instruction's
abbrev pub address_for : Header → List ℕ → What → ℕ → ℕ → ℕ
address_for h s w k i =
    pick (is w close_line) 0 (pick (is w label_line || is w do_line) (start_at (starts_of h s) k) (address_at (addresses_of h s) i))

abbrev pub line_address : Header → List ℕ → Line → ℕ
line_address h s l = address_for h s l.what l.place l.at

-- "u16 marks (indent, plus 256 if addressed)"
abbrev pub mark_for : What → ℕ → ℕ
mark_for w d = pick (is w close_line) d (d + 256)

abbrev pub line_mark : Line → ℕ
line_mark l = mark_for l.what l.indent

-- #107: "Every line now carries the place of its block: a label, an instruction or an opening line that of the block it was written for, a
-- closing brace that of the block whose branch opened it, a while-line that of the loop's last block."
abbrev pub line_place : Line → ℕ
line_place l = l.place

-- the lists of a plan's lines, from the tokens of each
abbrev pub lists_for : Header → List ℕ → List (List Token) → List Line → Lists
lists_for h s ls p =
    let t = listing ls in
    lists_of t.text t.ends t.kinds (map (line_address h s) p) (map line_mark p) (map line_place p) t.lines

-- the lists of a plan's lines, in a range whose first instruction is `range`
abbrev pub plan_lists : Header → List ℕ → ℕ → List Line → Lists
plan_lists h s range p = lists_for h s (printed h s range 0 p) p

module _ (h : Header) (s : List ℕ) (from to : ℕ) where
  -- the tokens of each line: "Written registers and pushes start empty at each call of the port"
  unfoldable pub record_lines : List (List Token)
  record_lines = printed h s (first_in (block_rows h s) from) 0 (record_plan h s from to)

  abbrev pub record_lists : Lists
  record_lists = lists_for h s record_lines (record_plan h s from to)
