-- A listing's lines, each with its address, indent and place: those that seven lists hold, and the lists of lines. One definition for all
-- who take a listing apart: rows for the spreadsheet, the keyer's table, the following of a listing.
use Rattle.std.specs.Prelude.{Bool, ◌&&◌, ◌||◌, List, [], ◌∷◌, ◌++◌, map, ℕ, suc, ◌+◌, ◌%◌, eqb, ltb, leb, length, get_or}
use Rattle.lists.specs.Choice.{pick, all_below}
use Rattle.lists.specs.Entries.{tab}
use Rattle.tokens.specs.Token.{Token}
use Rattle.tokens.specs.Listing.{text_of, ends_from, kinds_of}
use Rattle.tokens.specs.Lines.{end_at, line_at}
use Rattle.rows.specs.Lists.{Lists, lists_of}

-- a line: whether it has an address and which, its indent, the place of its block, its tokens
pub record Row : Type 0 where
  pub addressed : Bool
  pub address : ℕ
  pub indent : ℕ
  pub place : ℕ
  pub tokens : List Token

abbrev pub row : Bool → ℕ → ℕ → ℕ → List Token → Row
row b a d p ts = record { addressed = b; address = a; indent = d; place = p; tokens = ts }

-- ---- from lists to rows
-- "u16 marks (indent, plus 256 if addressed)"
abbrev pub is_addressed : ℕ → Bool
is_addressed mark = leb 256 mark

abbrev pub indent_of : ℕ → ℕ
indent_of mark = mark % 256

module _ (l : Lists) where
  unfoldable pub row_at : ℕ → Row
  row_at i =
      row (is_addressed (get_or l.marks i 0)) (get_or l.addresses i 0) (indent_of (get_or l.marks i 0)) (get_or l.places i 0)
      (line_at l.text l.ends l.kinds l.lines i)

  -- the first m lines
  unfoldable pub rows_in : ℕ → List Row
  rows_in m = tab row_at 0 m

-- ---- from rows to lists
unfoldable pub all_tokens : List Row → List Token
all_tokens [] = []
all_tokens (r ∷ rs) = r.tokens ++ all_tokens rs

-- how many tokens there are up to the end of each row, n before the first
unfoldable pub token_counts : ℕ → List Row → List ℕ
token_counts n [] = []
token_counts n (r ∷ rs) = (n + length r.tokens) ∷ token_counts (n + length r.tokens) rs

abbrev pub mark_of : Row → ℕ
mark_of r = pick r.addressed (r.indent + 256) r.indent

unfoldable pub row_lists : List Row → Lists
row_lists rs =
    let ts = all_tokens rs in
    lists_of (text_of ts) (ends_from 0 ts) (kinds_of ts) (map (λ (r : Row). r.address) rs) (map mark_of rs) (map (λ (r : Row). r.place) rs) (token_counts 0 rs)

-- ---- lists that hold lines of x bytes of text, n tokens and m lines
unfoldable pub token_held : Lists → ℕ → Bool
token_held l j = ltb (end_at l.ends j) (end_at l.ends (suc j)) && ltb (get_or l.kinds j 0) 8

-- #102: "address 0 if none", "indents up to 254"
unfoldable pub row_held : Lists → ℕ → Bool
row_held l i =
    let mark = get_or l.marks i 0 in
    ltb (end_at l.lines i) (end_at l.lines (suc i)) && ltb mark 512 && leb (indent_of mark) 254 && (is_addressed mark || eqb (get_or l.addresses i 0) 0)

unfoldable pub sizes_within : Lists → ℕ → ℕ → ℕ → Bool
sizes_within l x n m =
    leb x (length l.text) && leb n (length l.ends) && leb n (length l.kinds)
    && leb m (length l.addresses) && leb m (length l.marks) && leb m (length l.places) && leb m (length l.lines)

-- #102: "the lists and sizes lent for writing hold .. such lines (address 0 if none, ends rising to just those sizes)"
unfoldable pub holds_rows : Lists → ℕ → ℕ → ℕ → Bool
holds_rows l x n m =
    sizes_within l x n m && eqb (end_at l.ends n) x && eqb (end_at l.lines m) n && all_below (token_held l) n && all_below (row_held l) m
