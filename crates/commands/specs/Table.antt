-- The command table of a listing's lines (#113): an entry for each call by the given name, and the table's three lists.
use Rattle.std.specs.Prelude.{List, [], ◌∷◌, ◌++◌, map, ℕ, zero, suc, ◌+◌, ◌*◌, eqb, length}
use Rattle.std.specs.Prelude.{Option, None, Some}
use Rattle.lists.specs.Choice.{pick}
use Rattle.rows.specs.Lists.{Lists}
use Rattle.rows.specs.Rows.{row_at}
use Rattle.commands.specs.Calls.{is_call, calls_to, begins_with, given}

-- "the call's address and the bytes set for it"
pub record Entry : Type 0 where
  pub address : ℕ
  pub bytes : Option (List ℕ)

module _ (l : Lists) (register : List ℕ) where
  -- "the last earlier line of the same block, after the block's previous call line, whose first token is that register": of the lines before
  -- line i and the block at place p
  unfoldable pub line_before : ℕ → ℕ → Option ℕ
  line_before p zero = None
  line_before p (suc i) =
      let r = row_at l i in
      pick (eqb r.place p) (pick (is_call r) None (pick (begins_with register r) (Some i) (line_before p i))) (line_before p i)

  -- "or no such line gives none"
  abbrev pub given_by : Option ℕ → Option (List ℕ)
  given_by None = None
  given_by (Some i) = given (row_at l i)

  -- the bytes set for the call on line k
  unfoldable pub bytes_for : ℕ → Option (List ℕ)
  bytes_for k = given_by (line_before (row_at l k).place k)

module _ (l : Lists) (call register : List ℕ) where
  -- "it yields for each call line whose third token's text is the call name the call's address and the bytes set for it": n lines from line k
  -- on. "Rows keep listing order."
  unfoldable pub entries_from : ℕ → ℕ → List Entry
  entries_from k zero = []
  entries_from k (suc n) =
      let later = entries_from (suc k) n in
      pick (calls_to call (row_at l k)) (record { address = (row_at l k).address; bytes = bytes_for l register k } ∷ later) later

-- ---- the table's lists
pub record Table : Type 0 where
  pub bytes : List ℕ
  pub rows : List ℕ
  pub addresses : List ℕ

abbrev pub table_lists : (bytes rows addresses : List ℕ) → Table
table_lists b r a = record { bytes = b; rows = r; addresses = a }

abbrev pub bytes_in : Option (List ℕ) → List ℕ
bytes_in None = []
bytes_in (Some s) = s

-- "plus 1 if none"
abbrev pub none_mark : Option (List ℕ) → ℕ
none_mark None = 1
none_mark (Some s) = 0

unfoldable pub all_bytes : List Entry → List ℕ
all_bytes [] = []
all_bytes (e ∷ es) = bytes_in e.bytes ++ all_bytes es

-- "A row is a u64: twice its byte end, plus 1 if none.": of entries whose bytes begin at x
unfoldable pub row_numbers : ℕ → List Entry → List ℕ
row_numbers x [] = []
row_numbers x (e ∷ es) = let y = x + length (bytes_in e.bytes) in (2 * y + none_mark e.bytes) ∷ row_numbers y es

unfoldable pub table_of : List Entry → Table
table_of es = table_lists (all_bytes es) (row_numbers 0 es) (map (λ (e : Entry). e.address) es)
