-- The parts of the call for the command table: what each answers and stores. It describes the code, and is not what a caller must believe:
-- what the call promises is commands/specs/Called.
use Rattle.std.specs.Prelude.{List, ◌≡◌, ℕ, leb, length, take}
use Rattle.std.specs.Prelude.{Option, None, Some}
use Rattle.std.specs.Option.{unwrap_or}
use Rattle.lists.specs.Choice.{ask}
use Rattle.lists.specs.Put.{put}
use Rattle.rows.specs.Lists.{Lists}
use Rattle.commands.specs.Table.{Table, entries_from, table_of, bytes_in}

-- how many bytes are set for a call
abbrev pub found_of : Option (List ℕ) → Option ℕ
found_of None = None
found_of (Some s) = Some (length s)

-- and the bytes themselves, from the start of a list on
pub record Gives (n : Option ℕ) (out : List ℕ) (o : Option (List ℕ)) : Type 0 where
  pub size : n ≡ found_of o
  pub bytes : take (length (bytes_in o)) out ≡ bytes_in o

-- none are 0 bytes
abbrev pub count_of : Option ℕ → ℕ
count_of o = unwrap_or o 0

abbrev pub no_mark : Option ℕ → ℕ
no_mark None = 1
no_mark (Some n) = 0

-- the table of the first m lines
unfoldable pub made : Lists → List ℕ → List ℕ → ℕ → Table
made l call register m = table_of (entries_from l call register 0 m)

pub record Measured (t : Table) (bytes rows : ℕ) : Type 0 where
  pub bytes_size : bytes ≡ length t.bytes
  pub rows_size : rows ≡ length t.rows

abbrev pub room_no : (bytes rows byteRoom rowRoom addressRoom : ℕ) → ℕ
room_no x n b r a = ask 12 (leb x b) (ask 13 (leb n r) (ask 14 (leb n a) 0))

-- the table's lists stored from the start of lists on, as far as they go
pub record Fills (t b a : Table) : Type 0 where
  pub bytes : a.bytes ≡ put 0 t.bytes b.bytes
  pub rows : a.rows ≡ put 0 t.rows b.rows
  pub addresses : a.addresses ≡ put 0 t.addresses b.addresses
