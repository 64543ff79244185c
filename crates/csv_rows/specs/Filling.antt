-- What the reader's first pass counts, and what an effect stores. It describes the code, and is not what a caller must believe: that is csv_rows/specs/Called.
use Rattle.std.specs.Prelude.{Bool, ◌&&◌, List, ℕ, ◌+◌, leb, Option, Some, None}
use Rattle.lists.specs.Choice.{pick, ask}
use Rattle.rows.specs.Lists.{sizes_of, room_no}
use Rattle.rows.specs.Rows.{row_lists}
use Rattle.rows.specs.declared.answer.Sizes.{Sizes}
use Rattle.rows.specs.declared.answer.Rooms.{Rooms}
use Rattle.csv_rows.specs.Reading.{is_rows, rows_read}
use Rattle.csv_rows.specs.declared.machine.Effect.{Effect}
use Rattle.csv_rows.specs.declared.machine.Effect.TheVariants.{Silent, Byte, Kind, TokenEnd, Head, RowEnd}

-- ---- an effect's number, and what a row's first three fields store
abbrev pub number : Effect → ℕ
number Silent = 0
number Byte = 1
number Kind = 2
number TokenEnd = 3
number (Head h a x p) = 4
number RowEnd = 5

abbrev pub address_in : Effect → ℕ
address_in Silent = 0
address_in Byte = 0
address_in Kind = 0
address_in TokenEnd = 0
address_in (Head h a x p) = a
address_in RowEnd = 0

abbrev pub mark_in : Effect → ℕ
mark_in Silent = 0
mark_in Byte = 0
mark_in Kind = 0
mark_in TokenEnd = 0
mark_in (Head h a x p) = pick h (x + 256) x
mark_in RowEnd = 0

abbrev pub place_in : Effect → ℕ
place_in Silent = 0
place_in Byte = 0
place_in Kind = 0
place_in TokenEnd = 0
place_in (Head h a x p) = p
place_in RowEnd = 0

abbrev pub one : Bool → ℕ
one t = pick t 1 0

-- ---- the first pass: whether bytes are rows, and how much the rows' lists have
abbrev pub sizes_read : List ℕ → Sizes
sizes_read s = sizes_of (row_lists (rows_read s))

abbrev pub counted : List ℕ → Option Sizes
counted s = pick (is_rows s) (Some (sizes_read s)) None

-- rows whose text and tokens are counted in 32 bits
abbrev pub small : Bool → Sizes → Bool
small ok z = ok && leb z.text 4294967295 && leb z.tokens 4294967295

-- the number that the first pass gives
unfoldable pub read_no : List ℕ → Rooms → ℕ
read_no s rooms = ask 16 (small (is_rows s) (sizes_read s)) (room_no (sizes_read s) rooms)
