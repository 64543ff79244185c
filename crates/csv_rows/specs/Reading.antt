-- The reader of rows, byte by byte: the next state, and what lies ahead of a state. It describes the code, and is not what a caller must
-- believe: what reading promises is csv_rows/specs/Called, in terms of csv_rows/specs/Format alone.
use Rattle.std.specs.Prelude.{Bool, true, false, ◌&&◌, ◌||◌, List, [], ◌∷◌, ℕ, ◌+◌, ◌-◌, ◌*◌, ◌%◌, ◌^◌, eqb, ltb, leb}
use Rattle.lists.specs.Choice.{pick}
use Rattle.tokens.specs.Token.{Token, token}
use Rattle.rows.specs.Rows.{Row, row}
use Rattle.csv_rows.specs.declared.machine.At.{At}
use Rattle.csv_rows.specs.declared.machine.At.TheVariants.{Start, Hex, IndentStart, Indent, PlaceStart, Place, Letter, Comma, Quote, Open, OpenQuote, Text, TextQuote, Cr, Bad}
use Rattle.csv_rows.specs.declared.machine.Effect.{Effect}
use Rattle.csv_rows.specs.declared.machine.Effect.TheVariants.{Silent, Byte, Kind, TokenEnd, Head, RowEnd}

-- ---- digits and letters
abbrev pub is_digit : ℕ → Bool
is_digit c = leb 48 c && leb c 57

-- the number with one more digit
abbrev pub longer : ℕ → ℕ → ℕ
longer x c = x * 10 + (c - 48)

-- a digit may follow the number x: x is not 0, and the longer one is not too large
abbrev pub goes_on : ℕ → ℕ → ℕ → Bool
goes_on most x c = is_digit c && ltb 0 x && leb (longer x c) most

-- an upper hex digit, and the value of one
abbrev pub is_hex : ℕ → Bool
is_hex c = is_digit c || (leb 65 c && leb c 70)

abbrev pub hex_value : ℕ → ℕ
hex_value c = pick (leb c 57) (c - 48) (c - 55) % 16

-- the kind whose letter a byte is, 8 if none
abbrev pub kind_of : ℕ → ℕ
kind_of c =
    pick (eqb c 88) 0 (pick (eqb c 82) 1 (pick (eqb c 78) 2 (pick (eqb c 75) 3
    (pick (eqb c 83) 4 (pick (eqb c 65) 5 (pick (eqb c 80) 6 (pick (eqb c 70) 7 8)))))))

-- ---- states
-- behind n digits of an address, of value v: one more digit, or the comma behind sixteen
abbrev pub after_hex : ℕ → ℕ → ℕ → At
after_hex n v c =
    pick (ltb n 16) (pick (is_hex c && ltb v (2 ^ 60)) (Hex (n + 1) (v * 16 + hex_value c)) Bad) (pick (eqb c 44) (IndentStart true v) Bad)

abbrev pub next : At → ℕ → At
next Start c = pick (eqb c 44) (IndentStart false 0) (after_hex 0 0 c)
next (Hex n v) c = after_hex n v c
next (IndentStart h a) c = pick (is_digit c) (Indent h a (c - 48)) Bad
next (Indent h a x) c = pick (eqb c 44) (PlaceStart h a x) (pick (goes_on 254 x c) (Indent h a (longer x c)) Bad)
next (PlaceStart h a x) c = pick (is_digit c) (Place h a x (c - 48)) Bad
next (Place h a x p) c = pick (eqb c 44) Letter (pick (goes_on 65535 p c) (Place h a x (longer p c)) Bad)
next Letter c = pick (ltb (kind_of c) 8) Comma Bad
next Comma c = pick (eqb c 44) Quote Bad
next Quote c = pick (eqb c 34) Open Bad
next Open c = pick (eqb c 34) OpenQuote Text
next OpenQuote c = pick (eqb c 34) Text Bad
next Text c = pick (eqb c 34) TextQuote Text
next TextQuote c = pick (eqb c 34) Text (pick (eqb c 44) Letter (pick (eqb c 13) Cr Bad))
next Cr c = pick (eqb c 10) Start Bad
next Bad c = Bad

-- the part of a file that a state stands in: 0 between rows, 1 before a row's tokens, 2 before a token, 3 in one, 4 behind the last, 5 nowhere
abbrev pub stage : At → ℕ
stage Start = 0
stage (Hex n v) = 1
stage (IndentStart h a) = 1
stage (Indent h a x) = 1
stage (PlaceStart h a x) = 1
stage (Place h a x p) = 1
stage Letter = 2
stage Comma = 3
stage Quote = 3
stage Open = 3
stage OpenQuote = 3
stage Text = 3
stage TextQuote = 3
stage Cr = 4
stage Bad = 5

-- a file may end here
abbrev pub is_start : At → Bool
is_start s = eqb (stage s) 0

-- ---- effects: nothing, a byte of a token's text, a token's kind, a token's end, a row's first three fields, a row's end
abbrev pub effect : At → ℕ → Effect
effect Start c = Silent
effect (Hex n v) c = Silent
effect (IndentStart h a) c = Silent
effect (Indent h a x) c = Silent
effect (PlaceStart h a x) c = Silent
effect (Place h a x p) c = pick (eqb c 44) (Head h a x p) Silent
effect Letter c = Kind
effect Comma c = Silent
effect Quote c = Silent
effect Open c = pick (eqb c 34) Silent Byte
effect OpenQuote c = Byte
effect Text c = pick (eqb c 34) Silent Byte
effect TextQuote c = pick (eqb c 34) Byte TokenEnd
effect Cr c = RowEnd
effect Bad c = Silent

-- ---- what lies ahead: whether it ends well, the further bytes of the token that is being read, the further tokens of its row, the further rows
pub record Rest : Type 0 where
  pub ok : Bool
  pub bytes : List ℕ
  pub tokens : List Token
  pub rows : List Row

abbrev pub ahead : Bool → List ℕ → List Token → List Row → Rest
ahead o t ts rs = record { ok = o; bytes = t; tokens = ts; rows = rs }

-- what a byte puts in front of what lies ahead of it, by its effect
unfoldable pub add : Effect → ℕ → Rest → Rest
add Silent c r = r
add Byte c r = ahead r.ok (c ∷ r.bytes) r.tokens r.rows
add Kind c r = ahead r.ok [] (token (kind_of c) r.bytes ∷ r.tokens) r.rows
add TokenEnd c r = ahead r.ok [] r.tokens r.rows
add (Head h a x p) c r = ahead r.ok [] [] (row h a x p r.tokens ∷ r.rows)
add RowEnd c r = ahead r.ok [] [] r.rows

unfoldable pub rest : At → List ℕ → Rest
rest s [] = ahead (is_start s) [] [] []
rest s (c ∷ cs) = add (effect s c) c (rest (next s c) cs)

-- ---- a file
abbrev pub is_rows : List ℕ → Bool
is_rows s = (rest Start s).ok

abbrev pub rows_read : List ℕ → List Row
rows_read s = (rest Start s).rows
