-- Worked examples of a file of rows.
-- Each is computed from the definitions.
use Rattle.std.specs.Prelude.{◌≡◌, refl, true, List, [], ◌∷◌, ◌++◌, ℕ}
use Rattle.lists.specs.Ascii.{ascii}
use Rattle.text.specs.Number.{digit, hex_digits}
use Rattle.text.specs.Decimal.{decimal_of}
use Rattle.tokens.specs.Token.{token}
use Rattle.tokens.specs.Lines.{token_at, line_at}
use Rattle.rows.specs.Lists.{Lists, lists_of}
use Rattle.rows.specs.Rows.{row, row_at, rows_in, token_held, row_held, sizes_within, holds_rows}
use Rattle.rows.specs.declared.answer.Sizes.{Sizes}
use Rattle.csv_rows.specs.Format.{doubled, quoted, token_text, tokens_text, row_text, rows_text}
use Rattle.csv_rows.specs.Called.{file, write_no}

abbrev crlf : List ℕ
crlf = 13 ∷ 10 ∷ []

-- the first and the third line that document 01 shows, with two entries more in each list
abbrev shown : (marks : List ℕ) → Lists
shown marks =
    lists_of (ascii "if (eax == 0) {}..") (2 ∷ 4 ∷ 7 ∷ 11 ∷ 12 ∷ 15 ∷ 16 ∷ 0 ∷ 9 ∷ []) (3 ∷ 6 ∷ 1 ∷ 6 ∷ 2 ∷ 6 ∷ 6 ∷ 8 ∷ 8 ∷ [])
    (0x1002 ∷ 0 ∷ 7 ∷ 7 ∷ []) marks (0 ∷ 0 ∷ 7 ∷ 7 ∷ []) (6 ∷ 7 ∷ 0 ∷ 0 ∷ [])

abbrev sizes : Sizes
sizes = record { text = 16; tokens = 7; lines = 2 }

abbrev marks : List ℕ
marks = 257 ∷ 1 ∷ 999 ∷ 999 ∷ []

two_rows : file (shown marks) sizes ≡ ascii "0000000000001002,1,0,K,\"if\",P,\" (\",R,\"eax\",P,\" == \",N,\"0\",P,\") {\"" ++ crlf ++ ascii ",1,0,P,\"}\"" ++ crlf
unfolding rows_text rows_in row_at line_at token_at row_text tokens_text token_text doubled hex_digits digit decimal_of
two_rows = refl

-- 79 bytes: exact fit passes, one less is refused
fits : write_no (shown marks) sizes 79 ≡ 0
unfolding write_no holds_rows sizes_within token_held row_held rows_text rows_in row_at line_at token_at row_text tokens_text token_text doubled hex_digits digit decimal_of
fits = refl

short : write_no (shown marks) sizes 78 ≡ 12
unfolding write_no holds_rows sizes_within token_held row_held rows_text rows_in row_at line_at token_at row_text tokens_text token_text doubled hex_digits digit decimal_of
short = refl

-- an indent of 255, a mark of 512, an address without its mark, and a size that is not the last end
deep : write_no (shown (257 ∷ 255 ∷ [])) sizes 100 ≡ 16
unfolding write_no holds_rows sizes_within token_held row_held
deep = refl

high : write_no (shown (512 ∷ 1 ∷ [])) sizes 100 ≡ 16
unfolding write_no holds_rows sizes_within token_held row_held
high = refl

unmarked : write_no (shown (1 ∷ 1 ∷ [])) sizes 100 ≡ 16
unfolding write_no holds_rows sizes_within token_held row_held
unmarked = refl

cut_off : write_no (shown marks) (record { text = 15; tokens = 7; lines = 2 }) 100 ≡ 16
unfolding write_no holds_rows sizes_within token_held row_held
cut_off = refl

-- "An empty listing is an empty file."
empty : file (shown marks) (record { text = 0; tokens = 0; lines = 0 }) ≡ []
unfolding rows_text rows_in
empty = refl

-- "with quotes doubled"; "A backslash is copied as one backslash."
quotes : quoted (ascii "say \"hi\"") ≡ ascii "\"say \"\"hi\"\"\""
unfolding doubled
quotes = refl

backslash : quoted (ascii "\\n") ≡ ascii "\"\\n\""
unfolding doubled
backslash = refl

-- numbers without leading zeros, and an address of sixteen digits
numbers : row_text (row true 0xfedcba9876543210 254 65535 (token 7 (ascii "x") ∷ [])) ≡ ascii "FEDCBA9876543210,254,65535,F,\"x\"" ++ crlf
unfolding row_text tokens_text token_text doubled hex_digits digit decimal_of
numbers = refl
