-- Worked examples of rows: document 01's example as a file, and files that are no rows.
-- Each is computed; that no rows have such a file follows, as the file of good rows is accepted.
use mathlib.Core.Path.{◌≡◌, refl, sym, ap, ◌∙◌}
use mathlib.Core.Bool.{true, false}
use mathlib.Core.List.{List, [], ◌∷◌, ◌++◌}
use Prim.Native.Nat.{ℕ}
use Prim.Native.String.{String}
use Rattle.lists.specs.Ascii.{ascii}
use Rattle.text.specs.Decimal.{decimal_of}
use Rattle.text.specs.Number.{digit, hex_digits}
use Rattle.tokens.specs.Token.{token, register, keyword, symbol, punct}
use Rattle.tokens.specs.Listing.{text_of}
use Rattle.rows.specs.Rows.{Row, row, all_tokens}
use Rattle.lists.proofs.Tests.{never}
use Rattle.csv_rows.specs.Format.{doubled, token_text, tokens_text, row_text, rows_text, good_token, good_row}
use Rattle.csv_rows.specs.Called.{writable}
use Rattle.csv_rows.specs.Reading.{add, rest, is_rows, rows_read}
use Rattle.csv_rows.proofs.Fit.{writable_good}
use Rattle.csv_rows.proofs.Complete.{written}

-- ---- document 01's example
example : List Row
example =
    row true 0x1002 1 0 (keyword "if" ∷ punct " (" ∷ register "eax" ∷ punct " == " ∷ token 2 (ascii "0") ∷ punct ") {" ∷ [])
    ∷ row true 0x1004 2 1 (register "eax" ∷ punct " = " ∷ token 2 (ascii "5") ∷ punct ";" ∷ [])
    ∷ row false 0 1 0 (punct "}" ∷ [])
    ∷ row true 0x1010 0 2 (symbol "loc_1010" ∷ punct ":" ∷ [])
    ∷ row true 0x1010 1 2 (keyword "return" ∷ punct ";" ∷ [])
    ∷ []

-- a row's text, and its end
line : String → List ℕ
line s = ascii s ++ (13 ∷ 10 ∷ [])

example_file : List ℕ
example_file =
    line "0000000000001002,1,0,K,\"if\",P,\" (\",R,\"eax\",P,\" == \",N,\"0\",P,\") {\""
    ++ line "0000000000001004,2,1,R,\"eax\",P,\" = \",N,\"5\",P,\";\""
    ++ line ",1,0,P,\"}\""
    ++ line "0000000000001010,0,2,S,\"loc_1010\",P,\":\""
    ++ line "0000000000001010,1,2,K,\"return\",P,\";\""

example_written : rows_text example ≡ example_file
unfolding example example_file line rows_text row_text tokens_text token_text doubled decimal_of hex_digits digit
example_written = refl

example_writable : writable example ≡ true
unfolding example writable good_row good_token all_tokens text_of
example_writable = refl

example_read : rows_read example_file ≡ example
unfolding example example_file line rest add
example_read = refl

-- ---- the empty file, quotes and any bytes
empty_read : is_rows [] ≡ true
unfolding rest
empty_read = refl

quotes_read : rows_read (line ",254,65535,A,\"\"\"a,\"\"\\\"") ≡ row false 0 254 65535 (token 5 (ascii "\"a,\"\\") ∷ []) ∷ []
unfolding line rest add
quotes_read = refl

lines_read : rows_read (ascii ",0,0,X,\"" ++ (0 ∷ 13 ∷ 10 ∷ 255 ∷ []) ++ line "\"") ≡ row false 0 0 0 (token 0 (0 ∷ 13 ∷ 10 ∷ 255 ∷ []) ∷ []) ∷ []
unfolding line rest add
lines_read = refl

-- ---- no file of rows
abbrev NoRows : List ℕ → Type 0
NoRows s = (rs : List Row) → writable rs ≡ true → rows_text rs ≡ s → ⊥

none : (s : List ℕ) → is_rows s ≡ false → NoRows s
none s h rs w e = never (sym h ∙ ap is_rows (sym e) ∙ written rs (writable_good rs w))

leading_zero : NoRows (line ",01,0,X,\"a\"")
unfolding line rest add
leading_zero = none _ refl

leading_zero_place : NoRows (line ",1,00,X,\"a\"")
unfolding line rest add
leading_zero_place = none _ refl

lower_case : NoRows (line "000000000000100a,1,0,X,\"a\"")
unfolding line rest add
lower_case = none _ refl

fifteen_digits : NoRows (line "000000000001002,1,0,X,\"a\"")
unfolding line rest add
fifteen_digits = none _ refl

seventeen_digits : NoRows (line "00000000000001002,1,0,X,\"a\"")
unfolding line rest add
seventeen_digits = none _ refl

lf_alone : NoRows (ascii ",1,0,X,\"a\"" ++ (10 ∷ []))
unfolding rest add
lf_alone = none _ refl

no_end : NoRows (line ",1,0,X,\"a\"" ++ ascii ",1,0,X,\"b\"")
unfolding line rest add
no_end = none _ refl

unquoted_text : NoRows (line ",1,0,X,a")
unfolding line rest add
unquoted_text = none _ refl

quoted_letter : NoRows (line ",1,0,\"X\",\"a\"")
unfolding line rest add
quoted_letter = none _ refl

no_such_letter : NoRows (line ",1,0,Y,\"a\"")
unfolding line rest add
no_such_letter = none _ refl

indent_255 : NoRows (line ",255,0,X,\"a\"")
unfolding line rest add
indent_255 = none _ refl

place_65536 : NoRows (line ",1,65536,X,\"a\"")
unfolding line rest add
place_65536 = none _ refl

empty_text : NoRows (line ",1,0,X,\"\"")
unfolding line rest add
empty_text = none _ refl

no_token : NoRows (line ",1,0")
unfolding line rest add
no_token = none _ refl

-- #107: "files without it are refused as not rows"
no_place : NoRows (line ",1,X,\"a\"")
unfolding line rest add
no_place = none _ refl

empty_row : NoRows (line "")
unfolding line rest add
empty_row = none _ refl
