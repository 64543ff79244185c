-- Worked examples of the command table: a line that sets a register, call lines, and what each call finds.
-- Each is computed from the definitions.
use Rattle.std.specs.Prelude.{◌≡◌, refl, true, List, [], ◌∷◌, ℕ, length}
use Rattle.std.specs.Prelude.{None, Some}
use Prim.Native.String.{String}
use Rattle.lists.specs.Ascii.{ascii}
use Rattle.text.specs.Number.{digit, hex_digits}
use Rattle.text.specs.Literal.{unseen, escape, escapes, opening, closing, literal_text}
use Rattle.tokens.specs.Token.{Token, token, register, symbol, punct}
use Rattle.tokens.specs.Listing.{text_of, ends_from, kinds_of}
use Rattle.tokens.specs.Lines.{token_at, line_at}
use Rattle.rows.specs.Rows.{Row, row, row_at, all_tokens, token_counts, row_lists}
use Rattle.commands.specs.Literals.{characters_of, string_of}
use Rattle.commands.specs.Calls.{is_call, calls_to, begins_with, given}
use Rattle.commands.specs.Table.{Entry, line_before, bytes_for, entries_from, all_bytes, row_numbers, Table, table_of, table_lists}
use Rattle.commands.specs.Printed.{pairs, value_text, row_line, row_lines, table_text}

-- a literal as a token
abbrev literal : String → Token
literal s = token 5 (ascii s)

-- `rdx = LITERAL;` at an address, in the block at place p
abbrev sets : ℕ → ℕ → String → Row
sets a p s = row true a 1 p (register "rdx" ∷ punct " = " ∷ literal s ∷ punct ";" ∷ [])

-- `rax = NAME(rcx, rdx);`
abbrev calls : ℕ → ℕ → String → Row
calls a p name = row true a 1 p (register "rax" ∷ punct " = " ∷ symbol name ∷ punct "(" ∷ register "rcx" ∷ punct ", " ∷ register "rdx" ∷ punct ");" ∷ [])

abbrev found : List Row → List Entry
found rs = entries_from (row_lists rs) (ascii "Send") (ascii "rdx") 0 (length rs)

-- a string's bytes, also of a wide one; a backslash and a NUL are one byte each; a cut literal has none, nor has another spelling
plain : string_of (literal "\"FA\\r\"") ≡ Some (70 ∷ 65 ∷ 13 ∷ [])
unfolding string_of characters_of literal_text opening closing escapes escape unseen
plain = refl

wide : string_of (literal "L\"\\\\\\0\"") ≡ Some (92 ∷ 0 ∷ [])
unfolding string_of characters_of literal_text opening closing escapes escape unseen
wide = refl

other : string_of (literal "\"\\u{0}\"") ≡ None
unfolding string_of characters_of literal_text opening closing escapes escape unseen
other = refl

-- the call takes the literal that was set last in its block
sent : found (sets 0x1000 0 "\"A\"" ∷ sets 0x1008 0 "\"FA\\r\"" ∷ calls 0x1010 0 "Send" ∷ []) ≡ record { address = 0x1010; bytes = Some (70 ∷ 65 ∷ 13 ∷ []) } ∷ []
unfolding entries_from bytes_for line_before is_call calls_to begins_with given row_at line_at token_at row_lists all_tokens token_counts text_of ends_from kinds_of string_of characters_of literal_text opening closing escapes escape unseen
sent = refl

-- another call in between takes it away, and so does another block
across : found (sets 0x1000 0 "\"A\"" ∷ calls 0x1008 0 "Other" ∷ calls 0x1010 0 "Send" ∷ []) ≡ record { address = 0x1010; bytes = None } ∷ []
unfolding entries_from bytes_for line_before is_call calls_to begins_with given row_at line_at token_at row_lists all_tokens token_counts text_of ends_from kinds_of string_of characters_of literal_text opening closing escapes escape unseen
across = refl

apart : found (sets 0x1000 0 "\"A\"" ∷ calls 0x1010 1 "Send" ∷ []) ≡ record { address = 0x1010; bytes = None } ∷ []
unfolding entries_from bytes_for line_before is_call calls_to begins_with given row_at line_at token_at row_lists all_tokens token_counts text_of ends_from kinds_of string_of characters_of literal_text opening closing escapes escape unseen
apart = refl

-- a table of three entries, one of them without bytes and one of an empty literal
abbrev three : Table
three = table_of (record { address = 0x1010; bytes = Some (70 ∷ 65 ∷ []) } ∷ record { address = 0x1020; bytes = None } ∷ record { address = 0x1030; bytes = Some [] } ∷ [])

lists : three ≡ table_lists (70 ∷ 65 ∷ []) (4 ∷ 5 ∷ 4 ∷ []) (0x1010 ∷ 0x1020 ∷ 0x1030 ∷ [])
unfolding table_of all_bytes row_numbers
lists = refl

printed : table_text three 3 ≡ ascii "0000000000001010 4641\n0000000000001020 -\n0000000000001030 \n"
unfolding table_of all_bytes row_numbers row_lines row_line value_text pairs hex_digits digit
printed = refl
