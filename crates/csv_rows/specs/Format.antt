-- The rows of a listing as a file's bytes: #102, "Write a listing as comma-separated rows after RFC 4180.", with the third field of #107.
-- 34 is '"', 44 is ',', 13 and 10 are CR and LF.
use Rattle.std.specs.Prelude.{Bool, true, false, ◌&&◌, ◌||◌, List, [], ◌∷◌, ◌++◌, ℕ, ◌^◌, eqb, ltb, leb, get_or}
use Rattle.lists.specs.Ascii.{ascii}
use Rattle.lists.specs.Choice.{pick}
use Rattle.lists.specs.Every.{every}
use Rattle.text.specs.Decimal.{decimal_text}
use Rattle.text.specs.Number.{hex_digits}
use Rattle.tokens.specs.Token.{Token}
use Rattle.rows.specs.Rows.{Row}

-- "a kind letter (X R N K S A P F for kinds 0 to 7)"
abbrev pub letter : ℕ → ℕ
letter kind = get_or (ascii "XRNKSAPF") kind 0

-- "its text, any bytes, in double quotes, with quotes doubled"; "A backslash is copied as one backslash."
unfoldable pub doubled : List ℕ → List ℕ
doubled [] = []
doubled (b ∷ t) = pick (eqb b 34) (34 ∷ 34 ∷ doubled t) (b ∷ doubled t)

abbrev pub quoted : List ℕ → List ℕ
quoted t = 34 ∷ doubled t ++ (34 ∷ [])

-- "then for each token two fields": a comma stands before each field
unfoldable pub token_text : Token → List ℕ
token_text t = 44 ∷ letter t.kind ∷ 44 ∷ quoted t.bytes

unfoldable pub tokens_text : List Token → List ℕ
tokens_text [] = []
tokens_text (t ∷ ts) = token_text t ++ tokens_text ts

-- "address as sixteen upper hex digits or empty if the line has none"
abbrev pub address_text : Bool → ℕ → List ℕ
address_text addressed a = pick addressed (hex_digits true 16 a) []

-- "indent in decimal without leading zeros", the place "as a third field, 0 to 65535 in decimal without leading zeros"; "Rows end in CR LF"
unfoldable pub row_text : Row → List ℕ
row_text r =
    address_text r.addressed r.address
    ++ (44 ∷ (decimal_text r.indent ++ (44 ∷ (decimal_text r.place ++ (tokens_text r.tokens ++ (13 ∷ 10 ∷ []))))))

-- "there is no heading row", "An empty listing is an empty file."
unfoldable pub rows_text : List Row → List ℕ
rows_text [] = []
rows_text (r ∷ rs) = row_text r ++ rows_text rs

abbrev pub some : {A : Type 0} → List A → Bool
some [] = false
some (x ∷ l) = true

-- "no token empty"
unfoldable pub good_token : Token → Bool
good_token t = ltb t.kind 8 && some t.bytes

-- "lines of at least one token, no token empty, indents up to 254", "address 0 if none"
unfoldable pub good_row : Row → Bool
good_row r =
    ltb r.address (2 ^ 64) && (r.addressed || eqb r.address 0) && leb r.indent 254 && leb r.place 65535
    && some r.tokens && every good_token r.tokens

abbrev pub good_rows : List Row → Bool
good_rows rs = every good_row rs
