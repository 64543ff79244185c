-- What the writers of rows leave, the parts of a row that each of them writes, and the size of the whole file.
use Rattle.std.specs.Prelude.{◌≡◌, List, [], ◌∷◌, ◌++◌, ℕ, ◌+◌, ◌-◌, ◌*◌, eqb, length, take, get_or}
use Rattle.lists.specs.Choice.{pick, sum_below}
use Rattle.lists.specs.Put.{put}
use Rattle.lists.specs.Entries.{tab}
use Rattle.text.specs.Decimal.{decimal_text}
use Rattle.tokens.specs.Lines.{tokens_between}
use Rattle.rows.specs.Lists.{Lists}
use Rattle.rows.specs.Rows.{is_addressed, indent_of, row_at}
use Rattle.csv_rows.specs.Format.{doubled, tokens_text, address_text, rows_text}

-- a writer stored w from index `at` on, and answers where it ended
pub record Wrote (at : ℕ) (w e e' : List ℕ) (r : ℕ) : Type 0 where
  pub end : r ≡ at + length w
  pub text : e' ≡ put at w e

-- a byte of a token's text
abbrev pub char_text : ℕ → List ℕ
char_text b = pick (eqb b 34) (34 ∷ 34 ∷ []) (b ∷ [])

-- a row's fields before its tokens, from its mark, address and place
unfoldable pub head_text : ℕ → ℕ → ℕ → List ℕ
head_text mark address place = address_text (is_addressed mark) address ++ (44 ∷ (decimal_text (indent_of mark) ++ (44 ∷ decimal_text place)))

-- the tokens from n up to m
unfoldable pub tokens_from : (text ends kinds : List ℕ) → ℕ → ℕ → List ℕ
tokens_from text ends kinds m n = tokens_text (tokens_between text ends kinds n m)

-- a row behind its first fields
unfoldable pub line_text : (text ends kinds : List ℕ) → ℕ → ℕ → List ℕ
line_text text ends kinds m n = tokens_from text ends kinds m n ++ (13 ∷ 10 ∷ [])

-- the rows from i up to m
unfoldable pub rows_from : Lists → ℕ → ℕ → List ℕ
rows_from l m i = rows_text (tab (row_at l) i (m - i))

-- the bytes of a row besides its tokens: sixteen digits, the numbers, two commas, CR LF
unfoldable pub frame_size : ℕ → ℕ → ℕ
frame_size mark place = pick (is_addressed mark) 16 0 + length (decimal_text (indent_of mark)) + length (decimal_text place) + 4

-- the same of the first m rows
abbrev pub frames_size : List ℕ → List ℕ → ℕ → ℕ
frames_size marks places m = sum_below (λ i. frame_size (get_or marks i 0) (get_or places i 0)) m

-- the file of lists with x bytes of text, n tokens and m rows: a token has two commas, a letter and two quotes besides its text
unfoldable pub file_size : (text marks places : List ℕ) → ℕ → ℕ → ℕ → ℕ
file_size text marks places x n m = length (doubled (take x text)) + 5 * n + frames_size marks places m
