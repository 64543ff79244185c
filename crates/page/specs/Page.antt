-- The text that the program prints: "prints `no` and the number, or the lines below".
-- "First the line count; then address (sixteen upper hex digits, or dashes if none), a space, two spaces per indent, the text. LF ends
-- every line."
use Rattle.std.specs.Prelude.{true, List, [], ◌∷◌, ◌++◌, ℕ, zero, suc, ◌-◌, ◌*◌, ◌%◌, ltb, length, take, get_or, replicate}
use Rattle.std.proofs.Math.Seq.{slice}
use Rattle.lists.specs.Ascii.{ascii}
use Rattle.lists.specs.Choice.{pick}
use Rattle.std.specs.declared.result.Result.{Result}
use Rattle.std.specs.Prelude.{Ok, Err}
use Rattle.lists.specs.Question.{number}
use Rattle.lists.specs.declared.question.Question.{Question}
use Rattle.text.specs.Number.{hex_text}
use Rattle.text.specs.Decimal.{decimal_text}
use Rattle.rows.specs.Lists.{Lists}

-- "LF ends every line."
abbrev pub lf : List ℕ
lf = 10 ∷ []

unfoldable pub numbered : List ℕ → ℕ → List ℕ
numbered word n = word ++ decimal_text n ++ lf

-- "First the line count", as in `lines=5`
abbrev pub count_line : ℕ → List ℕ
count_line n = numbered (ascii "lines=") n

-- "`no` and the number", as in `no 12`
abbrev pub refusal : ℕ → List ℕ
refusal n = numbered (ascii "no ") n

-- "prints `no` and the number, or the lines below": what a program prints, by its number, 0 where it has something to show
abbrev pub output_for : ℕ → List ℕ → List ℕ
output_for zero text = text
output_for (suc n) text = refusal (suc n)

-- the same of a call that stores bytes from the start of the list e on, by the number that an error has
abbrev pub output_by : {E : Type 0} → (E → ℕ) → Result ℕ E → List ℕ → List ℕ
output_by value (Ok n) e = take n e
output_by value (Err x) e = refusal (value x)

abbrev pub stored_output : Result ℕ Question → List ℕ → List ℕ
stored_output r e = output_by number r e

-- "address (sixteen upper hex digits, or dashes if none)": a line has one if its mark is 256 or more; 48 is '0', 45 is '-'
unfoldable pub address_text : ℕ → ℕ → List ℕ
address_text mark address = pick (ltb mark 256) (replicate 16 45) (replicate (16 - length (hex_text true address)) 48 ++ hex_text true address)

-- "then address (sixteen upper hex digits, or dashes if none), a space, two spaces per indent, the text": the indent stands below 256 in a mark; 32 is a space
unfoldable pub line_of : ℕ → ℕ → List ℕ → List ℕ
line_of mark address text = address_text mark address ++ ascii " " ++ replicate (2 * (mark % 256)) 32 ++ text ++ lf

-- where the first k tokens end
abbrev pub tokens_end : List ℕ → ℕ → ℕ
tokens_end ends zero = 0
tokens_end ends (suc k) = get_or ends k 0

-- where the first i lines end
abbrev pub lines_end : List ℕ → List ℕ → ℕ → ℕ
lines_end ends lines zero = 0
lines_end ends lines (suc i) = tokens_end ends (get_or lines i 0)

module _ (l : Lists) where
  -- the bytes of line i: from where the line before ends to where its own last token ends
  abbrev pub line_bytes : ℕ → List ℕ
  line_bytes i = slice (lines_end l.ends l.lines i) (lines_end l.ends l.lines (suc i)) l.text

  abbrev pub line_text : ℕ → List ℕ
  line_text i = line_of (get_or l.marks i 0) (get_or l.addresses i 0) (line_bytes i)

  -- the lines from i on, k of them
  unfoldable pub lines_text : ℕ → ℕ → List ℕ
  lines_text i zero = []
  lines_text i (suc k) = line_text i ++ lines_text (suc i) k

  unfoldable pub page_text : ℕ → List ℕ
  page_text n = count_line n ++ lines_text 0 n

  -- the page of a listing
  abbrev pub page_of : List ℕ
  page_of = page_text (length l.addresses)
