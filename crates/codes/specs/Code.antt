-- What token codes mean. A code is a number: bits 0 to 2 the token's kind, bit 3 is 1 where it begins anew and 0 where it goes on with
-- the token before, bits 4 to 7 what its text is made of, bits 8 to 23 a size, from bit 24 on a place. Some have a value in the number
-- behind them. t is the lent table, s the record.
use Rattle.std.specs.Prelude.{ℕ, suc, ◌+◌, ◌*◌, ◌/◌, ◌%◌, Bool, true, false, not, ◌&&◌, ◌||◌, List, [], ◌∷◌, ◌++◌, take, drop, ◌==◌, nat_le, slice_index}
use Rattle.lists.specs.Choice.{pick}
use Rattle.text.specs.Number.{hex_text, num_text}
use Rattle.text.specs.Literal.{literal_text}
use Rattle.tokens.specs.Token.{Token, token}

abbrev pub kind_in : ℕ → ℕ
kind_in c = c % 8

abbrev pub joins_in : ℕ → Bool
joins_in c = c / 8 % 2 == 0

abbrev pub what_in : ℕ → ℕ
what_in c = c / 16 % 16

abbrev pub size_in : ℕ → ℕ
size_in c = c / 256 % 65536

abbrev pub place_in : ℕ → ℕ
place_in c = c / 16777216

abbrev pub code_of : ℕ → Bool → ℕ → ℕ → ℕ → ℕ
code_of kind joins what size place = kind + 8 * pick joins 0 1 + 16 * what + 256 * size + 16777216 * place

-- what a text is made of
abbrev pub of_table : ℕ
of_table = 0

abbrev pub of_record : ℕ
of_record = 1

abbrev pub of_number : ℕ
of_number = 2

abbrev pub of_negative : ℕ
of_negative = 3

abbrev pub of_prefixed : ℕ
of_prefixed = 4

abbrev pub of_string : ℕ
of_string = 5

abbrev pub of_wide_string : ℕ
of_wide_string = 6

-- and the end of a line
abbrev pub line_end : ℕ
line_end = 7

-- a number, and a word with a number behind it, have their value in the next code's place
abbrev pub has_value : ℕ → Bool
has_value c = nat_le of_number (what_in c) && nat_le (what_in c) of_prefixed

-- whether the text of code c lies within a table of n bytes, if it is of the table
abbrev pub in_table : ℕ → ℕ → Bool
in_table n c = not (what_in c == of_table) || nat_le (place_in c + size_in c) n

-- the same of codes one behind the other, values left out
unfoldable pub all_in_table : ℕ → List ℕ → Bool
all_in_table n [] = true
all_in_table n (c ∷ []) = in_table n c
all_in_table n (c ∷ v ∷ cs) = in_table n c && pick (has_value c) (all_in_table n cs) (all_in_table n (v ∷ cs))

-- a word of the table: its kind, its length and its text stand one behind the other
abbrev pub word_at : List ℕ → ℕ → List ℕ
word_at t at = take (slice_index t (suc at)) (drop (suc (suc at)) t)

-- the text of code c, with value v
unfoldable pub text_in : List ℕ → List ℕ → ℕ → ℕ → List ℕ
text_in t s c v =
    pick (what_in c == of_table) (take (size_in c) (drop (place_in c) t))
    (pick (what_in c == of_record) (take (size_in c) (drop (place_in c) s))
    (pick (what_in c == of_number) (num_text false v)
    (pick (what_in c == of_negative) (num_text true v)
    (pick (what_in c == of_prefixed) (word_at t (place_in c) ++ hex_text true v)
    (literal_text (what_in c == of_wide_string) (take (size_in c) (drop (place_in c) s)))))))

-- what codes stand for, one behind the other: a token, which may go on with the one before, and the end of a line
pub data Event : Type 0 where
  tok : Bool → Token → Event
  end : Event

unfoldable pub event : List ℕ → List ℕ → ℕ → ℕ → Event
event t s c v = pick (nat_le line_end (what_in c)) end (tok (joins_in c) (token (kind_in c) (text_in t s c v)))

unfoldable pub decode : List ℕ → List ℕ → List ℕ → List Event
decode t s [] = []
decode t s (c ∷ []) = event t s c 0 ∷ []
decode t s (c ∷ v ∷ cs) = event t s c v ∷ pick (has_value c) (decode t s cs) (decode t s (v ∷ cs))
