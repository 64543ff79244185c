-- The string whose literal a token is: a text is read character by character, and what was read must have just that literal.
use Rattle.std.specs.Prelude.{Bool, ◌&&◌, List, [], ◌∷◌, ℕ, zero, suc, eqb, length, drop, get_or}
use Rattle.std.specs.Prelude.{Option, None, Some}
use Rattle.lists.specs.Choice.{pick}
use Rattle.x86.specs.Words.{same_word}
use Rattle.text.specs.Literal.{escape, opening, literal_text}
use Rattle.tokens.specs.Token.{Token}
use Rattle.strings.specs.Called.{is_string}
use Rattle.strings.specs.Reading.{guess_of}

-- the bytes that a text's characters tell, up to the quote or n of them; 34 is '"'
unfoldable pub characters_of : ℕ → List ℕ → List ℕ
characters_of zero t = []
characters_of (suc n) t = pick (eqb (get_or t 0 0) 34) [] (guess_of t ∷ characters_of n (drop (length (escape (guess_of t))) t))

-- "L if wide"; 76 is 'L'
abbrev pub is_wide : List ℕ → Bool
is_wide t = eqb (get_or t 0 0) 76

abbrev pub read_off : List ℕ → List ℕ
read_off t = characters_of 80 (drop (length (opening (is_wide t))) t)

-- "A wide literal yields one byte a character. A cut literal .. gives none": the literal of at most 80 characters is not cut
unfoldable pub string_of : Token → Option (List ℕ)
string_of t =
    let s = read_off t.bytes in
    pick (eqb t.kind 5 && (is_string s && same_word (literal_text (is_wide t.bytes) s) t.bytes)) (Some s) None
