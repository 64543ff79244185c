-- Worked examples of the way back: tokens that are the literal of a string, and the answers that are right for them.
-- Each is computed from the definitions.
use Rattle.std.specs.Prelude.{◌≡◌, refl, true, false, List, [], ◌∷◌, ◌++◌, ℕ, replicate, Ok, Err}
use Rattle.lists.specs.Question.{Answers}
use Rattle.lists.specs.declared.question.Question.TheVariants.{TextRoom}
use Rattle.lists.specs.Ascii.{ascii}
use Rattle.text.specs.Number.{digit, hex_of, hex_text}
use Rattle.text.specs.Literal.{unseen, code_text, escape, escapes, opening, closing, literal_text}
use Rattle.rows.specs.Lists.{left}
use Rattle.strings.specs.Called.{IsLiteral, kept, values_for, room_no}
use Rattle.strings.specs.Reading.{guess_of}

-- `"A\\B\r\0"`, and the same of a wide string
abbrev bytes : List ℕ
bytes = 65 ∷ 92 ∷ 66 ∷ 13 ∷ 0 ∷ []

plain : IsLiteral 5 (ascii "\"A\\\\B\\r\\0\"") false bytes
unfolding literal_text opening closing escapes escape unseen
plain = record { token = refl; string = refl; text = refl }

wide : IsLiteral 5 (ascii "L\"A\\\\B\\r\\0\"") true bytes
unfolding literal_text opening closing escapes escape unseen
wide = record { token = refl; string = refl; text = refl }

-- five bytes: exact fit passes, one less is refused
fits : Answers (room_no bytes (replicate 5 7)) (values_for true bytes) (Ok (record { count = 5; wide = true; cut = false }))
fits = (refl, refl)

short : Answers (room_no bytes (replicate 4 7)) (values_for true bytes) (Err TextRoom)
short = refl

-- entries past the bytes are unchanged
behind : left (room_no bytes (replicate 7 7)) (kept bytes) (replicate 7 7) ≡ bytes ++ (7 ∷ 7 ∷ [])
behind = refl

-- 80 characters are whole; 81 are cut, and give 80
exact : Answers (room_no (replicate 80 97) (replicate 80 7)) (values_for false (replicate 80 97)) (Ok (record { count = 80; wide = false; cut = false }))
exact = (refl, refl)

longer : Answers (room_no (replicate 81 97) (replicate 80 7)) (values_for false (replicate 81 97)) (Ok (record { count = 80; wide = false; cut = true }))
longer = (refl, refl)

-- what `\u{0}`, `\u{0d}` and `\u{41}` read as has another spelling
zero_spelt : escape (guess_of (ascii "\\u{0}")) ≡ ascii "\\0"
unfolding escape
zero_spelt = refl

return_spelt : escape (guess_of (ascii "\\u{0d}")) ≡ ascii "\\r"
unfolding escape
return_spelt = refl

letter_spelt : escape (guess_of (ascii "\\u{41}")) ≡ ascii "A"
unfolding escape unseen
letter_spelt = refl

code_spelt : escape (guess_of (ascii "\\u{1b}")) ≡ ascii "\\u{1b}"
unfolding escape unseen code_text hex_text hex_of digit
code_spelt = refl
