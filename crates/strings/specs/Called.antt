-- The way back from a literal token to its string (#103): what the call answers and leaves. The literal of a string is text/specs/Literal.
use Rattle.std.specs.Prelude.{ℕ, ◌≤◌, Bool, true, false, List, ◌≡◌, ltb, leb, length, take, Ok, Err}
use Rattle.std.specs.declared.result.Result.{Result}
use Rattle.lists.specs.Choice.{ask}
use Rattle.lists.specs.Every.{every}
use Rattle.lists.specs.Question.{number_of, Answers}
use Rattle.lists.specs.declared.question.Question.{Question}
use Rattle.text.specs.Literal.{literal_text}
use Rattle.rows.specs.Lists.{left}
use Rattle.strings.specs.declared.reading.Values.{Values}

-- ---- the answer
-- "other answers beside a number 0 or no"
abbrev pub no_values : Values
no_values = record { count = 0; wide = false; cut = false }

abbrev pub values_of : Result Values Question → Values
values_of (Ok v) = v
values_of (Err q) = no_values

-- ---- literals
-- "string bytes below 0x80"
abbrev pub is_string : List ℕ → Bool
is_string s = every (λ (b : ℕ). ltb b 0x80) s

-- a token that is the literal of a string: of kind 5, with the text that the listing writes
pub record IsLiteral (kind : ℕ) (t : List ℕ) (wide : Bool) (s : List ℕ) : Type 0 where
  pub token : kind ≡ 5
  pub string : is_string s ≡ true
  pub text : literal_text wide s ≡ t

-- "A literal that ends in the cut mark gives its 80 characters and says that it was cut."
abbrev pub kept : List ℕ → List ℕ
kept s = take 80 s

abbrev pub values_for : Bool → List ℕ → Values
values_for wide s = record { count = length (kept s); wide = wide; cut = ltb 80 (length s) }

-- ---- the promise
-- "12 if the list for the bytes is short"
abbrev pub room_no : List ℕ → List ℕ → ℕ
room_no s out = ask 12 (leb (length (kept s)) (length out)) 0

pub record Returns (kind : ℕ) (t out out' : List ℕ) (r : Result Values Question) : Type 0 where
  -- "the way back from a literal token to the string's bytes and whether it was wide"
  pub answer : (wide : Bool) (s : List ℕ) → IsLiteral kind t wide s → Answers (room_no s out) (values_for wide s) r
  pub bytes : (wide : Bool) (s : List ℕ) → IsLiteral kind t wide s → out' ≡ left (room_no s out) (kept s) out
  -- "17 if the token is not of kind 5 or no such literal": what is not refused with 17 is the literal of a string
  pub others : (number_of r ≡ 17 → ⊥) → (wide : Bool) × ((s : List ℕ) × IsLiteral kind t wide s)
  -- with a number the other answers are 0 or no, and the list is as it was
  pub refused : (number_of r ≡ 0 → ⊥) → (values_of r ≡ no_values) × (out' ≡ out)
  -- "Every string of at most 80 characters comes back as it was."
  pub whole : number_of r ≡ 0 → (wide : Bool) (s : List ℕ) → IsLiteral kind t wide s → length s ≤ 80
      → (take (values_of r).count out' ≡ s) × ((values_of r).wide ≡ wide) × ((values_of r).cut ≡ false)
