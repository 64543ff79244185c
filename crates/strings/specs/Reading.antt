-- The reader of literals: what its parts find in a text. It describes the code, and is not what a caller must believe: what reading promises
-- is strings/specs/Called, in terms of text/specs/Literal alone.
use Rattle.std.specs.Prelude.{ℕ, ◌+◌, ◌*◌, ◌/◌, ◌%◌, ◌≤◌, ◌<◌, Bool, true, List, ◌++◌, ◌≡◌, eqb, ltb, length, drop, get_or, Option, Some, None}
use Rattle.lists.specs.Choice.{pick}
use Rattle.lists.specs.Put.{put}
use Rattle.text.specs.Literal.{escape, escapes, opening, closing, literal_text}
use Rattle.strings.specs.Called.{is_string, kept}
use Rattle.strings.specs.declared.character.Character.{Character}
use Rattle.strings.specs.declared.literal.Literal.{Literal}

-- ---- the one byte that a text's first character can be
abbrev pub hex_value : ℕ → ℕ
hex_value c = c % 16 + c / 64 * 9

abbrev pub code_of : ℕ → ℕ → ℕ
code_of a b = pick (eqb b 125) (hex_value a) (a % 16 * 16 + hex_value b % 16)

abbrev pub escaped_of : ℕ → ℕ → ℕ → ℕ
escaped_of c a b = pick (eqb c 48) 0 (pick (eqb c 116) 9 (pick (eqb c 114) 13 (pick (eqb c 110) 10 (pick (eqb c 117) (code_of a b) c))))

abbrev pub guess_of : List ℕ → ℕ
guess_of t = pick (eqb (get_or t 0 0) 92) (escaped_of (get_or t 1 0) (get_or t 3 0) (get_or t 4 0)) (get_or t 0 0)

-- the text t begins with the spelling of b, of n bytes
pub record Begun (t : List ℕ) (b n : ℕ) : Type 0 where
  pub within : n ≤ length t
  pub is : (b < 0x80) × (t ≡ escape b ++ drop n t)
  pub only : (x : ℕ) (r : List ℕ) → x < 0x80 → t ≡ escape x ++ r → (b ≡ x) × (n ≡ length (escape x))

-- the character that a text begins with, or none if it begins with no spelling
abbrev pub Spelt : List ℕ → Option Character → Type 0
Spelt t (Some c) = Begun t c.byte c.size
Spelt t None = (x : ℕ) (r : List ℕ) → x < 0x80 → t ≡ escape x ++ r → ⊥

-- ---- the parts of a literal
-- an opening of n bytes
pub record Opened (t : List ℕ) (n : ℕ) : Type 0 where
  pub is : t ≡ opening (eqb n 2) ++ drop n t
  pub only : (wide : Bool) (r : List ℕ) → t ≡ opening wide ++ r → n ≡ pick wide 2 1

-- or none
abbrev pub Opens : List ℕ → Option ℕ → Type 0
Opens t (Some n) = Opened t n
Opens t None = (wide : Bool) (r : List ℕ) → t ≡ opening wide ++ r → ⊥

-- the text t begins with n characters of i bytes, 80 at most
pub record Begins (t : List ℕ) (n i : ℕ) : Type 0 where
  pub bytes : List ℕ
  pub string : is_string bytes ≡ true
  pub count : length bytes ≡ n
  pub few : n ≤ 80
  pub within : i ≤ length t
  pub text : t ≡ escapes bytes ++ drop i t

-- and with no more where it could
pub record Characters (t : List ℕ) (n i : ℕ) : Type 0 where
  pub begins : Begins t n i
  pub last : n < 80 → (x : ℕ) (r : List ℕ) → x < 0x80 → drop i t ≡ escape x ++ r → ⊥

-- the end of a literal of n characters, and whether it was cut
pub record Ended (t : List ℕ) (n : ℕ) (b : Bool) : Type 0 where
  pub is : t ≡ closing b
  pub full : b ≡ true → n ≡ 80
  pub only : (cut : Bool) → t ≡ closing cut → b ≡ cut

-- or none
abbrev pub Ends : List ℕ → ℕ → Option Bool → Type 0
Ends t n (Some b) = Ended t n b
Ends t n None = (cut : Bool) → (cut ≡ true → n ≡ 80) → t ≡ closing cut → ⊥

-- ---- the two passes
-- what the text of a string's literal is found to be
pub record Found (t : List ℕ) (l : Literal) (wide : Bool) (s : List ℕ) : Type 0 where
  pub is_wide : l.wide ≡ wide
  pub is_cut : l.cut ≡ ltb 80 (length s)
  pub count : l.count ≡ length (kept s)
  pub text : drop l.start t ≡ escapes (kept s) ++ closing (ltb 80 (length s))

pub record IsMeasured (t : List ℕ) (l : Literal) : Type 0 where
  pub is : (s : List ℕ) × ((is_string s ≡ true) × (literal_text l.wide s ≡ t))
  pub only : (wide : Bool) (s : List ℕ) → is_string s ≡ true → literal_text wide s ≡ t → Found t l wide s

-- or no string's literal
abbrev pub Measured : List ℕ → Option Literal → Type 0
Measured t (Some l) = IsMeasured t l
Measured t None = (wide : Bool) (s : List ℕ) → is_string s ≡ true → literal_text wide s ≡ t → ⊥

pub record Filled (t : List ℕ) (n : ℕ) (out out' : List ℕ) : Type 0 where
  pub bytes : (s r : List ℕ) → is_string s ≡ true → length s ≡ n → t ≡ escapes s ++ r → out' ≡ put 0 s out
