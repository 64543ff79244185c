-- What a line of a listing states, read from its tokens alone: by the last byte of its text, its first token and, where that is `if`, a
-- `goto` in it.
use Rattle.std.specs.Prelude.{ℕ, Bool, ◌&&◌, List, [], ◌∷◌, eqb, get_or}
use Prim.Native.String.{String}
use Rattle.lists.specs.Ascii.{ascii}
use Rattle.lists.specs.Choice.{pick}
use Rattle.x86.specs.Words.{is_one_of, same_word}
use Rattle.tokens.specs.Token.{Token, token}
use Rattle.tokens.specs.Listing.{text_of}

-- a name is the bytes of a token
pub data Statement : Type 0 where
  -- `loc_1010:`
  label : List ℕ → Statement
  -- `do {`
  do_open : Statement
  -- `if (..) {`
  if_open : Statement
  -- `if (..) goto loc_1010;`
  goto_if : List ℕ → Statement
  -- `} while (..);`
  while_close : Statement
  -- `}`
  if_close : Statement
  -- `goto loc_1010;`
  goto : List ℕ → Statement
  -- `return;` and `return rax;`
  return : Statement
  -- `return f(..);` and `goto *rax;`
  leave : Statement
  -- any other instruction's line
  other : Statement

-- token k of a line, and behind the last one an empty text
abbrev pub nth : List Token → ℕ → Token
nth ts k = get_or ts k (token 0 [])

abbrev pub is_punct : Token → Bool
is_punct t = eqb t.kind 6

abbrev pub is_keyword : String → Token → Bool
is_keyword w t = eqb t.kind 3 && same_word t.bytes (ascii w)

-- the last byte of a text, b before the first
unfoldable pub final : ℕ → List ℕ → ℕ
final b [] = b
final b (x ∷ t) = final x t

abbrev pub ending : List Token → ℕ
ending ts = final 0 (text_of ts)

-- `goto` and a space stand before the name; without a `goto` the line is cmovcc's
unfoldable pub if_states : List Token → Statement
if_states [] = other
if_states (t ∷ ts) = pick (is_keyword "goto" t) (goto_if (nth ts 1).bytes) (if_states ts)

-- 40 is the parenthesis of a call
abbrev pub return_states : List Token → Statement
return_states ts = pick (is_one_of 40 (text_of ts)) leave return

-- `goto` and a space before a name, or ` *` before an operand
abbrev pub goto_states : List Token → Statement
goto_states ts = pick (is_punct (nth ts 1)) leave (goto (nth ts 2).bytes)

abbrev pub brace_states : Token → Statement
brace_states t = pick (same_word t.bytes (ascii "}")) if_close while_close

-- by the first token
abbrev pub first_states : Token → List Token → Statement
first_states t ts =
    pick (is_punct t) (brace_states t)
    (pick (is_keyword "return" t) (return_states ts)
    (pick (is_keyword "goto" t) (goto_states ts)
    (pick (is_keyword "if" t) (if_states ts) other)))

-- by the last byte: 58 is the colon, 123 the opening brace
unfoldable pub statement_of : List Token → Statement
statement_of ts =
    pick (eqb (ending ts) 58) (label (nth ts 0).bytes)
    (pick (eqb (ending ts) 123) (pick (is_keyword "do" (nth ts 0)) do_open if_open)
    (first_states (nth ts 0) ts))
