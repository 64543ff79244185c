-- What #113 says of a single line: whether it is a call line, whether it begins with a register, which bytes it sets it to.
-- The kinds of tokens are 1 Register, 5 Address (of which literals are some), 6 Punct.
use Rattle.std.specs.Prelude.{Bool, ◌&&◌, List, [], ℕ, eqb, get_or}
use Rattle.std.specs.Prelude.{Option, None}
use Rattle.lists.specs.Ascii.{ascii}
use Rattle.lists.specs.Choice.{pick}
use Rattle.x86.specs.Words.{same_word}
use Rattle.tokens.specs.Token.{Token, token}
use Rattle.rows.specs.Rows.{Row}
use Rattle.commands.specs.Literals.{string_of}

-- token k of a line, from 0; behind the last one an empty text, which is nothing that is asked for here
abbrev pub token_of : Row → ℕ → Token
token_of r k = get_or r.tokens k (token 0 [])

-- "` = ` of any kind"
abbrev pub is_assign : Token → Bool
is_assign t = same_word t.bytes (ascii " = ")

-- "a Punct that begins with `(`"; 40 is '('
abbrev pub opens : Token → Bool
opens t = eqb t.kind 6 && eqb (get_or t.bytes 0 0) 40

-- "A call line has an address and begins with a register, ` = ` of any kind, one token and a Punct that begins with `(`."
unfoldable pub is_call : Row → Bool
is_call r = r.addressed && (eqb (token_of r 0).kind 1 && (is_assign (token_of r 1) && opens (token_of r 3)))

-- a "call line whose third token's text is the call name"
unfoldable pub calls_to : List ℕ → Row → Bool
calls_to call r = is_call r && same_word (token_of r 2).bytes call

-- a line "whose first token is that register"
unfoldable pub begins_with : List ℕ → Row → Bool
begins_with register r = eqb (token_of r 0).kind 1 && same_word (token_of r 0).bytes register

-- the bytes that such a line sets: "if its second is ` = ` and its third a literal"; "any other second or third token .. gives none"
unfoldable pub given : Row → Option (List ℕ)
given r = pick (is_assign (token_of r 1)) (string_of (token_of r 2)) None
