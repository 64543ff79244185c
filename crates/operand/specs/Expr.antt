-- An expression: its tokens, and whether it needs parentheses inside another (`Expr`, `wrap`, `binop` of leaf 1).
use Rattle.std.specs.Prelude.{Bool, true, false, List, [], ◌∷◌, ◌++◌}
use Rattle.tokens.specs.Token.{Token, punct}

pub record Expr : Type 0 where
  pub tokens : List Token
  pub loose : Bool

abbrev pub tight : List Token → Expr
tight ts = record { tokens = ts; loose = false }

-- in parentheses where it is loose
abbrev pub wrap_if : Bool → List Token → List Token
wrap_if false ts = ts
wrap_if true ts = punct "(" ∷ (ts ++ (punct ")" ∷ []))

abbrev pub wrap : Expr → List Token
wrap e = wrap_if e.loose e.tokens

abbrev pub binop : Expr → Token → Expr → Expr
binop a op b = record { tokens = wrap a ++ (op ∷ wrap b); loose = true }
