-- `code::code_literal` meets its contract.
-- The literal of the bytes that there are.
use Rattle.codes.proofs.EachToken.{string_coded}
use Rattle.text.specs.Literal.{literal_text}
use Rattle.std.proofs.Common.{ℕ, List, length, ap, ◌∙◌, arith, rules}
use Rattle.codes.proofs.code.code_literal.Goals as goal

pub returns : goal.returns
returns c t =
    let a = c.args in
    string_coded t a.rec.now a.codes.now _ 5 (omega arith) a.n a.at _ (search rules) a.wide
    (rw (← c.string_of.ensures.0) c.put_code.ensures) (c.literal_length-bytes.ensures.0 ∙ ap (λ (x : List ℕ). length (literal_text a.wide x)) c.part.ensures.0)
