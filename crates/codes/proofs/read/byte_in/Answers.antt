-- `read::byte_in` meets its contract.
-- A word and a number behind it; all else the check finds.
use Rattle.std.proofs.Common.{◌∙◌, sym, ap, List, ℕ}
use Rattle.lists.specs.Bytes.{u8_at}
use Rattle.codes.proofs.Made.{text_word}
use Rattle.codes.proofs.read.byte_in.Goals as goal

pub returns-in-4 : goal.returns-in-4
returns-in-4 c = c.prefixed_byte.ensures ∙ ap (λ (x : List ℕ). u8_at x c.args.j) (sym (text_word _ _ c.args.c _ _ _ c.in-4.is c.u8_at-in-4.ensures.0 c.part-in-4.ensures.0))
