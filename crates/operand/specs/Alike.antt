-- TEST's "operands that print alike": the texts of two operands are the same bytes.
use Rattle.std.specs.Prelude.{Bool, List, ℕ}
use Rattle.tokens.specs.Listing.{text_of}
use Rattle.x86.specs.Words.{same_word}
use Rattle.record.specs.declared.header.Header.{Header}
use Rattle.operand.specs.Operand.{op_tokens}

-- the first two operands of a body print alike
unfoldable pub alike : Header → List ℕ → List ℕ → Bool
alike h s b = same_word (text_of (op_tokens h s b 0)) (text_of (op_tokens h s b 1))
