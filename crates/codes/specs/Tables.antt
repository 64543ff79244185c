-- The one table that is lent: the words, and behind them registers, mnemonics and conditions.
use Rattle.std.specs.Prelude.{ℕ, List, ◌++◌}
use Rattle.tokens.specs.Words.{word_bytes}
use Rattle.x86.specs.Table.{isa_bytes}

unfoldable pub table_bytes : List ℕ
table_bytes = word_bytes ++ isa_bytes
