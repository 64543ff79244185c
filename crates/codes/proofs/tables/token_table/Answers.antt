-- `tables::token_table` meets its contract.
-- One computed test over all of its bytes.
use Rattle.std.proofs.Common.{refl}
use Rattle.tokens.specs.Words.{words, word_bytes}
use Rattle.x86.specs.Registers.{register_names, register_name, full_register, register_size}
use Rattle.x86.specs.Mnemonics.{mnemonic_names, mnemonic_name, writes_flags}
use Rattle.x86.specs.Conditions.{condition_names, condition_name, relation_after_cmp, relation_after_test, relation_after_other, prints_unsigned, negate}
use Rattle.x86.specs.Table.{register_table, mnemonic_table, condition_table, isa_bytes}
use Rattle.codes.specs.Tables.{table_bytes}
use Rattle.codes.proofs.tables.token_table.Goals as goal

pub returns : goal.returns
unfolding table_bytes word_bytes words isa_bytes register_table mnemonic_table condition_table register_names register_name full_register register_size mnemonic_names mnemonic_name writes_flags condition_names condition_name relation_after_cmp relation_after_test relation_after_other prints_unsigned negate
returns c = refl
