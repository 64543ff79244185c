-- `Tables::isa` meets its contract.
-- What stands behind the words.
use Rattle.codes.proofs.TableLaws.{isa_is}
use Rattle.codes.proofs.tables.Tables.isa.Goals as goal

pub invariant_of-result : goal.invariant_of-result
invariant_of-result c = record { whole = isa_is _ _ c.args.self.whole c.from.ensures.0 }
