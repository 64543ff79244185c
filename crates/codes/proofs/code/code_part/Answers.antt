-- `code::code_part` meets its contract.
-- The bytes that there are.
use Rattle.codes.proofs.EachToken.{record_coded}
use Rattle.std.proofs.Common.{length, ap, rules}
use Rattle.codes.proofs.code.code_part.Goals as goal

pub returns : goal.returns
returns c t =
    let a = c.args in
    record_coded t a.rec.now a.codes.now _ a.k c.requires.k_bound a.n a.at _ (search rules) c.put_code.ensures
    (ap length c.part.ensures.0)
