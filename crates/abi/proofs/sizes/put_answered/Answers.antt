-- `put_answered` meets its contract.
-- The looks are stored behind the sizes.
use Rattle.abi.proofs.Exports.{put_looks}
use Rattle.abi.proofs.sizes.put_answered.Goals as goal

pub returns : goal.returns
returns c = let put = c.put_answer-number.ensures in
    record { number = put.number; sizes = put_looks c.args.r.answer _ _ _ _ put.sizes c.store.ensures }
