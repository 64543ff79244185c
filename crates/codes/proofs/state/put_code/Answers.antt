-- `state::put_code` meets its contract.
-- The token is counted and its code stored.
use Rattle.codes.proofs.Five.{added}
use Rattle.codes.proofs.state.put_code.Goals as goal

pub returns : goal.returns
returns c = added c.args.k c.args.what c.args.size c.args.place c.args.bytes c.args.codes.now _ _ _ _ _ c.requires.in_bounds c.kind_on-kind.ensures.0 c.joins_last-joins.ensures c.count_token.ensures c.code_of.ensures c.store_code.ensures
