-- `state::put_valued` meets its contract.
-- The token is counted, its code and the value stored.
use Rattle.codes.proofs.Five.{added_valued}
use Rattle.codes.proofs.state.put_valued.Goals as goal

pub returns : goal.returns
returns c = added_valued c.args.k c.args.what 0 c.args.place c.args.bytes c.args.codes.now _ _ _ _ _ c.requires.in_bounds c.kind_on-kind.ensures.0 c.joins_last-joins.ensures c.args.v c.count_token.ensures c.code_of.ensures c.store_valued.ensures
