-- `state::put_end` meets its contract.
-- Two stores and the code.
use Rattle.codes.proofs.Five.{ended}
use Rattle.codes.proofs.state.put_end.Goals as goal

pub returns : goal.returns
returns c = ended c.args.codes.now _ _ c.requires c.wrapping_add_u64.ensures.value c.store_code.ensures
