-- `put_stored` meets its contract.
-- By the answer's case: one number is stored.
use Rattle.lists.specs.PutLaws.{put_cons, put_none}
use Rattle.abi.proofs.store.put_stored.Goals as goal

pub returns-in-Ok-clause-size : goal.returns-in-Ok-clause-size
returns-in-Ok-clause-size g c = rw (c.in-Ok.is, put_cons, put_none) c.store.ensures

pub returns-in-Err-clause-size : goal.returns-in-Err-clause-size
returns-in-Err-clause-size g c = rw (c.in-Err.is, put_cons, put_none) c.store-in-Err.ensures
