-- `fields::put_entry` meets its contract.
-- By the array's case: how long an entry is, computed.
use native.Mathlib.Omega.{arith}
use Rattle.lists.specs.Little.{little}
use Rattle.routines.proofs.Sizes.{length_body}
use Rattle.routines.proofs.fields.put_entry.Goals as goal

pub returns-in-Starts-clause-end : goal.returns-in-Starts-clause-end
unfolding little
returns-in-Starts-clause-end c = rw c.in-Starts.is c.put_u64.ensures.end

pub returns-in-Marks-clause-end : goal.returns-in-Marks-clause-end
unfolding little
returns-in-Marks-clause-end c = rw c.in-Marks.is c.put_mark.ensures.end

pub returns-in-Addresses-clause-end : goal.returns-in-Addresses-clause-end
unfolding little
returns-in-Addresses-clause-end c = rw c.in-Addresses.is c.put_u64-in-Addresses.ensures.end

pub put_body-requires : goal.put_body-requires
put_body-requires c =
    let room = rw c.in-Bodies.is at c.requires.0 in
    (omega (arith, length_body c.args.e), omega arith, c.requires.3)

pub returns-in-Bodies-clause-end : goal.returns-in-Bodies-clause-end
returns-in-Bodies-clause-end c = rw c.in-Bodies.is (omega (arith, length_body c.args.e, c.put_body.ensures.end))
