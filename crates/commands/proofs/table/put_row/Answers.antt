-- `put_row` meets its contract.
-- What is stored in the rest of the bytes is stored in them from there on.
use mathlib.Core.Path.{◌≡◌, sym}
use Prim.Native.Nat.{min}
use native.Mathlib.Omega.{arith}
use lib.ListN.{length, take}
use Rattle.lists.specs.PutLaws.{put_none, put_rest}
use Rattle.commands.proofs.table.put_row.Goals as goal

pub returns-in-Some-clause-bytes : goal.returns-in-Some-clause-bytes
returns-in-Some-clause-bytes c =
    let a = c.args in
    let m : a.x ≡ min a.x (length a.bytes.now) = let r = rw c.in-Some.is at c.requires in omega (arith, r) in
    rw c.in-Some.is (put_rest a.x a.x (take c.in-Some.s a.found.now) a.bytes.now _ m (rw c.part.ensures.0 at c.put_slice.ensures.text))

pub returns-in-None-clause-bytes : goal.returns-in-None-clause-bytes
returns-in-None-clause-bytes c = rw c.in-None.is (sym (put_none c.args.x c.args.bytes.now))
