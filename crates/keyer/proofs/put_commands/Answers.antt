-- `put_commands` meets its contract.
-- Its own lists suffice for the table, so the call is not refused.
use mathlib.Core.Path.{◌≡◌, sym, ◌∙◌}
use Prim.Native.Nat.{ℕ, ◌≤◌}
use native.Mathlib.Omega.{arith}
use lib.ListN.{replicate, length-replicate}
use Rattle.page.proofs.Pieces.{stands_whole}
use Rattle.commands.specs.Table.{table_lists}
use Rattle.keyer.proofs.Table.{RoomyTable, not_refused, text_is, text_fits}
use Rattle.keyer.proofs.put_commands.Goals as goal

as_long : (n m : ℕ) → n ≡ m → n ≤ m
as_long n m e = omega (arith, e)

pub put_table-requires : goal.put_table-requires
put_table-requires c =
    let l = length-replicate {A = ℕ} in
    let n = l 5461 0 in
    omega (arith, c.requires.room, text_fits _ _ c.args.call.now c.args.register.now c.requires.lists.0 c.requires.lists.1 c.requires.names _ _ (as_long _ _ (sym (l 436880 0)), omega (arith, n), omega (arith, n)) _ c.command_table.ensures _ c.in-Ok.is _ _ _ c.part.ensures.0 c.part-in-Ok.ensures.0 c.part-in-Ok-2.ensures.0)

pub returns-in-Ok : goal.returns-in-Ok
returns-in-Ok c =
    let l = length-replicate {A = ℕ} in
    let n = l 5461 0 in
    let room : RoomyTable (table_lists (replicate 436880 0) (replicate 5461 0) (replicate 5461 0)) = (as_long _ _ (sym (l 436880 0)), omega (arith, n), omega (arith, n)) in
    let fits = text_fits _ _ c.args.call.now c.args.register.now c.requires.lists.0 c.requires.lists.1 c.requires.names _ _ room _ c.command_table.ensures _ c.in-Ok.is _ _ _ c.part.ensures.0 c.part-in-Ok.ensures.0 c.part-in-Ok-2.ensures.0 in
    let is = text_is _ _ c.args.call.now c.args.register.now c.requires.lists.0 c.requires.lists.1 c.requires.names _ _ room _ c.command_table.ensures _ c.in-Ok.is _ _ _ c.part.ensures.0 c.part-in-Ok.ensures.0 c.part-in-Ok-2.ensures.0 in
    stands_whole _ _ _ _ c.put_table.ensures.end c.put_table.ensures.text (omega (arith, c.put_table.ensures.end, c.requires.room, fits)) ∙ is

pub returns-in-Err : goal.returns-in-Err
returns-in-Err c =
    let l = length-replicate {A = ℕ} in
    let n = l 5461 0 in
    not_refused _ _ c.args.call.now c.args.register.now c.requires.lists.0 c.requires.lists.1 c.requires.names _ _ (as_long _ _ (sym (l 436880 0)), omega (arith, n), omega (arith, n)) _ c.command_table.ensures _ c.in-Err.is
