-- Whether a last direct jmp to a block has its one Uncond edge there: `jump_led` meets its contract.
-- By how the block ends and where its branch goes.
use Rattle.checker.proofs.Led.{jump_goes, jump_none}
use Rattle.checker.proofs.blocks.jump_led.Goals as goal

pub returns-then-ending_in-branch_to : goal.returns-then-ending_in-branch_to
returns-then-ending_in-branch_to c =
    let a = c.args in
    jump_goes a.targets.now a.kinds.now a.bodies.now a.blocks.now a.k.0 _ _ c.ending_in.ensures c.branch_to.ensures _ _ _ c.if-ending_in-branch_to.true c.last_body.ensures c.op_number-va.ensures c.one_edge_to.ensures

pub returns : goal.returns
returns c =
    let a = c.args in
    jump_none a.targets.now a.kinds.now a.bodies.now a.blocks.now a.k.0 _ _ c.ending_in.ensures c.branch_to.ensures c.if-ending_in-branch_to.false
