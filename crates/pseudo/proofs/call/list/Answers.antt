-- `list` meets its contract.
-- By what the questions before 12 answer.
use Rattle.pseudo.proofs.Calls.{accepted, ends_small, called_no, looks_no}
use Rattle.pseudo.proofs.Promises.{promised}
use Rattle.pseudo.proofs.call.list.Goals as goal

pub overflow_cast-from : goal.overflow_cast-from
overflow_cast-from c =
    let yes = accepted c.args.rec.now c.args.from c.args.to _ c.«record».ensures _ c.in-Ok.is in
    record { fits = (ends_small c.args.rec.now c.args.from c.args.to _ yes).0 }

pub overflow_cast-to : goal.overflow_cast-to
overflow_cast-to c =
    let yes = accepted c.args.rec.now c.args.from c.args.to _ c.«record».ensures _ c.in-Ok.is in
    record { fits = (ends_small c.args.rec.now c.args.from c.args.to _ yes).1 }

pub returns-in-Err : goal.returns-in-Err
returns-in-Err c =
    rw c.with_looks.ensures.answer
    (promised _ _ _ _ _ _ (called_no c.args.rec.now c.args.from c.args.to _ c.«record».ensures _ _ c.in-Err.is) _ (looks_no c.args.rec.now c.args.from c.args.to _ _ c.with_looks.ensures.looks))

pub returns-in-Ok : goal.returns-in-Ok
returns-in-Ok c =
    let left = c.list_accepted.ensures in
    promised _ _ _ _ _ _ left.lists _ left.looks
