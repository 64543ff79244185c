-- `size` meets its contract.
-- By what the questions before 12 answer.
use Rattle.pseudo.proofs.Calls.{accepted, ends_small}
use Rattle.pseudo.proofs.size.size.Goals as goal

pub overflow_cast-from : goal.overflow_cast-from
overflow_cast-from c =
    let yes = accepted c.args.rec.now c.args.from c.args.to _ c.«record».ensures _ c.in-Ok.is in
    record { fits = (ends_small c.args.rec.now c.args.from c.args.to _ yes).0 }

pub overflow_cast-to : goal.overflow_cast-to
overflow_cast-to c =
    let yes = accepted c.args.rec.now c.args.from c.args.to _ c.«record».ensures _ c.in-Ok.is in
    record { fits = (ends_small c.args.rec.now c.args.from c.args.to _ yes).1 }
