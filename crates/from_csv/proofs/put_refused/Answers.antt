-- `put_refused` meets its contract.
-- By whether it is part 0.
use Rattle.lists.specs.Question.{number}
use Rattle.from_csv.proofs.Parts.{first_refused, later_refused}
use Rattle.from_csv.proofs.put_refused.Goals as goal

pub returns-then-p-eq0 : goal.returns-then-p-eq0
returns-then-p-eq0 c =
    let told = c.put_refusal.ensures.text number (λ _ _ is. is) in
    let held = first_refused c.args.p (number c.args.q) _ _ _ c.if-p-eq0.true (told.0, c.put_refusal.ensures.short) told.1 in
    record { end = held.0; text = held.1 }

pub returns : goal.returns
returns c = let held = later_refused c.args.p (number c.args.q) _ c.if-p-eq0.false in record { end = held.0; text = held.1 }
