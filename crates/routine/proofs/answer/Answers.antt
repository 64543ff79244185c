-- `answer` meets its contract.
-- By the number that the text says, what the call left and what is printed of it.
use Rattle.lists.specs.Question.{number}
use Rattle.routine.proofs.Prints.{prints, prints_no}
use Rattle.routine.proofs.answer.Goals as goal
use Rattle.routine.proofs.answer.Goals.{in-Some, in-None}

pub returns : goal.returns
returns c =
    elim c.match-number_in.branch [
      | in-Some w ↦
          let said = rw w.in-Some.is at c.number_in.ensures in
          let told = rw (← w.made-is, ← w.out-is, w.into.ensures) at w.routine-made.ensures in
          prints _ _ _ _ _ _ c.requires told (c.put_stored.ensures number (λ _ _ is. is)) said.1 said.0
      | in-None w ↦
          let none = rw w.in-None.is at c.number_in.ensures in
          prints_no _ _ none (rw w.made-is at (c.put_stored.ensures number (λ _ _ is. is)))
    ]
