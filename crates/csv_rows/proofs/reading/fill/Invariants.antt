-- `reading::fill` meets its contract.
-- The invariant `Storing`: to store what is left is to store all.
use Rattle.rows.specs.Lists.{lists_of}
use Rattle.csv_rows.proofs.Turns.{Scan, Storing}
use Rattle.csv_rows.proofs.reading.fill.Given as goal

abbrev pub invariant-loop-c : goal.invariant-loop-c
invariant-loop-c l =
    Scan l.s l.c-index l.t l.x l.n l.l
    × Storing l.s l.c-index l.t l.x l.n l.l (lists_of l.initial.text l.initial.ends l.initial.kinds l.initial.addresses l.initial.marks l.initial.places l.initial.lines) (lists_of l.text l.ends l.kinds l.addresses l.marks l.places l.lines)
