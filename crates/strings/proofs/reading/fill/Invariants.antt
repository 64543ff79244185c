-- `reading::fill` meets its contract.
-- The invariant `Filling`: what is left of the characters is what is left to store.
use Rattle.strings.proofs.Characters.{Filling}
use Rattle.strings.proofs.reading.fill.Given as goal

abbrev pub invariant-loop-k : goal.invariant-loop-k
invariant-loop-k l = Filling l.t l.n l.initial.out l.i l.k l.out
