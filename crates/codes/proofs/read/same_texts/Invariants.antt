-- `read::same_texts` meets its contract.
-- The invariant: from index j on the texts are the same exactly if the whole texts are.
use Rattle.std.proofs.Common.{◌≡◌, drop}
use Rattle.x86.specs.Words.{same_word}
use Rattle.codes.specs.Code.{decode}
use Rattle.codes.specs.Spelled.{spelled}
use Rattle.codes.proofs.read.same_texts.Given as goal

abbrev pub invariant-loop-j : goal.invariant-loop-j
invariant-loop-j l =
    same_word (drop l.j (spelled (decode l.tables l.rec l.a))) (drop l.j (spelled (decode l.tables l.rec l.b))) ≡ same_word (spelled (decode l.tables l.rec l.a)) (spelled (decode l.tables l.rec l.b))
