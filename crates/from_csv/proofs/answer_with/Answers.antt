-- `answer_with` meets its contract.
-- By what reading answered: a part of the page of the lists' first entries, or the number.
use mathlib.Core.Path.{ap, ◌∙◌}
use mathlib.Core.List.{List}
use Prim.Native.Nat.{ℕ}
use native.Mathlib.Omega.{arith}
use lib.ListN.{length}
use Rattle.lists.specs.Put.{put}
use Rattle.rows.specs.Lists.{Lists}
use Rattle.from_csv.specs.Output.{page_part}
use Rattle.page.proofs.Pieces.{stands_whole}
use Rattle.from_csv.proofs.Printed.{long_prints, refused_prints, listed_few, listed_prints}
use Rattle.from_csv.proofs.answer_with.Goals as goal

pub returns-then-rows-gt262144 : goal.returns-then-rows-gt262144
returns-then-rows-gt262144 c = let end = c.put_refused.ensures.end in
    record { end = omega (arith, end.1); whole = λ room. long_prints c.args.rows.now c.args.p _ (omega (arith, c.if-rows-gt262144.true)) (stands_whole _ _ _ _ end.0 c.put_refused.ensures.text (omega (arith, end.1, room))) }

pub put_part-requires : goal.put_part-requires
put_part-requires c =
    let a = c.args in
    let few = listed_few a.rows.now _ _ c.requires.room _ c.read_rows.ensures (omega (arith, c.if-rows-gt262144.false)) _ c.in-Ok.is a.p in
    let same = c.cut.ensures in
    (c.requires.part, omega (arith, ap (λ (l : Lists). length l.text) same, few.0), omega (arith, ap (λ (l : Lists). length l.addresses) same, few.1))

pub returns-in-Ok : goal.returns-in-Ok
returns-in-Ok c =
    let a = c.args in
    let part = listed_prints a.rows.now _ _ c.requires.room _ c.read_rows.ensures (omega (arith, c.if-rows-gt262144.false)) _ c.in-Ok.is a.p in
    let same = ap (λ (l : Lists). page_part l a.p) c.cut.ensures in
    let end = c.put_part.ensures.end ∙ ap length same in
    let text = c.put_part.ensures.text ∙ ap (λ (t : List ℕ). put 0 t a.out.now) same in
    record { end = omega (arith, end, part.0); whole = λ room. part.1 _ (stands_whole _ _ _ _ end text (omega (arith, end, part.0, room))) }

pub returns-in-Err : goal.returns-in-Err
returns-in-Err c = let a = c.args in
    let end = c.put_refused-in-Err.ensures.end in
    record { end = omega (arith, end.1); whole = λ room. refused_prints a.rows.now _ _ c.requires.room _ c.read_rows.ensures (omega (arith, c.if-rows-gt262144.false)) a.p _ _ c.in-Err.is (stands_whole _ _ _ _ end.0 c.put_refused-in-Err.ensures.text (omega (arith, end.1, room))) }
