-- `reading::read_rows` meets its contract.
-- By what its passes ensure, with the answer to the questions.
use mathlib.Core.Path.{refl}
use Rattle.std.proofs.lemmas.Result.{err_from_is_err_and}
use Rattle.csv_rows.proofs.Answered.{refused_as, room_as, filled_as}
use Rattle.csv_rows.proofs.reading.read_rows.Goals as goal

pub returns-in_err-sizes : goal.returns-in_err-sizes
returns-in_err-sizes c =
    let p = err_from_is_err_and c.from_residual.result c.from_residual.ensures.1 in
    rw (p.1, p.2) (refused_as _ _ c.sizes.result c.sizes.ensures refl c.in_err-sizes.was)

pub fill-requires : goal.fill-requires
fill-requires c = room_as _ _ c.sizes.result c.sizes.ensures c.in_ok-sizes.was

pub returns : goal.returns
returns c = filled_as _ _ c.sizes.result c.sizes.ensures refl c.in_ok-sizes.was c.fill.ensures
