-- `store::to_columns` meets its contract.
-- It is `store`'s, with the number of bodies that the header gives.
use mathlib.Core.Path.{refl}
use Rattle.columns.specs.Columns.{bodies, body_bytes}
use Rattle.columns.proofs.store.to_columns.Goals as goal

pub returns : goal.returns
returns c =
    let e = rw c.read_header.ensures at c.from.ensures in
    c.store.ensures bodies body_bytes e refl
