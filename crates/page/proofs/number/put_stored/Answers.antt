-- `put_stored` meets its contract.
-- By the answer's case; a refusal stands whole, as it has at most 10 bytes.
use native.Mathlib.Omega.{arith}
use Rattle.page.proofs.Pieces.{stands_whole}
use Rattle.page.proofs.number.put_stored.Goals as goal

pub returns-in-Err : goal.returns-in-Err
returns-in-Err g c = λ value known.
    let p = c.put_refusal.ensures in
    let told = p.text value known in
    rw c.in-Err.is (stands_whole _ _ _ _ told.0 told.1 (omega (arith, p.short, c.requires)))
