-- `write_plan` meets its contract.
-- The codes read back as the lines where the list holds all of them; where it does not, the turns write them.
use mathlib.Core.Path.{ap, ◌∙◌}
use native.Mathlib.Omega.{arith}
use Rattle.codes.specs.Code.{all_in_table, decode}
use Rattle.pseudo.proofs.Listing.{ready, of_table}
use Rattle.pseudo.proofs.writing.write_plan.Goals as goal

pub write_listing-requires : goal.write_listing-requires
write_listing-requires c =
    let q = c.requires.holds_lines (omega (arith, c.if-codes.true, c.requires.lent.room)) in
    let held = of_table _ _ _ _ _ c.args.tables.whole (ap (decode _ _) c.codes_of.ensures ∙ q.0, ap (all_in_table _) c.codes_of.ensures ∙ q.1) in
    ready _ c.requires.fits _ _ _ _ c.requires.holds _ _ _ held.0 held.1
