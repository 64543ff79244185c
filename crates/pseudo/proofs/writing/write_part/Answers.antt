-- `write_part` meets its contract.
-- The codes read back as the lines: the list has room for as many as they can have.
use mathlib.Core.Path.{ap, ◌∙◌}
use native.Mathlib.Omega.{arith}
use lib.ListN.{length}
use Rattle.pseudo.proofs.Answers.{codes_length}
use Rattle.pseudo.proofs.Listing.{part_counted, part_holds, of_table}
use Rattle.writer.specs.Written.{on_page}
use Rattle.pseudo.proofs.writing.write_part.Goals as goal

pub codes_of-requires : goal.codes_of-requires
codes_of-requires c = let a = c.args in part_counted _ _ _ _ _ c.start.ensures c.code_lines.ensures (length a.plan.now) (omega (arith, c.requires.plan_in_bounds, c.start.auto.codes)) c.code_lines.auto.codes (codes_length a.h a.rec.now a.range a.mask a.plan.now) (omega (arith, c.start.auto.codes, c.well_formed.1.1.1.1.1.0))

pub write_codes-requires : goal.write_codes-requires
write_codes-requires c = let a = c.args in
    let q = of_table _ _ _ _ _ c.args.tables.whole (part_holds _ _ _ _ _ c.start.ensures c.code_lines.ensures (length a.plan.now) (omega (arith, c.requires.plan_in_bounds, c.start.auto.codes)) c.code_lines.auto.codes (codes_length a.h a.rec.now a.range a.mask a.plan.now) (omega (arith, c.start.auto.codes, c.well_formed.1.1.1.1.1.0)) _ c.codes_of.ensures) in
    record { room = rw q.0 c.requires.room; codes_value = q.1 }

pub returns : goal.returns
returns c =
    let a = c.args in
    c.write_codes.ensures ∙ ap (on_page _) (of_table _ _ _ _ _ c.args.tables.whole (part_holds _ _ _ _ _ c.start.ensures c.code_lines.ensures (length a.plan.now) (omega (arith, c.requires.plan_in_bounds, c.start.auto.codes)) c.code_lines.auto.codes (codes_length a.h a.rec.now a.range a.mask a.plan.now) (omega (arith, c.start.auto.codes, c.well_formed.1.1.1.1.1.0)) _ c.codes_of.ensures)).0
