-- Whether every goto of the whole record's listing has its label: `gotos_labelled` meets its contract.
-- The codes are the record's plan, read back.
use mathlib.Core.Path.{◌∙◌}
use Rattle.route.specs.Assumed.{gotos_labelled}
use Rattle.checker.proofs.Planned.{planned, lines_are}
use Rattle.checker.proofs.check.gotos_labelled.Goals as goal

pub plan_record-planned-requires : goal.plan_record-planned-requires
plan_record-planned-requires c = record { asked = planned c.args.h c.args.rec.now c.requires.accepted; rows = c.requires.blocks_value }

pub returns : goal.returns
unfolding gotos_labelled
returns c =
    c.all_labelled.ensures
    ∙ rw (lines_are c.args.h c.args.rec.now c.requires.accepted _ _ _ c.plan_record-planned.ensures.lines c.part.ensures.0, c.requires.blocks_value)
