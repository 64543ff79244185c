-- Whether a block's start is new: `start_is_new` meets its contract.
-- It is where it is found nowhere before.
use mathlib.Core.Path.{sym, ap, ◌∙◌}
use Rattle.record.specs.Blocks.{differ, start_is_new}
use Rattle.record.proofs.SearchLaws.{none, none_is, none_all}
use Rattle.record.proofs.blocks.start_is_new.Goals as goal

pub returns : goal.returns
unfolding start_is_new differ
returns c =
    let x = c.start_at-x in
    sym (none_is _ _ c.is_none.ensures) ∙ ap none c.first_of.ensures ∙ none_all _ _ _ ∙ simp x.ensures
