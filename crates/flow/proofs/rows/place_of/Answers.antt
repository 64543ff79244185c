-- `place_of` meets its contract.
-- The starts are the part of the record at their offset.
use mathlib.Core.Path.{sym, ◌∙◌}
use Rattle.record.proofs.Rising.{starts_rise_lem}
use Rattle.flow.proofs.rows.place_of.Goals as goal

pub search-requires : goal.search-requires
search-requires c = rw c.from-starts.ensures.0 (starts_rise_lem _ _ (sym c.requires ∙ c.if-rises.true))
