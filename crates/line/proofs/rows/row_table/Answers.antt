-- `row_table` meets its contract.
-- The code's table is the specification's, computed whole.
use mathlib.Core.Path.{refl}
use Rattle.line.specs.Forms.{plain_form}
use Rattle.line.specs.Codes.{codes, form_number, row_bytes}
use Rattle.line.proofs.rows.row_table.Goals as goal

pub returns : goal.returns
unfolding row_bytes codes form_number plain_form
returns c = refl
