-- `copy::copy_bytes` meets its contract.
-- Each part leaves what is left to the next.
use mathlib.Core.Path.{refl}
use Rattle.writer.proofs.CopyLaws.{in_parts}
use Rattle.writer.proofs.copy.copy_bytes.Goals as goal

pub returns : goal.returns
returns c = let a = c.args in
    record { count = refl; text = in_parts a.s.now a.out.now _ _ _ _ a.at a.n _ _ _ c.copy_eights-i.ensures.text c.copy_fours-j.ensures.text c.copy_twos-k.ensures.text c.copy_last.ensures }
