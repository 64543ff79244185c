-- `digits::write_prefixed` meets its contract.
-- Two writers, one behind the other.
use native.Mathlib.Omega.{arith}
use mathlib.Core.Bool.{true}
use Rattle.text.specs.Number.{hex_text}
use lib.ListN.{length-append}
use Rattle.lists.specs.PutLaws.{put_both}
use Rattle.text.proofs.digits.write_prefixed.Goals as goal

pub returns : goal.returns
returns c = let h = c.write_hex.ensures in
    let p = c.put_slice-n in
    let a = c.args in
    let l = length-append a.prefix.now (hex_text true a.v) in record { count = (rw length-append (omega arith), omega arith); text = put_both _ _ _ _ _ _ _ p.ensures.count p.ensures.text (omega (arith, l, p.auto.out)) h.text }
