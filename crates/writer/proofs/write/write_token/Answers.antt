-- `write::write_token` meets its contract.
-- The text in the rest of the list, then the end and the kind.
use mathlib.Core.Path.{◌≡◌}
use Prim.Native.Nat.{min}
use lib.ListN.{length}
use native.Mathlib.Omega.{arith}
use Rattle.lists.specs.PutLaws.{put_rest}
use Rattle.text.proofs.DigitLaws.{rest_room}
use Rattle.codes.specs.Code.{text_in}
use Rattle.writer.proofs.PageLaws.{token_fits, token_written}
use Rattle.writer.proofs.write.write_token.Goals as goal

pub write_text-n-requires : goal.write_text-n-requires
write_text-n-requires c =
    let a = c.args in
    let f = token_fits a.tables.now a.rec.now a.c a.v a.text.now a.ends.now a.kinds.now a.p c.requires.c_bound c.requires.fits in
    rest_room a.p.text (text_in a.tables.now a.rec.now a.c a.v) a.text.now f.text

pub end_token-requires : goal.end_token-requires
end_token-requires c = let a = c.args in
    let f = token_fits a.tables.now a.rec.now a.c a.v a.text.now a.ends.now a.kinds.now a.p c.requires.c_bound c.requires.fits in
    record { n_bound = omega (arith, f.small, c.write_text-n.ensures.count); tokens_in_bounds = (f.end, f.kind); c_bound = f.before }

pub returns : goal.returns
returns c =
    let a = c.args in
    let f = token_fits a.tables.now a.rec.now a.c a.v a.text.now a.ends.now a.kinds.now a.p c.requires.c_bound c.requires.fits in
    let w = c.write_text-n.ensures in
    let e = c.end_token.ensures in
    let m : a.p.text ≡ min a.p.text (length a.text.now) = omega (arith, f.text) in
    token_written a.tables.now a.rec.now a.c a.v a.text.now a.ends.now a.kinds.now a.p _ _ _ _ _ c.requires.c_bound w.count
    (put_rest a.p.text a.p.text (text_in a.tables.now a.rec.now a.c a.v) a.text.now _ m w.text) e.lists.0 e.lists.1 e.cursor
