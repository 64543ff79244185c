-- `write::write_word` meets its contract.
-- The text of the table in the rest of the list, then the end and the kind.
use mathlib.Core.Path.{◌≡◌, sym, ◌∙◌}
use mathlib.Core.List.{[]}
use Prim.Native.Nat.{min}
use lib.ListN.{length}
use native.Mathlib.Omega.{arith}
use Rattle.lists.specs.PutLaws.{put_rest}
use Rattle.text.proofs.DigitLaws.{rest_room}
use Rattle.codes.specs.Code.{size_in, place_in, text_in}
use Rattle.codes.proofs.Made.{text_table}
use Rattle.writer.proofs.CopyLaws.{whole_part}
use Rattle.writer.proofs.PageLaws.{token_fits, token_written}
use Rattle.writer.proofs.TextLaws.{told, room}
use Rattle.writer.proofs.write.write_word.Goals as goal

pub copy_bytes-n-requires : goal.copy_bytes-n-requires
copy_bytes-n-requires c =
    let a = c.args in
    let f = token_fits a.tables.now [] a.c 0 a.text.now a.ends.now a.kinds.now a.p (omega (arith, c.requires.c_value)) c.requires.fits in
    let r = room _ _ _ (text_table a.tables.now [] a.c 0 c.requires.c_value) (rest_room a.p.text (text_in a.tables.now [] a.c 0) a.text.now f.text) in
    (c.requires.c_in_bounds, omega (arith, r, whole_part a.tables.now (place_in a.c) (size_in a.c) c.requires.c_in_bounds), omega arith)

pub end_token-requires : goal.end_token-requires
end_token-requires c = let a = c.args in
    let f = token_fits a.tables.now [] a.c 0 a.text.now a.ends.now a.kinds.now a.p (omega (arith, c.requires.c_value)) c.requires.fits in
    let w = c.copy_bytes-n.ensures in
    let t = told _ _ _ _ _ (text_table a.tables.now [] a.c 0 c.requires.c_value) (w.count ∙ sym (whole_part a.tables.now (place_in a.c) (size_in a.c) c.requires.c_in_bounds)) w.text in
    record { n_bound = omega (arith, f.small, t.0); tokens_in_bounds = (f.end, f.kind); c_bound = f.before }

pub returns : goal.returns
returns c =
    let a = c.args in
    let f = token_fits a.tables.now [] a.c 0 a.text.now a.ends.now a.kinds.now a.p (omega (arith, c.requires.c_value)) c.requires.fits in
    let w = c.copy_bytes-n.ensures in
    let t = told _ _ _ _ _ (text_table a.tables.now [] a.c 0 c.requires.c_value) (w.count ∙ sym (whole_part a.tables.now (place_in a.c) (size_in a.c) c.requires.c_in_bounds)) w.text in
    let e = c.end_token.ensures in
    let m : a.p.text ≡ min a.p.text (length a.text.now) = omega (arith, f.text) in
    token_written a.tables.now [] a.c 0 a.text.now a.ends.now a.kinds.now a.p _ _ _ _ _ (omega (arith, c.requires.c_value)) t.0
    (put_rest a.p.text a.p.text (text_in a.tables.now [] a.c 0) a.text.now _ m t.1) e.lists.0 e.lists.1 e.cursor
