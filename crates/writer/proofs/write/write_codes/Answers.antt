-- `write::write_codes` meets its contract.
-- The invariant: writing the codes left from here gives the page that writing all gives from the start, there is room for them, and they lie within the table.
use mathlib.Core.Path.{refl, ◌∙◌}
use Prim.Native.Nat.{◌+◌}
use lib.ListN.{length, get_or}
use Rattle.writer.specs.Written.{page}
use Rattle.writer.proofs.PageLaws.{fits_lines, end_fits, end_written, end_width, word_fits, word_written, word_width, word_in, rest_in, turn, turn_room, room_at, done}
use Rattle.writer.proofs.write.write_codes.Goals as goal

pub write_word-r-requires : goal.write_word-r-requires
write_word-r-requires c = let a = c.args in
    let l = c.loop-i in
    let g = c.if-what-eq0.true in
    let v = get_or a.codes.now (l.i + 1) 0 in record {
      c_value = g;
      c_in_bounds = word_in (length a.tables.now) a.codes.now l.i c.loop-i-test.true l.invariant.6 g;
      fits = word_fits a.tables.now a.rec.now (get_or a.codes.now l.i 0) v g l.text l.ends l.kinds l.r (length l.lines)
          (room_at a.tables.now a.rec.now a.codes.now l.i v c.loop-i-test.true refl (length l.text) (length l.ends) (length l.kinds) (length l.lines) l.r l.invariant.5);
    }

pub loop-i-preserved-then-what-eq0 : goal.loop-i-preserved-then-what-eq0
loop-i-preserved-then-what-eq0 c =
    let a = c.args in
    let l = c.loop-i in
    let h = c.loop-i-test.true in
    let g = c.if-what-eq0.true in
    let w = c.write_word-r in
    let n = word_width (get_or a.codes.now l.i 0) g in
    let v = get_or a.codes.now (l.i + 1) 0 in
    let q = word_written a.tables.now a.rec.now (get_or a.codes.now l.i 0) v g (page l.text l.ends l.kinds l.lines l.r) _ (w.ensures l.lines) in (
      w.auto.text ∙ l.invariant.0,
      w.auto.ends ∙ l.invariant.1,
      w.auto.kinds ∙ l.invariant.2,
      l.invariant.3,
      turn _ _ _ _ _ v h n refl _ _ _ _ _ _ _ _ _ _ q ∙ l.invariant.4,
      turn_room _ _ _ _ _ v h n refl _ _ _ _ _ _ _ _ _ _ q w.auto.text w.auto.ends w.auto.kinds refl l.invariant.5,
      rest_in _ _ _ h l.invariant.6 _ n,
    )

pub end_line-r-requires : goal.end_line-r-requires
end_line-r-requires c =
    let a = c.args in
    let l = c.loop-i in
    let v = get_or a.codes.now (l.i + 1) 0 in
    end_fits a.tables.now a.rec.now (get_or a.codes.now l.i 0) v l.text l.ends l.kinds l.r l.lines c.if-what-ge7.true
    (room_at a.tables.now a.rec.now a.codes.now l.i v c.loop-i-test.true refl (length l.text) (length l.ends) (length l.kinds) (length l.lines) l.r l.invariant.5)

pub loop-i-preserved-then-what-ge7 : goal.loop-i-preserved-then-what-ge7
loop-i-preserved-then-what-ge7 c =
    let a = c.args in
    let l = c.loop-i in
    let h = c.loop-i-test.true in
    let g = c.if-what-ge7.true in
    let w = c.end_line-r in
    let n = end_width (get_or a.codes.now l.i 0) g in
    let v = get_or a.codes.now (l.i + 1) 0 in
    let q = end_written a.tables.now a.rec.now (get_or a.codes.now l.i 0) v (page l.text l.ends l.kinds l.lines l.r) _ g (w.ensures l.text l.ends l.kinds) in (
      l.invariant.0,
      l.invariant.1,
      l.invariant.2,
      w.auto.lines ∙ l.invariant.3,
      turn _ _ _ _ _ v h n refl _ _ _ _ _ _ _ _ _ _ q ∙ l.invariant.4,
      turn_room _ _ _ _ _ v h n refl _ _ _ _ _ _ _ _ _ _ q refl refl refl w.auto.lines l.invariant.5,
      rest_in _ _ _ h l.invariant.6 _ n,
    )

pub write_token-r-requires : goal.write_token-r-requires
write_token-r-requires c = let a = c.args in
    let l = c.loop-i in
    let g = c.if-what-ge7.false in record {
      c_bound = g;
      fits = fits_lines a.tables.now a.rec.now (get_or a.codes.now l.i 0) (c.element_or.result) l.text l.ends l.kinds l.r (length l.lines) g
          (room_at a.tables.now a.rec.now a.codes.now l.i (c.element_or.result) c.loop-i-test.true c.element_or.ensures (length l.text) (length l.ends) (length l.kinds) (length l.lines) l.r l.invariant.5);
    }

pub loop-i-preserved : goal.loop-i-preserved
loop-i-preserved c =
    let h = c.loop-i-test.true in
    let l = c.loop-i in
    let w = c.write_token-r in
    let v = c.element_or.ensures in
    let n = c.width-i.ensures in (
      w.auto.text ∙ l.invariant.0,
      w.auto.ends ∙ l.invariant.1,
      w.auto.kinds ∙ l.invariant.2,
      l.invariant.3,
      turn _ _ _ _ _ _ h n v _ _ _ _ _ _ _ _ _ _ (w.ensures l.lines) ∙ l.invariant.4,
      turn_room _ _ _ _ _ _ h n v _ _ _ _ _ _ _ _ _ _ (w.ensures l.lines) w.auto.text w.auto.ends w.auto.kinds refl l.invariant.5,
      rest_in _ _ _ h l.invariant.6 _ n,
    )

pub returns : goal.returns
returns c = done _ _ _ _ _ c.loop-i-test.false ∙ c.loop-i.invariant.4
