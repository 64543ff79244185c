-- `page::put_lines` meets its contract.
-- The invariant: the lines left, stored from where the loop stands, are all of them stored from where the first begins.
use mathlib.Core.Path.{refl, ap, ◌∙◌}
use Prim.Native.Nat.{◌+◌}
use native.Mathlib.Omega.{arith}
use lib.ListN.{length}
use Rattle.rows.specs.Lists.{Lists}
use Rattle.page.specs.Page.{lines_end}
use Rattle.page.proofs.Pieces.{lines_turn, lines_end_lem, lines_done}
use borrow.Author.Rules.{rules}
use Rattle.page.proofs.page.put_lines.Goals as goal

pub loop-j-preserved : goal.loop-j-preserved
loop-j-preserved c =
    let a = c.args in
    let l = c.loop-j in (
      search rules,
      search rules,
      lines_end_lem c.l.inside.ends.now c.l.inside.lines.now l.j _ _ c.element_or.ensures c.tokens_end-end.ensures ∙ ap (λ (x : Lists). lines_end x.ends x.lines (l.j + 1)) c.l.view_is,
      omega (arith, l.invariant.3),
      omega (arith, l.invariant.3, l.invariant.4, c.requires.3, ap (λ (x : Lists). length x.text) c.l.view_is, c.between-bytes.ensures.1, c.put_line-p.ensures.end.1),
      lines_turn a.l.now a.i _ _ c.l.view_is _ _ l.j l.start _ _ _ _ l.p _ _ _ _ c.loop-j-test.true l.invariant.2
          c.element_or.ensures c.tokens_end-end.ensures c.between-bytes.ensures.0 c.element_or-mark.ensures c.element_or-address.ensures c.put_line-p.ensures.end.0 c.put_line-p.ensures.text l.invariant.5,
    )

pub returns : goal.returns
returns c = let a = c.args in
    let l = c.loop-j in
    let p = lines_done a.l.now a.i _ a.at _ a.k l.j _ _ refl c.loop-j-test.false l.invariant.5 in
    record { end = p.end; text = p.text }
