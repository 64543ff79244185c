-- Tokens one behind the other: `put_tokens` meets its contract.
-- What is left from here is one token and what is left behind it.
use Rattle.csv_rows.proofs.Going.{go_turn, go_end}
use Rattle.csv_rows.proofs.Rows.{tokens_more, tokens_none, token_room}
use Rattle.csv_rows.proofs.writing.put_tokens.Goals as goal

pub put_token-p-requires : goal.put_token-p-requires
put_token-p-requires c =
    let v = rw (← c.l.view_is) at c.loop-j.invariant in
    token_room _ _ _ _ _ v.0 c.loop-j-test.true v.1 c.end_at-y.ensures c.text_between.ensures c.u8_at.ensures.0 (rw (← c.l.view_is) at c.requires)

pub loop-j-preserved : goal.loop-j-preserved
loop-j-preserved c =
    let v = rw (← c.l.view_is) at c.loop-j.invariant in
    rw (← c.l.view_is) (go_turn v.0 (tokens_more _ _ _ _ _ c.loop-j-test.true v.1 c.end_at-y.ensures c.text_between.ensures c.u8_at.ensures.0) c.put_token-p.ensures, c.end_at-y.ensures)

pub returns : goal.returns
returns c = go_end c.loop-j.invariant.0 (tokens_none _ _ _ _ _ c.loop-j-test.false)
