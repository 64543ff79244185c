-- `number::put_refusal` meets its contract.
-- A number of 8 bits has at most three digits.
use native.Mathlib.Omega.{arith}
use mathlib.Core.Path.{◌∙◌, ap}
use lib.ListN.{length}
use Rattle.lists.specs.Put.{put}
use Rattle.page.specs.Page.{refusal}
use Rattle.page.proofs.Lengths.{refusal_short}
use Rattle.page.proofs.number.put_refusal.Goals as goal

pub returns : goal.returns
returns g c = record {
  short = omega (arith, c.put_numbered.ensures.end.0, refusal_short c.into.result (omega arith));
  text = λ value known.
      let same = c.into.ensures ∙ known _ _ c.into-k.ensures in
      (c.put_numbered.ensures.end.0 ∙ ap (λ n. length (refusal n)) same, c.put_numbered.ensures.text ∙ ap (λ n. put 0 (refusal n) c.args.out.now) same);
}
