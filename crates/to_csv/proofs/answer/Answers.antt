-- `answer` meets its contract.
-- By the call's answer: the file of what it left, which is never refused, or the number.
use mathlib.Core.Path.{ap, ◌∙◌}
use Prim.Native.Nat.{ℕ}
use native.Mathlib.Omega.{arith}
use lib.ListN.{length, length-replicate}
use Rattle.lists.specs.Question.{number}
use Rattle.record.specs.declared.header.Header.{Header}
use Rattle.page.proofs.Pieces.{stands_whole}
use Rattle.to_csv.proofs.Outputs.{number_prints, stored_prints}
use Rattle.to_csv.proofs.answer.Goals as goal

pub returns-in-Ok : goal.returns-in-Ok
returns-in-Ok c =
    let s = c.args.rec.now in
    let whole = c.from-to.ensures ∙ ap (λ (h : Header). h.blocks) c.read_header.ensures in
    let kept = c.list-listed.auto in
    let l = length-replicate {A = ℕ} in
    stored_prints s _ whole _ _ c.list-listed.ensures _ c.in-Ok.is (kept.text ∙ l 65536 0) (kept.ends ∙ l 16384 0) (kept.addresses ∙ l 900 0) _ _ _ c.write_rows-written.ensures c.requires _ (c.put_stored.ensures number (λ _ _ is. is))

pub returns-in-Err : goal.returns-in-Err
returns-in-Err c =
    let s = c.args.rec.now in
    let whole = c.from-to.ensures ∙ ap (λ (h : Header). h.blocks) c.read_header.ensures in
    let r = c.put_refusal.ensures in
    let told = r.text number (λ _ _ is. is) in
    let is = stands_whole _ c.args.out.now _ _ told.0 told.1 (omega (arith, r.short, c.requires)) in
    number_prints s _ whole _ _ c.list-listed.ensures _ c.in-Err.is _ is (omega (arith, ap length is, told.0, r.short))
