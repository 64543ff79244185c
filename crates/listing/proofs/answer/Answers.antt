-- `answer` meets its contract.
-- By the call's answer: the page of the lists' first entries, or the number.
use mathlib.Core.Path.{sym, ap, ◌∙◌}
use mathlib.Core.List.{List}
use Prim.Native.Nat.{ℕ}
use native.Mathlib.Omega.{arith}
use lib.ListN.{length, length-replicate, length-take}
use Rattle.lists.specs.Put.{put}
use Rattle.lists.specs.Question.{number}
use Rattle.record.specs.declared.header.Header.{Header}
use Rattle.operand.proofs.Bounds.{AllBytes}
use Rattle.rows.specs.Lists.{Lists}
use Rattle.page.specs.Page.{page_text, page_of}
use Rattle.page.proofs.Pieces.{stands_whole}
use Rattle.program.proofs.Lent.{no_output, few_lines, short_text}
use Rattle.listing.proofs.Outputs.{page_output, short_output}
use Rattle.listing.proofs.Prints.{page_prints}
use Rattle.listing.proofs.answer.Goals as goal

pub put_page-requires : goal.put_page-requires
put_page-requires c =
    let s = c.args.rec.now in
    let whole = c.from-to.ensures ∙ ap (λ (h : Header). h.blocks) c.read_header.ensures in
    let kept = c.list-listed.auto in
    let few = few_lines s _ whole _ _ c.list-listed.ensures.called _ c.in-Ok.is in
    let short = short_text s _ whole _ _ c.list-listed.ensures.called _ c.in-Ok.is in (
      omega (arith, few, kept.addresses, length-replicate {A = ℕ} 900 0),
      omega (arith, ap (λ (l : Lists). length l.text) c.cut.ensures, short, length-take c.in-Ok.sizes.text c.list-listed.new.text, kept.text, length-replicate {A = ℕ} 65536 0),
    )

pub returns-in-Ok : goal.returns-in-Ok
returns-in-Ok c =
    let s = c.args.rec.now in
    let out = c.args.out.now in
    let whole = c.from-to.ensures ∙ ap (λ (h : Header). h.blocks) c.read_header.ensures in
    let bytes : AllBytes s = λ k. omega (arith, c.type_inv.rec k) in
    let kept = c.list-listed.auto in
    let p = ap (λ (l : Lists). page_text l c.in-Ok.sizes.lines) c.cut.ensures ∙ page_output s _ whole _ _ c.list-listed.ensures.called _ c.in-Ok.is in
    let short = short_output s _ whole _ _ c.list-listed.ensures.called _ c.in-Ok.is bytes (kept.text ∙ length-replicate {A = ℕ} 65536 0) (kept.addresses ∙ length-replicate {A = ℕ} 900 0) in
    let end = c.put_page.ensures.end ∙ ap length p in
    let text = c.put_page.ensures.text ∙ ap (λ (t : List ℕ). put 0 t out) p in
    page_prints s _ (stands_whole _ out _ _ end text (omega (arith, end, short, c.requires)))

pub returns-in-Err : goal.returns-in-Err
returns-in-Err c =
    let s = c.args.rec.now in
    let out = c.args.out.now in
    let whole = c.from-to.ensures ∙ ap (λ (h : Header). h.blocks) c.read_header.ensures in
    let p = no_output s _ whole _ _ c.list-listed.ensures.called page_of _ c.in-Err.is in
    let told = c.put_refusal.ensures.text number (λ _ _ is. is) in
    let end = told.0 ∙ sym (ap length p) in
    let text = told.1 ∙ sym (ap (λ (t : List ℕ). put 0 t out) p) in
    let short = c.put_refusal.ensures.short in
    page_prints s _ (stands_whole _ out _ _ end text (omega (arith, short, c.requires)))
