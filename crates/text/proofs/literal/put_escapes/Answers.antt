-- `literal::put_escapes` meets its contract.
-- The invariant: to store the spellings that are left where the loop stands is to store all of them where it began.
use borrow.Author.Rules.{rules}
use mathlib.Core.Path.{◌≡◌, sym, ap, ◌∙◌}
use mathlib.Core.List.{List}
use Prim.Native.Nat.{ℕ, ◌≤◌, ◌<◌, ◌+◌, ◌-◌, min}
use native.Mathlib.Omega.{arith}
use lib.ListN.{length, take, drop, get_or}
use borrow.Rule.Slice.PartMut.{mid_of, put_mid}
use Rattle.lists.specs.Put.{put}
use Rattle.lists.specs.PutLaws.{put_append, put_none, put_rest}
use Rattle.text.specs.Literal.{escape, escapes}
use Rattle.text.proofs.LiteralLaws.{escapes_from, escapes_count, escapes_end, escapes_none, within_cut, past_cut, byte_cut}
use Rattle.text.proofs.literal.put_escapes.Goals as goal

module _ (s : List ℕ) (i at m w : ℕ) (x : ℕ) (e r : List ℕ) (h : i < min 80 (length s)) (g : x ≡ get_or s i 0) (n : w ≡ length (escape x)) where
  -- a turn stores the next spelling
  turn : m ≡ min at (length e) → r ≡ put 0 (escape x) (mid_of m (length e - m) e)
      → put (at + w) (escapes (drop (i + 1) (take 80 s))) (put_mid m (length e - m) e r) ≡ put at (escapes (drop i (take 80 s))) e
  turn p q = rw (escapes_from s 80 i h, ← g, put_append, ← n, put_rest at m (escape x) e r p q)

-- where the loop ends, nothing is left to store
module _ (s : List ℕ) (i at : ℕ) (e : List ℕ) (h : min 80 (length s) ≤ i) where
  done : put at (escapes (drop i (take 80 s))) e ≡ e
  done = rw (escapes_end s 80 i h, put_none)

pub loop-b-preserved : goal.loop-b-preserved
loop-b-preserved c =
    let s = c.args.s.now in
    let h = within_cut s _ c.loop-b.b-index c.min-n.ensures c.loop-b-test.true in
    let e = byte_cut s _ c.loop-b.b-index c.min-n.ensures c.loop-b-test.true in
    let p = c.put_escape-at.ensures in (
      omega arith,
      omega arith,
      search rules,
      omega (arith, c.loop-b.invariant.3, escapes_count s 80 c.loop-b.b-index h, p.count.0 ∙ ap (λ (x : ℕ). length (escape x)) e),
      turn s c.loop-b.b-index _ _ _ _ _ _ h e p.count.0 c.min-m.ensures p.text ∙ c.loop-b.invariant.4,
    )

pub returns : goal.returns
returns c = let s = c.args.s.now in
    let h = past_cut s _ c.loop-b.b-index c.min-n.ensures c.loop-b-test.false in
    record { count = (omega (arith, c.loop-b.invariant.3, escapes_none s 80 c.loop-b.b-index h), omega arith); text = sym (done s _ _ _ h) ∙ c.loop-b.invariant.4 }
