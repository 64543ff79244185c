-- Edges of blocks that stand in turn, read up to the first that passes a test: those of some blocks on end are one part, and those of
-- the blocks outside are two. By the definitions, block by block.
use mathlib.Core.Path.{◌≡◌, refl, sym, ap, ap₂, ◌∙◌}
use mathlib.Core.Bool.{Bool, true, false, not, ◌&&◌, ◌||◌, or-true}
use mathlib.Core.List.{List}
use Prim.Native.Nat.{ℕ, zero, suc, ◌+◌, ◌-◌, ◌≤◌, ◌<◌}
use native.Mathlib.Omega.{arith}
use lib.Dec.{ltb}
use borrow.Author.Tests.{lt-ltb, le-ltb}
use Rattle.lists.specs.Choice.{pick, any_below}
use Rattle.lists.specs.Below.{any_from_zero}
use Rattle.cfg.specs.Graph.{first_edge_in, edges_in, has_edge, outside, outside_edge}
use Rattle.cfg.specs.Turn.{InTurn, edges_before}
use Rattle.cfg.specs.Looks.{edge_looks, block_looks, looks_from}
use Rattle.cfg.specs.Reads.{Reads, Turns}
use Rattle.cfg.specs.declared.edges.Looked.{Looked}
use Rattle.cfg.proofs.Reading.{looked, nothing, and_then, nothing_then, then_stops, then_goes_on, over, over_split, over_nothing, any_first, run, run_split, reads_run}

before_grows : (blocks : List ℕ) (k n : ℕ) → edges_before blocks k ≤ edges_before blocks (k + n)
before_grows blocks k zero = let e : k ≡ k + 0 = omega arith in omega (arith, ap (edges_before blocks) e)
before_grows blocks k (suc n) = let e : suc (k + n) ≡ k + suc n = omega arith in omega (arith, before_grows blocks k n, ap (edges_before blocks) e)

pub before_le : (blocks : List ℕ) (k j : ℕ) → k ≤ j → edges_before blocks k ≤ edges_before blocks j
before_le blocks k j h = let e : k + (j - k) ≡ j = omega arith in rw e at (before_grows blocks k (j - k))

pub turn_less : (blocks edges : List ℕ) (B k : ℕ) → InTurn blocks edges B → k ≤ B → InTurn blocks edges k
turn_less blocks edges B k t h = record { first = λ j l. t.first j (omega arith); all = omega (arith, t.all, before_le blocks k B h) }

pub before_last : (blocks : List ℕ) (k : ℕ) → 0 < k → edges_before blocks k ≡ edges_before blocks (k - 1) + edges_in blocks (k - 1)
before_last blocks k h = let e : k ≡ suc (k - 1) = omega arith in ap (edges_before blocks) e

module _ (blocks : List ℕ) (p : ℕ → Bool) where
  abbrev of_block : ℕ → Looked
  of_block k = looked (has_edge blocks p k) (block_looks blocks p k)

  pub block_reads : {e n : ℕ} {r : Looked} (k : ℕ) → Reads p e n r → e ≡ first_edge_in blocks k → n ≡ edges_in blocks k → r ≡ of_block k
  unfolding has_edge block_looks
  block_reads k h f g = reads_run p h ∙ ap₂ (run p) f g

  module _ (asked : ℕ → Bool) where
    abbrev block : ℕ → Looked
    block k = pick (asked k) (of_block k) nothing

    over_blocks : (k n : ℕ) → over block k n ≡ looked (any_below (λ m. asked (k + m) && has_edge blocks p (k + m)) n) (looks_from blocks asked p k n)
    unfolding over looks_from
    over_blocks k zero = refl
    over_blocks k (suc n) =
        ap (and_then (block k)) (over_blocks (suc k) n)
        ∙ go (asked k) (any_below (λ m. asked (suc k + m) && has_edge blocks p (suc k + m)) n) (looks_from blocks asked p (suc k) n)
        ∙ ap (λ (b : Bool). looked b (looks_from blocks asked p k (suc n))) (sym (any_first (λ j. asked j && has_edge blocks p j) k n))
      where
        go : (a r : Bool) (l : ℕ) → and_then (pick a (of_block k) nothing) (looked r l) ≡ looked (a && has_edge blocks p k || r) (pick a (block_looks blocks p k + pick (has_edge blocks p k) 0 l) l)
        go true r l = refl
        go false r l = nothing_then (looked r l)

    -- of blocks that stand in turn and are all asked, one part of the edges
    module _ (B : ℕ) (turn : Turns blocks B) where
      block_run : (k : ℕ) → k < B → of_block k ≡ run p (edges_before blocks k) (edges_in blocks k)
      unfolding has_edge block_looks
      block_run k h = ap (λ (e : ℕ). run p e (edges_in blocks k)) (turn k h)

      part : (k n : ℕ) → k + n ≤ B → ((j : ℕ) → k ≤ j → j < k + n → asked j ≡ true) → over block k n ≡ run p (edges_before blocks k) (edges_before blocks (k + n) - edges_before blocks k)
      unfolding over edge_looks
      part k zero b h =
          let s : edges_before blocks (k + 0) - edges_before blocks k ≡ 0 = (let e : k + 0 ≡ k = omega arith in omega (arith, ap (edges_before blocks) e)) in
          rw s
      part k (suc n) b h =
          let e : suc k + n ≡ k + suc n = omega arith in
          let s : edges_in blocks k + (edges_before blocks (suc k + n) - edges_before blocks (suc k)) ≡ edges_before blocks (k + suc n) - edges_before blocks k = omega (arith, before_grows blocks (suc k) n, ap (edges_before blocks) e) in
          ap₂ and_then (ap (λ (a : Bool). pick a (of_block k) nothing) (h k (omega arith) (omega arith)) ∙ block_run k (omega arith)) (part (suc k) n (omega arith) (λ j f g. h j (omega arith) (omega arith)))
          ∙ sym (run_split p (edges_before blocks k) (edges_in blocks k) (edges_before blocks (suc k + n) - edges_before blocks (suc k)))
          ∙ ap (run p (edges_before blocks k)) s

  -- The blocks from `from` up to `to`, and those outside
  module _ (B from to : ℕ) (turn : Turns blocks B) (le : from ≤ to) (fits : to ≤ B) where
    pub region_reads : {e n : ℕ} {r : Looked} → Reads p e n r → e ≡ edges_before blocks from → n ≡ edges_before blocks to - e
        → r ≡ looked (any_below (λ m. has_edge blocks p (from + m)) (to - from)) (looks_from blocks (λ k. true) p from (to - from))
    region_reads {e} {n} h d c =
        let s : from + (to - from) ≡ to = omega arith in
        reads_run p h ∙ ap (run p e) c ∙ ap (λ (x : ℕ). run p x (edges_before blocks to - x)) d
        ∙ ap (λ (x : ℕ). run p (edges_before blocks from) (edges_before blocks x - edges_before blocks from)) (sym s)
        ∙ sym (part (λ k. true) B turn from (to - from) (omega arith) (λ j a b. refl)) ∙ over_blocks (λ k. true) from (to - from)

    abbrev out : ℕ → Looked
    out = block (outside from to)

    before : over out 0 from ≡ run p 0 (edges_before blocks from)
    before =
        let s : 0 + from ≡ from = omega arith in
        let d : edges_before blocks from - 0 ≡ edges_before blocks from = omega arith in
        part (outside from to) B turn 0 from (omega arith) (λ j a b. ap (λ (q : Bool). q || not (ltb j to)) (lt-ltb j from (omega arith)))
        ∙ ap (λ (x : ℕ). run p 0 (edges_before blocks x - 0)) s ∙ ap (run p 0) d

    inside : over out from (to - from) ≡ nothing
    inside = over_nothing out from (to - from) (λ j a b. ap₂ (λ (x y : Bool). pick (x || not y) (of_block j) nothing) (le-ltb j from a) (lt-ltb j to (omega arith)))

    behind : over out to (B - to) ≡ run p (edges_before blocks to) (edges_before blocks B - edges_before blocks to)
    behind =
        let s : to + (B - to) ≡ B = omega arith in
        part (outside from to) B turn to (B - to) (omega arith) (λ j a b. ap (λ (q : Bool). ltb j from || not q) (le-ltb j to a) ∙ or-true (ltb j from))
        ∙ ap (λ (x : ℕ). run p (edges_before blocks to) (edges_before blocks x - edges_before blocks to)) s

    abbrev pub outside_reads : Looked
    outside_reads = looked (outside_edge blocks B from to p) (looks_from blocks (outside from to) p 0 B)

    over_outside : over out 0 B ≡ outside_reads
    over_outside =
        let s : B ≡ B - 0 = omega arith in
        over_blocks (outside from to) 0 B
        ∙ ap (λ (b : Bool). looked b (looks_from blocks (outside from to) p 0 B))
        (ap (any_below (λ m. outside from to (0 + m) && has_edge blocks p (0 + m))) s ∙ any_from_zero (λ k. outside from to k && has_edge blocks p k) B)

    two_parts : and_then (run p 0 (edges_before blocks from)) (run p (edges_before blocks to) (edges_before blocks B - edges_before blocks to)) ≡ outside_reads
    two_parts =
        let s : from + (to - from + (B - to)) ≡ B = omega arith in
        let t : from ≡ 0 + from = omega arith in
        let u : to ≡ from + (to - from) = omega arith in
        ap₂ and_then (sym before) (sym behind ∙ sym (nothing_then (over out to (B - to))) ∙ ap₂ and_then (sym inside) (ap (λ (x : ℕ). over out x (B - to)) u))
        ∙ ap (and_then (over out 0 from)) (sym (over_split out from (to - from) (B - to)) ∙ ap (λ (x : ℕ). over out x (to - from + (B - to))) t)
        ∙ sym (over_split out 0 from (to - from + (B - to))) ∙ ap (over out 0) s ∙ over_outside

    -- one passes before, or the parts before and behind are both read
    module _ {a : ℕ} {r : Looked} (h : Reads p 0 a r) (f : a ≡ edges_before blocks from) where
      as_first : (b : Looked) → and_then r b ≡ and_then (run p 0 (edges_before blocks from)) b
      as_first b = ap (λ (x : Looked). and_then x b) (reads_run p h ∙ ap (run p 0) f)

      pub outside_first : r.found ≡ true → r ≡ outside_reads
      outside_first t =
          let b = run p (edges_before blocks to) (edges_before blocks B - edges_before blocks to) in
          then_stops r b t ∙ as_first b ∙ two_parts

      pub outside_both : {e n c : ℕ} {r' : Looked} → r.found ≡ false → Reads p e n r' → e ≡ edges_before blocks to → c ≡ edges_before blocks B → n ≡ c - e
          → looked r'.found (r.looks + r'.looks) ≡ outside_reads
      outside_both {e} {n} {c} {r'} t k g b d =
          then_goes_on r r' t ∙ as_first r'
          ∙ ap (and_then (run p 0 (edges_before blocks from))) (reads_run p k ∙ ap₂ (run p) g (d ∙ ap₂ ◌-◌ b g)) ∙ two_parts
