-- 6 to 8: `check_names` meets its contract.
-- Each test that was read is the assumption, and the first that fails gives the number.
use mathlib.Core.Path.{◌≡◌}
use mathlib.Core.Bool.{not, ◌&&◌}
use mathlib.Core.List.{List}
use Prim.Native.Nat.{ℕ}
use native.Mathlib.Omega.{arith}
use lib.Dec.{eqb}
use Rattle.lists.specs.Choice.{ask, all_below}
use Rattle.record.specs.declared.header.Header.{Header}
use Rattle.record.specs.Layout.{bodies_of, pairs_of, texts_of}
use Rattle.record.specs.Body.{body_at, mnemonic_of, name_of}
use Rattle.record.specs.Atlas.{entry_kind, entry_text}
use Rattle.route.specs.Assumed.{starts_unnamed}
use Rattle.checker.specs.Broken.{begins_loc, is_flow_word, entries_plain, mnemonics_plain, no_flow_words, broken_names}
use Rattle.checker.proofs.Planned.{rising}
use Rattle.checker.proofs.check.check_names.Goals as goal

-- the tests, over what was read of a record
tests : (h : Header) (s bodies pairs texts : List ℕ) → bodies ≡ bodies_of h s → pairs ≡ pairs_of h s → texts ≡ texts_of h s
    → broken_names h s
    ≡ ask 6 (starts_unnamed h s)
    (ask 7
    (all_below (λ k. not (eqb (entry_kind pairs k) 3 && begins_loc (entry_text pairs texts k))) h.atlas
    && all_below (λ i. not (eqb (mnemonic_of (body_at bodies i)) 0 && begins_loc (name_of (body_at bodies i)))) h.instructions)
    (ask 8 (all_below (λ i. not (eqb (mnemonic_of (body_at bodies i)) 0 && is_flow_word (name_of (body_at bodies i)))) h.instructions) 0))
unfolding broken_names entries_plain mnemonics_plain no_flow_words
tests h s bodies pairs texts pb pp pt = rw (pb, pp, pt)

pub starts_unnamed-requires : goal.starts_unnamed-requires
starts_unnamed-requires c = rising c.args.h c.args.rec.now c.requires

pub returns-then-not-starts_unnamed : goal.returns-then-not-starts_unnamed
unfolding broken_names
returns-then-not-starts_unnamed c = rw (← c.starts_unnamed.ensures, c.if-not-starts_unnamed.true)

pub returns-then-not-entries_plain-mnemonics_plain : goal.returns-then-not-entries_plain-mnemonics_plain
returns-then-not-entries_plain-mnemonics_plain c =
    grind (arith, tests c.args.h c.args.rec.now c.from-bodies.result.now c.from.result.now c.from-2.result.now)

pub returns-then-not-no_flow_words : goal.returns-then-not-no_flow_words
returns-then-not-no_flow_words c =
    grind (arith, tests c.args.h c.args.rec.now c.from-bodies.result.now c.from.result.now c.from-2.result.now)

pub returns : goal.returns
returns c =
    grind (arith, tests c.args.h c.args.rec.now c.from-bodies.result.now c.from.result.now c.from-2.result.now)
