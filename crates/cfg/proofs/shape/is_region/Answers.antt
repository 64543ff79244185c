-- Whether a region stands from one place up to another: `is_region` meets its contract.
-- By the entry test, and if it passes, the escape test.
use mathlib.Core.Path.{◌≡◌, refl, sym, ap, ◌∙◌}
use mathlib.Core.Bool.{Bool, true, false, not, ◌&&◌}
use mathlib.Core.List.{List}
use Prim.Native.Nat.{ℕ, ◌+◌}
use native.Mathlib.Omega.{arith}
use Rattle.lists.specs.Choice.{pick}
use Rattle.cfg.specs.Graph.{single_entry, escapes}
use Rattle.cfg.specs.Looks.{entry_looks, escape_looks}
use Rattle.cfg.proofs.BlocksRead.{before_le}
use borrow.Author.Rules.{rules}
use Rattle.cfg.proofs.shape.is_region.Goals as goal

module _ (blocks edges starts targets : List ℕ) (B from t : ℕ) where
  abbrev single : Bool
  single = single_entry blocks edges B from t

  abbrev Told : Bool → ℕ → Type 0
  Told found looks =
      (found ≡ (single && not (escapes blocks starts targets from t)))
      × (looks ≡ entry_looks blocks edges B from t + pick single (escape_looks blocks starts targets from t) 0)

  module _ (f : Bool) (x : ℕ) (e : not f ≡ single) (d : x ≡ entry_looks blocks edges B from t) where
    stops : f ≡ true → Told false x
    stops h = let z : single ≡ false = sym e ∙ ap not h in rw z (refl, omega arith)

    goes_on : (g : Bool) (y : ℕ) → f ≡ false → g ≡ escapes blocks starts targets from t → y ≡ escape_looks blocks starts targets from t → Told (not g) (x + y)
    goes_on g y h p q = let z : single ≡ true = sym e ∙ ap not h in rw z (ap not p, omega arith)

pub region_escapes-escape-requires : goal.region_escapes-escape-requires
region_escapes-escape-requires c = let a = c.args in
    record { turns = λ k h. c.args.g.now.in_turn.first k (search rules); from_le_to = (c.requires.from_le_t.0, omega (arith, c.requires.from_le_t, before_le a.g.now.blocks.now a.t.0 a.g.now.count c.requires.from_le_t.1)) }
