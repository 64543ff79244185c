-- `stores::put_few` meets its contract.
-- Four steps of storing; behind them nothing is left to store.
use mathlib.Core.Path.{◌≡◌, sym, ◌∙◌}
use mathlib.Core.List.{List}
use Prim.Native.Nat.{ℕ, ◌≤◌, ◌+◌, min}
use native.Mathlib.Omega.{arith}
use lib.ListN.{length, drop}
use Rattle.lists.specs.Put.{put}
use Rattle.lists.proofs.Storing.{done}
use Rattle.lists.proofs.stores.put_few.Goals as goal

-- what a step leaves of a list, and what is to be stored in it
abbrev Step : {A : Type 0} → List A → ℕ → List A → List A → Type 0
Step s i e r = (length r ≡ length e) × (put (i + 1) (drop (i + 1) s) r ≡ put i (drop i s) e)

four : {A : Type 0} (s e a b d r : List A) (n : ℕ) → (n ≡ min (length s) (length e)) × (n ≤ 4) → Step s 0 e a → Step s 1 a b → Step s 2 b d → Step s 3 d r → r ≡ put 0 s e
four s e a b d r n p f g h k = sym (done 4 s r (omega (arith, p, f.0, g.0, h.0, k.0))) ∙ k.1 ∙ h.1 ∙ g.1 ∙ f.1

pub returns : goal.returns
returns g c = four _ _ _ _ _ _ _ c.requires c.put_at.ensures c.put_at-2.ensures c.put_at-3.ensures c.put_at-4.ensures
