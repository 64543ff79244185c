-- `literal::put_escape` meets its contract.
-- A byte that stands for itself is stored; all else the check finds.
use Rattle.lists.specs.PutLaws.{put_cons, put_none}
use native.Mathlib.Omega.{arith}
use mathlib.Core.Path.{◌≡◌}
use mathlib.Core.List.{[], ◌∷◌}
use Rattle.text.specs.Literal.{escape}
use Rattle.text.proofs.LiteralLaws.{escape_own}
use Rattle.text.proofs.literal.put_escape.Goals as goal

pub returns-in_default-clause-text : goal.returns-in_default-clause-text
returns-in_default-clause-text c =
    let e : escape c.args.b ≡ c.args.b ∷ [] = grind (arith, escape_own) in
    rw (e, put_cons, put_none) c.store.ensures
