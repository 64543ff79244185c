-- What the call for the command table answers and leaves is what its definition says.
-- The sizes that it reads are those of the list.
use mathlib.Core.Path.{◌≡◌, subst, ◌∙◌}
use mathlib.Core.List.{List}
use Prim.Native.Nat.{ℕ}
use Rattle.std.specs.declared.result.Result.{Result}
use Rattle.lists.specs.Put.{put}
use Rattle.lists.specs.Question.{number_of}
use Rattle.lists.specs.declared.question.Question.{Question}
use Rattle.lists.proofs.Answered.{number_is}
use Rattle.rows.specs.Lists.{Lists}
use Rattle.rows.specs.declared.answer.Sizes.{Sizes}
use Rattle.commands.specs.Table.{Table}
use Rattle.commands.specs.Called.{Makes}
use Rattle.commands.specs.declared.table.Size.{Size}
use Rattle.abi.specs.Rows.{sizes_in}
use Rattle.abi.specs.Tables.{count_list, TableMade}

module _ (l : Lists) (z call register : List ℕ) (b a : Table) (n n' : List ℕ) where
  pub table_made : (y : Sizes) (g : Result Size Question) (r : ℕ) → y ≡ sizes_in z → Makes l y call register b a g → r ≡ number_of g → n' ≡ put 0 (count_list g) n
      → TableMade l z call register b a n n' r
  table_made y g r h w p q = go (subst (λ (y : Sizes). Makes l y call register b a g) h w)
    where
      go : Makes l (sizes_in z) call register b a g → TableMade l z call register b a n n' r
      go w = record { answer = g; lists = w; number = p ∙ number_is _ _ g w.answer; same = p; counts = q }
