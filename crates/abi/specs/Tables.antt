-- What the call for the command table promises to callers in other languages: a number, the table's lists, and its counts as numbers.
use Rattle.std.specs.Prelude.{ℕ, List, [], ◌∷◌, ◌≡◌, Ok, Err}
use Rattle.std.specs.declared.result.Result.{Result}
use Rattle.lists.specs.Put.{put}
use Rattle.lists.specs.Question.{number_of}
use Rattle.lists.specs.declared.question.Question.{Question}
use Rattle.rows.specs.Lists.{Lists}
use Rattle.commands.specs.Table.{Table}
use Rattle.commands.specs.Called.{table_no, Makes}
use Rattle.commands.specs.declared.table.Size.{Size}
use Rattle.abi.specs.Rows.{sizes_in}

-- how many bytes and rows; zeros with a number
abbrev pub count_list : Result Size Question → List ℕ
count_list (Ok t) = t.bytes ∷ t.rows ∷ []
count_list (Err q) = 0 ∷ 0 ∷ []

module _ (l : Lists) (z call register : List ℕ) where
  -- the table's lists before (b) and after (a), of which an answer is promised; its counts are stored in `n`
  pub record TableMade (b a : Table) (n n' : List ℕ) (r : ℕ) : Type 0 where
    pub answer : Result Size Question
    pub lists : Makes l (sizes_in z) call register b a answer
    pub number : r ≡ table_no l (sizes_in z) call register b
    pub same : r ≡ number_of answer
    pub counts : n' ≡ put 0 (count_list answer) n
