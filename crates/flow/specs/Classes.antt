-- What a mnemonic alone tells of silence, as a table that is lent: 1 silent, 2 where the operands decide, 0 shown unless skip-marked.
use Rattle.std.specs.Prelude.{ℕ, ◌||◌, List, [], ◌∷◌}
use Rattle.lists.specs.Choice.{pick}
use Rattle.lists.specs.Entries.{tab}
use Rattle.x86.specs.Words.{is_one_of}
use Rattle.x86.specs.Mnemonics.{mov, lea, add, sub, pop, jmp}
use Rattle.flow.specs.Silent.{folded, padding}

unfoldable pub silent_class : ℕ → ℕ
silent_class m = pick (folded m || padding m) 1 (pick (is_one_of m (mov ∷ lea ∷ add ∷ sub ∷ pop ∷ jmp ∷ [])) 2 0)

unfoldable pub class_table : List ℕ
class_table = tab silent_class 0 256
