-- The text that codes stand for, all of it in one list.
use Rattle.std.specs.Prelude.{ℕ, List, [], ◌∷◌, ◌++◌}
use Rattle.codes.specs.Code.{Event}
use Rattle.codes.specs.Code.Event.{tok, end}

unfoldable pub spelled : List Event → List ℕ
spelled [] = []
spelled (tok joins t ∷ es) = t.bytes ++ spelled es
spelled (end ∷ es) = spelled es
