-- The number of each assumption, and what is answered by the number of the first that is broken, 0 where none is.
use Rattle.std.specs.Prelude.{ℕ, ◌≡◌, ⊤, Ok, Err}
use Rattle.std.specs.declared.result.Result.{Result}
use Rattle.checker.specs.declared.assumption.Assumption.{Assumption}
use Rattle.checker.specs.declared.assumption.Assumption.TheVariants.{HasBlocks, TurnsLast, LastsUnmarked, SetsNoBranch, NoCase, StartsUnnamed, NamesPlain, NoFlowWords, JumpsLed, OthersLed, BranchesInside, GotosLabelled}
pub use Rattle.checker.specs.declared.assumption.Unfollowed.{Unfollowed}
pub use Rattle.checker.specs.declared.assumption.Unfollowed.TheVariants.{Breaks, No}

-- in the order of the assumptions' words
abbrev pub assumption_number : Assumption → ℕ
assumption_number HasBlocks = 1
assumption_number TurnsLast = 2
assumption_number LastsUnmarked = 3
assumption_number SetsNoBranch = 4
assumption_number NoCase = 5
assumption_number StartsUnnamed = 6
assumption_number NamesPlain = 7
assumption_number NoFlowWords = 8
assumption_number JumpsLed = 9
assumption_number OthersLed = 10
assumption_number BranchesInside = 11
assumption_number GotosLabelled = 12

-- by the number of the first that is broken
abbrev pub Met : ℕ → Result ⊤ Assumption → Type 0
Met n (Ok x) = n ≡ 0
Met n (Err a) = n ≡ assumption_number a
