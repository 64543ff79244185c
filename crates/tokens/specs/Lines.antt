-- The lines that a listing's lists hold, read back from them: a token by its kind and the bytes between two ends, a line by the tokens
-- between two ends. Entries past the sizes do not matter.
use Rattle.std.specs.Prelude.{List, ℕ, zero, suc, ◌-◌, get_or, take, drop}
use Rattle.lists.specs.Entries.{tab}
use Rattle.tokens.specs.Token.{Token, token}

-- where the first j tokens end, or the first j lines
abbrev pub end_at : List ℕ → ℕ → ℕ
end_at es zero = 0
end_at es (suc j) = get_or es j 0

-- the part from x up to y
abbrev pub between : ℕ → ℕ → List ℕ → List ℕ
between x y s = take (y - x) (drop x s)

module _ (text ends kinds : List ℕ) where
  unfoldable pub token_at : ℕ → Token
  token_at j = token (get_or kinds j 0) (between (end_at ends j) (end_at ends (suc j)) text)

  -- the tokens from n up to m
  abbrev pub tokens_between : ℕ → ℕ → List Token
  tokens_between n m = tab token_at n (m - n)

module _ (text ends kinds lines : List ℕ) where
  -- the tokens of line i
  unfoldable pub line_at : ℕ → List Token
  line_at i = tokens_between text ends kinds (end_at lines i) (end_at lines (suc i))

  -- the first m lines
  unfoldable pub lines_in : ℕ → List (List Token)
  lines_in m = tab line_at 0 m
