-- The five numbers with one token more counted.
use Rattle.std.specs.Prelude.{ℕ, ◌+◌, Bool, List, slice_set}
use Rattle.lists.specs.Choice.{pick}
use Rattle.codes.specs.Coded.{wrap, bytes_in, tokens_in, count_in}

-- so many bytes more, a token more unless it joins the one before, n codes more, and its kind
abbrev pub with_token : List ℕ → ℕ → Bool → ℕ → ℕ → List ℕ
with_token c kind joins bytes n =
    slice_set (slice_set (slice_set (slice_set c 0 (wrap (bytes_in c + bytes))) 1 (wrap (tokens_in c + pick joins 0 1))) 2 (wrap (count_in c + n))) 3 kind
