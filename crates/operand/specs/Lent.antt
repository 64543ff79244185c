-- What a coder asks of what it is lent: a list with room for the five numbers before its codes, and a record whose atlas
-- addresses rise (question 9), by which an entry is found by halving.
use Rattle.std.specs.Prelude.{ℕ, ◌≤◌, List, length}
use Rattle.record.specs.declared.header.Header.{Header}
use Rattle.record.specs.Layout.{entries_of}
use Rattle.record.specs.Atlas.{entry_address}
use Rattle.record.specs.Search.{Rises}

-- atlas addresses rise
abbrev pub Rising : Header → List ℕ → Type 0
Rising h s = Rises (entry_address (entries_of h s)) h.atlas

pub record Lent (codes : List ℕ) (h : Header) (s : List ℕ) : Type 0 where
  pub room : 5 ≤ length codes
  pub rising : Rising h s
