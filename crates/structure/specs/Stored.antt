-- What a writer of a plan leaves in the list that it was lent, and the room that it asks for in numbers.
use Rattle.std.specs.Prelude.{◌≡◌, List, ℕ, ◌+◌, ◌≤◌, length}
use Rattle.lists.specs.Put.{put}

-- the index behind vs, stored from `at` on, stays far below the largest number
pub record Room (at : ℕ) (vs : List ℕ) : Type 0 where
  pub fits : at + length vs ≤ 281474976710656

-- vs was stored into l from `at` on, as far as it has room, and the answer r is the index behind vs
pub record Stored (l : List ℕ) (at : ℕ) (vs : List ℕ) (r : ℕ) (l' : List ℕ) : Type 0 where
  pub next : r ≡ at + length vs
  pub list : l' ≡ put at vs l
