-- The lines of a listing tell, by their tokens alone, what the plan wrote them for.
-- Each by its form; along the lines.
use Prim.Native.Nat.{ℕ}
use mathlib.Core.Path.{◌≡◌, refl}
use mathlib.Core.List.{List, [], ◌∷◌, map}
use Rattle.tokens.specs.Listing.{join}
use Rattle.record.specs.declared.header.Header.{Header}
use Rattle.structure.specs.Plan.{Line}
use Rattle.line.specs.Print.{site_of, line_tokens, mask_after, printed}
use Rattle.route.specs.Statement.{statement_of}
use Rattle.route.specs.Following.{stated}
use Rattle.route.proofs.Stating.{name_at, target_name, own_at, stated_as, statement_for}
use Rattle.route.proofs.FormLines.{what_stated}

-- a line states what it is written for
pub line_stated : (h : Header) (s : List ℕ) (range mask : ℕ) (l : Line) → statement_of (join (line_tokens h s range mask l)) ≡ statement_for h s l
unfolding line_tokens
line_stated h s range mask l = what_stated h s (site_of h s range mask l) l.what

-- the lines of a plan, beside their places and addresses
pub lines_stated : (h : Header) (s : List ℕ) (range mask : ℕ) (address : Line → ℕ) (ls : List Line)
    → stated (map join (printed h s range mask ls)) (map (λ (l : Line). l.place) ls) (map address ls) ≡ map (stated_as (name_at h s) (target_name h s) (own_at h s) address) ls
unfolding printed stated
lines_stated h s range mask address [] = refl
lines_stated h s range mask address (l ∷ ls) = rw (line_stated h s range mask l, lines_stated h s range (mask_after h s mask l.what l.at) address ls)
