-- #109's promise of lines: following them leads where the processor goes.
use Rattle.std.specs.Prelude.{ℕ, Bool, true, List, ◌≡◌}
use Rattle.record.specs.declared.header.Header.{Header}
use Rattle.route.specs.Trace.{ends}
use Rattle.route.specs.Following.{Stated, route}
use Rattle.route.specs.Processor.{run}
use Rattle.route.specs.Processor.Spot.{before}

-- "Then, for any outcomes, branch taken or not, and any n, the first n instruction lines met from the listing's top are those of the first n
-- instructions that are not silent": after enough steps the processor has met just these. "Fewer come only at the same ending or where outcomes
-- run out."
abbrev pub Followed : Header → List ℕ → List Stated → Type 0
Followed h s ls = (n : ℕ) (os : List Bool) → (f : ℕ) × (run h s f n os (before 0) ≡ route n os ls) × (ends (route n os ls) ≡ true)
