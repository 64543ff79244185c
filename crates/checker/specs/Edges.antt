-- The kinds of edges that the checker counts.
use Rattle.std.specs.Prelude.{ℕ, Bool}
use Rattle.route.specs.Processor.{uncond, onward}
use Rattle.checker.specs.declared.edges.Kind.{Kind}
use Rattle.checker.specs.declared.edges.Kind.TheVariants.{Uncond, Onward}

abbrev pub of_kind : Kind → ℕ → Bool
of_kind Uncond c = uncond c
of_kind Onward c = onward c
