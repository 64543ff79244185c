-- Following the lines of a record's listing leads where its processor goes, under #109's assumptions.
-- The lines state what the plan wrote them for; the plan's route is one of the rules over rows; the rules are steps of the record's processor.
use Prim.Native.Nat.{ℕ}
use mathlib.Core.Bool.{Bool, true}
use mathlib.Core.List.{List, map}
use mathlib.Core.Path.{◌≡◌, sym, ap, ◌∙◌}
use Rattle.tokens.specs.Listing.{join}
use Rattle.record.specs.declared.header.Header.{Header}
use Rattle.record.specs.Header.{header_of}
use Rattle.record.specs.Layout.{starts_of, targets_of, addresses_of}
use Rattle.record.specs.Body.{address_at}
use Rattle.record.specs.Asked.{first_no}
use Rattle.structure.specs.Plan.{Line}
use Rattle.flow.specs.Rows.{block_rows, edge_rows, shown_rows}
use Rattle.flow.specs.Planned.{record_plan}
use Rattle.line.specs.Print.{printed}
use Rattle.route.specs.Trace.{Trace, ends}
use Rattle.route.specs.Following.{Stated, route, stated}
use Rattle.route.specs.Processor.{run, context_of}
use Rattle.route.specs.Processor.Spot.{before}
use Rattle.route.specs.Assumed.{Assumed, gotos_labelled}
use Rattle.route.specs.Followed.{Followed}
use Rattle.route.proofs.Stating.{stated_as, name_at, target_name, own_at}
use Rattle.route.proofs.Rules.{Runs, Addressed}
use Rattle.route.proofs.Told.{lines_stated}
use Rattle.route.proofs.Names.{label_test, targets_named}
use Rattle.route.proofs.Routes.{follows}
use Rattle.record.proofs.AskedLaws.{yes_starts}
use Rattle.route.proofs.Steps.{steps, ended}
use Rattle.route.proofs.Premises.{rowed}

module _ (s : List ℕ) (accepted : first_no s 0 (header_of s).blocks ≡ 0) (assumed : Assumed (header_of s) s)
    (line-address : Line → ℕ) (addressed : Addressed line-address (address_at (addresses_of (header_of s) s))) where
  abbrev h : Header
  h = header_of s

  abbrev plan : List Line
  plan = record_plan h s 0 h.blocks

  abbrev seen : List Stated
  seen = map (stated_as (name_at h s) (target_name h s) (own_at h s) line-address) plan

  runs : (n : ℕ) (os : List Bool) → Runs (block_rows h s) (shown_rows h s) h.blocks (context_of h s) (own_at h s) (address_at (addresses_of h s)) n os (before 0) (route n os seen)
  unfolding record_plan context_of gotos_labelled
  runs =
      follows (block_rows h s) (edge_rows h s) (shown_rows h s) (starts_of h s) (targets_of h s) h.blocks h.indent (name_at h s) (target_name h s) (own_at h s) (address_at (addresses_of h s)) line-address
      (rowed s accepted assumed (label_test h s (yes_starts s 0 h.blocks accepted)) (targets_named s accepted assumed.starts_unnamed_lem)) addressed assumed.some assumed.gotos_labelled_lem

  plan_followed : Followed h s seen
  plan_followed n os = let p = steps s accepted assumed (runs n os) in (p.0, p.1, ended (runs n os))

  -- of the lines of tokens, their places and addresses
  pub lines_followed : (range : ℕ) → Followed h s (stated (map join (printed h s range 0 plan)) (map (λ (l : Line). l.place) plan) (map line-address plan))
  lines_followed range = rw (lines_stated h s range 0 line-address plan) plan_followed
