-- Demand 3 holds of the listing of every accepted record and range.
-- The plan has it (`record_demand3`); a line that stays has its instruction's address, a mark has its line's indent, and the rows say of
-- silence what the silent list says.
use Prim.Native.Nat.{ℕ, ◌+◌, ◌-◌, ◌*◌, ◌≤◌, ◌<◌}
use mathlib.Core.Bool.{Bool, true, false, not, true≢false}
use mathlib.Core.List.{List, [], ◌∷◌, map}
use mathlib.Core.Path.{◌≡◌, refl, sym, ap, ◌∙◌}
use native.Mathlib.Omega.{arith}
use lib.ListN.{length, length-map}
use Rattle.lists.specs.Choice.{pick}
use Rattle.rows.specs.Lists.{Lists}
use Rattle.record.specs.declared.header.Header.{Header}
use Rattle.record.specs.Header.{header_of}
use Rattle.record.specs.Layout.{starts_of, marks_of, targets_of, addresses_of}
use Rattle.record.specs.Blocks.{start_at, first_instruction}
use Rattle.record.specs.Body.{address_at}
use Rattle.record.specs.Asked.{first_no}
use Rattle.record.proofs.AskedLaws.{yes_range}
use Rattle.structure.specs.Tree.{tree_of}
use Rattle.structure.specs.Plan.{What, Line}
use Rattle.structure.specs.Plan.What.{label_line, do_line, open_line, if_goto, while_line, close_line, goto_line, tail_call, insn_line}
use Rattle.structure.specs.Demand.{Owned, owned, Brace, is_left_out, counted, closes, open_then, rise_then, Nested, Rising, Shallow}
use Rattle.structure.proofs.Grown.{tree_fits}
use Rattle.structure.proofs.Addresses.{contexts_length}
use Rattle.flow.specs.Rows.{block_rows, edge_rows}
use Rattle.flow.specs.Planned.{record_plan}
use Rattle.flow.proofs.Bounds.{record_demand3, record_shallow, many_within}
use Rattle.flow.proofs.Silenced.{unsilent_is, plain_jmps}
use Rattle.tokens.proofs.ListingLaws.{lines_length}
use Rattle.pseudo.specs.Listed.{address_for, line_address, mark_for, line_mark, line_place, record_lines, record_lists}
use Rattle.pseudo.specs.Called.{Accepted}
use Rattle.pseudo.specs.Demand.{entries_of, staying, starting, indent_in, NestedBy, RisingBy, ShallowBy, what_of, placed, not_silent, LinesDemand3}
use Rattle.pseudo.proofs.Answers.{printed_length}
use Rattle.pseudo.proofs.Calls.{limits, counted as totals, in_range}

-- what a list has for the lines that stay, where an entry is told by the line's place and instruction
stays : (f : What → ℕ → ℕ → ℕ) (g : ℕ → ℕ → ℕ) → ((w : What) (k i : ℕ) → is_left_out w ≡ false → f w k i ≡ g k i) → (ls : List Line)
    → staying (map what_of ls) (map (λ (l : Line). f l.what l.place l.at) ls) ≡ map (λ (o : Owned). g o.place o.insn) (counted ls)
unfolding entries_of counted
stays f g same [] = refl
stays f g same (l ∷ ls) = go (is_left_out l.what) refl _ (counted ls) (stays f g same ls)
  where
    go : (b : Bool) → is_left_out l.what ≡ b → (xs : List ℕ) (os : List Owned) → xs ≡ map (λ (o : Owned). g o.place o.insn) os
        → pick (not b) (f l.what l.place l.at ∷ xs) xs ≡ map (λ (o : Owned). g o.place o.insn) (pick b os (owned l.place l.at ∷ os))
    go true e xs os r = r
    go false e xs os r = rw (same l.what l.place l.at e, r)

pub address_stays : (h : Header) (s : List ℕ) (w : What) (k i : ℕ) → is_left_out w ≡ false → address_for h s w k i ≡ address_at (addresses_of h s) i
address_stays h s label_line k i e = absurd (true≢false e)
address_stays h s do_line k i e = absurd (true≢false e)
address_stays h s close_line k i e = absurd (true≢false e)
address_stays h s open_line k i e = refl
address_stays h s if_goto k i e = refl
address_stays h s while_line k i e = refl
address_stays h s goto_line k i e = refl
address_stays h s tail_call k i e = refl
address_stays h s insn_line k i e = refl

starts : (h : Header) (s : List ℕ) (ls : List Line)
    → starting (map what_of ls) (map (line_address h s) ls) ≡ map (start_at (starts_of h s)) (starting (map what_of ls) (map line_place ls))
unfolding entries_of
starts h s [] = refl
starts h s (l ∷ ls) = go l.what (starts h s ls)
  where
    go : (w : What) → starting (map what_of ls) (map (line_address h s) ls) ≡ map (start_at (starts_of h s)) (starting (map what_of ls) (map line_place ls))
        → starting (w ∷ map what_of ls) (address_for h s w l.place l.at ∷ map (line_address h s) ls)
        ≡ map (start_at (starts_of h s)) (starting (w ∷ map what_of ls) (l.place ∷ map line_place ls))
    go label_line e = ap (λ (r : List ℕ). start_at (starts_of h s) l.place ∷ r) e
    go do_line e = ap (λ (r : List ℕ). start_at (starts_of h s) l.place ∷ r) e
    go close_line e = e
    go open_line e = e
    go if_goto e = e
    go while_line e = e
    go goto_line e = e
    go tail_call e = e
    go insn_line e = e

-- a mark has its line's indent
indent_is : (w : What) (d : ℕ) → d < 256 → indent_in (mark_for w d) ≡ d
indent_is label_line d h = omega arith
indent_is do_line d h = omega arith
indent_is open_line d h = omega arith
indent_is if_goto d h = omega arith
indent_is while_line d h = omega arith
indent_is close_line d h = omega arith
indent_is goto_line d h = omega arith
indent_is tail_call d h = omega arith
indent_is insn_line d h = omega arith

-- what follows of the rest
closes_more : (st : List Brace) (b : Brace) (P Q : List Brace → Type 0) → ((t : List Brace) → P t → Q t) → closes st b P → closes st b Q
closes_more [] b P Q f p = p
closes_more (x ∷ st) b P Q f p = (p.0, f st p.1)

open_more : (w : What) (st : List Brace) (d k : ℕ) (P Q : List Brace → Type 0) → ((t : List Brace) → P t → Q t) → open_then w st d k P → open_then w st d k Q
open_more label_line st d k P Q f p = f st p
open_more do_line st d k P Q f p = f _ p
open_more open_line st d k P Q f p = f _ p
open_more if_goto st d k P Q f p = f st p
open_more while_line st d k P Q f p = closes_more st _ P Q f p
open_more close_line st d k P Q f p = closes_more st _ P Q f p
open_more goto_line st d k P Q f p = f st p
open_more tail_call st d k P Q f p = f st p
open_more insn_line st d k P Q f p = f st p

nested_by : (st : List Brace) (ls : List Line) → Shallow 256 ls → Nested st ls → NestedBy st (map what_of ls) (map line_mark ls) (map line_place ls)
nested_by st [] p n = n
nested_by st (l ∷ ls) p n =
    rw (indent_is l.what l.indent p.0)
    (open_more l.what st l.indent l.place (λ t. Nested t ls) (λ t. NestedBy t (map what_of ls) (map line_mark ls) (map line_place ls)) (λ t q. nested_by t ls p.1 q) n)

rise_more : (w : What) (m k : ℕ) (P Q : ℕ → Type 0) → ((n : ℕ) → P n → Q n) → rise_then w m k P → rise_then w m k Q
rise_more close_line m k P Q f p = f m p
rise_more label_line m k P Q f p = (p.0, f k p.1)
rise_more do_line m k P Q f p = (p.0, f k p.1)
rise_more open_line m k P Q f p = (p.0, f k p.1)
rise_more if_goto m k P Q f p = (p.0, f k p.1)
rise_more while_line m k P Q f p = (p.0, f k p.1)
rise_more goto_line m k P Q f p = (p.0, f k p.1)
rise_more tail_call m k P Q f p = (p.0, f k p.1)
rise_more insn_line m k P Q f p = (p.0, f k p.1)

rising_by : (m : ℕ) (ls : List Line) → Rising m ls → RisingBy m (map what_of ls) (map line_place ls)
rising_by m [] p = tt
rising_by m (l ∷ ls) p = rise_more l.what m l.place (λ n. Rising n ls) (λ n. RisingBy n (map what_of ls) (map line_place ls)) (λ n q. rising_by n ls q) p

shallow_by : (m : ℕ) (ls : List Line) → Shallow 256 ls → Shallow m ls → ShallowBy m (map line_mark ls)
shallow_by m [] p q = tt
shallow_by m (l ∷ ls) p q = (rw (indent_is l.what l.indent p.0) q.0, shallow_by m ls p.1 q.1)

module _ (s : List ℕ) (from to : ℕ) (yes : first_no s from to ≡ 0) where
  abbrev h : Header
  h = header_of s

  abbrev new : Lists
  new = record_lists h s from to

  accepted : Accepted s from to h
  accepted = record { header = refl; yes = yes }

  ordered : (from ≤ to) × (to ≤ h.blocks)
  ordered = yes_range s from to yes

  places_each : length (placed s from to) ≡ to - from
  places_each = contexts_length (block_rows h s) (edge_rows h s) (tree_of (block_rows h s) (edge_rows h s) (starts_of h s) (targets_of h s) h.blocks from to) from to
      (tree_fits (block_rows h s) (edge_rows h s) (starts_of h s) (targets_of h s) h.blocks from to)

  lines_few : length (record_plan h s from to) ≤ (first_instruction (marks_of h s) to - first_instruction (marks_of h s) from) + 2 * (to - from)
  unfolding record_plan
  lines_few =
      let e : from + (to - from) ≡ to = omega (arith, ordered) in
      omega (arith, (record_demand3 h s from to).few, rw e at (many_within h s from (to - from) (omega (arith, ordered))))

  -- the plan's lines that stay are of the instructions that are not silent, each of its own block
  lines_shown : counted (record_plan h s from to) ≡ not_silent s from to
  unfolding record_plan
  lines_shown =
      (record_demand3 h s from to).addresses
      ∙ sym (unsilent_is h s (totals s from to h accepted) (plain_jmps s from to yes) from (placed s from to) (omega (arith, ordered, places_each)))

  pub listing_demand3 : LinesDemand3 s from to new.addresses new.marks new.places new.lines
  unfolding record_lines record_plan
  listing_demand3 =
      let d = record_demand3 h s from to in
      let low = record_shallow h s from to (limits s from to h accepted) (in_range s from to h accepted) in
      record {
        contexts = places_each;
        shown = stays (address_for h s) (λ k i. address_at (addresses_of h s) i) (address_stays h s) (record_plan h s from to)
            ∙ ap (map (λ (o : Owned). address_at (addresses_of h s) o.insn)) lines_shown;
        named = stays (λ w k i. k) (λ k i. k) (λ w k i e. refl) (record_plan h s from to) ∙ ap (map (λ (o : Owned). o.place)) lines_shown;
        started = starts h s (record_plan h s from to);
        rising = rising_by from (record_plan h s from to) (d.rising ordered.0);
        nested = nested_by [] (record_plan h s from to) low d.nested;
        few = omega (arith, lines_few, length-map (record_plan h s from to) (line_address h s));
        marked = length-map (record_plan h s from to) line_mark ∙ sym (length-map (record_plan h s from to) (line_address h s));
        placed_lines = length-map (record_plan h s from to) line_place ∙ sym (length-map (record_plan h s from to) (line_address h s));
        ended = lines_length _ ∙ printed_length h s _ 0 (record_plan h s from to) ∙ sym (length-map (record_plan h s from to) (line_address h s));
        shallow = shallow_by (h.indent + (to - from)) (record_plan h s from to) low d.shallow;
      }
