-- A record that breaks no assumption meets them all.
-- A question of the order that was passed got a yes.
use mathlib.Core.Path.{◌≡◌}
use mathlib.Core.Bool.{◌&&◌}
use mathlib.Core.List.{List}
use Prim.Native.Nat.{ℕ}
use borrow.Author.Tests.{leb-true}
use lib.Dec.{leb}
use Rattle.lists.specs.Choice.{ask}
use Rattle.record.specs.declared.header.Header.{Header}
use Rattle.record.specs.Asked.{or_else}
use Rattle.record.proofs.AskedLaws.{passed, later}
use Rattle.route.specs.Assumed.{Assumed, turns_last, lasts_unmarked, sets_no_branch, starts_unnamed, jumps_led, others_led, branches_inside, gotos_labelled}
use Rattle.checker.specs.Broken.{no_case, entries_plain, mnemonics_plain, no_flow_words, broken_inside, broken_names, broken_leads, first_broken}

pub met : (h : Header) (s : List ℕ) → first_broken h s ≡ 0 → Assumed h s
unfolding first_broken broken_inside broken_names broken_leads
met h s e =
    let some = passed 0 (leb 1 h.blocks) (or_else (broken_inside h s) (or_else (broken_names h s) (broken_leads h s))) e in
    let inside = later (broken_inside h s) (or_else (broken_names h s) (broken_leads h s)) some.1 in
    let names = later (broken_names h s) (broken_leads h s) inside.1 in
    let two = passed 1 (turns_last h s) (ask 3 (lasts_unmarked h s) (ask 4 (sets_no_branch h s) (ask 5 (no_case h s) 0))) inside.0 in
    let three = passed 2 (lasts_unmarked h s) (ask 4 (sets_no_branch h s) (ask 5 (no_case h s) 0)) two.1 in
    let nine = passed 8 (jumps_led h s) (ask 10 (others_led h s) (ask 11 (branches_inside h s) (ask 12 (gotos_labelled h s) 0))) names.1 in
    let ten = passed 9 (others_led h s) (ask 11 (branches_inside h s) (ask 12 (gotos_labelled h s) 0)) nine.1 in
    let eleven = passed 10 (branches_inside h s) (ask 12 (gotos_labelled h s) 0) ten.1 in
    record {
      some = leb-true 1 h.blocks some.0;
      turns_last_lem = two.0;
      lasts_unmarked_lem = three.0;
      sets_no_branch_lem = (passed 3 (sets_no_branch h s) (ask 5 (no_case h s) 0) three.1).0;
      starts_unnamed_lem = (passed 5 (starts_unnamed h s) (ask 7 (entries_plain h s && mnemonics_plain h s) (ask 8 (no_flow_words h s) 0)) names.0).0;
      jumps_led_lem = nine.0;
      others_led_lem = ten.0;
      branches_inside_lem = eleven.0;
      gotos_labelled_lem = (passed 11 (gotos_labelled h s) 0 eleven.1).0;
    }
