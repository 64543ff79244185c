-- Which of #109's assumptions a record breaks first, by their number in the order of its words. Numbers 5, 7 and 8 are of readers of the text
-- alone: the theorem, over tokens, does without them.
use Rattle.std.specs.Prelude.{ℕ, List, [], ◌∷◌, ◌++◌, Bool, true, false, not, ◌&&◌, ◌||◌, eqb, leb}
use Prim.Native.String.{String}
use Rattle.lists.specs.Ascii.{ascii}
use Rattle.lists.specs.Choice.{ask, all_below}
use Rattle.record.specs.declared.header.Header.{Header}
use Rattle.record.specs.Layout.{edge_kinds_of, bodies_of, pairs_of, texts_of}
use Rattle.record.specs.Blocks.{edge_kind_at}
use Rattle.record.specs.Body.{body_at, mnemonic_of, name_of}
use Rattle.record.specs.Atlas.{entry_kind, entry_text}
use Rattle.record.specs.Asked.{or_else}
use Rattle.route.specs.Assumed.{turns_last, lasts_unmarked, sets_no_branch, starts_unnamed, jumps_led, others_led, branches_inside, gotos_labelled}

-- a text begins with another
unfoldable pub begins : List ℕ → List ℕ → Bool
begins t [] = true
begins [] (b ∷ w) = false
begins (a ∷ t) (b ∷ w) = eqb a b && begins t w

abbrev pub begins_loc : List ℕ → Bool
begins_loc t = begins t (ascii "loc_")

-- a name of 24 bytes is a word: zeros stand behind it
abbrev pub is_word : List ℕ → String → Bool
is_word n w = begins n (ascii w ++ (0 ∷ []))

-- "`do`, `if`, `goto` or `return`"
unfoldable pub is_flow_word : List ℕ → Bool
is_flow_word n = is_word n "do" || is_word n "if" || is_word n "goto" || is_word n "return"

module _ (h : Header) (s : List ℕ) where
  -- "no edge is Case"
  unfoldable pub no_case : Bool
  no_case = all_below (λ e. not (eqb (edge_kind_at (edge_kinds_of h s) e) 4)) h.edges

  -- "no atlas or mnemonic 0 name begins with `loc_`"
  unfoldable pub entries_plain : Bool
  entries_plain = all_below (λ k. not (eqb (entry_kind (pairs_of h s) k) 3 && begins_loc (entry_text (pairs_of h s) (texts_of h s) k))) h.atlas

  unfoldable pub mnemonics_plain : Bool
  mnemonics_plain = all_below (λ i. let b = body_at (bodies_of h s) i in not (eqb (mnemonic_of b) 0 && begins_loc (name_of b))) h.instructions

  -- "no mnemonic 0 name is `do`, `if`, `goto` or `return`"
  unfoldable pub no_flow_words : Bool
  no_flow_words = all_below (λ i. let b = body_at (bodies_of h s) i in not (eqb (mnemonic_of b) 0 && is_flow_word (name_of b))) h.instructions

  -- 2 to 5: what instructions and edges tell
  unfoldable pub broken_inside : ℕ
  broken_inside = ask 2 (turns_last h s) (ask 3 (lasts_unmarked h s) (ask 4 (sets_no_branch h s) (ask 5 no_case 0)))

  -- 6 to 8: names
  unfoldable pub broken_names : ℕ
  broken_names = ask 6 (starts_unnamed h s) (ask 7 (entries_plain && mnemonics_plain) (ask 8 no_flow_words 0))

  -- 9 to 12: where blocks lead, and labels
  unfoldable pub broken_leads : ℕ
  broken_leads = ask 9 (jumps_led h s) (ask 10 (others_led h s) (ask 11 (branches_inside h s) (ask 12 (gotos_labelled h s) 0)))

  -- 1 is of a record without blocks
  unfoldable pub first_broken : ℕ
  first_broken = ask 1 (leb 1 h.blocks) (or_else broken_inside (or_else broken_names broken_leads))
