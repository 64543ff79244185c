-- Each line of a plan shows its condition, and a call's line its arguments.
-- By the row of its form; the registers written are those of the instructions shown before, by induction over the lines.
use mathlib.Core.Path.{◌≡◌, refl, sym, ap, ◌∙◌}
use mathlib.Core.Bool.{Bool, true, false, ◌&&◌, ◌||◌, false≢true}
use mathlib.Core.List.{List, [], ◌∷◌, ◌++◌, map, append_assoc}
use Prim.Native.Nat.{ℕ, ◌-◌}
use borrow.Author.Tests.{eqb-true, eq-eqb}
use lib.Dec.{eqb}
use lib.ListN.{length, take}
use Rattle.lists.specs.Choice.{pick}
use Rattle.lists.specs.Every.{both_yes}
use Rattle.tokens.specs.Token.{Token}
use Rattle.tokens.specs.Listing.{join}
use Rattle.x86.specs.Mnemonics as mnemonic
use Rattle.x86.specs.Conditions.{negate}
use Rattle.record.specs.declared.header.Header.{Header}
use Rattle.record.specs.Layout.{bodies_of}
use Rattle.record.specs.Body.{mnemonic_of, condition_of, operand_kind, base_of}
use Rattle.operand.specs.Memory.{is_ip}
use Rattle.cfg.specs.Graph.{first_in}
use Rattle.structure.specs.Plan.{What, Line}
use Rattle.structure.specs.Plan.What.{label_line, do_line, open_line, if_goto, while_line, close_line, goto_line, tail_call, insn_line}
use Rattle.flow.specs.Rows.{block_rows}
use Rattle.expressions.specs.Condition.{body_of, condition_tokens}
use Rattle.expressions.specs.Arguments.{argument_tokens}
use Rattle.expressions.specs.ArgumentLaw.{since_call, UpToLast}
use Rattle.expressions.proofs.Shows.{shows, shows_turned}
use Rattle.expressions.proofs.ArgumentLaw.{behind, up_to_last_written}
use Rattle.line.specs.declared.pieces.Site.{Site}
use Rattle.line.specs.Forms.{Piece, Form, p, row_of, form_of, insn_form, plain_form, call_form, jump_form, returns_value}
use Rattle.line.specs.Forms.Piece.{arguments}
use Rattle.line.specs.Forms.Form.{set_condition, move_if, call_target, call_memory, call_through, tail_call_target}
use Rattle.line.specs.Print.{piece_tokens, pieces_tokens, site_of, line_tokens, mask_after, printed}
use Rattle.line.specs.Shown.{EachLine, ConditionShown, ConditionsShown, ends_in_call, shown_as, shown, ArgumentsShown, CallsShown}
use Rattle.line.proofs.PlainForms.{form_call, form_jmp}

-- the forms of setcc and cmovcc
form_setcc : (v : Bool) (b : List ℕ) → mnemonic_of b ≡ mnemonic.setcc → insn_form v b ≡ set_condition
unfolding insn_form plain_form
form_setcc v b e = rw e

form_cmovcc : (v : Bool) (b : List ℕ) → mnemonic_of b ≡ mnemonic.cmovcc → insn_form v b ≡ move_if
unfolding insn_form plain_form
form_cmovcc v b e = rw e

module _ (h : Header) (s : List ℕ) (c : Site) where
  -- the tokens of a form's row
  abbrev row : Form → List Token
  row form = join (pieces_tokens h s c (row_of form))

  own : List Token
  own = condition_tokens h s c.first c.at (condition_of (body_of h s c.at))

  condition_shown : (w : What) → ConditionShown h s w c.first c.at (row (form_of h s w c.first c.at))
  unfolding own row_of pieces_tokens piece_tokens
  condition_shown open_line = record {
    condition = condition_tokens h s c.first c.at (negate (condition_of (body_of h s c.at)));
    tokens = refl;
    shows = shows_turned h s c.first c.at (condition_of (body_of h s c.at));
  }
  condition_shown if_goto = record { condition = own; tokens = refl; shows = shows h s c.first c.at (condition_of (body_of h s c.at)) }
  condition_shown while_line = record { condition = own; tokens = refl; shows = shows h s c.first c.at (condition_of (body_of h s c.at)) }
  condition_shown insn_line =
      let b = body_of h s c.at in
      let v = returns_value (bodies_of h s) c.first c.at in (
        λ m. record { condition = own; tokens = ap row (form_setcc v b m); shows = shows h s c.first c.at (condition_of b) },
        λ m. record { condition = own; tokens = ap row (form_cmovcc v b m); shows = shows h s c.first c.at (condition_of b) },
      )
  condition_shown label_line = tt
  condition_shown do_line = tt
  condition_shown close_line = tt
  condition_shown goto_line = tt
  condition_shown tail_call = tt

-- ---- calls

-- a row that ends in a call
abbrev called : List Piece
called = p "(" ∷ arguments ∷ p ");" ∷ []

-- the pieces in front of it
abbrev front : Form → List Piece
front form = take (length (row_of form) - 3) (row_of form)

abbrev CallRow : Form → Type 0
CallRow form = row_of form ≡ front form ++ called

tail_row : CallRow tail_call_target
unfolding row_of
tail_row = refl

call_row : (b : List ℕ) → CallRow (call_form b)
unfolding row_of call_form
call_row b = go (eqb (operand_kind b 0) 2) (eqb (operand_kind b 0) 1 && (is_ip (base_of b) || eqb (base_of b) 0))
  where
    go : (x y : Bool) → CallRow (pick x call_target (pick y call_memory call_through))
    go true y = refl
    go false true = refl
    go false false = refl

jmp_row : (b : List ℕ) → operand_kind b 0 ≡ 1 → CallRow (jump_form b)
unfolding row_of jump_form
jmp_row b e = rw e

insn_row : (v : Bool) (b : List ℕ) → (eqb (mnemonic_of b) mnemonic.call || (eqb (mnemonic_of b) mnemonic.jmp && eqb (operand_kind b 0) 1)) ≡ true → CallRow (insn_form v b)
insn_row v b t = by (eqb (mnemonic_of b) mnemonic.call) refl t
  where
    by : (x : Bool) → eqb (mnemonic_of b) mnemonic.call ≡ x → (x || (eqb (mnemonic_of b) mnemonic.jmp && eqb (operand_kind b 0) 1)) ≡ true → CallRow (insn_form v b)
    by true e t = rw (form_call v b _ refl (eqb-true (mnemonic_of b) mnemonic.call e)) (call_row b)
    by false e t =
        let q = both_yes (eqb (mnemonic_of b) mnemonic.jmp) (eqb (operand_kind b 0) 1) t in
        rw (form_jmp v b _ refl (eqb-true (mnemonic_of b) mnemonic.jmp q.0)) (jmp_row b (eqb-true (operand_kind b 0) 1 q.1))

-- the form of a line that ends in a call has such a row
line_row : (h : Header) (s : List ℕ) (w : What) (first i : ℕ) → ends_in_call w (body_of h s i) ≡ true → CallRow (form_of h s w first i)
line_row h s tail_call first i t = tail_row
line_row h s insn_line first i t = insn_row (returns_value (bodies_of h s) first i) (body_of h s i) t
line_row h s label_line first i t = absurd (false≢true t)
line_row h s do_line first i t = absurd (false≢true t)
line_row h s open_line first i t = absurd (false≢true t)
line_row h s if_goto first i t = absurd (false≢true t)
line_row h s while_line first i t = absurd (false≢true t)
line_row h s close_line first i t = absurd (false≢true t)
line_row h s goto_line first i t = absurd (false≢true t)

pieces_append : (h : Header) (s : List ℕ) (c : Site) (a b : List Piece) → pieces_tokens h s c (a ++ b) ≡ pieces_tokens h s c a ++ pieces_tokens h s c b
unfolding pieces_tokens
pieces_append h s c [] b = refl
pieces_append h s c (q ∷ a) b = rw (pieces_append h s c a b) (sym (append_assoc (piece_tokens h s c q) (pieces_tokens h s c a) (pieces_tokens h s c b)))

module _ (h : Header) (s : List ℕ) where
  -- the mask behind lines
  abbrev mask_behind : ℕ → List Line → ℕ
  mask_behind mask [] = mask
  mask_behind mask (l ∷ ls) = mask_behind (mask_after h s mask l.what l.at) ls

  behind_last : (m : ℕ) (ls : List Line) (l : Line) → mask_behind m (ls ++ (l ∷ [])) ≡ mask_after h s (mask_behind m ls) l.what l.at
  behind_last m [] l = refl
  behind_last m (k ∷ ls) l = behind_last (mask_after h s m k.what k.at) ls l

  line_behind : (m : ℕ) (w : What) (i : ℕ) (bs : List (List ℕ)) → behind (mask_after h s m w i) bs ≡ behind m (shown_as h s w i ++ bs)
  line_behind m insn_line i bs = refl
  line_behind m label_line i bs = refl
  line_behind m do_line i bs = refl
  line_behind m open_line i bs = refl
  line_behind m if_goto i bs = refl
  line_behind m while_line i bs = refl
  line_behind m close_line i bs = refl
  line_behind m goto_line i bs = refl
  line_behind m tail_call i bs = refl

  lines_behind : (m : ℕ) (ls : List Line) → mask_behind m ls ≡ behind m (shown h s ls)
  lines_behind m [] = refl
  lines_behind m (l ∷ ls) = lines_behind (mask_after h s m l.what l.at) ls ∙ line_behind m l.what l.at (shown h s ls)

  -- with bits 64 the arguments are registers
  by_register : h.bits ≡ 64 → (range i : ℕ) (before : List Line)
      → UpToLast h.convention (since_call (shown h s before)) (argument_tokens h s range i (mask_behind 0 before))
  unfolding argument_tokens
  by_register n range i before =
      rw (eq-eqb h.bits 64 n, lines_behind 0 before) (up_to_last_written h.convention (shown h s before))

  arguments_shown : h.bits ≡ 64 → (range : ℕ) (before : List Line) (l : Line) → ends_in_call l.what (body_of h s l.at) ≡ true
      → ArgumentsShown h s before (join (line_tokens h s range (mask_behind 0 before) l))
  unfolding line_tokens pieces_tokens piece_tokens
  arguments_shown n range before l t =
      let c = site_of h s range (mask_behind 0 before) l in
      let form = form_of h s l.what c.first l.at in
      record {
        callee = pieces_tokens h s c (front form);
        arguments = argument_tokens h s range l.at (mask_behind 0 before);
        tokens = ap (λ (r : List Piece). join (pieces_tokens h s c r)) (line_row h s l.what c.first l.at t) ∙ ap join (pieces_append h s c (front form) called);
        registers = by_register n range l.at before;
      }

  -- what holds of each line printed with the mask of the lines before it holds of all
  each_printed : (P : List Line → Line → List Token → Type 0) (range : ℕ) → ((before : List Line) (l : Line) → P before l (join (line_tokens h s range (mask_behind 0 before) l)))
      → (before ls : List Line) → EachLine P before ls (map join (printed h s range (mask_behind 0 before) ls))
  unfolding printed
  each_printed P range f before [] = tt
  each_printed P range f before (l ∷ ls) = (f before l, rw (behind_last 0 before l) at (each_printed P range f (before ++ (l ∷ [])) ls))

  pub conditions_shown : (range : ℕ) (ls : List Line) → ConditionsShown h s ls (map join (printed h s range 0 ls))
  unfolding line_tokens
  conditions_shown range = each_printed (λ before l ts. ConditionShown h s l.what (first_in (block_rows h s) l.place) l.at ts) range
      (λ before l. condition_shown h s (site_of h s range (mask_behind 0 before) l) l.what) []

  pub calls_shown : h.bits ≡ 64 → (range : ℕ) (ls : List Line) → CallsShown h s ls (map join (printed h s range 0 ls))
  calls_shown n range = each_printed (λ before l ts. ends_in_call l.what (body_of h s l.at) ≡ true → ArgumentsShown h s before ts) range
      (arguments_shown n range) []
