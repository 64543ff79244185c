-- What the line of each form states: by its row's first and last piece, the lines of the flow and the endings one by one.
-- Only what a form fixes is looked at, and of operands and conditions that they begin calmly and have no `goto`.
use Prim.Native.Nat.{ℕ}
use mathlib.Core.Path.{◌≡◌, refl, sym, ap, ◌∙◌}
use mathlib.Core.Bool.{Bool, true, false, ◌&&◌, ◌||◌, false≢true}
use mathlib.Core.List.{List, [], ◌∷◌, ◌++◌, append-nil, append_assoc}
use mathlib.Core.Logic.{⊎_elim}
use lib.Dec.{eqb, leb}
use borrow.Author.Tests.{eqb-true}
use Rattle.lists.specs.Choice.{pick}
use Rattle.x86.specs.Words.{is_one_of}
use Rattle.x86.specs.Mnemonics.{movzx, movsxd, xor, and, or, ret, jmp}
use Rattle.x86.specs.Registers.{word, dword, qword, register_name, register_names, register_size}
use Rattle.tokens.specs.Token.{Token, punct, keyword, plain_text, symbol}
use Rattle.tokens.specs.Words.{prefixed}
use Rattle.tokens.specs.Listing.{text_of, run, join}
use Rattle.tokens.proofs.ListingLaws.{cases, join_text, text_append}
use Rattle.record.specs.declared.header.Header.{Header}
use Rattle.record.specs.Layout.{bodies_of}
use Rattle.record.specs.Body.{mnemonic_of, condition_of, operand_count, operand_kind, operand_register, operand_number, base_of}
use Rattle.operand.specs.Memory.{register_token, is_ip}
use Rattle.operand.specs.Names.{name_or}
use Rattle.operand.specs.Operand.{op_tokens}
use Rattle.operand.proofs.Choices.{either}
use Rattle.structure.specs.Plan.{What}
use Rattle.structure.specs.Plan.What.{label_line, do_line, open_line, if_goto, while_line, close_line, goto_line, tail_call, insn_line}
use Rattle.expressions.specs.Condition.{body_of, condition_tokens}
use Rattle.line.specs.declared.pieces.Site.{Site}
use Rattle.line.specs.Forms.{Piece, Form, p, row_of, is_xor_self, is_and_zero, is_or_ones, cast_form, imul_form, call_form, xchg_form, logic_form, plain_form, return_form, jump_form, insn_form, form_of, returns_value}
use Rattle.line.specs.Forms.Piece.{arguments}
use Rattle.line.specs.Print.{piece_tokens, pieces_tokens}
use Rattle.route.specs.Statement.{Statement, nth, final, ending, if_states, first_states, return_states, statement_of}
use Rattle.route.specs.Statement.Statement.{return, leave, other}
use Rattle.route.proofs.Stating.{own_of, own_statement, stating, name_at, target_name, own_at}
use Rattle.route.proofs.Joined.{calm, calm_run, punct_run, if_other, goes, if_goes, goes_apart, Named, final_append, ending_joined, shut, calm_other, states_by, by_byte}
use Rattle.route.proofs.Parts.{Mild, front, mild_none, mild_cons, mild_both, name_named, op_tame, op_mild, condition_mild}

-- a byte is in what stands behind a text
has_behind : (n : ℕ) (s t : List ℕ) → is_one_of n t ≡ true → is_one_of n (s ++ t) ≡ true
has_behind n [] t e = e
has_behind n (x ∷ s) t e = ⊎_elim (λ a. rw a) (λ a. rw a (has_behind n s t e)) (cases (eqb n x))

-- 58 is the colon: behind one a text that ends in none has a byte, so it ends alike behind any
shut_behind : (b : ℕ) (t : List ℕ) → shut (final 58 t) ≡ true → shut (final b t) ≡ true
unfolding final
shut_behind b [] e = absurd (false≢true e)
shut_behind b (x ∷ t) e = e

calm_front : (a b : List Token) → front a ≡ true → calm (nth (join (a ++ b)) 0) ≡ true
unfolding join
calm_front [] b f = absurd (false≢true f)
calm_front (t ∷ a) b f = calm_run t (a ++ b) ∙ f

module _ (h : Header) (s : List ℕ) (c : Site) where
  abbrev tokens : List Piece → List Token
  tokens ps = pieces_tokens h s c ps

  abbrev body : List ℕ
  body = body_of h s c.at

  -- of a row the tokens of its first piece and the text of its last
  abbrev first_tokens : List Piece → List Token
  first_tokens [] = []
  first_tokens (x ∷ ps) = piece_tokens h s c x

  abbrev last_text : List Piece → List ℕ
  last_text [] = []
  last_text (x ∷ []) = text_of (piece_tokens h s c x)
  last_text (x ∷ y ∷ ps) = last_text (y ∷ ps)

  -- what the line of a form states
  abbrev pub form_states : Form → Statement
  form_states f = statement_of (join (tokens (row_of f)))

  row_ends : (q : ℕ → Bool) (ps : List Piece) → ((b : ℕ) → q (final b (last_text ps)) ≡ true) → (b : ℕ) → q (final b (text_of (tokens ps))) ≡ true
  unfolding pieces_tokens text_of
  row_ends q [] e b = e b
  row_ends q (x ∷ []) e b = rw append-nil (e b)
  row_ends q (x ∷ y ∷ ps) e b = rw (text_append, final_append) (row_ends q (y ∷ ps) e (final b (text_of (piece_tokens h s c x))))

  ends : (q : ℕ → Bool) (ps : List Piece) → ((b : ℕ) → q (final b (last_text ps)) ≡ true) → q (ending (join (tokens ps))) ≡ true
  ends q ps e = rw ending_joined (row_ends q ps e 0)

  -- by a last byte that is known
  by_last : (x : ℕ) (f : Form) → ((b : ℕ) → eqb (final b (last_text (row_of f))) x ≡ true) → form_states f ≡ states_by x (join (tokens (row_of f)))
  by_last x f e = by_byte x (join (tokens (row_of f))) (ends (λ b. eqb b x) (row_of f) e)

  -- ---- lines that state no more than that they are an instruction's
  record Plain (f : Form) : Type 0 where
    is : form_states f ≡ other

  first_calm : (ps : List Piece) → front (first_tokens ps) ≡ true → calm (nth (join (tokens ps)) 0) ≡ true
  unfolding pieces_tokens
  first_calm [] e = absurd (false≢true e)
  first_calm (x ∷ ps) e = calm_front (piece_tokens h s c x) (tokens ps) e

  plain : {f : Form} → front (first_tokens (row_of f)) ≡ true → shut (final 58 (last_text (row_of f))) ≡ true → Plain f
  plain {f} a z = record { is = calm_other (join (tokens (row_of f))) (ends shut (row_of f) (λ b. shut_behind b (last_text (row_of f)) z)) (first_calm (row_of f) a) }

  -- operand k first
  op_first : (k : ℕ) → front (op_tokens h s body k) ≡ true
  op_first k = (op_tame h s body k).first

  abbrev shown : List Token
  shown = condition_tokens h s c.first c.at (condition_of body)

  -- a condition before what is mild
  shown_mild : {ts : List Token} → Mild ts → Mild (shown ++ (punct ") " ∷ ts))
  shown_mild m = mild_both (condition_mild h s c.first c.at (condition_of body)) (mild_cons (punct ") ") refl m)

  -- cmovcc's `if` has no `goto`
  move : Plain Form.move_if
  unfolding row_of pieces_tokens piece_tokens join run final text_of if_states
  move =
      let m = mild_both (op_mild h s body 0) (mild_cons (punct " = ") refl (mild_both (op_mild h s body 1) (mild_cons (punct ";") refl mild_none))) in
      record { is = by_last 59 Form.move_if (λ b. refl) ∙ if_other (punct " (") (shown ++ (punct ") " ∷ (op_tokens h s body 0 ++ (punct " = " ∷ (op_tokens h s body 1 ++ (punct ";" ∷ [])))))) refl (shown_mild m).all }

  -- of two forms, by one number
  on : (m k : ℕ) {f g : Form} → Plain f → Plain g → Plain (pick (eqb m k) f g)
  on m k x y = either Plain (eqb m k) _ _ x y

  -- the forms that the mnemonic decides
  plain_form_lem : (m : ℕ) → Plain (plain_form m)
  unfolding plain_form row_of final piece_tokens text_of
  plain_form_lem m =
      let o = op_first 0 in
      on m _ (plain o refl) (on m _ (plain o refl) (on m _ (plain o refl) (on m _ (plain o refl) (on m _ (plain o refl) (on m _ (plain o refl)
      (on m _ (plain o refl) (on m _ (plain o refl) (on m _ (plain o refl) (on m _ (plain o refl) (on m _ (plain o refl) (on m _ (plain o refl)
      (on m _ (plain o refl) (on m _ (plain o refl) (on m _ (plain o refl) (on m _ (plain o refl) (on m _ (plain o refl) (on m _ (plain o refl)
      (on m _ move (on m _ (plain refl refl) (on m _ (plain refl refl) (on m _ (plain refl refl) (on m _ (plain refl refl) (on m _ (plain refl refl) (plain refl refl))))))))))))))))))))))))

  -- an instruction's form, if that is no ret and no jmp
  insn_plain : (v : Bool) (b : List ℕ) → eqb (mnemonic_of b) ret ≡ false → eqb (mnemonic_of b) jmp ≡ false → Plain (insn_form v b)
  unfolding insn_form cast_form imul_form call_form xchg_form logic_form row_of final piece_tokens text_of
  insn_plain v b x y =
      let m = mnemonic_of b in
      let narrow = eqb (register_size (operand_register b 0)) 4 in
      let o = op_first 0 in
      rw (x, y)
      (either Plain (leb movzx m && leb m movsxd) _ _
      (on m _ (either Plain narrow _ _ (plain o refl) (plain o refl)) (either Plain narrow _ _ (plain o refl) (plain o refl)))
      (on m _ (on (operand_count b) _ (plain o refl) (either Plain (leb 2 (operand_count b)) _ _ (plain o refl) (plain refl refl)))
      (on m _ (on (operand_kind b 0) _ (plain refl refl) (either Plain (eqb (operand_kind b 0) 1 && (is_ip (base_of b) || eqb (base_of b) 0)) _ _ (plain refl refl) (plain refl refl)))
      (on m _ (on (operand_kind b 0) _ (plain (op_first 1) refl) (on (operand_kind b 1) _ (plain o refl) (plain refl refl)))
      (either Plain (leb xor m && leb m or) _ _
      (either Plain (eqb m xor && is_xor_self b) _ _ (plain o refl) (either Plain (eqb m and && is_and_zero b) _ _ (plain o refl) (either Plain (eqb m or && is_or_ones b) _ _ (plain o refl) (plain_form_lem m))))
      (plain_form_lem m))))))

  -- ---- a ret and a jmp
  returns : (v : Bool) → form_states (return_form v) ≡ return
  unfolding return_form row_of pieces_tokens piece_tokens join run final text_of register_name register_names
  returns true =
      let P : ℕ → Type 0 = λ r. return_states (join (keyword "return" ∷ plain_text " " ∷ register_token r ∷ punct ";" ∷ [])) ≡ return in
      by_last 59 Form.return_value (λ b. refl) ∙ either P (eqb h.bits 64) (qword 0) _ refl (either P (eqb h.bits 16) (word 0) (dword 0) refl refl)
  returns false = by_last 59 Form.return_nothing (λ b. refl)

  -- a call behind `return`
  call : List Token
  call = tokens (p "(" ∷ arguments ∷ p ");" ∷ [])

  calls : (ts : List Token) → return_states (join (ts ++ call)) ≡ leave
  unfolding call pieces_tokens piece_tokens text_of
  calls ts = rw (join_text, text_append ts call, has_behind 40 (text_of ts) (text_of call) refl)

  jumps : (b : List ℕ) → form_states (jump_form b) ≡ leave
  unfolding jump_form call row_of pieces_tokens piece_tokens join run final text_of
  jumps b =
      either (λ f. form_states f ≡ leave) (eqb (operand_kind b 0) 1) _ _
      (by_last 59 Form.tail_call_memory (λ b. refl) ∙ calls (keyword "return" ∷ plain_text " " ∷ op_tokens h s body 0))
      (by_last 59 Form.computed_jump (λ b. refl) ∙ rw (punct_run (punct " *") (op_tokens h s body 0 ++ (punct ";" ∷ []))))

  insn_stated : (v : Bool) (b : List ℕ) → form_states (insn_form v b) ≡ own_statement (own_of b)
  unfolding insn_form
  insn_stated v b =
      let m = mnemonic_of b in
      ⊎_elim (λ e. rw (eqb-true m ret e) (returns v))
      (λ x. ⊎_elim (λ e. rw (eqb-true m jmp e) (jumps b)) (λ y. (insn_plain v b x y).is ∙ rw (x, y)) (cases (eqb m jmp)))
      (cases (eqb m ret))

  -- ---- each line, by what it is written for
  abbrev goal : Token
  goal = name_or h s (operand_number body 0) (symbol "loc_")

  goal_named : Named goal
  goal_named = name_named h s (operand_number body 0) (symbol "loc_") refl

  pub what_stated : (w : What) → form_states (form_of h s w c.first c.at) ≡ stating (name_at h s) (target_name h s) (own_at h s) w c.place c.at
  unfolding call row_of pieces_tokens piece_tokens prefixed join run final text_of if_states
  what_stated label_line = by_last 58 Form.label (λ b. refl)
  what_stated do_line = by_last 123 Form.open_do (λ b. refl)
  what_stated open_line = by_last 123 Form.open_if (λ b. refl)
  what_stated if_goto =
      by_last 59 Form.goto_if (λ b. refl)
      ∙ ap (λ (l : List Token). if_states (run (punct " (") l)) (sym (append_assoc shown (punct ") " ∷ []) (goes goal goal_named)))
      ∙ if_goes goal goal_named (punct " (") (shown ++ (punct ") " ∷ [])) refl (shown_mild mild_none).all
  what_stated while_line = by_last 59 Form.close_while (λ b. refl)
  what_stated close_line = by_last 125 Form.close (λ b. refl)
  what_stated goto_line = by_last 59 Form.goto (λ b. refl) ∙ ap (λ (l : List Token). first_states (nth l 0) l) (goes_apart goal goal_named)
  what_stated tail_call =
      by_last 59 Form.tail_call_target (λ b. refl) ∙ calls (keyword "return" ∷ plain_text " " ∷ name_or h s (operand_number body 0) (symbol "sub_") ∷ [])
  what_stated insn_line = insn_stated (returns_value (bodies_of h s) c.first c.at) body
