-- The tokens of a line, and of the lines of a plan.
use Rattle.std.specs.Prelude.{ℕ, zero, suc, Bool, true, false, List, [], ◌∷◌, ◌++◌, map, eqb, take}
use Rattle.lists.specs.Choice.{pick}
use Rattle.lists.specs.Bytes.{u8_at}
use Rattle.tokens.specs.Token.{Token, token, plain_text, symbol, as_text}
use Rattle.tokens.specs.Words.{prefixed}
use Rattle.x86.specs.Mnemonics.{mnemonic_name}
use Rattle.x86.specs.Conditions.{negate}
use Rattle.x86.specs.Width.{return_register}
use Rattle.record.specs.declared.header.Header.{Header}
use Rattle.record.specs.Layout.{starts_of}
use Rattle.record.specs.Blocks.{start_at}
use Rattle.record.specs.Body.{mnemonic_of, condition_of, operand_count, operand_number, name_of}
use Rattle.operand.specs.Memory.{register_token, number, mem_tokens}
use Rattle.operand.specs.Names.{name_or}
use Rattle.operand.specs.Operand.{op_tokens}
use Rattle.cfg.specs.Graph.{first_in}
use Rattle.structure.specs.Plan.{What, Line, is}
use Rattle.structure.specs.Plan.What.{insn_line}
use Rattle.flow.specs.Rows.{block_rows}
use Rattle.expressions.specs.Condition.{body_of, condition_tokens}
use Rattle.expressions.specs.Arguments.{argument_tokens, written_after, comma_if}
use Rattle.line.specs.declared.pieces.Site.{Site}
use Rattle.line.specs.Forms.{Piece, form_of, row_of}
use Rattle.line.specs.Forms.Piece.{fixed, op, address, zeros, ones, condition, negated, arguments, target, start, accumulator, assembly}

-- how many of the m bytes from k on stand before a zero, k of them counted already
unfoldable pub length_from : List ℕ → ℕ → ℕ → ℕ
length_from n k zero = k
length_from n k (suc m) = pick (eqb (u8_at n k) 0) k (length_from n (suc k) m)

-- how many bytes a name has before its zeros
unfoldable pub name_length : List ℕ → ℕ
name_length n = length_from n 0 24

-- an instruction's name: that of its mnemonic, or for mnemonic 0 the record's
unfoldable pub insn_name : List ℕ → List ℕ
insn_name b = pick (eqb (mnemonic_of b) 0) (take (name_length (name_of b)) (name_of b)) (mnemonic_name (mnemonic_of b))

module _ (h : Header) (s : List ℕ) where
  -- `__asm`: the operands with commas between
  unfoldable pub assembled : List ℕ → Bool → ℕ → ℕ → List Token
  assembled b comma i zero = []
  assembled b comma i (suc n) = comma_if comma (op_tokens h s b i ++ assembled b true (suc i) n)

  -- the instruction's name, a space and its operands, all Text
  unfoldable pub assembly_tokens : List ℕ → List Token
  assembly_tokens b = map as_text (token 0 (insn_name b) ∷ plain_text " " ∷ assembled b false 0 (operand_count b))

  unfoldable pub piece_tokens : Site → Piece → List Token
  piece_tokens c (fixed t) = t ∷ []
  piece_tokens c (op k) = op_tokens h s (body_of h s c.at) k
  piece_tokens c address = mem_tokens h s false (body_of h s c.at)
  piece_tokens c zeros = number false 0 ∷ []
  piece_tokens c ones = number true 1 ∷ []
  piece_tokens c condition = condition_tokens h s c.first c.at (condition_of (body_of h s c.at))
  piece_tokens c negated = condition_tokens h s c.first c.at (negate (condition_of (body_of h s c.at)))
  piece_tokens c arguments = argument_tokens h s c.range c.at c.written
  piece_tokens c (target w) = name_or h s (operand_number (body_of h s c.at) 0) w ∷ []
  piece_tokens c start = prefixed (symbol "loc_") (start_at (starts_of h s) c.place) ∷ []
  piece_tokens c accumulator = register_token (return_register h.bits) ∷ []
  piece_tokens c assembly = assembly_tokens (body_of h s c.at)

  unfoldable pub pieces_tokens : Site → List Piece → List Token
  pieces_tokens c [] = []
  pieces_tokens c (p ∷ ps) = piece_tokens c p ++ pieces_tokens c ps

  -- the site of a line in a range whose first instruction is `range`
  abbrev pub site_of : ℕ → ℕ → Line → Site
  site_of range mask l = record {
    at = l.at;
    first = first_in (block_rows h s) l.place;
    range = range;
    place = l.place;
    written = mask;
  }

  -- the tokens of a line
  unfoldable pub line_tokens : ℕ → ℕ → Line → List Token
  line_tokens range mask l = pieces_tokens (site_of range mask l) (row_of (form_of h s l.what (first_in (block_rows h s) l.place) l.at))

  -- only an instruction's own line changes the registers written
  abbrev pub mask_after : ℕ → What → ℕ → ℕ
  mask_after mask w i = pick (is w insn_line) (written_after mask (body_of h s i)) mask

  -- the lines of a plan, from the registers written on
  unfoldable pub printed : ℕ → ℕ → List Line → List (List Token)
  printed range mask [] = []
  printed range mask (l ∷ ls) = line_tokens range mask l ∷ printed range (mask_after mask l.what l.at) ls
