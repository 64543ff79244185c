-- What the writer of codes does: each token's bytes, end and kind stand in their places in the lent lists, and each line's token end.
use Rattle.std.specs.Prelude.{Bool, true, ◌≡◌, List, [], ◌∷◌, ℕ, suc, ◌+◌, ◌-◌, ◌≤◌, ◌<◌, length, set}
use Rattle.lists.specs.Choice.{pick}
use Rattle.lists.specs.Put.{put}
use Rattle.tokens.specs.Token.{Token}
use Rattle.tokens.specs.Listing.{listing}
use Rattle.codes.specs.Code.{Event, all_in_table, decode}
use Rattle.codes.specs.Code.Event.{tok, end}
use Rattle.codes.specs.Lines.{of_lines}
use Rattle.writer.specs.declared.write.Cursor.{Cursor}

-- the lent lists, and how much of them is written
pub record Page : Type 0 where
  pub text : List ℕ
  pub ends : List ℕ
  pub kinds : List ℕ
  pub lines : List ℕ
  pub at : Cursor

abbrev pub page : (x e k l : List ℕ) → Cursor → Page
page x e k l p = record { text = x; ends = e; kinds = k; lines = l; at = p }

-- a token that goes on with the one before has its place, another one the next
abbrev pub place_for : Bool → ℕ → ℕ
place_for joins tokens = pick joins (tokens - 1) tokens

-- where the cursor stands behind an event
unfoldable pub behind : Cursor → Event → Cursor
behind p (tok joins t) = record { text = p.text + length t.bytes; tokens = suc (place_for joins p.tokens); lines = p.lines }
behind p end = record { text = p.text; tokens = p.tokens; lines = suc p.lines }

unfoldable pub written : Page → Event → Page
written P (tok joins t) = record {
  text = put P.at.text t.bytes P.text;
  ends = set P.ends (place_for joins P.at.tokens) (P.at.text + length t.bytes);
  kinds = set P.kinds (place_for joins P.at.tokens) t.kind;
  lines = P.lines;
  at = behind P.at (tok joins t);
}
written P end = record {
  text = P.text;
  ends = P.ends;
  kinds = P.kinds;
  lines = set P.lines P.at.lines P.at.tokens;
  at = behind P.at end;
}

unfoldable pub on_page : Page → List Event → Page
on_page P [] = P
on_page P (e ∷ es) = on_page (written P e) es

-- lists of x bytes, e and k tokens and l lines have room for an event, ends fit u32, and a token that goes on has one before it
abbrev pub Fits : (x e k l : ℕ) → Cursor → Event → Type 0
Fits x e k l p (tok joins t) =
    (p.text + length t.bytes ≤ x) × (p.text + length t.bytes < 4294967296)
    × (place_for joins p.tokens < e) × (place_for joins p.tokens < k) × (pick joins 1 0 ≤ p.tokens)
Fits x e k l p end = (p.lines < l) × (p.tokens < 4294967296)

abbrev pub Room : (x e k l : ℕ) → Cursor → List Event → Type 0
Room x e k l p [] = Unit {0}
Room x e k l p (ev ∷ es) = Fits x e k l p ev × Room x e k l (behind p ev) es

-- nothing is written yet
abbrev pub start : Cursor
start = record { text = 0; tokens = 0; lines = 0 }

-- the lists of page P, with the listing of lines from their start on
pub record Listed (ls : List (List Token)) (P P' : Page) : Type 0 where
  pub text : P'.text ≡ put 0 (listing ls).text P.text
  pub ends : P'.ends ≡ put 0 (listing ls).ends P.ends
  pub kinds : P'.kinds ≡ put 0 (listing ls).kinds P.kinds
  pub lines : P'.lines ≡ put 0 (listing ls).lines P.lines
  pub bytes : P'.at.text ≡ length (listing ls).text
  pub count : P'.at.tokens ≡ length (listing ls).ends
  pub next : P'.at.lines ≡ length (listing ls).lines

-- codes of lines that lie within the table, for whose listing lists of x bytes, e and k tokens and l lines have room
pub record Ready (t s c : List ℕ) (x e k l : ℕ) : Type 0 where
  pub of : List (List Token)
  pub codes : decode t s c ≡ of_lines of
  pub within : all_in_table (length t) c ≡ true
  pub text : length (listing of).text ≤ x
  pub ends : length (listing of).ends ≤ e
  pub kinds : length (listing of).kinds ≤ k
  pub lines : length (listing of).lines ≤ l
  pub small_text : length (listing of).text < 4294967296
  pub small_tokens : length (listing of).ends < 4294967296
