-- Document 01's example, from its lists, each line's text as one token; and a refusal.
-- Each is computed from the definition.
use Rattle.std.specs.Prelude.{ℕ, List, ◌≡◌, refl, [], ◌∷◌, ◌++◌}
use Rattle.lists.specs.Ascii.{ascii}
use Rattle.text.specs.Number.{digit, hex_of, hex_text}
use Rattle.text.specs.Decimal.{decimal_of}
use Rattle.rows.specs.Lists.{lists_of}
use Rattle.page.specs.Page.{lf, numbered, refusal, address_text, line_of, lines_text, page_text}

worked_refusal : refusal 12 ≡ ascii "no 12" ++ lf
unfolding numbered decimal_of
worked_refusal = refl

-- kinds and places are not printed
worked_page : (kinds places : List ℕ) →
    page_text
    (lists_of (ascii "if (eax == 0) {eax = 5;}loc_1010:return;") (15 ∷ 23 ∷ 24 ∷ 33 ∷ 40 ∷ []) kinds
    (0x1002 ∷ 0x1004 ∷ 0 ∷ 0x1010 ∷ 0x1010 ∷ []) (257 ∷ 258 ∷ 1 ∷ 256 ∷ 257 ∷ []) places (1 ∷ 2 ∷ 3 ∷ 4 ∷ 5 ∷ []))
    5
    ≡ ascii "lines=5" ++ lf
    ++ ascii "0000000000001002   if (eax == 0) {" ++ lf
    ++ ascii "0000000000001004     eax = 5;" ++ lf
    ++ ascii "----------------   }" ++ lf
    ++ ascii "0000000000001010 loc_1010:" ++ lf
    ++ ascii "0000000000001010   return;" ++ lf
unfolding page_text lines_text line_of address_text numbered decimal_of digit hex_of hex_text
worked_page kinds places = refl
