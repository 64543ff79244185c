-- A routine as a record.
use Rattle.std.specs.Prelude.{ℕ, suc, ◌+◌, ◌*◌, ◌-◌, List, [], ◌∷◌, ◌++◌, Bool, true, ltb, length, replicate}
use Rattle.lists.specs.Ascii.{ascii}
use Rattle.lists.specs.Little.{little}
use Rattle.x86.specs.Mnemonics.{mov, ret, jmp}
use Rattle.x86.specs.Registers.{dword}
use Rattle.routines.specs.declared.ending.Ending.{Ending}
use Rattle.routines.specs.declared.ending.Ending.TheVariants.{Ret, Fall, Jmp, Jne}
use Rattle.routines.specs.declared.fields.Array.{Array}
use Rattle.routines.specs.declared.fields.Array.TheVariants.{Starts, Marks, Targets, Kinds, Addresses, Bodies}

-- "block k, from 0, starting at 0x1000 + 16 × k"
abbrev pub start : ℕ → ℕ
start k = 0x1000 + 16 * k

-- t is one of at most three blocks
abbrev pub inside : Ending → Bool
inside Ret = true
inside Fall = true
inside (Jmp t) = ltb t 3
inside (Jne t) = ltb t 3

-- an edge: its kind ("0 Uncond, 1 True, 2 False, 3 Fall"), and the block that it leads to
pub record Edge : Type 0 where
  pub kind : ℕ
  pub to : ℕ

abbrev edge : ℕ → ℕ → Edge
edge k t = record { kind = k; to = t }

-- block k's: "mov eax,1 with Fall to the next; jmp to block t with Uncond to it; or jne to block t with False to the next", "True stands before
-- False"
abbrev pub edges : ℕ → Ending → List Edge
edges k Ret = []
edges k Fall = edge 3 (k + 1) ∷ []
edges k (Jmp t) = edge 0 t ∷ []
edges k (Jne t) = edge 1 t ∷ edge 2 (k + 1) ∷ []

-- "u8 kind, u8 register, u64 number"
abbrev pub operand : ℕ → ℕ → ℕ → List ℕ
operand kind register number = little 1 kind ++ little 1 register ++ little 8 number

-- an operand that is not there: "every other field 0"
abbrev pub none : List ℕ
none = operand 0 0 0

-- "24 bytes of name"
abbrev pub name : List ℕ → List ℕ
name word = word ++ replicate (24 - length word) 0

-- "u8 mnemonic, condition, operand count, skip mark (0 or 1); u8 segment, base, index, scale; u16 memory size in bytes; u64 memory address; five
-- operands of u8 kind, u8 register, u64 number; 24 bytes of name": "scale is 1 and every other field 0"
abbrev pub body : ℕ → ℕ → ℕ → List ℕ → List ℕ → List ℕ → List ℕ
body mnemonic condition count first second word =
    little 1 mnemonic ++ little 1 condition ++ little 1 count ++ little 1 0
    ++ little 1 0 ++ little 1 0 ++ little 1 0 ++ little 1 1
    ++ little 2 0 ++ little 8 0
    ++ first ++ second ++ none ++ none ++ none
    ++ name word

-- a near branch (kind 2) to block t
abbrev pub branch_to : ℕ → List ℕ
branch_to t = operand 2 0 (start t)

-- "ret; mov eax,1 ..; jmp to block t ..; or jne to block t", "jne is mnemonic 0 with name and condition, the 1 is kind 5, mov has two operands,
-- jmp and jne one"; ne is condition 6
abbrev pub body_of : Ending → List ℕ
body_of Ret = body ret 0 0 none none []
body_of Fall = body mov 0 2 (operand 0 (dword 0) 0) (operand 5 0 1) []
body_of (Jmp t) = body jmp 0 1 (branch_to t) none []
body_of (Jne t) = body 0 6 1 (branch_to t) none (ascii "jne")

-- the entries of an array, block by block from k on
abbrev pub each : (ℕ → Ending → List ℕ) → ℕ → List Ending → List ℕ
each f k [] = []
each f k (e ∷ r) = f k e ++ each f (suc k) r

abbrev pub targets_of : List Edge → List ℕ
targets_of [] = []
targets_of (e ∷ es) = little 8 (start e.to) ++ targets_of es

abbrev pub kinds_of : List Edge → List ℕ
kinds_of [] = []
kinds_of (e ∷ es) = little 1 e.kind ++ kinds_of es

-- how many edges the blocks from k on have
abbrev pub edge_count : ℕ → List Ending → ℕ
edge_count k [] = 0
edge_count k (e ∷ r) = length (edges k e) + edge_count (suc k) r

-- block k's entry in an array: "B u64 block starts; B marks of u16 instruction count, u8 edge count, u8 label wanted (0 or 1)", "E u64 targets; E u8
-- kinds", "I u64 addresses; I bodies of 92 bytes"; "all labels wanted", "An instruction's address is its block's start"
abbrev pub entry_of : Array → ℕ → Ending → List ℕ
entry_of Starts k e = little 8 (start k)
entry_of Marks k e = little 2 1 ++ little 1 (length (edges k e)) ++ little 1 1
entry_of Targets k e = targets_of (edges k e)
entry_of Kinds k e = kinds_of (edges k e)
entry_of Addresses k e = little 8 (start k)
entry_of Bodies k e = body_of e

-- "Bits are 64, convention 1, indent 1, all labels wanted, no atlas and no spans."
abbrev pub header_bytes : ℕ → ℕ → List ℕ
header_bytes blocks edges =
    little 2 64 ++ little 2 1 ++ little 2 blocks ++ little 2 blocks ++ little 2 edges ++ little 2 0 ++ little 2 0 ++ little 2 0
    ++ little 4 0 ++ little 1 0 ++ little 1 1 ++ little 2 0

unfoldable pub record_of : List Ending → List ℕ
record_of r =
    header_bytes (length r) (edge_count 0 r)
    ++ each (entry_of Starts) 0 r ++ each (entry_of Marks) 0 r ++ each (entry_of Targets) 0 r ++ each (entry_of Kinds) 0 r
    ++ each (entry_of Addresses) 0 r ++ each (entry_of Bodies) 0 r
