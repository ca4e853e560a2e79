-- Document 01, "EfsKey": bytes are one SID if they have revision 1, count c at most 15 and size 8+4c (MS-DTYP 2.4.2). The
-- identifier authority, bytes 2 to 8, and the sub-authorities behind it may be anything.
use Rattle.std.specs.Prelude.{ℕ, ◌+◌, ◌*◌, Bool, ◌&&◌, List, leb, eqb, length, get_or}

abbrev pub revision : List ℕ → ℕ
revision s = get_or s 0 0

abbrev pub count : List ℕ → ℕ
count s = get_or s 1 0

abbrev pub sid_size : List ℕ → ℕ
sid_size s = 8 + 4 * count s

-- a SID stands at the start of bytes, and others may follow it
unfoldable pub starts_sid : List ℕ → Bool
starts_sid s = leb 8 (length s) && (eqb (revision s) 1 && (leb (count s) 15 && leb (sid_size s) (length s)))

-- bytes are one SID: none follows
unfoldable pub is_sid : List ℕ → Bool
is_sid s = starts_sid s && eqb (length s) (sid_size s)
