-- Document 02, No. 5: a self-relative security descriptor (MS-DTYP 2.4.6), its lists (ACL, 2.4.5) and their entries (ACE header,
-- 2.4.4.1). Numbers are little-endian; an offset counts from the descriptor's first byte.
use Rattle.std.specs.Prelude.{ℕ, ◌/◌, ◌%◌, List}
use Rattle.wire.specs.Parts.{le_at}

-- the head, 20 bytes
abbrev pub revision : List ℕ → ℕ
revision s = le_at 1 s 0

abbrev pub control : List ℕ → ℕ
control s = le_at 2 s 2

abbrev pub owner_at : List ℕ → ℕ
owner_at s = le_at 4 s 4

abbrev pub group_at : List ℕ → ℕ
group_at s = le_at 4 s 8

abbrev pub sacl_at : List ℕ → ℕ
sacl_at s = le_at 4 s 12

abbrev pub dacl_at : List ℕ → ℕ
dacl_at s = le_at 4 s 16

-- the control bit 0x8000, self-relative
abbrev pub self_relative : List ℕ → ℕ
self_relative s = control s / 32768 % 2

-- what an ACL and an entry say of their own size
abbrev pub told_size : List ℕ → ℕ
told_size t = le_at 2 t 2

-- how many entries an ACL has
abbrev pub entry_count : List ℕ → ℕ
entry_count t = le_at 2 t 4
