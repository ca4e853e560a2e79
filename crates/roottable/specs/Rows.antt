-- Document 01, "The GetKey decision": the root table. Rows are packed: identifier 16 bytes, then two times of 8 bytes each, most
-- significant byte first: use-start and create time.
use Rattle.std.specs.Prelude.{ℕ, ◌+◌, ◌*◌, ◌/◌, ◌%◌, Bool, true, not, ◌||◌, List, ltb, leb, eqb, length}
use Rattle.wire.specs.Parts.{be_at}
use Rattle.rootid.specs.Root.{root_at, same_root}
use Rattle.roottable.specs.declared.Row.{Row}
use Rattle.roottable.specs.declared.Wanted.{Wanted}
use Rattle.roottable.specs.declared.Wanted.TheVariants.{Root, Newest, InUse}

abbrev pub row_size : ℕ
row_size = 32

abbrev pub most_rows : ℕ
most_rows = 64

-- 20: root table length no multiple of 32, or over 64 rows
unfoldable pub table_wrong : ℕ → Bool
table_wrong len = not (eqb (len % row_size) 0) || ltb most_rows (len / row_size)

-- whole rows
abbrev pub row_count : List ℕ → ℕ
row_count table = length table / row_size

-- the row at a place, counted from 0; of what does not lie inside, zeros
unfoldable pub row_at : List ℕ → ℕ → Row
row_at table k =
    record {
      id = root_at table (row_size * k);
      starts = record { 0 = be_at 8 table (row_size * k + 16) };
      created = record { 0 = be_at 8 table (row_size * k + 24) };
    }

-- given: rows with that identifier; all -1: every row; named: rows with use-start at or before the granted identifier's start time
unfoldable pub suitable : Wanted → Row → Bool
suitable (Root id) row = same_root row.id id
suitable Newest row = true
suitable (InUse start) row = leb row.starts.0 start.0

-- given: all alike; all -1: by use-start; named: by create time
unfoldable pub rank : Wanted → Row → ℕ
rank (Root id) row = 0
rank Newest row = row.starts.0
rank (InUse start) row = row.created.0
