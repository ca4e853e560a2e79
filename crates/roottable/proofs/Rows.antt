-- A row read from its own 32 bytes is the row of the table.
use Rattle.lemmas.proofs.Basics.{ℕ, ◌+◌, ◌-◌, ◌*◌, ◌≤◌, arith, add-zero, List, ◌++◌, ◌≡◌, sym, ap, ◌∙◌, length, take, drop, length-append, length-drop, drop-drop}
use lib.Seq.{take-append_seam, drop-append_seam}
use Rattle.wire.specs.Parts.{be_at, part_of}
use Rattle.wire.proofs.Parts.{slice_part, part_in, part_within}
use Rattle.rootid.specs.Root.{root_at}
use Rattle.roottable.specs.declared.Row.{Row}
use Rattle.roottable.specs.Rows.{row_size, row_at}

-- a row in its own 32 bytes
unfoldable pub row_in : List ℕ → Row
row_in bytes = record { id = root_at bytes 0; starts = record { 0 = be_at 8 bytes 16 }; created = record { 0 = be_at 8 bytes 24 } }

pub row_in_lem : (table : List ℕ) (k : ℕ) → row_size * k + row_size ≤ length table → row_in (take (row_size * k + row_size - row_size * k) (drop (row_size * k) table)) ≡ row_at table k
unfolding row_in row_at root_at be_at
row_in_lem table k inside =
    let id : part_of (part_of table (row_size * k) row_size) 0 16 ≡ part_of table (row_size * k) 16 =
    part_within table (row_size * k) row_size 0 16 inside (omega arith) ∙ rw add-zero
    in
    rw (slice_part table (row_size * k) row_size inside, id, part_within table (row_size * k) row_size 16 8 inside (omega arith), part_within table (row_size * k) row_size 24 8 inside (omega arith))

-- and the same where it is asked for as the first of a table of those bytes
pub row_part : (table : List ℕ) (k : ℕ) → row_size * k + row_size ≤ length table → row_at (part_of table (row_size * k) row_size) 0 ≡ row_at table k
unfolding row_in row_at
row_part table k inside = ap row_in (sym (slice_part table (row_size * k) row_size inside)) ∙ row_in_lem table k inside

-- where the bytes left begin with a row's: that row of the table, and what is left behind it
pub record NextRow (table bytes rest : List ℕ) (k : ℕ) : Type 0 where
  pub row : row_at bytes 0 ≡ row_at table k
  pub behind : rest ≡ drop (row_size * (k + 1)) table
  pub within : row_size * (k + 1) ≤ length table

pub next_row : (table bytes rest : List ℕ) (k : ℕ) → row_size * k ≤ length table → drop (row_size * k) table ≡ bytes ++ rest → length bytes ≡ row_size → NextRow table bytes rest k
next_row table bytes rest k h e n =
    let lengths : length table ≡ row_size * k + row_size + length rest = omega (arith, length-drop (row_size * k) table, ap length e, length-append bytes rest) in
    let inside : row_size * k + row_size ≤ length table = omega arith in
    let own : bytes ≡ part_of table (row_size * k) row_size =
    sym (take-append_seam bytes rest) ∙ rw (n, ← e) (sym (part_in table (row_size * k) row_size inside))
    in
    let left : rest ≡ drop (row_size * (k + 1)) table =
    sym (drop-append_seam bytes rest) ∙ rw (n, ← e) (drop-drop row_size (row_size * k) table ∙ ap (λ i. drop i table) (omega arith))
    in
    record { row = ap (λ s. row_at s 0) own ∙ row_part table k inside; behind = left; within = omega arith }
