-- Document 02, No. 1 (MS-EFSR 2.2.3.3): the numbers of a data segment's header, the rules that are made of them, and the sizes of its
-- blocks. Sums are whole numbers.
use Rattle.std.specs.Prelude.{ℕ, ◌+◌, ◌*◌, Bool, not, ◌||◌, List, ltb, eqb}
use Rattle.lemmas.specs.Counting.{count}
use Rattle.wire.specs.Parts.{le_at}
use Rattle.segment.specs.declared.Head.{Head}
use Rattle.segment.specs.declared.Shifts.{Shifts}

-- start offset 8 bytes, length 4, bytes in stream 4, bytes in VDL 4
abbrev pub start_offset : List ℕ → ℕ
start_offset s = le_at 8 s 0

abbrev pub length_field : List ℕ → ℕ
length_field s = le_at 4 s 8

abbrev pub bytes_in_stream : List ℕ → ℕ
bytes_in_stream s = le_at 4 s 12

abbrev pub bytes_in_vdl : List ℕ → ℕ
bytes_in_vdl s = le_at 4 s 16

-- two zero bytes, data unit shift, chunk shift, cluster shift, a byte 01
abbrev pub zero_bytes : List ℕ → ℕ
zero_bytes s = le_at 2 s 20

abbrev pub unit_shift : List ℕ → ℕ
unit_shift s = le_at 1 s 22

abbrev pub chunk_shift : List ℕ → ℕ
chunk_shift s = le_at 1 s 23

abbrev pub cluster_shift : List ℕ → ℕ
cluster_shift s = le_at 1 s 24

abbrev pub one_byte : List ℕ → ℕ
one_byte s = le_at 1 s 25

-- block count 2, then one 4-byte size per block from byte 28
abbrev pub block_count : List ℕ → ℕ
block_count s = le_at 2 s 26

unfoldable pub size_at : List ℕ → ℕ → ℕ
size_at s k = le_at 4 s (28 + 4 * k)

abbrev pub shifts_of : List ℕ → Shifts
shifts_of s = record { unit = unit_shift s; chunk = chunk_shift s; cluster = cluster_shift s }

-- the numbers that a writer is given, and a reader shows
unfoldable pub head_of : List ℕ → Head
head_of s =
    record {
      start_offset = start_offset s;
      bytes_in_stream = bytes_in_stream s;
      bytes_in_vdl = bytes_in_vdl s;
      shifts = shifts_of s;
    }

-- a record of so many blocks, with nothing behind their sizes
abbrev pub length_for : ℕ → ℕ
length_for blocks = 28 + 4 * blocks

-- 3: unless Length is the record's length and at least 28 plus four per block
abbrev pub lengths_disagree : ℕ → ℕ → ℕ → Bool
lengths_disagree L len blocks = not (eqb len L) || ltb len (length_for blocks)

-- 4: the fixed bytes
abbrev pub marks_wrong : ℕ → ℕ → Bool
marks_wrong zeros one = not (eqb zeros 0) || not (eqb one 1)

-- 25: chunk and unit shift differ, or any shift is over 31
unfoldable pub shifts_wrong : ℕ → ℕ → ℕ → Bool
shifts_wrong unit chunk cluster = not (eqb chunk unit) || ltb 31 unit || ltb 31 chunk || ltb 31 cluster

-- how many of n blocks are larger than a unit: strictly, by the size of each
abbrev pub larger_than : ℕ → ℕ → (ℕ → ℕ) → ℕ
larger_than unit n size = count n (λ k. ltb unit (size k))
