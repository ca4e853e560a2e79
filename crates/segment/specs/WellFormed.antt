-- MS-EFSR 2.2.3.3, narrowed by document 02: when a header is well formed, without an order of checks.
use Rattle.std.specs.Prelude.{ℕ, ◌+◌, ◌*◌, ◌^◌, ◌≤◌, ◌<◌, List, [], ◌∷◌, ◌≡◌, length}
use Rattle.wire.specs.Parts.{part_of}
use Rattle.segment.specs.Layout.{length_field, unit_shift, chunk_shift, cluster_shift, block_count}

pub record WellFormed (s : List ℕ) : Type 0 where
  -- document 01: at most 65,535 bytes, and the head is there
  pub limit : length s ≤ 65535
  pub head : 28 ≤ length s
  -- Length: the length of this header, from the beginning of the Starting File Offset field to its end
  pub length_is : length_field s ≡ length s
  -- 0x0000 and 0x01
  pub zeros : part_of s 20 2 ≡ 0 ∷ 0 ∷ []
  pub one : part_of s 25 1 ≡ 1 ∷ []
  -- the chunk size MUST be equal to the data unit size; a shift is the base-2 logarithm of a size
  pub chunk_is : 2 ^ chunk_shift s ≡ 2 ^ unit_shift s
  -- document 02: no shift is over 31, the chunk's being the data unit's
  pub unit : unit_shift s ≤ 31
  pub cluster : cluster_shift s ≤ 31
  -- the Number of Data Blocks MUST be equal to the number of entries of the Data Block Sizes: each block has its size, of four bytes, in the header
  pub sizes : (k : ℕ) → k < block_count s → 28 + 4 * k + 4 ≤ length s
