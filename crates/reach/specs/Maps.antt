-- Document 01, "Reach, and the two envelopes": the map is 32 rows of 32 bits, index 0 the most significant bit; its total is the
-- number of set bits.
use Rattle.std.specs.Prelude.{ℕ, ◌+◌, Bool, ◌&&◌, List, [], ◌∷◌, get_or, replicate}
use Rattle.gkid.specs.declared.Gkid.{Gkid}
use Rattle.gkid.specs.Identifier.{gkid}
use Rattle.keys.specs.declared.SeedKeys.{SeedKeys}
use Rattle.reach.specs.Reached.{of_group, reaches}
use Rattle.lemmas.specs.Counting.{count}
use Rattle.reach.specs.Bits.{bit_at, row_where, table}

-- row L1: the bit at index L2 is set where the keys present reach (L0, L1, L2)
unfoldable pub row_of : SeedKeys → Gkid → ℕ → ℕ
row_of keys at l1 = row_where 32 (λ l2. reaches keys at (gkid at.l0.0 l1 l2))

-- the 32 rows, from the keys present
unfoldable pub map_of : SeedKeys → Gkid → List ℕ
map_of keys at = table 32 (row_of keys at)

-- no bit is set
unfoldable pub empty_map : List ℕ
empty_map = replicate 32 0

-- an identifier is in the map asked at `at`: it is of that one's L0 group, and the bit in row L1 at index L2 is set
unfoldable pub in_map : Gkid → List ℕ → Gkid → Bool
in_map at rows i = of_group at i && bit_at (get_or rows i.l1.0 0) i.l2.0

-- the number of set bits
unfoldable pub total_of : List ℕ → ℕ
total_of [] = 0
total_of (row ∷ rows) = count 32 (bit_at row) + total_of rows
