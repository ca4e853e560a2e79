-- Numbers in bytes, over the width.
use Rattle.std.specs.Prelude.{ℕ, zero, suc, ◌+◌, ◌*◌, ◌/◌, ◌%◌, List, [], ◌∷◌, reverse}

-- what bytes say, the least significant first
unfoldable pub le_of : List ℕ → ℕ
le_of [] = 0
le_of (b ∷ bs) = b + 256 * le_of bs

-- a number in w bytes, the least significant first
unfoldable pub le_bytes : ℕ → ℕ → List ℕ
le_bytes zero x = []
le_bytes (suc w) x = x % 256 ∷ le_bytes w (x / 256)

-- the same, the most significant first
unfoldable pub be_of : List ℕ → ℕ
be_of bs = le_of (reverse bs)

unfoldable pub be_bytes : ℕ → ℕ → List ℕ
be_bytes w x = reverse (le_bytes w x)
