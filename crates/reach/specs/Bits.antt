-- Rows of bits as numbers, index 0 the most significant.
use Rattle.std.specs.Prelude.{ℕ, zero, suc, ◌+◌, ◌-◌, ◌*◌, ◌/◌, ◌%◌, ◌^◌, Bool, List, [], ◌∷◌, ◌++◌, eqb}
use Rattle.lemmas.specs.Counting.{bit}

-- the bit at an index of a row of 32, index 0 the most significant
unfoldable pub bit_at : ℕ → ℕ → Bool
bit_at row k = eqb (row / 2 ^ (31 - k) % 2) 1

-- the row of n bits in which index k is set where the test holds of k
unfoldable pub row_where : ℕ → (ℕ → Bool) → ℕ
row_where zero test = 0
row_where (suc n) test = 2 * row_where n test + bit (test n)

-- the list of f at each number below n
unfoldable pub table : ℕ → (ℕ → ℕ) → List ℕ
table zero f = []
table (suc n) f = table n f ++ (f n ∷ [])
