-- How many of the first numbers are so, and whether every one is.
use Rattle.std.specs.Prelude.{ℕ, zero, suc, ◌+◌, Bool, true, cond, ◌&&◌}

-- 1 where it is so
unfoldable pub bit : Bool → ℕ
bit b = cond b 1 0

-- of how many numbers below n the test holds
unfoldable pub count : ℕ → (ℕ → Bool) → ℕ
count zero test = 0
count (suc n) test = count n test + bit (test n)

-- the test holds of every number below n
unfoldable pub every : ℕ → (ℕ → Bool) → Bool
every zero test = true
every (suc n) test = every n test && test n
