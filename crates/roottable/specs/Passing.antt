-- What the code's one pass over the rows keeps. Only the contracts of private functions cite this, and nobody has to believe it: the law
-- `best_row` (proofs/Choice) says that it comes to `chosen_row`.
use Rattle.std.specs.Prelude.{ℕ, Bool, cond, ltb, Option, None, Some}
use Rattle.roottable.specs.declared.Best.{Best}

-- a row is better than those before it where its rank is higher
unfoldable pub better : Option Best → ℕ → ℕ → Option Best
better None k height = Some (record { row = k; rank = height })
better (Some b) k height = Some (cond (ltb b.rank height) (record { row = k; rank = height }) b)

-- a row that does not suit changes nothing
unfoldable pub step_of : Option Best → Bool → ℕ → ℕ → Option Best
step_of b suits k height = cond suits (better b k height) b
