-- What the judge's pass and a step both ask at a place. Only the contract of a private function cites this, and nobody has to believe it: the
-- laws `turn_on`, `turn_refused` and `step_entered` (proofs/Stepping) tie it to `list_of` and to `step_of`.
use Rattle.std.specs.Prelude.{ℕ, List, Result, Ok, Err}
use Rattle.refusal.specs.declared.Refusal.{Refusal}
use Rattle.refusal.specs.Chain.{first_of, unless_refused}
use Rattle.keyentry.specs.declared.Entry.{Entry}
use Rattle.keyentry.specs.Reading.{shown}
use Rattle.keylist.specs.Reading.{length_at, record_at, place_checks}

-- the entry at a place and its length, by the list rule and its own checks
unfoldable pub entry_at : List ℕ → ℕ → Result (Entry × ℕ) Refusal
entry_at s at = unless_refused Err (first_of (place_checks s at)) (Ok (shown (record_at s at), length_at s at))
