-- Document 01, "Refusal numbers": checks run in the order given per record; the first that applies is the answer.
use Rattle.std.specs.Prelude.{Bool, cond, List, [], ◌∷◌, Ok, Err}
use Rattle.refusal.specs.declared.Refusal.{Refusal}
use Rattle.refusal.specs.Outcome.{Outcome}

infixl 20 ◌⇒◌
-- a check: where its test is true, it gives its refusal
pub data Check : Type 0 where
  ◌⇒◌ : Bool → Refusal → Check

-- the first check that applies is the answer; where none does, accepted
unfoldable pub first_of : List Check → Outcome
first_of [] = Ok tt
first_of ((applies ⇒ r) ∷ checks) = cond applies (Err r) (first_of checks)

-- what comes of an outcome: the refusal, as it is told there, or what stands behind the checks
unfoldable pub unless_refused : {A : Type 0} → (Refusal → A) → Outcome → A → A
unless_refused told (Ok tt) rest = rest
unless_refused told (Err r) rest = told r

-- checks that go on behind those that came to an outcome
abbrev pub goes_on : Outcome → Outcome → Outcome
goes_on o rest = unless_refused Err o rest

-- one more check behind them
unfoldable pub refuse_if : Outcome → Bool → Refusal → Outcome
refuse_if o applies r = goes_on o (cond applies (Err r) (Ok tt))
