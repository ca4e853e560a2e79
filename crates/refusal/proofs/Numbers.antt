-- Laws of the refusal numbers: no two refusals share one, none is 0, and an outcome's number is 0 exactly where it is accepted.
use Rattle.lemmas.proofs.Basics.{ℕ, arith, cond, List, [], ◌∷◌, ◌≡◌, refl, sym, ap, ◌∙◌, eqb}
use Rattle.std.specs.Prelude.{Ok, Err}
use Rattle.refusal.specs.declared.Refusal.{Refusal}
use Rattle.refusal.specs.declared.Refusal.TheVariants.{TooLong, Short, LengthsDisagree, WrongMark, IndexAbove31, Misplaced, EmptyItem, Overlap, UnusedRun, MalformedText, KeyLength, MalformedSid, NoRoom, IndexOutOfRange, MixedIndices, VerdictNo, LaterThanNow, RightsTooLow, NoRootKey, TableLength, StartPastTime, BytesLeft, NeitherServes, UnpairedSurrogate, WrongShifts, MalformedRecord}
use Rattle.refusal.specs.Outcome.{Outcome}
use Rattle.refusal.specs.Number.{number_of, outcome_number}

-- document 01's table
rows : List Refusal
rows = TooLong ∷ Short ∷ LengthsDisagree ∷ WrongMark ∷ IndexAbove31 ∷ Misplaced ∷ EmptyItem ∷ Overlap ∷ UnusedRun ∷ MalformedText ∷ KeyLength ∷ MalformedSid ∷ NoRoom ∷ IndexOutOfRange ∷ MixedIndices ∷ VerdictNo ∷ LaterThanNow ∷ RightsTooLow ∷ NoRootKey ∷ TableLength ∷ StartPastTime ∷ BytesLeft ∷ NeitherServes ∷ UnpairedSurrogate ∷ WrongShifts ∷ MalformedRecord ∷ []

-- the refusal that has a number; row 1 stands in where none has it, so that numbers may leave gaps
searched : List Refusal → ℕ → Refusal
searched [] n = TooLong
searched (r ∷ rs) n = cond (eqb (number_of r) n) r (searched rs n)

refusal_at : ℕ → Refusal
refusal_at = searched rows

-- Each refusal is found at its number.
found : (r : Refusal) → refusal_at (number_of r) ≡ r
unfolding refusal_at searched rows number_of
found TooLong = refl
found Short = refl
found LengthsDisagree = refl
found WrongMark = refl
found IndexAbove31 = refl
found Misplaced = refl
found EmptyItem = refl
found Overlap = refl
found UnusedRun = refl
found MalformedText = refl
found KeyLength = refl
found MalformedSid = refl
found NoRoom = refl
found IndexOutOfRange = refl
found MixedIndices = refl
found VerdictNo = refl
found LaterThanNow = refl
found RightsTooLow = refl
found NoRootKey = refl
found TableLength = refl
found StartPastTime = refl
found BytesLeft = refl
found NeitherServes = refl
found UnpairedSurrogate = refl
found WrongShifts = refl
found MalformedRecord = refl

-- No two refusals share a number.
pub number_injective : (q r : Refusal) → number_of q ≡ number_of r → q ≡ r
number_injective q r e = sym (found q) ∙ ap refusal_at e ∙ found r

-- No refusal's number is 0: none is found at 0 but what stands in.
pub number_not-zero : (r : Refusal) → number_of r ≡ 0 → ⊥
unfolding refusal_at searched rows number_of
number_not-zero r e = let one : 1 ≡ number_of r = ap (λ n. number_of (refusal_at n)) (sym e) ∙ ap number_of (found r) in omega arith

-- Accepted is 0, and nothing else is.
pub accepted-zero : outcome_number (Ok tt) ≡ 0
unfolding outcome_number
accepted-zero = refl

pub zero-accepted : (o : Outcome) → outcome_number o ≡ 0 → o ≡ Ok tt
unfolding outcome_number
zero-accepted (Ok tt) e = refl
zero-accepted (Err r) e = absurd (number_not-zero r e)
