-- Document 01, "Group Key Envelope", and document 02, No. 6: the checks of a text.
use Rattle.std.specs.Prelude.{ℕ, zero, suc, ◌/◌, Bool, true, false, cond, not, ◌&&◌, List, [], ◌∷◌, eqb, length}
use Rattle.lemmas.specs.Counting.{every}
use Rattle.refusal.specs.declared.Refusal.TheVariants.{MalformedText, UnpairedSurrogate}
use Rattle.refusal.specs.Chain.{Check, ◌⇒◌}
use Rattle.text.specs.Units.{unit, is_high, is_low}

unfoldable pub zero_unit : ℕ → ℕ → Bool
zero_unit low high = eqb low 0 && eqb high 0

unfoldable pub is_empty : List ℕ → Bool
is_empty [] = true
is_empty (b ∷ bs) = false

-- even length, at least 2, last 16-bit unit zero, no earlier one zero; unit by unit: a zero unit has to be the last, and there has to be one; half a unit is none
unfoldable pub is_text : List ℕ → Bool
is_text [] = false
is_text (low ∷ []) = false
is_text (low ∷ high ∷ rest) = cond (zero_unit low high) (is_empty rest) (is_text rest)

-- the unit before the k-th is a high surrogate; before the first there is none
unfoldable pub behind_high : List ℕ → ℕ → Bool
behind_high s zero = false
behind_high s (suc k) = is_high (unit s k)

-- a high surrogate is followed by a low one, a low one stands behind a high one, and any other unit is no surrogate
unfoldable pub is_paired : List ℕ → ℕ → Bool
is_paired s k = cond (is_high (unit s k)) (is_low (unit s (suc k))) (cond (is_low (unit s k)) (behind_high s k) true)

-- no unit is an unpaired surrogate
unfoldable pub are_paired : List ℕ → Bool
are_paired s = every (length s / 2) (is_paired s)

-- 10: text malformed; 24, after 10 has been ruled out: an unpaired surrogate
unfoldable pub text_checks : List ℕ → List Check
text_checks s = (not (is_text s) ⇒ MalformedText) ∷ (not (are_paired s) ⇒ UnpairedSurrogate) ∷ []
