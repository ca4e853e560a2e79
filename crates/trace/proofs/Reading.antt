-- Laws of the reader's answer.
use Rattle.lemmas.proofs.Basics.{ℕ, zero, suc, ◌+◌, ◌*◌, ◌≤◌, arith, false, not, ◌&&◌, List, [], ◌∷◌, ◌++◌, ◌≡◌, refl, ltb, eqb, length, get_or, take, length-append, le-ltb, ltb-false}
use Rattle.std.specs.Prelude.{Ok, Err}
use Rattle.refusal.specs.Outcome.{Outcome}
use Rattle.refusal.specs.Chain.{first_of, unless_refused}
use Rattle.refusal.proofs.Chains.{accepted_pass, pass_accepted, unless_zero}
use Rattle.trace.specs.declared.Recorded.{Recorded}
use Rattle.trace.specs.Layout.{widths, sum, field_of, given_field, rights_field, spare_field, root_field}
use Rattle.trace.specs.Reading.{record_length, record_checks, shown, record_of, record_number}
use Rattle.trace.proofs.Bits.{bits_first}

-- The answer from the outcome of the checks, and what is shown.
pub record_judged : (s : List ℕ) {o : Outcome} {t : Recorded} → o ≡ first_of (record_checks s) → t ≡ shown s → record_of s ≡ unless_refused Err o (Ok t)
unfolding record_of
record_judged s judged is-shown = rw (judged, is-shown)

-- An accepted record: no check applies.
pub accepted-checks : (s : List ℕ) → record_number (record_of s) ≡ 0 → first_of (record_checks s) ≡ Ok tt
unfolding record_of record_number
accepted-checks s z = (unless_zero record_number Err (λ r. refl) (first_of (record_checks s)) _ z).0

-- what checks that are passed say of a record
pub record Passed (s : List ℕ) : Type 0 where
  pub whole : ltb (length s) record_length ≡ false
  pub spare : not (eqb (spare_field s) 0) ≡ false
  pub rights : eqb (rights_field s) 3 ≡ false
  pub root : eqb (given_field s) 0 && not (eqb (root_field s) 0) ≡ false

pub passed : (s : List ℕ) → first_of (record_checks s) ≡ Ok tt → Passed s
unfolding record_checks
passed s e = let p = accepted_pass (record_checks s) e in record { whole = p.0; spare = p.1.0; rights = p.1.1.0; root = p.1.1.1.0 }

pub passes : (s : List ℕ) → Passed s → first_of (record_checks s) ≡ Ok tt
unfolding record_checks
passes s p = pass_accepted (record_checks s) (p.whole, (p.spare, (p.rights, (p.root, tt))))

pub accepted-whole : (s : List ℕ) → first_of (record_checks s) ≡ Ok tt → record_length ≤ length s
accepted-whole s e = ltb-false (length s) record_length (passed s e).whole

-- The fields fill the record.
pub all_bits : sum widths ≡ 8 * record_length
all_bits = refl

-- What stands behind a record is not looked at: every field lies within the sum of the widths.
within : (ws : List ℕ) (k : ℕ) → sum (take k ws) + get_or ws k 0 ≤ sum ws
within [] zero = omega arith
within [] (suc k) = omega arith
within (w ∷ ws) zero = omega arith
within (w ∷ ws) (suc k) = omega (arith, within ws k)

pub record_first : (s t : List ℕ) → record_length ≤ length s → record_of (s ++ t) ≡ record_of s
unfolding record_of record_checks shown field_of
record_first s t whole =
    let field : (k : ℕ) → field_of (s ++ t) k ≡ field_of s k = λ k. bits_first s t (sum (take k widths)) (get_or widths k 0) (omega (arith, within widths k)) in
    let long : record_length ≤ length (s ++ t) = rw length-append (omega arith) in
    rw (le-ltb _ _ long, le-ltb _ _ whole, field 0, field 1, field 2, field 3, field 4, field 5, field 6, field 7, field 8)
