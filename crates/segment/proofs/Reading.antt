-- Laws of the reader's answer.
use Rattle.lemmas.proofs.Basics.{ℕ, ◌+◌, ◌≤◌, arith, false, List, ◌≡◌, refl, ltb, length, le-ltb, ltb-false, eq-eqb, eqb-true}
use Rattle.std.specs.Prelude.{Ok, Err}
use Rattle.lemmas.proofs.Cases.{or-false, not-false}
use Rattle.refusal.specs.Outcome.{Outcome}
use Rattle.refusal.specs.Chain.{first_of, unless_refused}
use Rattle.refusal.proofs.Chains.{accepted_pass, pass_accepted, unless_zero}
use Rattle.segment.specs.declared.Segment.{Segment}
use Rattle.segment.specs.Layout.{length_field, zero_bytes, unit_shift, chunk_shift, cluster_shift, one_byte, block_count, length_for, lengths_disagree, marks_wrong, shifts_wrong}
use Rattle.segment.specs.Reading.{segment_checks, shown, segment_of, segment_number, segment_values, segment_span}

-- The answer from the outcome of the checks, and what is shown.
pub segment_judged : (s : List ℕ) {o : Outcome} {t : Segment} → o ≡ first_of (segment_checks s) → t ≡ shown s → segment_of s ≡ unless_refused Err o (Ok t)
unfolding segment_of
segment_judged s judged is-shown = rw (judged, is-shown)

-- What an accepted answer tells: no check applies, and it is what is shown.
pub accepted-shown : (s : List ℕ) (t : Segment) → segment_of s ≡ Ok t → (first_of (segment_checks s) ≡ Ok tt) × (t ≡ shown s)
unfolding segment_of unless_refused
accepted-shown s t = told (first_of (segment_checks s))
  where
    told : (o : Outcome) → unless_refused Err o (Ok (shown s)) ≡ Ok t → (o ≡ Ok tt) × (t ≡ shown s)
    told (Ok tt) h = (refl, cc)
    told (Err r) h = let z : ◌≡◌ {A = ℕ} 0 1 = cc in absurd (omega arith)

-- An accepted header: no check applies.
pub accepted-checks : (s : List ℕ) → segment_number (segment_of s) ≡ 0 → first_of (segment_checks s) ≡ Ok tt
unfolding segment_of segment_number
accepted-checks s z = (unless_zero segment_number Err (λ r. refl) (first_of (segment_checks s)) _ z).0

-- what checks that are passed say of a header
pub record Passed (s : List ℕ) : Type 0 where
  pub limit : ltb 65535 (length s) ≡ false
  pub head : ltb (length s) 28 ≡ false
  pub lengths : lengths_disagree (length s) (length_field s) (block_count s) ≡ false
  pub marks : marks_wrong (zero_bytes s) (one_byte s) ≡ false
  pub shifts : shifts_wrong (unit_shift s) (chunk_shift s) (cluster_shift s) ≡ false

pub passed : (s : List ℕ) → first_of (segment_checks s) ≡ Ok tt → Passed s
unfolding segment_checks
passed s e =
    let p = accepted_pass (segment_checks s) e in
    record { limit = p.0; head = p.1.0; lengths = p.1.1.0; marks = p.1.1.1.0; shifts = p.1.1.1.1.0 }

pub passes : (s : List ℕ) → Passed s → first_of (segment_checks s) ≡ Ok tt
unfolding segment_checks
passes s p = pass_accepted (segment_checks s) (p.limit, (p.head, (p.lengths, (p.marks, (p.shifts, tt)))))

-- Length is the record's, and the sizes lie inside.
pub lengths_are : (L len blocks : ℕ) → lengths_disagree L len blocks ≡ false → (len ≡ L) × (length_for blocks ≤ L)
lengths_are L len blocks e =
    let both = or-false _ _ e in
    let is = eqb-true len L (not-false _ both.0) in
    (is, omega (arith, ltb-false len (length_for blocks) both.1))

-- The shifts agree, and none is over 31.
pub shifts_are : (unit chunk cluster : ℕ) → shifts_wrong unit chunk cluster ≡ false → (chunk ≡ unit) × (unit ≤ 31) × (cluster ≤ 31)
unfolding shifts_wrong
shifts_are unit chunk cluster e =
    let three = or-false _ _ e in
    let two = or-false _ _ three.0 in
    let one = or-false _ _ two.0 in
    (eqb-true chunk unit (not-false _ one.0), ltb-false 31 unit one.1, ltb-false 31 cluster three.1)

pub shifts_right : (unit chunk cluster : ℕ) → chunk ≡ unit → unit ≤ 31 → cluster ≤ 31 → shifts_wrong unit chunk cluster ≡ false
unfolding shifts_wrong
shifts_right unit chunk cluster same unit-fits cluster-fits = rw (same, eq-eqb unit unit refl, le-ltb 31 unit unit-fits, le-ltb 31 cluster cluster-fits)

-- What an accepted header says of what is shown: the data unit is a number of 32 bits, and the sizes lie inside.
pub accepted_fits : (s : List ℕ) → first_of (segment_checks s) ≡ Ok tt → (unit_shift s ≤ 31) × (length_for (block_count s) ≤ length s)
accepted_fits s e = let p = passed s e in ((shifts_are _ _ _ p.shifts).1, (lengths_are _ _ _ p.lengths).1)

-- The sizes lie inside the header.
pub part_inside : (s : List ℕ) → (segment_span s).at + (segment_span s).len ≤ length s
unfolding segment_of unless_refused segment_values shown
part_inside s = told (first_of (segment_checks s)) refl
  where
    told : (o : Outcome) → first_of (segment_checks s) ≡ o → (segment_span s).at + (segment_span s).len ≤ length s
    told (Ok tt) e = rw e (accepted_fits s e).1
    told (Err r) e = rw e (omega arith)
