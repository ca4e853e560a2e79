-- A header is accepted exactly when it is well formed, as MS-EFSR 2.2.3.3 states it, narrowed by document 02.
use Rattle.lemmas.proofs.Basics.{ℕ, zero, suc, ◌+◌, ◌*◌, ◌^◌, ◌≤◌, ◌<◌, arith, pow-suc, pow-le-pow_right, not, List, ◌≡◌, ap, ltb, length, le-ltb, ltb-true, ltb-false, eq-eqb, eqb-true}
use Rattle.lemmas.proofs.Cases.{by_cases, or-false, false-or, not-false}
use Rattle.refusal.specs.Chain.{unless_refused}
use Rattle.wire.specs.Numbers.{le_of}
use Rattle.wire.specs.Parts.{le_at}
use Rattle.wire.proofs.Parts.{length_part}
use Rattle.wire.proofs.Numbers.{le_small}
use Rattle.segment.specs.Layout.{length_field, block_count, length_for}
use Rattle.segment.specs.Reading.{segment_of, segment_number}
use Rattle.segment.specs.WellFormed.{WellFormed}
use Rattle.segment.proofs.Reading.{accepted-checks, passed, passes, lengths_are, shifts_are, shifts_right}

-- Sizes that agree have shifts that agree.
power_less : (a b : ℕ) → a < b → 2 ^ a < 2 ^ b
power_less a b h =
    let low : 0 ≤ a = omega arith in
    let some : 2 ^ 0 ≤ 2 ^ a = pow-le-pow_right (omega arith) low in
    let more : 2 ^ suc a ≤ 2 ^ b = pow-le-pow_right (omega arith) h in
    omega (arith, pow-suc 2 a)

same_shift : (a b : ℕ) → 2 ^ a ≡ 2 ^ b → a ≡ b
same_shift a b e =
    by_cases (λ _. a ≡ b) (ltb a b)
    (λ q. absurd (omega (arith, power_less a b (ltb-true a b q))))
    (λ q. by_cases (λ _. a ≡ b) (ltb b a) (λ r. absurd (omega (arith, power_less b a (ltb-true b a r)))) (λ r. omega (arith, ltb-false a b q, ltb-false b a r)))

-- Accepted, so well formed.
pub accepted_well_formed : (s : List ℕ) → segment_number (segment_of s) ≡ 0 → WellFormed s
unfolding le_at
accepted_well_formed s z =
    let p = passed s (accepted-checks s z) in
    let head = ltb-false (length s) 28 p.head in
    let lengths = lengths_are _ _ _ p.lengths in
    let marks = or-false _ _ p.marks in
    let shifts = shifts_are _ _ _ p.shifts in
    record {
      limit = ltb-false _ _ p.limit;
      head = head;
      length_is = lengths.0;
      zeros = le_small 1 0 _ (omega arith) (length_part s 20 2 (omega arith)) (eqb-true _ _ (not-false _ marks.0));
      one = le_small 0 1 _ (omega arith) (length_part s 25 1 (omega arith)) (eqb-true _ _ (not-false _ marks.1));
      chunk_is = ap (λ n. 2 ^ n) shifts.0;
      unit = shifts.1;
      cluster = shifts.2;
      sizes = λ k h. omega (arith, lengths.1);
    }

-- that each block has its size inside is that all have
all_inside : (blocks L : ℕ) → 28 ≤ L → ((k : ℕ) → k < blocks → 28 + 4 * k + 4 ≤ L) → length_for blocks ≤ L
all_inside zero L h each = omega arith
all_inside (suc n) L h each = omega (arith, each n (omega arith))

-- Well formed, so accepted.
pub well_formed_accepted : (s : List ℕ) → WellFormed s → segment_number (segment_of s) ≡ 0
unfolding segment_of segment_number unless_refused le_at le_of
well_formed_accepted s w =
    let fits = all_inside (block_count s) (length s) w.head w.sizes in
    rw (passes s (record {
      limit = le-ltb _ _ w.limit;
      head = le-ltb _ _ w.head;
      lengths = false-or (ap not (eq-eqb _ _ w.length_is)) (le-ltb (length_field s) (length_for (block_count s)) (omega (arith, w.length_is)));
      marks = rw (w.zeros, w.one);
      shifts = shifts_right _ _ _ (same_shift _ _ w.chunk_is) w.unit w.cluster;
    }))
