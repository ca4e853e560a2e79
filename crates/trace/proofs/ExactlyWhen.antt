-- A record is accepted exactly when it is well formed, as document 02 states it.
use Rattle.lemmas.proofs.Basics.{ℕ, ◌<◌, arith, false, not, ◌&&◌, List, ◌≡◌, refl, ap, eqb, length, le-ltb, ltb-false, eq-eqb, ne_eqb, eqb-true, eqb-false}
use Rattle.lemmas.proofs.Cases.{by_cases, not-false}
use Rattle.refusal.specs.Chain.{unless_refused}
use Rattle.trace.specs.Layout.{field_of, given_field, rights_field}
use Rattle.trace.specs.Reading.{record_length, record_of, record_number}
use Rattle.trace.specs.WellFormed.{WellFormed}
use Rattle.trace.proofs.Bits.{bits_below}
use Rattle.trace.proofs.Reading.{accepted-checks, passed, passes}

-- Accepted, so well formed: of two bits' four numbers 3 is refused.
two_bits : (s : List ℕ) → rights_field s < 4
unfolding field_of
two_bits s = bits_below s 65 2

pub accepted_well_formed : (s : List ℕ) → record_number (record_of s) ≡ 0 → WellFormed s
accepted_well_formed s z =
    let p = passed s (accepted-checks s z) in
    let not_three = eqb-false (rights_field s) 3 p.rights in
    record {
      whole = ltb-false (length s) record_length p.whole;
      spare = eqb-true _ _ (not-false _ p.spare);
      rights = omega (arith, two_bits s, not_three);
      root = λ none. eqb-true _ _ (not-false _ (rw (eq-eqb (given_field s) 0 none) at p.root));
    }

-- Well formed, so accepted.
not_stray : (given id : ℕ) → (given ≡ 0 → id ≡ 0) → eqb given 0 && not (eqb id 0) ≡ false
not_stray given id none =
    by_cases (λ t. t && not (eqb id 0) ≡ false) (eqb given 0) (λ q. ap not (eq-eqb id 0 (none (eqb-true given 0 q)))) (λ q. refl)

pub well_formed_accepted : (s : List ℕ) → WellFormed s → record_number (record_of s) ≡ 0
unfolding record_of record_number unless_refused
well_formed_accepted s w =
    rw (passes s (record {
      whole = le-ltb _ _ w.whole;
      spare = ap not (eq-eqb _ _ w.spare);
      rights = ne_eqb (rights_field s) 3 (λ three. omega (arith, w.rights));
      root = not_stray _ _ w.root;
    }))
