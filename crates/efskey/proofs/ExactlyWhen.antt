-- An EfsKey is accepted exactly when it is well formed, as MS-GPEF 2.2.1.2.2 states it, narrowed by document 01.
use Rattle.lemmas.proofs.Basics.{ℕ, arith, Bool, true, false, cond, not, ◌&&◌, List, ◌⊎◌, inl, inr, ⊎_elim, ◌≡◌, refl, sym, ◌∙◌, eqb, length, le-ltb, ltb-false, eq-eqb, ne_eqb, eqb-true, eqb-false}
use Rattle.std.specs.Prelude.{Ok}
use Rattle.lemmas.proofs.Cases.{by_cases, not-false}
use Rattle.refusal.specs.Chain.{first_of, unless_refused}
use Rattle.wire.specs.Numbers.{le_of}
use Rattle.wire.specs.Parts.{le_at}
use Rattle.wire.proofs.Parts.{length_part}
use Rattle.wire.proofs.Numbers.{le_small}
use Rattle.sid.proofs.ExactlyWhen.{sid_well_formed, well_formed_sid}
use Rattle.efskey.specs.declared.SidHint.{SidHint}
use Rattle.efskey.specs.declared.SidHint.TheVariants.{None, Sid, NoHint}
use Rattle.efskey.specs.Layout.{sid_offset, certificate_length, certificate_offset, sid_misplaced, gap_without_sid, sid_area, is_no_hint, area_span, hint_of, sid_malformed, hint_in}
use Rattle.efskey.specs.Reading.{efs_key_checks, shown_with, efs_key_of, efs_key_number}
use Rattle.efskey.specs.WellFormed.{WellFormed, SidField, absent, no_hint, present}
use Rattle.efskey.proofs.Hints.{hint_zeros, zeros_hint, sid_hint}
use Rattle.efskey.proofs.Reading.{accepted-checks, Passed, passed, passes, lengths_are, placed}

-- The SID's three checks pass exactly where its field is one that the standard allows.
either : (a b : Bool) → (not a && not b) ≡ false → (a ≡ true) ⊎ (b ≡ true)
either true b e = inl refl
either false b e = inr (not-false b e)

area_field : (s : List ℕ) → sid_offset s ≡ 28 → sid_malformed (hint_of 28 (sid_area s)) (sid_area s) ≡ false → SidField s
unfolding hint_of sid_malformed
area_field s some =
    by_cases (λ t. sid_malformed (cond t (NoHint (area_span (sid_area s))) (Sid (area_span (sid_area s)))) (sid_area s) ≡ false → SidField s) (is_no_hint (sid_area s))
    (λ q _. let zeros = hint_zeros (sid_area s) q in no_hint some zeros.0 zeros.1)
    (λ _ e. present some (sid_well_formed (sid_area s) (not-false _ e)))

sid_field : (s : List ℕ) → Passed s → SidField s
sid_field s p =
    ⊎_elim (λ none. absent (eqb-true _ _ none) (eqb-true _ _ (not-false _ (rw none at p.gap))))
    (λ some. let is = eqb-true (sid_offset s) 28 some in area_field s is (rw is at p.sid))
    (either (eqb (sid_offset s) 0) (eqb (sid_offset s) 28) p.offset)

-- what each of the three fields is shown as
abbrev pub field_hint : (s : List ℕ) → SidField s → SidHint
field_hint s (absent none straight) = None
field_hint s (no_hint some one zeros) = NoHint (area_span (sid_area s))
field_hint s (present some sound) = Sid (area_span (sid_area s))

field_shown : (s : List ℕ) (field : SidField s) → hint_in s ≡ field_hint s field
unfolding hint_of
field_shown s (absent none straight) = rw none
field_shown s (no_hint some one zeros) = rw (some, zeros_hint (sid_area s) one zeros)
field_shown s (present some sound) = rw (some, sid_hint (sid_area s) sound)

field_sid : (s : List ℕ) → SidField s → (sid_misplaced (sid_offset s) ≡ false) × (gap_without_sid (sid_offset s) (certificate_offset s) ≡ false) × (sid_malformed (hint_in s) (sid_area s) ≡ false)
unfolding sid_malformed
field_sid s (absent none straight) = rw (field_shown s (absent none straight), none, straight) (refl, refl, refl)
field_sid s (no_hint some one zeros) = rw (field_shown s (no_hint some one zeros), some) (refl, refl, refl)
field_sid s (present some sound) = rw (field_shown s (present some sound), some, well_formed_sid _ sound) (refl, refl, refl)

-- Accepted, so well formed.
pub checks_well_formed : (s : List ℕ) → first_of (efs_key_checks s) ≡ Ok tt → WellFormed s
unfolding le_at
checks_well_formed s e =
    let p = passed s e in
    let head = ltb-false (length s) 32 p.head in
    let lengths = lengths_are s p in
    let certificate = placed s p in
    record {
      limit = ltb-false _ _ p.limit;
      head = head;
      length1_is = lengths.0;
      length2_is = lengths.1;
      marked = le_small 3 2 _ (omega arith) (length_part s 12 4 (omega arith)) (eqb-true _ _ (not-false _ p.marked));
      certificate = omega (arith, eqb-false (certificate_length s) 0 p.certificate);
      behind = omega (arith, certificate.0);
      end = certificate.1;
      sid = sid_field s p;
    }

pub accepted_well_formed : (s : List ℕ) → efs_key_number (efs_key_of s) ≡ 0 → WellFormed s
accepted_well_formed s z = checks_well_formed s (accepted-checks s z)

-- Well formed, so accepted.
pub well_formed_accepted : (s : List ℕ) → WellFormed s → efs_key_number (efs_key_of s) ≡ 0
unfolding efs_key_of efs_key_number unless_refused le_at le_of
well_formed_accepted s w =
    let sid = field_sid s w.sid in
    rw (passes s (record {
      limit = le-ltb _ _ w.limit;
      head = le-ltb _ _ w.head;
      lengths = rw (eq-eqb _ _ w.length1_is, eq-eqb _ _ (w.length2_is ∙ sym w.length1_is));
      marked = rw w.marked;
      certificate = ne_eqb (certificate_length s) 0 (λ z. omega arith);
      place = rw (le-ltb (certificate_offset s) 28 (omega arith), eq-eqb _ _ (w.end ∙ sym w.length1_is));
      offset = sid.0;
      gap = sid.1;
      sid = sid.2;
    }))

-- An accepted record shows what its field is, so that it is one of the three alone.
pub accepted_shows : (s : List ℕ) → efs_key_number (efs_key_of s) ≡ 0 → (field : SidField s) → efs_key_of s ≡ Ok (shown_with s (field_hint s field))
unfolding efs_key_of unless_refused
accepted_shows s z field = rw (accepted-checks s z, field_shown s field)
