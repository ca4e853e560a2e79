-- An envelope is accepted exactly when it is well formed, as MS-GKDI 2.2.4 states it, narrowed by documents 01 and 02, and by the house rule for its keys.
use Rattle.lemmas.proofs.Basics.{ℕ, arith, not, List, ◌≡◌, sym, ap, ◌∙◌, length, le-ltb, ltb-false, eq-eqb, eqb-true}
use Rattle.lemmas.proofs.Cases.{not-false}
use Rattle.refusal.specs.Chain.{unless_refused}
use Rattle.wire.specs.Numbers.{le_of, le_bytes}
use Rattle.wire.specs.Parts.{le_at}
use Rattle.wire.proofs.Numbers.{Bytes, bytes_part, le_part_back}
use Rattle.gkid.specs.Identifier.{InGroup}
use Rattle.gkid.proofs.Order.{in_group, not_above}
use Rattle.text.specs.Units.{units_of}
use Rattle.text.specs.Conversion.{Converts}
use Rattle.text.proofs.ExactlyWhen.{text_well_formed, well_formed_text}
use Rattle.text.proofs.Conversion.{text_converts}
use Rattle.keys.specs.WellFormed as keys
use Rattle.keys.proofs.ExactlyWhen.{keys_well_formed, well_formed_keys}
use Rattle.envelope.specs.declared.EnvelopePart.{EnvelopePart}
use Rattle.envelope.specs.declared.EnvelopePart.TheVariants.{Kdf, Agreement, Domain, Forest}
use Rattle.envelope.specs.Layout.{head_of, is_public, lengths_of}
use Rattle.envelope.specs.Reading.{body_at, envelope_of, envelope_number}
use Rattle.envelope.specs.WellFormed.{WellFormed}
use Rattle.envelope.proofs.Reading.{accepted-checks, passed, passes}

-- Of an accepted envelope: its indices are of a group, and its keys are as allowed.
pub accepted-keys : (s : List ℕ) → envelope_number (envelope_of s) ≡ 0
    → InGroup (head_of s).at × keys.WellFormed (is_public (head_of s).flags) (head_of s).at (head_of s).public_length (lengths_of s).l1_key (lengths_of s).l2_key
accepted-keys s z = let p = passed s (accepted-checks s z) in (in_group _ p.indices, keys_well_formed _ _ _ _ _ p.keys)

-- Accepted, so well formed.
pub accepted_well_formed : (s : List ℕ) → Bytes s → envelope_number (envelope_of s) ≡ 0 → WellFormed s
unfolding le_of le_bytes
accepted_well_formed s b z =
    let p = passed s (accepted-checks s z) in
    let head = ltb-false (length s) 80 p.head in
    record {
      limit = ltb-false 65535 (length s) p.limit;
      head = head;
      marked = sym (le_part_back 4 s 4 b (omega arith)) ∙ ap (le_bytes 4) (eqb-true _ _ (not-false _ p.marked));
      indices = (accepted-keys s z).0;
      lengths = eqb-true _ _ (not-false _ p.lengths);
      kdf = text_well_formed _ p.kdf;
      agreement = text_well_formed _ p.agreement;
      domain = text_well_formed _ p.domain;
      forest = text_well_formed _ p.forest;
      keys = (accepted-keys s z).1;
    }

-- Well formed, so accepted.
pub well_formed_accepted : (s : List ℕ) → WellFormed s → envelope_number (envelope_of s) ≡ 0
unfolding envelope_of envelope_number unless_refused le_at
well_formed_accepted s w =
    rw (passes s (record {
      limit = le-ltb 65535 (length s) w.limit;
      head = le-ltb (length s) 80 w.head;
      marked = ap not (eq-eqb _ _ (ap le_of w.marked));
      indices = not_above _ w.indices;
      lengths = ap not (eq-eqb _ _ w.lengths);
      kdf = well_formed_text _ w.kdf;
      agreement = well_formed_text _ w.agreement;
      domain = well_formed_text _ w.domain;
      forest = well_formed_text _ w.forest;
      keys = well_formed_keys _ _ _ _ _ w.keys;
    }))

-- So each text of an accepted envelope converts to characters without loss.
pub texts_convert : (s : List ℕ) → Bytes s → envelope_number (envelope_of s) ≡ 0
    → Converts (units_of (body_at s Kdf)) × Converts (units_of (body_at s Agreement)) × Converts (units_of (body_at s Domain)) × Converts (units_of (body_at s Forest))
texts_convert s b z =
    let w = accepted_well_formed s b z in
    let body : (which : EnvelopePart) → Bytes (body_at s which) = λ which. bytes_part s _ _ b in
    (text_converts _ (body Kdf) w.kdf, text_converts _ (body Agreement) w.agreement, text_converts _ (body Domain) w.domain, text_converts _ (body Forest) w.forest)
