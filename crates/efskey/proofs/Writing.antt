-- Laws of the writer: what its bytes read as, and which checks can apply to them.
use Rattle.lemmas.proofs.Basics.{ℕ, ◌+◌, ◌-◌, ◌^◌, ◌≤◌, ◌<◌, arith, Bool, true, false, not, List, [], ◌∷◌, ◌++◌, append-nil, ◌≡◌, refl, sym, ap, ◌∙◌, ltb, eqb, length, length-append, le-ltb, ltb-false, eq-eqb, eqb-true}
use Rattle.std.specs.Prelude.{Ok}
use Rattle.lemmas.proofs.Cases.{cond_cases, false-or}
use Rattle.refusal.specs.declared.Refusal.TheVariants.{TooLong, EmptyItem, MalformedSid}
use Rattle.refusal.specs.Chain.{Check, ◌⇒◌, first_of}
use Rattle.refusal.proofs.Chains.{accepted_pass, first_next, first_after}
use Rattle.wire.specs.Numbers.{le_bytes}
use Rattle.wire.specs.Parts.{part_of, joined, le32_bytes}
use Rattle.wire.proofs.Numbers.{le_piece}
use Rattle.wire.proofs.Parts.{piece_part}
use Rattle.efskey.specs.Layout.{length1, length2, sid_offset, reserved1, certificate_length, certificate_offset, lengths_disagree, certificate_misplaced, sid_misplaced, gap_without_sid, sid_area, hint_of, sid_malformed, area_of}
use Rattle.efskey.specs.Reading.{head_checks, efs_key_checks}
use Rattle.efskey.proofs.Hints.{judged, area_judged}
use Rattle.efskey.specs.Writing.{efs_key_length, offset_for, pieces, efs_key_bytes, write_checks}

-- What is written for no SID, or for some bytes, stands where it may.
offset_placed : (a : ℕ) → (sid_misplaced (offset_for a) ≡ false) × (gap_without_sid (offset_for a) (28 + a) ≡ false)
offset_placed a = told (eqb a 0) refl
  where
    told : (t : Bool) → eqb a 0 ≡ t → (sid_misplaced (offset_for a) ≡ false) × (gap_without_sid (offset_for a) (28 + a) ≡ false)
    told true q = rw (q, eqb-true a 0 q) (refl, refl)
    told false q = rw q (refl, refl)

-- A SID and a certificate, and their record.
module _ (sid certificate : List ℕ) where
  abbrev whole : List ℕ
  whole = efs_key_bytes sid certificate

  abbrev size : ℕ
  size = efs_key_length sid certificate

  -- the numbers of the head, with that SID offset
  abbrev pub head : ℕ → List ℕ
  head offset = size ∷ (size - 4) ∷ offset ∷ 2 ∷ length certificate ∷ (28 + length sid) ∷ 0 ∷ 0 ∷ []

  -- The record is its head, then the SID, then the certificate.
  pub bytes_are : (offset : ℕ) → offset ≡ offset_for (length sid) → whole ≡ (le32_bytes (head offset) ++ sid) ++ certificate
  unfolding efs_key_bytes le32_bytes joined le_bytes
  bytes_are offset e = rw (e, append-nil certificate)

  pub length-bytes : length whole ≡ size
  unfolding efs_key_bytes joined le_bytes
  length-bytes = rw (append-nil certificate, length-append sid certificate) (omega arith)

  pub certificate_back : part_of whole (32 + length sid) (length certificate) ≡ certificate
  unfolding efs_key_bytes joined le_bytes
  certificate_back = piece_part (pieces sid certificate) 8 (32 + length sid) (length certificate) (rw (append-nil sid) (omega arith)) refl

  -- What the numbers of the head and the SID area read as, where the record is within the limit.
  module _ (fits : size ≤ 65535) where
    is_length1 : length1 whole ≡ size
    unfolding efs_key_bytes joined
    is_length1 = le_piece 4 (pieces sid certificate) 0 _ 0 refl (omega arith) refl

    is_length2 : length2 whole ≡ size - 4
    unfolding efs_key_bytes joined le_bytes
    is_length2 = le_piece 4 (pieces sid certificate) 1 (size - 4) 4 refl (omega arith) refl

    is_sid_offset : sid_offset whole ≡ offset_for (length sid)
    unfolding efs_key_bytes joined le_bytes
    is_sid_offset =
        le_piece 4 (pieces sid certificate) 2 (offset_for (length sid)) 8 refl (cond_cases (λ n. n < 256 ^ 4) (eqb (length sid) 0) (λ _. omega arith) (λ _. omega arith)) refl

    is_reserved1 : reserved1 whole ≡ 2
    unfolding efs_key_bytes joined le_bytes
    is_reserved1 = le_piece 4 (pieces sid certificate) 3 2 12 refl (omega arith) refl

    pub is_certificate_length : certificate_length whole ≡ length certificate
    unfolding efs_key_bytes joined le_bytes
    is_certificate_length = le_piece 4 (pieces sid certificate) 4 (length certificate) 16 refl (omega arith) refl

    pub is_certificate_offset : certificate_offset whole ≡ 28 + length sid
    unfolding efs_key_bytes joined le_bytes
    is_certificate_offset = le_piece 4 (pieces sid certificate) 5 (28 + length sid) 20 refl (omega arith) refl

    pub is_sid_area : sid_area whole ≡ sid
    unfolding sid_area efs_key_bytes joined le_bytes
    is_sid_area =
        let area : certificate_offset whole - 28 ≡ length sid = ap (λ n. n - 28) is_certificate_offset ∙ omega arith in
        ap (part_of whole 32) area ∙ piece_part (pieces sid certificate) 7 32 (length sid) refl refl

  -- the checks that can apply to what is given
  abbrev pub given_checks : List Check
  given_checks =
      (ltb 65535 size ⇒ TooLong)
      ∷ (eqb (length certificate) 0 ⇒ EmptyItem)
      ∷ (sid_malformed (hint_of (offset_for (length sid)) sid) sid ⇒ MalformedSid)
      ∷ []

  -- Of the reader's checks on the bytes only 1, 7 and 12 can apply.
  pub write_checks_lem : first_of (write_checks sid certificate) ≡ first_of given_checks
  unfolding write_checks efs_key_checks head_checks
  write_checks_lem = rw length-bytes (first_after _ _ _ _ (λ q. let fits = ltb-false 65535 size q in
      rw (is_length1 fits, is_length2 fits, is_reserved1 fits, is_certificate_length fits, is_certificate_offset fits, is_sid_offset fits, is_sid_area fits)
      (first_next _ _ _ (le-ltb size 32 (omega arith))
      ∙ first_next _ _ _ agree
      ∙ first_next _ _ _ refl
      ∙ first_after _ _ _ _ (λ r. first_next _ _ _ ends ∙ first_next _ _ _ (offset_placed (length sid)).0 ∙ first_next _ _ _ (offset_placed (length sid)).1))))
    where
      agree : lengths_disagree size size (size - 4) ≡ false
      agree = false-or (ap not (eq-eqb size size refl)) (ap not (eq-eqb (size - 4 + 4) size (omega arith)))

      ends : certificate_misplaced (28 + length sid) (length certificate) size ≡ false
      ends = false-or (le-ltb (28 + length sid) 28 (omega arith)) (ap not (eq-eqb (4 + (28 + length sid) + length certificate) size (omega arith)))

  -- Behind 1 and 7 the area decides.
  pub area_decides : size ≤ 65535 → eqb (length certificate) 0 ≡ false → first_of (write_checks sid certificate) ≡ judged (area_of (offset_for (length sid)) sid)
  area_decides fits some = write_checks_lem ∙ first_next _ _ _ (le-ltb 65535 size fits) ∙ first_next _ _ _ some ∙ area_judged (offset_for (length sid)) sid

  -- What is accepted is within the limit.
  pub within_limit : first_of (write_checks sid certificate) ≡ Ok tt → size ≤ 65535
  within_limit e = ltb-false 65535 size (accepted_pass given_checks (sym write_checks_lem ∙ e)).0
