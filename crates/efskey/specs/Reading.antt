-- Document 01, "EfsKey", with No. 2 of document 02: what the reader answers.
use Rattle.std.specs.Prelude.{ℕ, ◌+◌, not, List, [], ◌∷◌, ◌++◌, ltb, eqb, length, Result, Ok, Err}
use Rattle.refusal.specs.declared.Refusal.{Refusal}
use Rattle.refusal.specs.declared.Refusal.TheVariants.{TooLong, Short, LengthsDisagree, WrongMark, EmptyItem, Misplaced, MalformedSid}
use Rattle.refusal.specs.Number.{number_of}
use Rattle.refusal.specs.Chain.{Check, ◌⇒◌, first_of, unless_refused}
use Rattle.wire.specs.declared.Span.{Span}
use Rattle.wire.specs.Parts.{part_of}
use Rattle.efskey.specs.declared.SidHint.{SidHint}
use Rattle.efskey.specs.declared.SidHint.TheVariants as hint
use Rattle.efskey.specs.declared.EfsKey.{EfsKey}
use Rattle.efskey.specs.declared.EfsKeyPart.{EfsKeyPart}
use Rattle.efskey.specs.declared.EfsKeyPart.TheVariants as part
use Rattle.efskey.specs.Layout.{length1, length2, sid_offset, reserved1, certificate_length, certificate_offset, lengths_disagree, certificate_misplaced, sid_misplaced, gap_without_sid, sid_area, sid_malformed, hint_in}

unfoldable pub head_checks : List ℕ → List Check
head_checks s =
    -- 1, 2
    (ltb 65535 (length s) ⇒ TooLong)
    ∷ (ltb (length s) 32 ⇒ Short)
    -- 3 unless Length1 is the record's length and Length2 = Length1 - 4
    ∷ (lengths_disagree (length s) (length1 s) (length2 s) ⇒ LengthsDisagree)
    -- 4 unless Reserved1 is 02 00 00 00
    ∷ (not (eqb (reserved1 s) 2) ⇒ WrongMark)
    -- 7 if the certificate length is 0
    ∷ (eqb (certificate_length s) 0 ⇒ EmptyItem)
    -- 6 if the certificate offset is under 28, or 4 + offset + length differs from Length1
    ∷ (certificate_misplaced (certificate_offset s) (certificate_length s) (length1 s) ⇒ Misplaced)
    -- 6 unless the SID offset is 0 or 28
    ∷ (sid_misplaced (sid_offset s) ⇒ Misplaced)
    -- if 0, 6 unless the certificate offset is 28
    ∷ (gap_without_sid (sid_offset s) (certificate_offset s) ⇒ Misplaced)
    ∷ []

unfoldable pub efs_key_checks : List ℕ → List Check
efs_key_checks s =
    head_checks s
    -- if the SID offset is 28, 12 unless the bytes from 32 to the certificate are at least one and all zeros, or one SID
    ++ ((sid_malformed (hint_in s) (sid_area s) ⇒ MalformedSid) ∷ [])

abbrev pub shown_with : List ℕ → SidHint → EfsKey
shown_with s sid = record { sid = sid; certificate = record { at = 4 + certificate_offset s; len = certificate_length s } }

abbrev pub shown : List ℕ → EfsKey
shown s = shown_with s (hint_in s)

-- what the reader answers
unfoldable pub efs_key_of : List ℕ → Result EfsKey Refusal
efs_key_of s = unless_refused Err (first_of (efs_key_checks s)) (Ok (shown s))

-- document 01's numbers: 0, or the refusal's
unfoldable pub efs_key_number : Result EfsKey Refusal → ℕ
efs_key_number (Ok key) = 0
efs_key_number (Err r) = number_of r

-- the kind of SID: 1 where one is shown, 2 where no hint is given, 0 where there is none and on a refusal
unfoldable pub hint_kind : SidHint → ℕ
hint_kind hint.None = 0
hint_kind (hint.Sid span) = 1
hint_kind (hint.NoHint span) = 2

unfoldable pub sid_kind : Result EfsKey Refusal → ℕ
sid_kind (Ok key) = hint_kind key.sid
sid_kind (Err r) = 0

-- where a part stands: 0 and 0 for an absent SID, and on a refusal
unfoldable pub hint_span : SidHint → Span
hint_span hint.None = record { at = 0; len = 0 }
hint_span (hint.Sid span) = span
hint_span (hint.NoHint span) = span

unfoldable pub span_of : Result EfsKey Refusal → EfsKeyPart → Span
span_of (Ok key) part.Sid = hint_span key.sid
span_of (Ok key) part.Certificate = key.certificate
span_of (Err r) which = record { at = 0; len = 0 }

abbrev pub efs_key_span : List ℕ → EfsKeyPart → Span
efs_key_span s which = span_of (efs_key_of s) which

-- the very bytes of a part, or the empty part for an absent SID and on a refusal
abbrev pub efs_key_part : List ℕ → EfsKeyPart → List ℕ
efs_key_part s which = part_of s (efs_key_span s which).at (efs_key_span s which).len
