-- Document 01, "EfsKey", with No. 2 of document 02: the numbers of the head, the rules that are made of them, and the SID area. Both
-- offsets count from byte 4; sums are whole numbers.
use Rattle.std.specs.Prelude.{ℕ, ◌+◌, ◌-◌, Bool, false, not, cond, ◌&&◌, ◌||◌, List, leb, ltb, eqb, length, get_or, Result, Ok, Err}
use Rattle.lemmas.specs.Counting.{every}
use Rattle.refusal.specs.declared.Refusal.{Refusal}
use Rattle.refusal.specs.declared.Refusal.TheVariants.{MalformedSid}
use Rattle.wire.specs.declared.Span.{Span}
use Rattle.wire.specs.Parts.{part_of, le_at}
use Rattle.sid.specs.Rule.{is_sid}
use Rattle.efskey.specs.declared.SidHint.{SidHint}
use Rattle.efskey.specs.declared.SidHint.TheVariants.{None, Sid, NoHint}

-- Length1 at 0, Length2 at 4, SID offset at 8, Reserved1 at 12, certificate length at 16, certificate offset at 20
abbrev pub length1 : List ℕ → ℕ
length1 s = le_at 4 s 0

abbrev pub length2 : List ℕ → ℕ
length2 s = le_at 4 s 4

abbrev pub sid_offset : List ℕ → ℕ
sid_offset s = le_at 4 s 8

abbrev pub reserved1 : List ℕ → ℕ
reserved1 s = le_at 4 s 12

abbrev pub certificate_length : List ℕ → ℕ
certificate_length s = le_at 4 s 16

abbrev pub certificate_offset : List ℕ → ℕ
certificate_offset s = le_at 4 s 20

-- 3: unless Length1 is the record's length and Length2 = Length1 - 4
abbrev pub lengths_disagree : ℕ → ℕ → ℕ → Bool
lengths_disagree L first second = not (eqb first L) || not (eqb (second + 4) first)

-- 6: the certificate offset is under 28, or 4 + offset + length differs from Length1
abbrev pub certificate_misplaced : ℕ → ℕ → ℕ → Bool
certificate_misplaced offset len total = ltb offset 28 || not (eqb (4 + offset + len) total)

-- 6: unless the SID offset is 0 or 28
abbrev pub sid_misplaced : ℕ → Bool
sid_misplaced sid = not (eqb sid 0) && not (eqb sid 28)

-- 6: no SID, and the certificate offset is not 28
abbrev pub gap_without_sid : ℕ → ℕ → Bool
gap_without_sid sid offset = eqb sid 0 && not (eqb offset 28)

-- the SID area, from 32 to the certificate
unfoldable pub sid_area : List ℕ → List ℕ
sid_area s = part_of s 32 (certificate_offset s - 28)

-- No. 2, no hint given: a SID area of at least one byte that is all zeros, of any length
unfoldable pub all_zeros : List ℕ → Bool
all_zeros area = every (length area) (λ k. eqb (get_or area k 0) 0)

unfoldable pub is_no_hint : List ℕ → Bool
is_no_hint area = leb 1 (length area) && all_zeros area

-- where those bytes stand
abbrev pub area_span : List ℕ → Span
area_span area = record { at = 32; len = length area }

-- what an EfsKey has of a SID: none where the SID offset is 0, else no hint, or what is to be a SID, each with its place and length
unfoldable pub hint_of : ℕ → List ℕ → SidHint
hint_of offset area = cond (eqb offset 0) None (cond (is_no_hint area) (NoHint (area_span area)) (Sid (area_span area)))

-- 12: what is to be a SID is none, by the rule of document 01, which No. 2 leaves as it is
unfoldable pub sid_malformed : SidHint → List ℕ → Bool
sid_malformed None area = false
sid_malformed (Sid span) area = not (is_sid area)
sid_malformed (NoHint span) area = false

-- what judging the area answers: 12, or what an EfsKey has of a SID
unfoldable pub area_of : ℕ → List ℕ → Result SidHint Refusal
area_of offset area = cond (sid_malformed (hint_of offset area) area) (Err MalformedSid) (Ok (hint_of offset area))

-- of a record
abbrev pub hint_in : List ℕ → SidHint
hint_in s = hint_of (sid_offset s) (sid_area s)
