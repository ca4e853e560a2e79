-- Document 01, "EfsKey", with No. 2 of document 02: what the writer makes and answers.
use Rattle.std.specs.Prelude.{ℕ, ◌+◌, ◌-◌, cond, List, [], ◌∷◌, eqb, length, Result}
use Rattle.refusal.specs.declared.Refusal.{Refusal}
use Rattle.refusal.specs.Chain.{Check, first_of}
use Rattle.wire.specs.Numbers.{le_bytes}
use Rattle.wire.specs.Parts.{joined}
use Rattle.records.specs.Writing.{written_of}
use Rattle.efskey.specs.Reading.{efs_key_checks}

-- the record's length
abbrev pub efs_key_length : List ℕ → List ℕ → ℕ
efs_key_length sid certificate = 32 + length sid + length certificate

-- an empty SID means none: SID offset 0; else it stands at byte 32, zeros too, and offsets count from byte 4
abbrev pub offset_for : ℕ → ℕ
offset_for len = cond (eqb len 0) 0 28

abbrev pub pieces : List ℕ → List ℕ → List (List ℕ)
pieces sid certificate =
    -- Length1, Length2
    le_bytes 4 (efs_key_length sid certificate)
    ∷ le_bytes 4 (efs_key_length sid certificate - 4)
    -- SID offset, Reserved1
    ∷ le_bytes 4 (offset_for (length sid))
    ∷ le_bytes 4 2
    -- certificate length and offset
    ∷ le_bytes 4 (length certificate)
    ∷ le_bytes 4 (28 + length sid)
    -- Reserved2, eight bytes
    ∷ le_bytes 8 0
    ∷ sid
    ∷ certificate
    ∷ []

unfoldable pub efs_key_bytes : List ℕ → List ℕ → List ℕ
efs_key_bytes sid certificate = joined (pieces sid certificate)

-- what the reader would answer on those bytes
unfoldable pub write_checks : List ℕ → List ℕ → List Check
write_checks sid certificate = efs_key_checks (efs_key_bytes sid certificate)

-- what those checks say, then 13 where the output has not that many bytes
abbrev pub efs_key_written : List ℕ → List ℕ → ℕ → Result ℕ Refusal
efs_key_written sid certificate room = written_of (first_of (write_checks sid certificate)) (efs_key_length sid certificate) room
