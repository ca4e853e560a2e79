-- Document 01, "Key List Entry and list": what the writer makes and answers.
use Rattle.std.specs.Prelude.{ℕ, ◌+◌, not, List, [], ◌∷◌, ltb, eqb, length, Result}
use Rattle.refusal.specs.declared.Refusal.{Refusal}
use Rattle.refusal.specs.declared.Refusal.TheVariants.{TooLong, LengthsDisagree, EmptyItem}
use Rattle.refusal.specs.Chain.{Check, ◌⇒◌, first_of}
use Rattle.wire.specs.Numbers.{le_bytes}
use Rattle.wire.specs.Parts.{le_at, joined}
use Rattle.records.specs.Writing.{written_of}
use Rattle.keyentry.specs.Reading.{entry_checks}

-- the entry's length
abbrev pub entry_length : List ℕ → List ℕ → ℕ
entry_length item fek = 20 + length item + length fek

-- the head, the public key item at 20, and the FEK straight after
abbrev pub pieces : ℕ → List ℕ → List ℕ → List (List ℕ)
pieces flags item fek =
    le_bytes 4 (entry_length item fek)
    ∷ le_bytes 4 20
    ∷ le_bytes 4 (length fek)
    ∷ le_bytes 4 (20 + length item)
    ∷ le_bytes 4 flags
    ∷ item
    ∷ fek
    ∷ []

unfoldable pub entry_bytes : ℕ → List ℕ → List ℕ → List ℕ
entry_bytes flags item fek = joined (pieces flags item fek)

-- 1, then 7 if the item is under 4 bytes, then 3 unless the item's first four bytes are its length, then as the reader
unfoldable pub write_checks : ℕ → List ℕ → List ℕ → List Check
write_checks flags item fek =
    (ltb 65535 (entry_length item fek) ⇒ TooLong)
    ∷ (ltb (length item) 4 ⇒ EmptyItem)
    ∷ (not (eqb (le_at 4 item 0) (length item)) ⇒ LengthsDisagree)
    ∷ entry_checks (entry_bytes flags item fek)

-- what those checks say, then 13 where the output has not that many bytes
abbrev pub entry_written : ℕ → List ℕ → List ℕ → ℕ → Result ℕ Refusal
entry_written flags item fek room = written_of (first_of (write_checks flags item fek)) (entry_length item fek) room
