-- Document 01, "Key List Entry and list": a list is a count and that many entries back to back.
use Rattle.std.specs.Prelude.{ℕ, zero, suc, ◌+◌, ◌-◌, cond, ◌||◌, List, [], ◌∷◌, ◌++◌, ltb, eqb, length, Result, Ok, Err}
use Rattle.refusal.specs.declared.Refusal.{Refusal}
use Rattle.keylist.specs.declared.ListRefusal.{ListRefusal}
use Rattle.refusal.specs.declared.Refusal.TheVariants.{TooLong, Short, LengthsDisagree, BytesLeft}
use Rattle.refusal.specs.Chain.{Check, ◌⇒◌, first_of, unless_refused}
use Rattle.refusal.specs.Number.{number_of}
use Rattle.wire.specs.declared.Span.{Span}
use Rattle.wire.specs.Parts.{le_at, part_of}
use Rattle.keyentry.specs.Reading.{entry_checks}

abbrev pub count_of : List ℕ → ℕ
count_of s = le_at 4 s 0

-- 1, 2: of the whole list
unfoldable pub list_checks : List ℕ → List Check
list_checks s = (ltb 65535 (length s) ⇒ TooLong) ∷ (ltb (length s) 4 ⇒ Short) ∷ []

-- the Length of the entry at a place, and its record: its Length bytes
abbrev pub length_at : List ℕ → ℕ → ℕ
length_at s at = le_at 4 s at

abbrev pub record_at : List ℕ → ℕ → List ℕ
record_at s at = part_of s at (length_at s at)

-- the list rule for each entry: 2 if under 20 bytes remain, 3 if its Length is below 20 or above what remains
unfoldable pub extent_checks : List ℕ → ℕ → List Check
extent_checks s at =
    (ltb (length s - at) 20 ⇒ Short)
    ∷ (ltb (length_at s at) 20 || ltb (length s - at) (length_at s at) ⇒ LengthsDisagree)
    ∷ []

-- where the record at a place lies, by that rule
unfoldable pub extent_of : List ℕ → ℕ → Result Span Refusal
extent_of s at = unless_refused Err (first_of (extent_checks s at)) (Ok (record { at = at; len = length_at s at }))

-- document 01's numbers: 0 and the record's place; or the refusal's number, and zeros
unfoldable pub bounds_number : Result Span Refusal → ℕ
bounds_number (Ok span) = 0
bounds_number (Err r) = number_of r

unfoldable pub bounds_span : Result Span Refusal → Span
bounds_span (Ok span) = span
bounds_span (Err r) = record { at = 0; len = 0 }

-- a refusal, with the index of the entry that it is given for; 0 where it is given for the whole list, or for bytes left
abbrev pub refused_at : {A : Type 0} → ℕ → Refusal → Result A ListRefusal
refused_at index r = Err (record { refusal = r; index = index })

-- then the entry's checks
unfoldable pub place_checks : List ℕ → ℕ → List Check
place_checks s at = extent_checks s at ++ entry_checks (record_at s at)

-- n entries from a place on, in turn; each refusal given for an entry tells its index; last 22, which tells none
unfoldable pub entries_from : ℕ → List ℕ → ℕ → ℕ → Result ℕ ListRefusal
entries_from zero s at index = cond (eqb at (length s)) (Ok index) (refused_at 0 BytesLeft)
entries_from (suc n) s at index = unless_refused (refused_at index) (first_of (place_checks s at)) (entries_from n s (at + length_at s at) (index + 1))

-- what the judge answers: 1, 2 (which tell no index), then the entries from byte 4 on
unfoldable pub list_of : List ℕ → Result ℕ ListRefusal
list_of s = unless_refused (refused_at 0) (first_of (list_checks s)) (entries_from (count_of s) s 4 0)

-- document 01's numbers: 0 and the count; or the refusal's number, no count, and the index told
unfoldable pub list_number : Result ℕ ListRefusal → ℕ
list_number (Ok count) = 0
list_number (Err e) = number_of e.refusal

unfoldable pub list_count : Result ℕ ListRefusal → ℕ
list_count (Ok count) = count
list_count (Err e) = 0

unfoldable pub list_index : Result ℕ ListRefusal → ℕ
list_index (Ok count) = 0
list_index (Err e) = e.index
