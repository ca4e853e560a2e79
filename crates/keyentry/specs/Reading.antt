-- Document 01, "Key List Entry and list": what the reader answers.
use Rattle.std.specs.Prelude.{ℕ, List, ◌∷◌, cond, not, ltb, eqb, length, Result, Ok, Err}
use Rattle.refusal.specs.declared.Refusal.{Refusal}
use Rattle.refusal.specs.declared.Refusal.TheVariants.{TooLong, Short, LengthsDisagree, Misplaced}
use Rattle.refusal.specs.Chain.{Check, ◌⇒◌, first_of, unless_refused}
use Rattle.refusal.specs.Number.{number_of}
use Rattle.wire.specs.declared.Span.{Span}
use Rattle.wire.specs.Parts.{part_of}
use Rattle.keyentry.specs.declared.Algorithm.{Algorithm}
use Rattle.keyentry.specs.declared.Algorithm.TheVariants.{Rsa, Aes256, Unsupported}
use Rattle.keyentry.specs.declared.Entry.{Entry}
use Rattle.keyentry.specs.declared.EntryPart.{EntryPart}
use Rattle.keyentry.specs.declared.EntryPart.TheVariants.{Item, Fek}
use Rattle.keyentry.specs.Layout.{length_field, public_key_at, public_key_length, fek_at, fek_length, flags_of, outside, item_checks}

unfoldable pub entry_checks : List ℕ → List Check
entry_checks s =
    -- 1, 2
    (ltb 65535 (length s) ⇒ TooLong)
    ∷ (ltb (length s) 20 ⇒ Short)
    -- 3 unless Length = L
    ∷ (not (eqb (length_field s) (length s)) ⇒ LengthsDisagree)
    -- 6 if p < 20 or p+4 > L
    ∷ (outside (public_key_at s) 4 (length s) ⇒ Misplaced)
    ∷ item_checks (public_key_at s) (public_key_length s) (fek_at s) (fek_length s) (length s)

-- the head's numbers and the items' places
unfoldable pub shown : List ℕ → Entry
shown s =
    record {
      flags = flags_of s;
      item = record { at = public_key_at s; len = public_key_length s };
      fek = record { at = fek_at s; len = fek_length s };
    }

-- what the reader answers
unfoldable pub entry_of : List ℕ → Result Entry Refusal
entry_of s = unless_refused Err (first_of (entry_checks s)) (Ok (shown s))

-- Flags never refuse: 0 is RSA, 1 is AES-256, others are unsupported
unfoldable pub algorithm_of : ℕ → Algorithm
algorithm_of flags = cond (eqb flags 0) Rsa (cond (eqb flags 1) Aes256 Unsupported)

-- document 01's numbers: 0 and the values, or the refusal's number and zeros
unfoldable pub entry_number : Result Entry Refusal → ℕ
entry_number (Ok e) = 0
entry_number (Err r) = number_of r

unfoldable pub entry_values : Result Entry Refusal → Entry
entry_values (Ok e) = e
entry_values (Err r) = record { flags = 0; item = record { at = 0; len = 0 }; fek = record { at = 0; len = 0 } }

-- where an item stands; 0 and 0 on a refusal
unfoldable pub span_of : Result Entry Refusal → EntryPart → Span
span_of (Ok e) Item = e.item
span_of (Ok e) Fek = e.fek
span_of (Err r) which = record { at = 0; len = 0 }

abbrev pub entry_span : List ℕ → EntryPart → Span
entry_span s which = span_of (entry_of s) which

-- the very bytes of an item, or the empty part on a refusal
abbrev pub entry_part : List ℕ → EntryPart → List ℕ
entry_part s which = part_of s (entry_span s which).at (entry_span s which).len
