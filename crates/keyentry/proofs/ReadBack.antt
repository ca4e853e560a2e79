-- What the writer accepted reads back as given: the Flags, and each item byte for byte.
use Rattle.lemmas.proofs.Basics.{ℕ, ◌+◌, ◌^◌, ◌<◌, arith, List, [], ◌≡◌, refl, length, take, length-append, ltb-false, eqb-true}
use Rattle.std.specs.Prelude.{Ok}
use Rattle.lemmas.proofs.Cases.{not-false}
use Rattle.refusal.specs.Chain.{first_of, unless_refused}
use Rattle.refusal.proofs.Chains.{accepted_pass, pass_accepted}
use Rattle.wire.specs.Numbers.{le_bytes}
use Rattle.wire.specs.Parts.{le_at, joined}
use Rattle.wire.proofs.Parts.{piece_part}
use Rattle.records.specs.Writing.{output_of}
use Rattle.records.proofs.Laws.{written_record}
use Rattle.keyentry.specs.declared.EntryPart.TheVariants.{Item, Fek}
use Rattle.keyentry.specs.Reading.{entry_checks, shown, entry_of, span_of, entry_part}
use Rattle.keyentry.specs.Writing.{pieces, entry_bytes, write_checks, entry_written}
use Rattle.keyentry.proofs.Writing.{length-bytes, is_flags, item_number, is_item_at, is_fek_length, is_fek_at, within_limit}

-- an entry that reads as these Flags and items
pub record ReadsBack (s : List ℕ) (flags : ℕ) (item fek : List ℕ) : Type 0 where
  pub values : entry_of s ≡ Ok (record { flags = flags; item = record { at = 20; len = length item }; fek = record { at = 20 + length item; len = length fek } })
  pub item-bytes : entry_part s Item ≡ item
  pub fek-bytes : entry_part s Fek ≡ fek

-- What the writer accepts reads back as given.
pub reads_back : (flags : ℕ) (item fek : List ℕ) → flags < 2 ^ 32 → first_of (write_checks flags item fek) ≡ Ok tt → ReadsBack (entry_bytes flags item fek) flags item fek
unfolding write_checks entry_of unless_refused shown span_of entry_bytes joined le_bytes
reads_back flags item fek small accepted =
    let t = accepted_pass (write_checks flags item fek) accepted in
    let fits = within_limit flags item fek accepted in
    let some = ltb-false (length item) 4 t.1.0 in
    let own = eqb-true (le_at 4 item 0) (length item) (not-false _ t.1.1.0) in
    let read : entry_of (entry_bytes flags item fek)
    ≡ Ok (record { flags = flags; item = record { at = 20; len = length item }; fek = record { at = 20 + length item; len = length fek } }) =
    rw (
      pass_accepted (entry_checks (entry_bytes flags item fek)) t.1.1.1,
      is_flags flags item fek fits small,
      item_number flags item fek fits some,
      own,
      is_item_at flags item fek fits,
      is_fek_length flags item fek fits,
      is_fek_at flags item fek fits,
    )
    in
    record {
      values = read;
      item-bytes = rw read (piece_part (pieces flags item fek) 5 20 (length item) refl refl);
      fek-bytes = rw read (piece_part (pieces flags item fek) 6 (20 + length item) (length fek) (omega (arith, length-append item [])) refl);
    }

-- So do the first n bytes of the output, where the writer answers n.
pub written_reads_back : (flags : ℕ) (item fek out : List ℕ) (n : ℕ) → flags < 2 ^ 32 → entry_written flags item fek (length out) ≡ Ok n
    → ReadsBack (take n (output_of (Ok n) (entry_bytes flags item fek) out)) flags item fek
written_reads_back flags item fek out n small e =
    let told = written_record (entry_bytes flags item fek) out n (length-bytes flags item fek) e in
    rw told.1 (reads_back flags item fek small told.0)
