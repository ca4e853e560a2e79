-- What the writer accepted reads back as given; writing what was read from an accepted envelope gives the same bytes; and an absent
-- key is an empty part.
use Rattle.lemmas.proofs.Basics.{ℕ, ◌+◌, ◌≤◌, arith, List, [], ◌∷◌, ◌++◌, ◌≡◌, refl, sym, ap, ◌∙◌, length, take, drop}
use Rattle.std.specs.Prelude.{Ok, Err}
use Rattle.refusal.specs.Outcome.{Outcome}
use Rattle.refusal.specs.Chain.{first_of, unless_refused}
use Rattle.wire.specs.Numbers.{le_of, le_bytes}
use Rattle.wire.specs.Parts.{le_at, part_of, joined}
use Rattle.wire.proofs.Numbers.{Bytes, le_part_back}
use Rattle.wire.proofs.Parts.{part_empty, part_whole, length_part, total, cut-joined}
use Rattle.records.specs.Writing.{output_of}
use Rattle.records.proofs.Laws.{written_record, record_written}
use Rattle.rootid.proofs.Roots.{root_bytes_lem}
use Rattle.envelope.specs.declared.Head.{Head}
use Rattle.envelope.specs.declared.EnvelopePart.{EnvelopePart}
use Rattle.envelope.specs.declared.EnvelopePart.TheVariants.{Kdf, KdfParameters, Agreement, AgreementParameters, Domain, Forest, L1Key, L2Key}
use Rattle.envelope.specs.Layout.{head_of, lengths_of, bodies_of, body}
use Rattle.envelope.specs.Reading.{envelope_checks, shown, envelope_of, envelope_number, span_of, body_at, envelope_part}
use Rattle.envelope.specs.WellFormed.{WellFormed}
use Rattle.envelope.specs.Writing.{Given, given_lengths, envelope_length, envelope_bytes, write_checks, envelope_written}
use Rattle.envelope.proofs.Reading.{answer, accepted-checks, accepted-shown, body_inside}
use Rattle.envelope.proofs.ExactlyWhen.{accepted_well_formed}
use Rattle.envelope.proofs.Writing.{Fit, length-bytes, is_head, are_lengths, body_is, within_limit}

-- an envelope that reads as these: the head's values, and each body byte for byte
pub record ReadsBack (s : List ℕ) (h : Head) (g : Given) : Type 0 where
  pub values : envelope_of s ≡ Ok (record { head = h; bodies = bodies_of (given_lengths g) })
  pub bodies : (which : EnvelopePart) → envelope_part s which ≡ body g which

-- What the writer accepts reads back as given.
pub reads_back : (h : Head) (g : Given) → Fit h → first_of (write_checks h g) ≡ Ok tt → ReadsBack (envelope_bytes h g) h g
unfolding write_checks envelope_of unless_refused shown span_of
reads_back h g fit accepted =
    let small = within_limit h g accepted in
    let read : envelope_of (envelope_bytes h g) ≡ Ok (record { head = h; bodies = bodies_of (given_lengths g) }) =
    rw (accepted, is_head h g fit small, are_lengths h g fit small)
    in
    record { values = read; bodies = λ which. rw read (body_is h g which) }

-- So do the first n bytes of the output, where the writer answers n.
pub written_reads_back : (h : Head) (g : Given) (out : List ℕ) (n : ℕ) → Fit h → envelope_written h g (length out) ≡ Ok n
    → ReadsBack (take n (output_of (Ok n) (envelope_bytes h g) out)) h g
written_reads_back h g out n fit e =
    let told = written_record (envelope_bytes h g) out n (length-bytes h g) e in
    rw told.1 (reads_back h g fit told.0)

-- A body of an accepted envelope stands where the lengths place it, and has its length.
body_stands : (s : List ℕ) → envelope_number (envelope_of s) ≡ 0 → (which : EnvelopePart) → envelope_part s which ≡ body_at s which
unfolding shown span_of
body_stands s z which = rw (accepted-shown s z)

body_long : (s : List ℕ) → WellFormed s → (which : EnvelopePart) → length (body_at s which) ≡ (body (bodies_of (lengths_of s)) which).len
body_long s w which = length_part s _ _ (rw (← w.lengths) (body_inside (lengths_of s) which))

-- the bodies that were read
abbrev pub bodies_read : List ℕ → Given
bodies_read s =
    record {
      kdf = envelope_part s Kdf;
      kdf_parameters = envelope_part s KdfParameters;
      agreement = envelope_part s Agreement;
      agreement_parameters = envelope_part s AgreementParameters;
      domain = envelope_part s Domain;
      forest = envelope_part s Forest;
      l1_key = envelope_part s L1Key;
      l2_key = envelope_part s L2Key;
    }

-- Writing what was read from an accepted envelope gives the same bytes.
pub rewritten : (s : List ℕ) → Bytes s → envelope_number (envelope_of s) ≡ 0 → envelope_bytes (head_of s) (bodies_read s) ≡ s
unfolding envelope_bytes head_of lengths_of body bodies_of le_bytes le_of
rewritten s b z =
    let w = accepted_well_formed s b z in
    let n = lengths_of s in
    let number : (at : ℕ) → at + 4 ≤ 80 → le_bytes 4 (le_at 4 s at) ≡ part_of s at 4 = λ at h. le_part_back 4 s at b (omega (arith, w.head)) in
    let size : (which : EnvelopePart) → length (envelope_part s which) ≡ (body (bodies_of n) which).len = λ which. ap length (body_stands s z which) ∙ body_long s w which in
    let stored : (which : EnvelopePart) (at : ℕ) → at + 4 ≤ 80 → (body (bodies_of n) which).len ≡ le_at 4 s at → le_bytes 4 (length (envelope_part s which)) ≡ part_of s at 4 =
    λ which at h e. ap (le_bytes 4) (size which ∙ e) ∙ number at h
    in
    let lengths : List ℕ = 4 ∷ 4 ∷ 4 ∷ 4 ∷ 4 ∷ 4 ∷ 16 ∷ 4 ∷ 4 ∷ 4 ∷ 4 ∷ 4 ∷ 4 ∷ 4 ∷ 4 ∷ 4 ∷ 4 ∷ n.kdf ∷ n.kdf_parameters ∷ n.agreement ∷ n.agreement_parameters ∷ n.domain ∷ n.forest ∷ n.l1_key ∷ n.l2_key ∷ [] in
    let whole : total lengths ≡ length s = omega (arith, w.lengths) in
    (λ i. joined
    (number 0 (omega arith) i
    ∷ sym w.marked i
    ∷ number 8 (omega arith) i
    ∷ number 12 (omega arith) i
    ∷ number 16 (omega arith) i
    ∷ number 20 (omega arith) i
    ∷ root_bytes_lem s 24 b (omega (arith, w.head)) i
    ∷ stored Kdf 40 (omega arith) refl i
    ∷ stored KdfParameters 44 (omega arith) refl i
    ∷ stored Agreement 48 (omega arith) refl i
    ∷ stored AgreementParameters 52 (omega arith) refl i
    ∷ number 56 (omega arith) i
    ∷ number 60 (omega arith) i
    ∷ stored L1Key 64 (omega arith) refl i
    ∷ stored L2Key 68 (omega arith) refl i
    ∷ stored Domain 72 (omega arith) refl i
    ∷ stored Forest 76 (omega arith) refl i
    ∷ body_stands s z Kdf i
    ∷ body_stands s z KdfParameters i
    ∷ body_stands s z Agreement i
    ∷ body_stands s z AgreementParameters i
    ∷ body_stands s z Domain i
    ∷ body_stands s z Forest i
    ∷ body_stands s z L1Key i
    ∷ body_stands s z L2Key i
    ∷ []))
    ∙ cut-joined s 0 lengths (omega arith) ∙ ap (part_of s 0) whole ∙ part_whole s

-- The writer accepts it given room: the same bytes, then what stood behind them.
pub rewrites : (s out : List ℕ) → Bytes s → envelope_number (envelope_of s) ≡ 0 → length s ≤ length out
    → (envelope_written (head_of s) (bodies_read s) (length out) ≡ Ok (length s))
    × (output_of (envelope_written (head_of s) (bodies_read s) (length out)) (envelope_bytes (head_of s) (bodies_read s)) out ≡ s ++ drop (length s) out)
unfolding write_checks
rewrites s out b z room =
    let same = rewritten s b z in
    let size : envelope_length (bodies_read s) ≡ length s = sym (length-bytes (head_of s) (bodies_read s)) ∙ ap length same in
    rw (size, same) (record_written s out (accepted-checks s z) refl room)

-- Absent means absent: of an envelope with no L1 key the part handed out for it is empty, and so is the L2 key's of one with no L2 key.
-- The part is a function of these bytes alone: there is no state to fall back on.
pub absent : (s : List ℕ) (which : EnvelopePart) → (body (bodies_of (lengths_of s)) which).len ≡ 0 → envelope_part s which ≡ []
unfolding envelope_of unless_refused shown span_of
absent s which none = told (first_of (envelope_checks s))
  where
    told : (o : Outcome) → part_of s (span_of (answer o (shown s)) which).at (span_of (answer o (shown s)) which).len ≡ []
    told (Ok tt) = ap (part_of s (body (bodies_of (lengths_of s)) which).at) none ∙ part_empty s _
    told (Err r) = part_empty s 0
