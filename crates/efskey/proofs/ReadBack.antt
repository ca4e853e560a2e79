-- What the writer accepted reads back as given, a refusal of the writer is the reader's, and writing what was read gives the
-- same bytes but for Reserved2.
use Rattle.lemmas.proofs.Basics.{ℕ, ◌+◌, ◌-◌, ◌≤◌, arith, cond, List, [], ◌∷◌, ◌++◌, ◌≡◌, sym, ap, ap₂, ◌∙◌, eqb, length, take, drop, replicate, length-drop, take_all, le-ltb, ne_eqb}
use Rattle.std.specs.Prelude.{Ok, Err}
use Rattle.refusal.specs.declared.Refusal.{Refusal}
use Rattle.refusal.specs.Chain.{first_of, unless_refused}
use Rattle.refusal.proofs.Chains.{pass_accepted}
use Rattle.wire.specs.Numbers.{le_bytes}
use Rattle.wire.specs.declared.Span.{Span}
use Rattle.wire.specs.Parts.{part_of, le_at, joined}
use Rattle.wire.proofs.Parts.{part_in, part_empty, length_part, joined_split, cut-joined}
use Rattle.wire.proofs.Numbers.{Bytes, le_part_back}
use Rattle.records.specs.Writing.{output_of}
use Rattle.records.proofs.Laws.{refused_written, written_record, record_written}
use Rattle.efskey.specs.declared.EfsKeyPart.TheVariants.{Sid, Certificate}
use Rattle.efskey.specs.Layout.{sid_offset, certificate_length, certificate_offset, sid_area, area_span, hint_of}
use Rattle.efskey.specs.Reading.{efs_key_checks, efs_key_of, efs_key_number, span_of, efs_key_part}
use Rattle.efskey.specs.WellFormed.{SidField, absent, no_hint, present}
use Rattle.efskey.specs.Writing.{efs_key_length, offset_for, pieces, efs_key_bytes, write_checks, efs_key_written}
use Rattle.efskey.proofs.Hints.{hint_span_lem}
use Rattle.efskey.proofs.Reading.{refused_checks, accepted-checks, Passed, passed, area_length}
use Rattle.efskey.proofs.ExactlyWhen.{checks_well_formed}
use Rattle.efskey.proofs.Writing.{length-bytes, certificate_back, is_certificate_length, is_certificate_offset, is_sid_area, write_checks_lem, within_limit}

-- a record that reads as a SID and a certificate
pub record ReadsBack (s sid certificate : List ℕ) : Type 0 where
  pub values : efs_key_of s ≡ Ok (record { sid = hint_of (offset_for (length sid)) sid; certificate = record { at = 32 + length sid; len = length certificate } })
  pub sid-bytes : efs_key_part s Sid ≡ sid
  pub certificate-bytes : efs_key_part s Certificate ≡ certificate

-- The length of a well formed record's SID area tells the SID offset.
area_tells : (s : List ℕ) → Passed s → SidField s → sid_offset s ≡ offset_for (length (sid_area s))
area_tells s p (absent none straight) = let empty : length (sid_area s) ≡ 0 = area_length s p ∙ ap (λ n. n - 28) straight in rw (none, empty)
area_tells s p (no_hint some one zeros) = rw (some, ne_eqb (length (sid_area s)) 0 (λ z. omega arith))
area_tells s p (present some sound) = rw (some, ne_eqb (length (sid_area s)) 0 (λ z. omega (arith, sound.size)))

-- The parts of an accepted record: the SID area, and the bytes behind it.
sid_is : (s : List ℕ) → first_of (efs_key_checks s) ≡ Ok tt → efs_key_part s Sid ≡ sid_area s
unfolding efs_key_of unless_refused span_of sid_area
sid_is s e = rw (e, hint_span_lem (sid_offset s) (sid_area s)) (told (checks_well_formed s e).sid)
  where
    there : part_of s 32 (length (sid_area s)) ≡ sid_area s
    there = ap (part_of s 32) (area_length s (passed s e))

    told : SidField s → (let span : Span = cond (eqb (sid_offset s) 0) (record { at = 0; len = 0 }) (area_span (sid_area s)) in part_of s span.at span.len ≡ sid_area s)
    told (absent none straight) = rw (none, straight) (part_empty s 0 ∙ sym (part_empty s 32))
    told (no_hint some one zeros) = rw some there
    told (present some sound) = rw some there

certificate_is : (s : List ℕ) → first_of (efs_key_checks s) ≡ Ok tt → efs_key_part s Certificate ≡ part_of s (4 + certificate_offset s) (certificate_length s)
unfolding efs_key_of unless_refused span_of
certificate_is s e = rw e

-- What the writer accepts reads back as given.
pub reads_back : (sid certificate : List ℕ) → first_of (write_checks sid certificate) ≡ Ok tt → ReadsBack (efs_key_bytes sid certificate) sid certificate
unfolding write_checks efs_key_of unless_refused
reads_back sid certificate accepted =
    let s = efs_key_bytes sid certificate in
    let fits = within_limit sid certificate accepted in
    let area = is_sid_area sid certificate fits in
    let at : 4 + certificate_offset s ≡ 32 + length sid = ap (λ n. 4 + n) (is_certificate_offset sid certificate fits) ∙ omega arith in
    let len = is_certificate_length sid certificate fits in
    record {
      values = rw (accepted, area_tells s (passed s accepted) (checks_well_formed s accepted).sid, area, at, len);
      sid-bytes = sid_is s accepted ∙ area;
      certificate-bytes = certificate_is s accepted ∙ rw (at, len) (certificate_back sid certificate);
    }

-- So do the first n bytes of the output, where the writer answers n.
pub written_reads_back : (sid certificate out : List ℕ) (n : ℕ) → efs_key_written sid certificate (length out) ≡ Ok n
    → ReadsBack (take n (output_of (Ok n) (efs_key_bytes sid certificate) out)) sid certificate
written_reads_back sid certificate out n e =
    let told = written_record (efs_key_bytes sid certificate) out n (length-bytes sid certificate) e in
    rw told.1 (reads_back sid certificate told.0)

-- What the reader would refuse of the bytes, the writer refuses, whatever the room.
pub refused_as_read : (sid certificate : List ℕ) (room : ℕ) (r : Refusal) → efs_key_of (efs_key_bytes sid certificate) ≡ Err r → efs_key_written sid certificate room ≡ Err r
unfolding write_checks
refused_as_read sid certificate room r e = rw (refused_checks _ r e) (refused_written r _ room)

-- Writing what was read from an accepted record gives the same bytes but for Reserved2, which is zero.
pub rewritten : (s : List ℕ) → Bytes s → efs_key_number (efs_key_of s) ≡ 0 → efs_key_bytes (efs_key_part s Sid) (efs_key_part s Certificate) ≡ take 24 s ++ (replicate 8 0 ++ drop 32 s)
unfolding efs_key_bytes le_bytes joined sid_area
rewritten s p z =
    let e = accepted-checks s z in
    let w = checks_well_formed s e in
    let n = certificate_offset s - 28 in
    let m = certificate_length s in
    let sid = sid_area s in
    let certificate = part_of s (32 + n) m in
    let from-0 : 4 + certificate_offset s ≡ 32 + n = omega arith in
    let a = area_length s (passed s e) in
    let b : length certificate ≡ m = length_part s (32 + n) m (omega arith) in
    let number : (x at : ℕ) → x ≡ le_at 4 s at → at ≤ 20 → le_bytes 4 x ≡ part_of s at 4 = λ x at is low. ap (le_bytes 4) is ∙ le_part_back 4 s at p (omega (arith, w.head)) in
    let front : joined (take 6 (pieces sid certificate)) ≡ take 24 s =
    (λ i. joined (number (efs_key_length sid certificate) 0 (omega arith) (omega arith) i ∷ number (efs_key_length sid certificate - 4) 4 (omega arith) (omega arith) i ∷ number _ 8 (sym (area_tells s (passed s e) w.sid)) (omega arith) i ∷ sym w.marked i ∷ number _ 16 b (omega arith) i ∷ number (28 + length sid) 20 (omega arith) (omega arith) i ∷ []))
    ∙ cut-joined s 0 (4 ∷ 4 ∷ 4 ∷ 4 ∷ 4 ∷ 4 ∷ []) (omega arith) ∙ part_in s 0 24 (omega arith)
    in
    let back : joined (sid ∷ certificate ∷ []) ≡ drop 32 s = cut-joined s 32 (n ∷ m ∷ []) (omega arith) ∙ part_in s 32 (n + (m + 0)) (omega arith) ∙ take_all (n + (m + 0)) (drop 32 s) (rw (length-drop 32 s) (omega arith)) in
    rw (sid_is s e, certificate_is s e, from-0) (joined_split (pieces sid certificate) 6 ∙ ap₂ (λ x y. x ++ (replicate 8 0 ++ y)) front back)

-- What was read from an accepted record, the writer accepts.
accepts_read : (s : List ℕ) → efs_key_number (efs_key_of s) ≡ 0
    → (first_of (write_checks (efs_key_part s Sid) (efs_key_part s Certificate)) ≡ Ok tt) × (efs_key_length (efs_key_part s Sid) (efs_key_part s Certificate) ≡ length s)
accepts_read s z =
    let e = accepted-checks s z in
    let w = checks_well_formed s e in
    let sid = sid_area s in
    let certificate = part_of s (4 + certificate_offset s) (certificate_length s) in
    let b = length_part s (4 + certificate_offset s) (certificate_length s) (omega arith) in
    let size : efs_key_length sid certificate ≡ length s = omega (arith, area_length s (passed s e)) in
    let fits : efs_key_length sid certificate ≤ 65535 = omega arith in
    let some : length certificate ≡ 0 → ⊥ = λ none. omega arith in
    rw (sid_is s e, certificate_is s e)
    (write_checks_lem sid certificate ∙ pass_accepted _ (le-ltb 65535 _ fits, (ne_eqb _ 0 some, (rw (← (area_tells s (passed s e) w.sid)) (passed s e).sid, tt))), size)

-- So given room it is written: the same bytes but for Reserved2, then what stood behind them.
pub rewrites : (s out : List ℕ) → Bytes s → efs_key_number (efs_key_of s) ≡ 0 → length s ≤ length out
    → (efs_key_written (efs_key_part s Sid) (efs_key_part s Certificate) (length out) ≡ Ok (length s))
    × (output_of (efs_key_written (efs_key_part s Sid) (efs_key_part s Certificate) (length out)) (efs_key_bytes (efs_key_part s Sid) (efs_key_part s Certificate)) out
    ≡ (take 24 s ++ (replicate 8 0 ++ drop 32 s)) ++ drop (length s) out)
rewrites s out b z room =
    let k = accepts_read s z in
    rw (k.1, ← (rewritten s b z)) (record_written _ out k.0 (length-bytes _ _ ∙ k.1) room)
