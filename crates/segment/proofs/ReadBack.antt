-- What the writer accepted reads back as given, each size; and writing what was read gives the same bytes exactly if nothing followed
-- the sizes.
use Rattle.lemmas.proofs.Basics.{ℕ, zero, suc, ◌+◌, ◌*◌, ◌^◌, ◌≤◌, ◌<◌, arith, List, [], ◌∷◌, ◌++◌, ◌≡◌, refl, sym, ap, ◌∙◌, ltb, length, get_or, take, drop, le-ltb, lt-ltb, ltb-false}
use Rattle.std.specs.Prelude.{Ok, None, Some}
use Rattle.lemmas.proofs.Counting.{count_is}
use Rattle.refusal.specs.Chain.{first_of, unless_refused}
use Rattle.refusal.proofs.Chains.{pass_accepted}
use Rattle.wire.specs.Numbers.{le_bytes}
use Rattle.wire.specs.Parts.{part_of, le_at, joined, le32_bytes}
use Rattle.wire.proofs.Parts.{part_next, part_whole, piece_part, cut-joined}
use Rattle.wire.proofs.Numbers.{Bytes, places, le_part_back}
use Rattle.wire.proofs.Writing.{length-le32_bytes, le32s_back}
use Rattle.records.specs.Writing.{output_of}
use Rattle.records.proofs.Laws.{written_record, record_written}
use Rattle.segment.specs.declared.Head.{Head}
use Rattle.segment.specs.Layout.{block_count, size_at, head_of, length_for, larger_than}
use Rattle.segment.specs.Reading.{segment_checks, shown, segment_of, segment_number, segment_values, segment_part, size_of}
use Rattle.segment.specs.Writing.{segment_length, pieces, segment_bytes, write_checks, segment_written}
use Rattle.segment.proofs.Reading.{accepted-checks, passed, accepted_fits}
use Rattle.segment.proofs.ExactlyWhen.{accepted_well_formed}
use Rattle.segment.proofs.Writing.{Wide, fits, length-bytes, as_read, is_head, is_length, is_unit, is_count, is_size}

-- a header that reads as these numbers and sizes
pub record ReadsBack (s : List ℕ) (h : Head) (sizes : List ℕ) : Type 0 where
  pub values : segment_of s
      ≡ Ok (record {
        head = h;
        length = segment_length sizes;
        blocks = length sizes;
        sizes = record { at = 28; len = 4 * length sizes };
        larger = larger_than (2 ^ h.shifts.unit) (length sizes) (λ k. get_or sizes k 0);
      })
  pub each : (k : ℕ) → k < length sizes → size_of s k ≡ Ok (Some (get_or sizes k 0))
  pub beyond : (k : ℕ) → length sizes ≤ k → size_of s k ≡ Ok None
  pub sizes-bytes : segment_part s ≡ le32_bytes sizes

-- What the writer accepts reads back as given.
pub reads_back : (h : Head) (sizes : List ℕ) → Wide h sizes → first_of (write_checks h sizes) ≡ Ok tt → ReadsBack (segment_bytes h sizes) h sizes
unfolding segment_of size_of unless_refused shown segment_values segment_bytes joined le_bytes
reads_back h sizes wide accepted =
    let s = segment_bytes h sizes in
    let f = fits h sizes accepted in
    let checks : first_of (segment_checks s) ≡ (Ok tt) = sym (as_read h sizes (omega (arith, f.unit)) (omega (arith, f.unit, f.chunk)) (omega (arith, f.cluster))) ∙ accepted in
    let count = is_count h sizes f.limit in
    let read : (k : ℕ) → k < length sizes → size_at s k ≡ get_or sizes k 0 = λ k inside. is_size h sizes k inside (wide.each k inside) in
    let larger : larger_than (2 ^ h.shifts.unit) (length sizes) (size_at s) ≡ larger_than (2 ^ h.shifts.unit) (length sizes) (λ k. get_or sizes k 0) =
    count_is (length sizes) (λ k inside. ap (ltb (2 ^ h.shifts.unit)) (read k inside))
    in
    record {
      values = rw (checks, is_head h sizes f wide, is_length h sizes f.limit, count, is_unit h sizes (omega (arith, f.unit)), larger);
      each = λ k inside. rw (checks, count, lt-ltb k (length sizes) inside, read k inside);
      beyond = λ k past. rw (checks, count, le-ltb k (length sizes) past);
      sizes-bytes = rw (checks, count) (piece_part (pieces h sizes) 10 28 (4 * length sizes) refl (length-le32_bytes sizes));
    }

-- So do the first n bytes of the output, where the writer answers n.
pub written_reads_back : (h : Head) (sizes out : List ℕ) (n : ℕ) → Wide h sizes → segment_written h sizes (length out) ≡ Ok n
    → ReadsBack (take n (output_of (Ok n) (segment_bytes h sizes) out)) h sizes
written_reads_back h sizes out n wide e =
    let told = written_record (segment_bytes h sizes) out n (length-bytes h sizes) e in
    rw told.1 (reads_back h sizes wide told.0)

-- the sizes as they are read, in their order
abbrev pub sizes_in : List ℕ → List ℕ
sizes_in s = places (block_count s) (size_at s)

length_places : (n : ℕ) (f : ℕ → ℕ) → length (places n f) ≡ n
length_places zero f = refl
length_places (suc n) f = ap suc (length_places n (λ k. f (suc k)))

-- Writing what was read gives the same bytes up to the end of the sizes, but for Length, which is derived anew.
pub rewritten : (s : List ℕ) → Bytes s → segment_number (segment_of s) ≡ 0
    → segment_bytes (head_of s) (sizes_in s) ≡ part_of s 0 8 ++ (le_bytes 4 (length_for (block_count s)) ++ part_of s 12 (16 + 4 * block_count s))
unfolding segment_bytes head_of joined size_at
rewritten s b z =
    let w = accepted_well_formed s z in
    let n = block_count s in
    let inside : 28 + 4 * n ≤ length s = (accepted_fits s (accepted-checks s z)).1 in
    let number : (width at : ℕ) → at + width ≤ 28 → le_bytes width (le_at width s at) ≡ part_of s at width = λ width at low. le_part_back width s at b (omega (arith, w.head)) in
    let count = length_places n (size_at s) in
    let widths : List ℕ = 4 ∷ 4 ∷ 2 ∷ 1 ∷ 1 ∷ 1 ∷ 1 ∷ 2 ∷ 4 * n ∷ [] in
    let sum : 4 + (4 + (2 + (1 + (1 + (1 + (1 + (2 + (4 * n + 0)))))))) ≡ 16 + 4 * n = omega arith in
    (λ i. joined (number 8 0 (omega arith) i ∷ le_bytes 4 (length_for (count i)) ∷ number 4 12 (omega arith) i ∷ number 4 16 (omega arith) i ∷ sym w.zeros i ∷ number 1 22 (omega arith) i ∷ number 1 23 (omega arith) i ∷ number 1 24 (omega arith) i ∷ sym w.one i ∷ (ap (le_bytes 2) count ∙ number 2 26 (omega arith)) i ∷ le32s_back n s 28 b inside i ∷ []))
    ∙ ap (λ t. part_of s 0 8 ++ (le_bytes 4 (length_for n) ++ t)) (cut-joined s 12 widths (omega arith) ∙ ap (part_of s 12) sum)

-- They are the same bytes exactly if nothing followed the sizes.
pub rewritten_same : (s : List ℕ) → Bytes s → segment_number (segment_of s) ≡ 0 → length_for (block_count s) ≡ length s → segment_bytes (head_of s) (sizes_in s) ≡ s
rewritten_same s b z nothing =
    let w = accepted_well_formed s z in
    let n = block_count s in
    let own : le_bytes 4 (length_for n) ≡ part_of s 8 4 = ap (le_bytes 4) (nothing ∙ sym w.length_is) ∙ le_part_back 4 s 8 b (omega (arith, w.head)) in
    let all : 8 + (4 + (16 + 4 * n)) ≡ length s = omega arith in
    rewritten s b z
    ∙ ap (λ t. part_of s 0 8 ++ (t ++ part_of s 12 (16 + 4 * n))) own
    ∙ ap (λ t. part_of s 0 8 ++ t) (part_next s 8 4 (16 + 4 * n) (omega arith))
    ∙ part_next s 0 8 (4 + (16 + 4 * n)) (omega arith)
    ∙ ap (part_of s 0) all ∙ part_whole s

pub same_rewritten : (s : List ℕ) → segment_bytes (head_of s) (sizes_in s) ≡ s → length_for (block_count s) ≡ length s
same_rewritten s e = ap length_for (sym (length_places (block_count s) (size_at s))) ∙ sym (length-bytes (head_of s) (sizes_in s)) ∙ ap length e

-- What was read from an accepted header, the writer accepts; so given room it is written.
pub rewrites : (s out : List ℕ) → segment_number (segment_of s) ≡ 0 → length_for (block_count s) ≤ length out
    → (segment_written (head_of s) (sizes_in s) (length out) ≡ Ok (length_for (block_count s)))
    × (output_of (segment_written (head_of s) (sizes_in s) (length out)) (segment_bytes (head_of s) (sizes_in s)) out ≡ segment_bytes (head_of s) (sizes_in s) ++ drop (length_for (block_count s)) out)
unfolding write_checks head_of
rewrites s out z room =
    let e = accepted-checks s z in
    let count = length_places (block_count s) (size_at s) in
    let size : segment_length (sizes_in s) ≤ length s = omega (arith, count, (accepted_fits s e).1) in
    let limit : segment_length (sizes_in s) ≤ 65535 = omega (arith, ltb-false 65535 (length s) (passed s e).limit) in
    let accepted = pass_accepted (write_checks (head_of s) (sizes_in s)) (le-ltb 65535 _ limit, ((passed s e).shifts, tt)) in
    let bytes = segment_bytes (head_of s) (sizes_in s) in
    let told = record_written bytes out accepted (length-bytes (head_of s) (sizes_in s)) (omega (arith, count, room)) in
    (told.0 ∙ ap (λ n. Ok (length_for n)) count, told.1 ∙ ap (λ n. bytes ++ drop (length_for n) out) count)
