-- Laws of the writer: its bytes as they are put, and what they read as.
use Rattle.lemmas.proofs.Basics.{ℕ, ◌+◌, ◌*◌, ◌/◌, ◌%◌, ◌^◌, ◌≤◌, ◌<◌, arith, not, List, [], ◌∷◌, ◌++◌, append-nil, ◌≡◌, refl, sym, ap, ◌∙◌, length, get_or, take, le-ltb, ltb-false, eq-eqb}
use Rattle.std.specs.Prelude.{Ok}
use Rattle.refusal.specs.Chain.{first_of}
use Rattle.lemmas.proofs.Cases.{false-or}
use Rattle.refusal.proofs.Chains.{accepted_pass, first_next, first_after}
use Rattle.wire.specs.Numbers.{le_of, le_bytes}
use Rattle.wire.specs.Parts.{le_at, part_of, joined, le32_bytes}
use Rattle.wire.proofs.Numbers.{bytes_back, le_piece}
use Rattle.wire.proofs.Parts.{part_right}
use Rattle.wire.proofs.Writing.{length-joined, length-le32_bytes, le32s_read}
use Rattle.segment.specs.declared.Head.{Head}
use Rattle.segment.specs.Layout.{length_field, zero_bytes, unit_shift, chunk_shift, cluster_shift, one_byte, block_count, size_at, head_of}
use Rattle.segment.specs.Reading.{segment_checks}
use Rattle.segment.specs.Writing.{segment_length, pieces, segment_bytes, write_checks}
use Rattle.segment.proofs.Reading.{shifts_are}

-- the shifts, where each is a byte, as numbers of four bytes: with the two zero bytes before them, and with 01 and the block count behind
abbrev pub first_shifts : Head → ℕ
first_shifts h = 65536 * h.shifts.unit + 16777216 * h.shifts.chunk

abbrev pub last_shift : Head → ℕ → ℕ
last_shift h blocks = h.shifts.cluster + 256 + 65536 * blocks

-- the numbers between the start offset and the sizes
abbrev pub middle : Head → List ℕ → List ℕ
middle h sizes = segment_length sizes ∷ h.bytes_in_stream ∷ h.bytes_in_vdl ∷ first_shifts h ∷ last_shift h (length sizes) ∷ []

-- what is accepted fits: its length, and each shift in a byte
pub record Fits (h : Head) (sizes : List ℕ) : Type 0 where
  pub limit : segment_length sizes ≤ 65535
  pub unit : h.shifts.unit ≤ 31
  pub chunk : h.shifts.chunk ≡ h.shifts.unit
  pub cluster : h.shifts.cluster ≤ 31

pub fits : (h : Head) (sizes : List ℕ) → first_of (write_checks h sizes) ≡ Ok tt → Fits h sizes
unfolding write_checks
fits h sizes e =
    let p = accepted_pass (write_checks h sizes) e in
    let shifts = shifts_are _ _ _ p.1.0 in
    record { limit = ltb-false 65535 _ p.0; unit = shifts.1; chunk = shifts.0; cluster = shifts.2 }

first_bytes : (unit chunk : ℕ) → unit ≤ 31 → chunk ≤ 31 → le_bytes 4 (65536 * unit + 16777216 * chunk) ≡ 0 ∷ 0 ∷ (le_bytes 1 unit ++ le_bytes 1 chunk)
unfolding le_bytes le_of
first_bytes unit chunk p q =
    let sum : 65536 * unit + 16777216 * chunk ≡ le_of (0 ∷ 0 ∷ unit ∷ chunk ∷ []) = omega arith in
    let low : unit % 256 ≡ unit = omega arith in
    let high : chunk % 256 ≡ chunk = omega arith in
    ap (le_bytes 4) sum ∙ bytes_back (0 ∷ 0 ∷ unit ∷ chunk ∷ []) (omega arith, (omega arith, (omega arith, (omega arith, tt)))) ∙ rw (low, high)

last-bytes : (cluster blocks : ℕ) → cluster ≤ 31 → blocks ≤ 65535 → le_bytes 4 (cluster + 256 + 65536 * blocks) ≡ le_bytes 1 cluster ++ (1 ∷ le_bytes 2 blocks)
unfolding le_bytes le_of
last-bytes cluster blocks p q =
    let sum : cluster + 256 + 65536 * blocks ≡ le_of (cluster ∷ 1 ∷ blocks % 256 ∷ blocks / 256 ∷ []) = omega arith in
    let low : cluster % 256 ≡ cluster = omega arith in
    let high : blocks / 256 % 256 ≡ blocks / 256 = omega arith in
    ap (le_bytes 4) sum ∙ bytes_back (cluster ∷ 1 ∷ blocks % 256 ∷ blocks / 256 ∷ []) (omega arith, (omega arith, (omega arith, (omega arith, tt)))) ∙ rw (low, high)

-- The record is its start offset, the numbers of four bytes behind it, and the sizes.
pub bytes_are : (h : Head) (sizes : List ℕ) → Fits h sizes → segment_bytes h sizes ≡ (le_bytes 8 h.start_offset ++ le32_bytes (middle h sizes)) ++ le32_bytes sizes
unfolding segment_bytes joined le_bytes le32_bytes
bytes_are h sizes f =
    let front = first_bytes h.shifts.unit h.shifts.chunk f.unit (omega (arith, f.unit, f.chunk)) in
    let back = last-bytes h.shifts.cluster (length sizes) f.cluster (omega (arith, f.limit)) in
    sym (λ i. le_bytes 8 h.start_offset ++ (le_bytes 4 (segment_length sizes) ++ (le_bytes 4 h.bytes_in_stream ++ (le_bytes 4 h.bytes_in_vdl ++ (front i ++ (back i ++ sym (append-nil (le32_bytes sizes)) i))))))

pub length-bytes : (h : Head) (sizes : List ℕ) → length (segment_bytes h sizes) ≡ segment_length sizes
unfolding segment_bytes le_bytes
length-bytes h sizes = length-joined (pieces h sizes) ∙ omega (arith, length-le32_bytes sizes)

-- The numbers that are given are as wide as their fields, but for the shifts.
pub record Wide (h : Head) (sizes : List ℕ) : Type 0 where
  pub start : h.start_offset < 2 ^ 64
  pub stream : h.bytes_in_stream < 2 ^ 32
  pub vdl : h.bytes_in_vdl < 2 ^ 32
  pub each : (k : ℕ) → k < length sizes → get_or sizes k 0 < 2 ^ 32

-- What the numbers read as: Length and the count where the record is within the limit, a shift where it is a byte.
module _ (h : Head) (sizes : List ℕ) where
  pub is_length : segment_length sizes ≤ 65535 → length_field (segment_bytes h sizes) ≡ segment_length sizes
  unfolding segment_bytes joined le_bytes
  is_length limit = le_piece 4 (pieces h sizes) 1 (segment_length sizes) 8 refl (omega arith) refl

  is_marks : (zero_bytes (segment_bytes h sizes) ≡ 0) × (one_byte (segment_bytes h sizes) ≡ 1)
  unfolding segment_bytes joined le_bytes
  is_marks = (le_piece 2 (pieces h sizes) 4 0 20 refl (omega arith) refl, le_piece 1 (pieces h sizes) 8 1 25 refl (omega arith) refl)

  pub is_unit : h.shifts.unit < 256 → unit_shift (segment_bytes h sizes) ≡ h.shifts.unit
  unfolding segment_bytes joined le_bytes
  is_unit small = le_piece 1 (pieces h sizes) 5 _ 22 refl small refl

  is_chunk : h.shifts.chunk < 256 → chunk_shift (segment_bytes h sizes) ≡ h.shifts.chunk
  unfolding segment_bytes joined le_bytes
  is_chunk small = le_piece 1 (pieces h sizes) 6 _ 23 refl small refl

  is_cluster : h.shifts.cluster < 256 → cluster_shift (segment_bytes h sizes) ≡ h.shifts.cluster
  unfolding segment_bytes joined le_bytes
  is_cluster small = le_piece 1 (pieces h sizes) 7 _ 24 refl small refl

  pub is_count : segment_length sizes ≤ 65535 → block_count (segment_bytes h sizes) ≡ length sizes
  unfolding segment_bytes joined le_bytes
  is_count limit = le_piece 2 (pieces h sizes) 9 (length sizes) 26 refl (omega arith) refl

  pub is_size : (k : ℕ) → k < length sizes → get_or sizes k 0 < 2 ^ 32 → size_at (segment_bytes h sizes) k ≡ get_or sizes k 0
  unfolding size_at le_at segment_bytes joined le_bytes
  is_size k inside small =
      ap le_of (part_right (joined (take 10 (pieces h sizes))) (le32_bytes sizes ++ []) (4 * k) 4 ∙ ap (λ t. part_of t (4 * k) 4) (append-nil (le32_bytes sizes)))
      ∙ le32s_read sizes k inside small

-- The head reads back as given.
pub is_head : (h : Head) (sizes : List ℕ) → Fits h sizes → Wide h sizes → head_of (segment_bytes h sizes) ≡ h
unfolding head_of segment_bytes joined le_bytes
is_head h sizes f wide = λ i. record {
  start_offset = le_piece 8 (pieces h sizes) 0 _ 0 refl wide.start refl i;
  bytes_in_stream = le_piece 4 (pieces h sizes) 2 _ 12 refl wide.stream refl i;
  bytes_in_vdl = le_piece 4 (pieces h sizes) 3 _ 16 refl wide.vdl refl i;
  shifts = record {
    unit = is_unit h sizes (omega (arith, f.unit)) i;
    chunk = is_chunk h sizes (omega (arith, f.unit, f.chunk)) i;
    cluster = is_cluster h sizes (omega (arith, f.cluster)) i;
  };
}

-- Where each shift is a byte, the writer refuses what the reader would refuse of the bytes, by the same number.
pub as_read : (h : Head) (sizes : List ℕ) → h.shifts.unit < 256 → h.shifts.chunk < 256 → h.shifts.cluster < 256
    → first_of (write_checks h sizes) ≡ first_of (segment_checks (segment_bytes h sizes))
unfolding write_checks segment_checks
as_read h sizes unit chunk cluster =
    rw (length-bytes h sizes) (first_after _ _ _ _ (λ q. let limit = ltb-false 65535 (segment_length sizes) q in
    let marks = is_marks h sizes in
    rw (is_length h sizes limit, is_count h sizes limit, marks.0, marks.1, is_unit h sizes unit, is_chunk h sizes chunk, is_cluster h sizes cluster)
    (sym (first_next _ _ _ (le-ltb (segment_length sizes) 28 (omega arith))
    ∙ first_next _ _ _ (false-or (ap not (eq-eqb (segment_length sizes) _ refl)) (le-ltb (segment_length sizes) (segment_length sizes) (omega arith)))
    ∙ first_next _ _ _ refl))))
