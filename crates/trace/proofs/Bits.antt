-- Laws of runs of bits: how far a run goes, a run in two parts, and whole bytes.
use Rattle.lemmas.proofs.Basics.{ℕ, zero, suc, ◌+◌, ◌-◌, ◌*◌, ◌/◌, ◌%◌, ◌^◌, ◌≤◌, ◌<◌, arith, add-zero, add-suc, mul_assoc, pow-suc, pow-succ', div-div-eq-div-mul, add-one, List, ◌++◌, ◌≡◌, refl, ◌∙◌, length, get_or, get_or-append}
use lib.Pow.{mod-pow-add}
use Rattle.wire.specs.Numbers.{le_of, be_of}
use Rattle.wire.specs.Parts.{be_at}
use Rattle.wire.proofs.Numbers.{Bytes, byte_below, be_more}
use Rattle.wire.proofs.Parts.{part_empty}
use Rattle.trace.specs.Bits.{bit_at, bits_of}

-- A number of w bits is below 2 ^ w.
pub bits_below : (s : List ℕ) (place width : ℕ) → bits_of s place width < 2 ^ width
unfolding bits_of bit_at
bits_below s place zero = omega arith
bits_below s place (suc w) = omega (arith, bits_below s place w, pow-suc 2 w)

-- A run in two parts.
pub bits_split : (s : List ℕ) (place a b : ℕ) → bits_of s place (a + b) ≡ 2 ^ b * bits_of s place a + bits_of s (place + a) b
unfolding bits_of
bits_split s place a zero = rw (add-zero a) (omega arith)
bits_split s place a (suc b) =
    let next : place + (a + b) ≡ place + a + b = omega arith in
    rw (add-suc a b, bits_split s place a b, next, pow-succ' 2 b, mul_assoc) (omega arith)

-- A run inside one byte: what stands behind it is divided away, and what stands before it is what is left over.
bit_in : (s : List ℕ) (k j : ℕ) → j < 8 → bit_at s (8 * k + j) ≡ get_or s k 0 / 2 ^ (7 - j) % 2
unfolding bit_at
bit_in s k j h =
    let byte : (8 * k + j) / 8 ≡ k = omega arith in
    let bit : (8 * k + j) % 8 ≡ j = omega arith in
    rw (byte, bit)

pub bits_in : (s : List ℕ) (k i width : ℕ) → i + width ≤ 8 → bits_of s (8 * k + i) width ≡ get_or s k 0 / 2 ^ (8 - (i + width)) % 2 ^ width
unfolding bits_of
bits_in s k i zero h = omega arith
bits_in s k i (suc w) h =
    let place : 8 * k + i + w ≡ 8 * k + (i + w) = omega arith in
    let more : 8 - (i + w) ≡ suc (7 - (i + w)) = omega arith in
    let less : 8 - (i + suc w) ≡ 7 - (i + w) = omega arith in
    let inside : i + w < 8 = omega arith in
    rw (bits_in s k i w (omega arith), place, bit_in s k (i + w) inside, more, less, pow-suc 2 (7 - (i + w)), ← (div-div-eq-div-mul (get_or s k 0) (2 ^ (7 - (i + w))) 2), ← (add-one w), mod-pow-add)
    (omega arith)

-- The bits of whole bytes are the number in those bytes.
pub bits_bytes : (w : ℕ) (s : List ℕ) (at : ℕ) → Bytes s → at + w ≤ length s → bits_of s (8 * at) (8 * w) ≡ be_at w s at
unfolding bits_of be_at be_of le_of
bits_bytes zero s at p h = rw (part_empty s at)
bits_bytes (suc w) s at p h =
    let size : 8 * suc w ≡ 8 * w + 8 = omega arith in
    let next : 8 * at + 8 * w ≡ 8 * (at + w) + 0 = omega arith in
    let whole : bits_of s (8 * (at + w) + 0) 8 ≡ get_or s (at + w) 0 = bits_in s (at + w) 0 8 (omega arith) ∙ omega (arith, byte_below s p (at + w)) in
    rw (size, bits_split s (8 * at) (8 * w) 8, next, whole, bits_bytes w s at p (omega arith), be_more w s at h)

-- Bits of the first of two runs of bytes.
pub bits_first : (s t : List ℕ) (place width : ℕ) → place + width ≤ 8 * length s → bits_of (s ++ t) place width ≡ bits_of s place width
unfolding bits_of bit_at
bits_first s t place zero h = refl
bits_first s t place (suc w) h =
    let inside : (place + w) / 8 < length s = omega arith in
    rw (bits_first s t place w (omega arith), get_or-append s t 0 ((place + w) / 8) inside)
