-- Laws of the blocks: a size read from its own four bytes, one block more that is counted, the count by the sizes as they are asked
-- for, and what follows the sizes.
use Rattle.lemmas.proofs.Basics.{ℕ, ◌+◌, ◌-◌, ◌*◌, ◌^◌, ◌≤◌, ◌<◌, arith, add-zero, add-one, Bool, true, false, cond, List, ◌++◌, ◌≡◌, refl, sym, ap, ap₂, ◌∙◌, ltb, length, take, drop, length-append, lt-ltb, le-ltb, ltb-true}
use Rattle.std.specs.Prelude.{Result, Ok, Err, Option, None, Some}
use Rattle.refusal.specs.declared.Refusal.{Refusal}
use Rattle.lemmas.proofs.Cases.{by_cases}
use Rattle.lemmas.specs.Counting.{bit, count}
use Rattle.lemmas.proofs.Counting.{count_is, count_parts, count_none}
use Rattle.refusal.specs.Chain.{first_of, unless_refused}
use Rattle.wire.specs.Numbers.{le_of}
use Rattle.wire.specs.Parts.{le_at}
use Rattle.wire.proofs.Parts.{part_left, number_within}
use Rattle.segment.specs.declared.Segment.{Segment}
use Rattle.segment.specs.Layout.{unit_shift, block_count, size_at, head_of, length_for, larger_than}
use Rattle.segment.specs.Reading.{segment_checks, shown, segment_of, size_of}
use Rattle.segment.proofs.Reading.{accepted-shown}

pub size_in : (s : List ℕ) (k : ℕ) → 28 + 4 * k + 4 ≤ length s → le_at 4 (take (28 + 4 * k + 4 - (28 + 4 * k)) (drop (28 + 4 * k) s)) 0 ≡ size_at s k
unfolding size_at
size_in s k inside = number_within 4 s (28 + 4 * k) 4 0 inside (omega arith) ∙ ap (le_at 4 s) (add-zero (28 + 4 * k))

pub one_larger : (unit k : ℕ) (size : ℕ → ℕ) {x : ℕ} → x ≡ size k → unit < x → larger_than unit k size + 1 ≡ larger_than unit (k + 1) size
unfolding count bit
one_larger unit k size is more = rw (add-one k, ← is, lt-ltb unit _ more)

pub not_larger : (unit k : ℕ) (size : ℕ → ℕ) {x : ℕ} → x ≡ size k → x ≤ unit → larger_than unit k size ≡ larger_than unit (k + 1) size
unfolding count bit
not_larger unit k size is less = rw (add-one k, ← is, le-ltb unit _ less) (omega arith)

-- whether the size of a block, as it is asked for, is larger than the data unit
unfoldable pub is_larger : ℕ → Result (Option ℕ) Refusal → Bool
is_larger unit (Ok (Some n)) = ltb unit n
is_larger unit (Ok None) = false
is_larger unit (Err r) = false

-- The larger blocks that an accepted header shows are counted by the sizes as they are asked for, at every index from 0 on.
pub larger_asked : (s : List ℕ) (t : Segment) → segment_of s ≡ Ok t → (more : ℕ)
    → t.larger ≡ count (t.blocks + more) (λ k. is_larger (2 ^ t.head.shifts.unit) (size_of s k))
unfolding size_of unless_refused is_larger shown head_of
larger_asked s t e more =
    let told = accepted-shown s t e in
    let n = block_count s in
    let unit = 2 ^ unit_shift s in
    let asked : ℕ → Bool = λ k. is_larger unit (size_of s k) in
    let inside : larger_than unit n (size_at s) ≡ count n asked = count_is n (λ k h. rw (told.0, lt-ltb k n h)) in
    let beyond : count more (λ k. asked (n + k)) ≡ 0 = count_none more (λ k. rw (told.0, le-ltb (n + k) n (omega arith))) in
    rw told.1 (inside ∙ sym (count_parts n more asked ∙ omega (arith, beyond)))

-- Bytes after the sizes are ignored: headers of one length that agree up to the end of the sizes read the same, and so does each size.
module _ (a b c : List ℕ) (same : length b ≡ length c) (end : length_for (block_count (a ++ b)) ≤ length a) where
  number : (w at : ℕ) → at + w ≤ length a → le_at w (a ++ b) at ≡ le_at w (a ++ c) at
  unfolding le_at
  number w at low = ap le_of (part_left a b at w low ∙ sym (part_left a c at w low))

  same_size : (k : ℕ) → k < block_count (a ++ c) → size_at (a ++ b) k ≡ size_at (a ++ c) k
  unfolding size_at
  same_size k inside = number 4 (28 + 4 * k) (omega (arith, number 2 26 (omega arith)))

  same-checks : segment_checks (a ++ b) ≡ segment_checks (a ++ c)
  unfolding segment_checks
  same-checks = rw (length-append a b ∙ ap (λ n. length a + n) same ∙ sym (length-append a c), number 4 8 (omega arith), number 2 26 (omega arith), number 2 20 (omega arith), number 1 25 (omega arith), number 1 22 (omega arith), number 1 23 (omega arith), number 1 24 (omega arith))

  same-shown : shown (a ++ b) ≡ shown (a ++ c)
  unfolding shown head_of
  same-shown = rw (number 8 0 (omega arith), number 4 8 (omega arith), number 4 12 (omega arith), number 4 16 (omega arith), number 1 22 (omega arith), number 1 23 (omega arith), number 1 24 (omega arith), number 2 26 (omega arith), count_is (block_count (a ++ c)) (λ k inside. ap (ltb (2 ^ unit_shift (a ++ c))) (same_size k inside)))

  pub ignored : segment_of (a ++ b) ≡ segment_of (a ++ c)
  unfolding segment_of
  ignored = ap₂ (λ checks t. unless_refused Err (first_of checks) (Ok t)) same-checks same-shown

  pub ignored_size : (k : ℕ) → size_of (a ++ b) k ≡ size_of (a ++ c) k
  unfolding size_of
  ignored_size k =
      let told : Bool → ℕ → Result (Option ℕ) Refusal = λ there size. cond there (Ok (Some size)) (Ok None) in
      rw (same-checks, number 2 26 (omega arith))
      (ap (unless_refused Err (first_of (segment_checks (a ++ c))))
      (by_cases (λ t. told t (size_at (a ++ b) k) ≡ told t (size_at (a ++ c) k)) (ltb k (block_count (a ++ c)))
      (λ q. ap (told true) (same_size k (ltb-true k _ q)))
      (λ _. refl)))
