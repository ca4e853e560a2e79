-- Laws of numbers in bytes, shown once over the width: stored and read back, read and stored, and how far a number goes.
use Rattle.lemmas.proofs.Basics.{ℕ, zero, suc, ◌+◌, ◌*◌, ◌/◌, ◌%◌, ◌^◌, ◌≤◌, ◌<◌, arith, mul_assoc, pow-suc, pow-succ', div-div-eq-div-mul, List, [], ◌∷◌, ◌++◌, ◌≡◌, refl, sym, ap, ◌∙◌, leb, leb-true, leb-false, length, get_or, take, drop, replicate, add-one, drop-cons}
use mathlib.Core.List.{reverse, reverse_aux, reverse-append, reverse-reverse}
use Rattle.std.specs.Array.{IsWholeChunk}
use Rattle.std.specs.Int.{bytes_low_first}
use Rattle.std.specs.Result.{MatchResult, result_unwrap_or}
use Rattle.std.proofs.Common.{Result, Ok, Err}
use Rattle.std.proofs.lemmas.List.{get_or_past}
use mathlib.Core.Logic.{◌≢◌}
use Rattle.wire.specs.Numbers.{le_of, le_bytes, be_of, be_bytes}
use Rattle.wire.specs.Parts.{part_of, le_at, be_at, joined}
use Rattle.lemmas.proofs.Cases.{by_cases, cond_cases}
use Rattle.wire.proofs.Parts.{piece_part, length_part, part_in, part_out, part_next, part_none}

-- each element is a byte
abbrev pub Bytes : List ℕ → Type 0
Bytes [] = Unit {0}
Bytes (b ∷ bs) = (b < 256) × Bytes bs

pub byte_below : (s : List ℕ) → Bytes s → (k : ℕ) → get_or s k 0 < 256
byte_below [] p k = omega arith
byte_below (b ∷ s) p zero = p.0
byte_below (b ∷ s) p (suc k) = byte_below s p.1 k

pub bytes_each : (s : List ℕ) → ((k : ℕ) → get_or s k 0 < 256) → Bytes s
bytes_each [] each = tt
bytes_each (b ∷ s) each = (each 0, bytes_each s (λ k. each (suc k)))

pub length-le_bytes : (w x : ℕ) → length (le_bytes w x) ≡ w
unfolding le_bytes
length-le_bytes zero x = refl
length-le_bytes (suc w) x = ap suc (length-le_bytes w (x / 256))

-- A number stored and read back is the number.
pub le_back : (w x : ℕ) → x < 256 ^ w → le_of (le_bytes w x) ≡ x
unfolding le_of le_bytes
le_back zero x h = omega arith
le_back (suc w) x h = rw (le_back w (x / 256) (omega (arith, pow-suc 256 w))) (omega arith)

-- A number read from bytes and stored gives the bytes.
pub bytes_back : (bs : List ℕ) → Bytes bs → le_bytes (length bs) (le_of bs) ≡ bs
unfolding le_of le_bytes
bytes_back [] p = refl
bytes_back (b ∷ bs) p =
    let low : (b + 256 * le_of bs) % 256 ≡ b = omega (arith, p.0) in
    let high : (b + 256 * le_of bs) / 256 ≡ le_of bs = omega (arith, p.0) in
    rw (low, high, bytes_back bs p.1)

-- A number of w bytes is below 256 ^ w.
pub le_below : (bs : List ℕ) → Bytes bs → le_of bs < 256 ^ length bs
unfolding le_of
le_below [] p = omega arith
le_below (b ∷ bs) p = omega (arith, p.0, le_below bs p.1, pow-suc 256 (length bs))

-- A number below 256 is its first byte, and the others are zero.
le-zero : (bs : List ℕ) → le_of bs ≡ 0 → bs ≡ replicate (length bs) 0
unfolding le_of
le-zero [] e = refl
le-zero (b ∷ bs) e = let low : b ≡ 0 = omega arith in rw low (ap (λ t. 0 ∷ t) (le-zero bs (omega arith)))

pub le_small : (w x : ℕ) (bs : List ℕ) → x < 256 → length bs ≡ suc w → le_of bs ≡ x → bs ≡ x ∷ replicate w 0
unfolding le_of
le_small w x [] h l e = absurd (omega arith)
le_small w x (b ∷ bs) h l e =
    let low : b ≡ x = omega arith in
    let rest : length bs ≡ w = omega arith in
    rw low (ap (λ t. x ∷ t) (le-zero bs (omega arith) ∙ ap (λ n. replicate n 0) rest))

-- A number in two runs of bytes: the first, and the second times what the first can hold.
pub le-append : (bs cs : List ℕ) → le_of (bs ++ cs) ≡ le_of bs + 256 ^ length bs * le_of cs
unfolding le_of
le-append [] cs = omega arith
le-append (b ∷ bs) cs = rw (le-append bs cs, pow-succ' 256 (length bs), mul_assoc) (omega arith)

-- a list by its places
abbrev pub places : ℕ → (ℕ → ℕ) → List ℕ
places zero f = []
places (suc w) f = f 0 ∷ places w (λ k. f (suc k))

pub spelt : (bs : List ℕ) → places (length bs) (λ k. get_or bs k 0) ≡ bs
spelt [] = refl
spelt (b ∷ bs) = ap (λ t. b ∷ t) (spelt bs)

-- a number at a place, from its bytes by their places
pub le_read : (w : ℕ) (s b : List ℕ) (at : ℕ) → le_of b ≡ le_at w s at → length b ≡ w → le_of (places w (λ k. get_or b k 0)) ≡ le_at w s at
le_read w s b at e l = ap le_of (rw l at (spelt b)) ∙ e

pub be_read : (w : ℕ) (s b : List ℕ) (at : ℕ) → be_of b ≡ be_at w s at → length b ≡ w → be_of (places w (λ k. get_or b k 0)) ≡ be_at w s at
be_read w s b at e l = ap be_of (rw l at (spelt b)) ∙ e

-- a byte at a place
pub byte_read : (s : List ℕ) (at : ℕ) → le_at 1 s at ≡ get_or s at 0
unfolding le_at le_of
byte_read s at =
    by_cases (λ _. le_of (part_of s at 1) ≡ get_or s at 0) (leb (at + 1) (length s))
    (λ q. let h = leb-true _ _ q in rw (part_in s at 1 h, drop-cons s at 0 (omega arith)) (omega arith))
    (λ q. let h = leb-false _ _ q in rw (part_out s at 1 h, get_or_past s at 0 (omega arith)))

-- A number that is the k-th piece of a record is read at its place.
pub le_piece : (w : ℕ) (pieces : List (List ℕ)) (k x at : ℕ) → get_or pieces k [] ≡ le_bytes w x → x < 256 ^ w → length (joined (take k pieces)) ≡ at
    → le_at w (joined pieces) at ≡ x
unfolding le_at
le_piece w pieces k x at e h p = ap le_of (piece_part pieces k at w p (ap length e ∙ length-le_bytes w x) ∙ e) ∙ le_back w x h

-- A part of bytes is bytes, so that a number that lies inside, read and stored, gives the part.
bytes_take : (n : ℕ) (s : List ℕ) → Bytes s → Bytes (take n s)
bytes_take zero s b = tt
bytes_take (suc n) [] b = tt
bytes_take (suc n) (x ∷ s) b = (b.0, bytes_take n s b.1)

bytes_drop : (n : ℕ) (s : List ℕ) → Bytes s → Bytes (drop n s)
bytes_drop zero s b = b
bytes_drop (suc n) [] b = tt
bytes_drop (suc n) (x ∷ s) b = bytes_drop n s b.1

pub bytes_part : (s : List ℕ) (at len : ℕ) → Bytes s → Bytes (part_of s at len)
unfolding part_of
bytes_part s at len b = cond_cases Bytes (leb (at + len) (length s)) (λ _. bytes_take len (drop at s) (bytes_drop at s b)) (λ _. tt)

pub le_part_back : (w : ℕ) (s : List ℕ) (at : ℕ) → Bytes s → at + w ≤ length s → le_bytes w (le_at w s at) ≡ part_of s at w
unfolding le_at
le_part_back w s at b h = ap (λ n. le_bytes n (le_of (part_of s at w))) (sym (length_part s at w h)) ∙ bytes_back (part_of s at w) (bytes_part s at w b)

-- A number's bytes as the toolchain's `to_le_bytes` has them.
low_first : (w i x : ℕ) → bytes_low_first i w x ≡ le_bytes w (x / 256 ^ i)
unfolding le_bytes
low_first zero i x = refl
low_first (suc w) zero x =
    let whole : x / 1 ≡ x = omega arith in
    rw (low_first w 1 x, whole)
low_first (suc w) (suc i) x = rw (low_first w (suc (suc i)) x, div-div-eq-div-mul x (256 ^ suc i) 256, pow-suc 256 (suc i))

pub le_stored : (w x : ℕ) → le_bytes w x ≡ bytes_low_first 0 w x
le_stored w x = ap (le_bytes w) (omega arith) ∙ sym (low_first w 0 x)

-- Most significant byte first: one byte more, and a number that lies inside, read and stored, gives the part.
pub be_more : (w : ℕ) (s : List ℕ) (at : ℕ) → at + suc w ≤ length s → be_at (suc w) s at ≡ 256 * be_at w s at + get_or s (at + w) 0
unfolding be_at be_of le_of
be_more w s at h =
    let inside : at + w + 1 ≤ length s = omega arith in
    let here : at + w < length s = omega arith in
    let last : part_of s (at + w) 1 ≡ get_or s (at + w) 0 ∷ [] = part_in s (at + w) 1 inside ∙ ap (take 1) (drop-cons s (at + w) 0 here) in
    rw (← (add-one w), ← (part_next s at w 1 inside), last, reverse-append) (omega arith)

-- a number is 0 in either order of its bytes
zeros_turned : (s t : List ℕ) → le_of s ≡ 0 → le_of t ≡ 0 → le_of (reverse_aux s t) ≡ 0
unfolding le_of
zeros_turned [] t p q = q
zeros_turned (b ∷ s) t p q = zeros_turned s (b ∷ t) (omega arith) (omega arith)

pub le_be_zero : (bs : List ℕ) → le_of bs ≡ 0 → be_of bs ≡ 0
unfolding be_of le_of
le_be_zero bs z = zeros_turned bs [] z refl

pub be_le-zero : (bs : List ℕ) → be_of bs ≡ 0 → le_of bs ≡ 0
unfolding be_of
be_le-zero bs z = ap le_of (sym (reverse-reverse bs)) ∙ le_be_zero (reverse bs) z

reversed : (s t : List ℕ) → Bytes s → Bytes t → Bytes (reverse_aux s t) × (length (reverse_aux s t) ≡ length s + length t)
reversed [] t p q = (q, omega arith)
reversed (b ∷ s) t p q = let rest = reversed s (b ∷ t) p.1 (p.0, q) in (rest.0, rest.1 ∙ omega arith)

pub be_part_back : (w : ℕ) (s : List ℕ) (at : ℕ) → Bytes s → at + w ≤ length s → be_bytes w (be_at w s at) ≡ part_of s at w
unfolding be_at be_of be_bytes
be_part_back w s at b h =
    let p = part_of s at w in
    let turned = reversed p [] (bytes_part s at w b) tt in
    let size : length (reverse p) ≡ w = omega (arith, turned.1, length_part s at w h) in
    ap reverse (ap (λ n. le_bytes n (le_of (reverse p))) (sym size) ∙ bytes_back (reverse p) turned.0) ∙ reverse-reverse p

-- Bytes that are the part at a place, or zeros where that lies outside, have the part's number, in either order.
le_zeros : (n : ℕ) → le_of (replicate n 0) ≡ 0
unfolding le_of
le_zeros zero = refl
le_zeros (suc n) = rw (le_zeros n)

part_or_zeros : {E : Type 0} (f : List ℕ → ℕ) (s p : List ℕ) (at n : ℕ) (r : Result (List ℕ) E) → f (replicate n 0) ≡ f [] → p ≡ part_of s at n
    → MatchResult r (λ y. IsWholeChunk p y n) (λ _. length p ≢ n) → f (result_unwrap_or r (replicate n 0)) ≡ f (part_of s at n)
part_or_zeros f s p at n (Ok y) zeros is got = ap f (got.same ∙ is)
part_or_zeros f s p at n (Err e) zeros is got = zeros ∙ ap f (sym (part_none s p at n is got))

pub le_or_zeros : {E : Type 0} (s p : List ℕ) (at n : ℕ) (r : Result (List ℕ) E) → p ≡ part_of s at n
    → MatchResult r (λ y. IsWholeChunk p y n) (λ _. length p ≢ n) → le_of (result_unwrap_or r (replicate n 0)) ≡ le_at n s at
unfolding le_at le_of
le_or_zeros s p at n r is got = part_or_zeros le_of s p at n r (le_zeros n) is got

pub be_or_zeros : {E : Type 0} (s p : List ℕ) (at n : ℕ) (r : Result (List ℕ) E) → p ≡ part_of s at n
    → MatchResult r (λ y. IsWholeChunk p y n) (λ _. length p ≢ n) → be_of (result_unwrap_or r (replicate n 0)) ≡ be_at n s at
unfolding be_at be_of le_of
be_or_zeros s p at n r is got = part_or_zeros be_of s p at n r (le_be_zero (replicate n 0) (le_zeros n)) is got
