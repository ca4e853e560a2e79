-- Laws of bytes put into a lent part.
use Rattle.lemmas.proofs.Basics.{ℕ, zero, suc, ◌+◌, ◌-◌, ◌*◌, ◌^◌, ◌≤◌, ◌<◌, arith, List, [], ◌∷◌, ◌++◌, map, append-nil, append_assoc, ◌≡◌, refl, sym, ap, ap₂, ◌∙◌, leb, length, get_or, take, drop, length-append, length-drop, drop_of_length-le, length-take-le, take_at, drop_at, drop-drop, le-leb, lt-leb, leb-true, leb-false}
use borrow.Rule.Slice.PartMut.{mid_of, put_mid}
use Rattle.lemmas.proofs.Cases.{by_cases}
use Rattle.wire.specs.Numbers.{le_of, le_bytes}
use Rattle.wire.specs.Parts.{part_of, le_at, onto, joined, le32_bytes}
use Rattle.wire.proofs.Numbers.{Bytes, places, length-le_bytes, le_back, le_part_back}
use Rattle.wire.proofs.Parts.{part_empty, part_piece, part_right, part_next, joined-append}

pub onto_in : (bs s : List ℕ) → length bs ≤ length s → onto bs s ≡ bs ++ drop (length bs) s
unfolding onto
onto_in bs s h = rw (le-leb (length bs) (length s) h)

pub onto_out : (bs s : List ℕ) → length s < length bs → onto bs s ≡ s
unfolding onto
onto_out bs s h = rw (lt-leb (length bs) (length s) h)

-- A lent part keeps its length.
pub length-onto : (bs s : List ℕ) → length (onto bs s) ≡ length s
length-onto bs s =
    by_cases (λ _. length (onto bs s) ≡ length s) (leb (length bs) (length s))
    (λ q. let h = leb-true _ _ q in rw (onto_in bs s h, length-append, length-drop) (omega arith))
    (λ q. rw (onto_out bs s (leb-false _ _ q)))

-- Bytes that fill the part whole.
pub onto-whole : (bs s : List ℕ) → length bs ≡ length s → onto bs s ≡ bs
onto-whole bs s h = onto_in bs s (omega arith) ∙ ap (λ t. bs ++ t) (drop_of_length-le s {i = length bs} (omega arith)) ∙ append-nil bs

-- Of what was put at the start: that part is those bytes, and the rest is as it was.
pub take-onto : (bs s : List ℕ) → length bs ≤ length s → take (length bs) (onto bs s) ≡ bs
take-onto bs s h = rw (onto_in bs s h) (take_at bs (drop (length bs) s) (length bs) refl)

pub drop-onto : (bs s : List ℕ) → length bs ≤ length s → drop (length bs) (onto bs s) ≡ drop (length bs) s
drop-onto bs s h = rw (onto_in bs s h) (drop_at bs (drop (length bs) s) (length bs) refl)

-- A record so far, `done`, at the start of s; the part of it from a to e is lent, bs is put there, and the part comes back:
-- the record is `done`, then bs.
pub lent : (done bs s : List ℕ) (a e : ℕ) {now last : List ℕ} → now ≡ onto done s → length done ≡ a → a + length bs ≡ e → e ≤ length s
    → last ≡ onto bs (mid_of a (e - a) now) → put_mid a (e - a) now last ≡ onto (done ++ bs) s
lent done bs s a e {now} {last} n p b h l =
    let so_far : now ≡ done ++ drop a s = n ∙ onto_in done s (omega arith) ∙ ap (λ k. done ++ drop k s) p in
    let before : take a now ≡ done = ap (take a) so_far ∙ take_at done (drop a s) a p in
    let behind : drop a now ≡ drop a s = ap (drop a) so_far ∙ drop_at done (drop a s) a p in
    let size : length bs ≡ length (mid_of a (e - a) now) = rw (behind, length-take-le (e - a) (drop a s) (rw length-drop (omega arith))) (omega arith) in
    let put : last ≡ bs = l ∙ onto-whole bs _ size in
    let whole : length (done ++ bs) ≡ e = length-append done bs ∙ omega arith in
    let end : a + (e - a) ≡ e = omega arith in
    rw (before, put, behind, drop-drop (e - a) a s, end, onto_in (done ++ bs) s (omega arith), whole, append_assoc)

-- Nothing put changes nothing.
pub onto-none : (s : List ℕ) → onto [] s ≡ s
onto-none s = onto_in [] s (omega arith)

-- Two bodies, each put into its own part of s, one behind the other. This law and the two behind it are cited by no proof: they stand, since the
-- documents named them.
pub lent_two : (a b s : List ℕ) {put last : List ℕ} → length a + length b ≤ length s → put ≡ onto a (mid_of 0 (length a - 0) s)
    → last ≡ onto b (mid_of (length a) (length a + length b - length a) (put_mid 0 (length a - 0) s put))
    → put_mid (length a) (length a + length b - length a) (put_mid 0 (length a - 0) s put) last ≡ onto (a ++ b) s
lent_two a b s h first second = lent a b s (length a) (length a + length b) (lent [] a s 0 (length a) (sym (onto-none s)) refl (omega arith) (omega arith) first) refl refl h second

-- A record so far, `done`, and two bodies put behind it into one lent part.
pub lent_pair : (done a b s : List ℕ) (n : ℕ) {now last : List ℕ} → now ≡ onto done s → length done ≡ n → n + length a + length b ≤ length s
    → last ≡ onto (a ++ b) (mid_of n (n + length a + length b - n) now)
    → (put_mid n (n + length a + length b - n) now last ≡ onto (done ++ (a ++ b)) s) × (length (done ++ (a ++ b)) ≡ n + length a + length b)
lent_pair done a b s n so_far size h put =
    let two : n + length (a ++ b) ≡ n + length a + length b = ap (λ m. n + m) (length-append a b) ∙ omega arith in
    (lent done (a ++ b) s n (n + length a + length b) so_far size two h put, length-append done (a ++ b) ∙ ap (λ m. m + length (a ++ b)) size ∙ two)

-- and a part of that length has room for them
pub pair-room : (n a b : ℕ) → a + b ≤ n + a + b - n
pair-room n a b = omega arith

-- Numbers one after the other: their length, and one more of them.
pub length-le32_bytes : (xs : List ℕ) → length (le32_bytes xs) ≡ 4 * length xs
unfolding le32_bytes joined
length-le32_bytes [] = refl
length-le32_bytes (x ∷ xs) = rw (length-append, length-le_bytes, length-le32_bytes xs) (omega arith)

pub le32_bytes_next : (xs : List ℕ) (i : ℕ) → i < length xs → le32_bytes (take (suc i) xs) ≡ le32_bytes (take i xs) ++ le_bytes 4 (get_or xs i 0)
unfolding le32_bytes joined
le32_bytes_next (x ∷ xs) zero h = append-nil (le_bytes 4 x)
le32_bytes_next (x ∷ xs) (suc i) h = ap (λ t. le_bytes 4 x ++ t) (le32_bytes_next xs i (omega arith)) ∙ sym (append_assoc (le_bytes 4 x) _ _)
le32_bytes_next [] i h = absurd (omega arith)

-- A head of numbers, then bodies.
pub head_bodies : (xs : List ℕ) (bodies : List (List ℕ)) → joined (map (le_bytes 4) xs ++ bodies) ≡ le32_bytes xs ++ joined bodies
unfolding le32_bytes
head_bodies xs bodies = joined-append (map (le_bytes 4) xs) bodies

-- the length of a record of pieces, and how long it is before each of them
abbrev pub sizes : List (List ℕ) → ℕ
sizes [] = 0
sizes (piece ∷ pieces) = length piece + sizes pieces

pub length-joined : (pieces : List (List ℕ)) → length (joined pieces) ≡ sizes pieces
unfolding joined
length-joined [] = refl
length-joined (piece ∷ pieces) = length-append piece (joined pieces) ∙ ap (λ n. length piece + n) (length-joined pieces)

-- Numbers one after the other, read back by their places; and read from bytes by their places, and stored, they give the bytes.
pub le32s_read : (xs : List ℕ) (k : ℕ) → k < length xs → get_or xs k 0 < 256 ^ 4 → le_at 4 (le32_bytes xs) (4 * k) ≡ get_or xs k 0
unfolding le32_bytes joined le_at le_bytes
le32s_read [] k h small = absurd (omega arith)
le32s_read (x ∷ xs) zero h small = ap le_of (part_piece [] (le_bytes 4 x) (le32_bytes xs) 0 4 refl refl) ∙ le_back 4 x small
le32s_read (x ∷ xs) (suc k) h small =
    let next : 4 * suc k ≡ 4 + 4 * k = omega arith in
    ap (λ n. le_of (part_of (le32_bytes (x ∷ xs)) n 4)) next ∙ ap le_of (part_right (le_bytes 4 x) (le32_bytes xs) (4 * k) 4) ∙ le32s_read xs k (omega arith) small

pub le32s_back : (n : ℕ) (s : List ℕ) (at : ℕ) → Bytes s → at + 4 * n ≤ length s → le32_bytes (places n (λ k. le_at 4 s (at + 4 * k))) ≡ part_of s at (4 * n)
unfolding le32_bytes joined
le32s_back zero s at b h = sym (part_empty s at)
le32s_back (suc n) s at b h =
    let here : at + 4 * 0 ≡ at = omega arith in
    let later : (k : ℕ) → at + 4 * suc k ≡ at + 4 + 4 * k = λ k. omega arith in
    let sum : 4 + 4 * n ≡ 4 * suc n = omega arith in
    (λ i. le_bytes 4 (le_at 4 s (here i)) ++ le32_bytes (places n (λ k. le_at 4 s (later k i))))
    ∙ ap₂ ◌++◌ (le_part_back 4 s at b (omega arith)) (le32s_back n s (at + 4) b (omega arith))
    ∙ part_next s at 4 (4 * n) (omega arith) ∙ ap (part_of s at) sum
