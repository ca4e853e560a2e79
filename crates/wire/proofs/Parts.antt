-- Laws of parts: those that lie inside, those that do not, parts of what was put together, and parts that follow each other.
use Rattle.lemmas.proofs.Basics.{ℕ, zero, suc, ◌+◌, ◌-◌, ◌≤◌, ◌<◌, arith, add-sub_cancel_left, cond, List, [], ◌∷◌, ◌++◌, append_assoc, ◌≡◌, refl, sym, ap, ◌∙◌, leb, length, get_or, take, drop, length-append, length-drop, length-take-le, take_at, take_all, take-add, take-length, take-append-le, drop_at, drop-drop, drop-append-le, drop-append_seam, le-leb, lt-leb, leb-true, leb-false}
use Rattle.lemmas.proofs.Cases.{by_cases, leb-same}
use Rattle.wire.specs.declared.Span.{Span}
use Rattle.wire.specs.Numbers.{le_of}
use Rattle.wire.specs.Parts.{part_of, start_of, joined, le_at}

pub part_in : (s : List ℕ) (at len : ℕ) → at + len ≤ length s → part_of s at len ≡ take len (drop at s)
unfolding part_of
part_in s at len h = rw (le-leb (at + len) (length s) h)

pub part_out : (s : List ℕ) (at len : ℕ) → length s < at + len → part_of s at len ≡ []
unfolding part_of
part_out s at len h = rw (lt-leb (at + len) (length s) h)

pub start_in : (s : List ℕ) (at len : ℕ) → at + len ≤ length s → start_of s at len ≡ at
unfolding start_of
start_in s at len h = rw (le-leb (at + len) (length s) h)

-- A part of no bytes is empty, wherever it lies.
pub part_empty : (s : List ℕ) (at : ℕ) → part_of s at 0 ≡ []
unfolding part_of
part_empty s at = by_cases (λ t. cond t (take 0 (drop at s)) [] ≡ []) (leb (at + 0) (length s)) (λ _. refl) (λ _. refl)

-- A part that lies inside has its length.
pub length_part : (s : List ℕ) (at len : ℕ) → at + len ≤ length s → length (part_of s at len) ≡ len
length_part s at len h = rw (part_in s at len h) (length-take-le len (drop at s) (rw length-drop (omega arith)))

-- A part that has not the length asked for is empty: it lies outside.
pub part_none : (s b : List ℕ) (at len : ℕ) → b ≡ part_of s at len → (length b ≡ len → ⊥) → part_of s at len ≡ []
part_none s b at len e n =
    by_cases (λ _. part_of s at len ≡ []) (leb (at + len) (length s))
    (λ q. absurd (n (ap length e ∙ length_part s at len (leb-true _ _ q))))
    (λ q. part_out s at len (leb-false _ _ q))

-- The part where a piece of a record stands is that piece.
pub part_piece : (before piece after : List ℕ) (at len : ℕ) → length before ≡ at → length piece ≡ len → part_of (before ++ (piece ++ after)) at len ≡ piece
part_piece before piece after at len p q =
    let inside : at + len ≤ length (before ++ (piece ++ after)) = rw (length-append, length-append) (omega arith) in
    part_in _ at len inside ∙ ap (take len) (drop_at before (piece ++ after) at p) ∙ take_at piece after len q

-- A part of the first of two runs, and of the second.
pub part_left : (s t : List ℕ) (at len : ℕ) → at + len ≤ length s → part_of (s ++ t) at len ≡ part_of s at len
part_left s t at len h =
    let inside : at + len ≤ length (s ++ t) = rw length-append (omega arith) in
    let start : at ≤ length s = omega arith in
    let rest : len ≤ length (drop at s) = rw length-drop (omega arith) in
    rw (part_in (s ++ t) at len inside, part_in s at len h, drop-append-le at s t start, take-append-le len (drop at s) t rest)

pub part_right : (s t : List ℕ) (at len : ℕ) → part_of (s ++ t) (length s + at) len ≡ part_of t at len
unfolding part_of
part_right s t at len =
    let same : leb (length s + at + len) (length (s ++ t)) ≡ leb (at + len) (length t) =
    rw (length-append s t) (leb-same (length s + at + len) (length s + length t) (at + len) (length t) (λ h. omega arith) (λ h. omega arith))
    in
    rw (same, ← (drop-drop at (length s) (s ++ t)), drop-append_seam)

-- Parts that follow each other make the part that they cover; the part that covers all is the whole.
pub part_next : (s : List ℕ) (at m n : ℕ) → at + m + n ≤ length s → part_of s at m ++ part_of s (at + m) n ≡ part_of s at (m + n)
part_next s at m n h =
    let first : at + m ≤ length s = omega arith in
    let both : at + (m + n) ≤ length s = omega arith in
    rw (part_in s at m first, part_in s (at + m) n h, part_in s at (m + n) both, take-add m n (drop at s), drop-drop m at s)

-- A part of a part is a part of the whole.
pub part_within : (s : List ℕ) (at len i n : ℕ) → at + len ≤ length s → i + n ≤ len → part_of (part_of s at len) i n ≡ part_of s (at + i) n
part_within s at len i n h k =
    let sum : i + (n + (len - (i + n))) ≡ len = omega arith in
    let rest : at + i + (n + (len - (i + n))) ≤ length s = omega arith in
    let last : at + i + n + (len - (i + n)) ≤ length s = omega arith in
    let first : at + i ≤ length s = omega arith in
    let both : at + i + n ≤ length s = omega arith in
    let split : part_of s at len ≡ part_of s at i ++ (part_of s (at + i) n ++ part_of s (at + i + n) (len - (i + n))) =
    ap (part_of s at) (sym sum) ∙ sym (part_next s at i _ rest) ∙ ap (λ t. part_of s at i ++ t) (sym (part_next s (at + i) n _ last))
    in
    rw split
    (part_piece (part_of s at i) (part_of s (at + i) n) (part_of s (at + i + n) (len - (i + n))) i n (length_part s at i first) (length_part s (at + i) n both))

-- A slice that is taken from the whole is the part there, and a number in it the number there.
pub slice_part : (s : List ℕ) (at len : ℕ) → at + len ≤ length s → take (at + len - at) (drop at s) ≡ part_of s at len
slice_part s at len inside = rw add-sub_cancel_left (sym (part_in s at len inside))

pub number_within : (w : ℕ) (s : List ℕ) (at len i : ℕ) → at + len ≤ length s → i + w ≤ len → le_at w (take (at + len - at) (drop at s)) i ≡ le_at w s (at + i)
unfolding le_at
number_within w s at len i inside held = ap (λ t. le_of (part_of t i w)) (slice_part s at len inside) ∙ ap le_of (part_within s at len i w inside held)

pub part_whole : (s : List ℕ) → part_of s 0 (length s) ≡ s
part_whole s = part_in s 0 (length s) (omega arith) ∙ take-length s

-- From a place on, all that is left.
pub rest_whole : (s : List ℕ) (at : ℕ) → take (length s - at) (drop at s) ≡ drop at s
rest_whole s at = let long : length (drop at s) ≤ length s - at = rw length-drop (omega arith) in
    take_all (length s - at) (drop at s) long

-- A record is the pieces before its k-th, that one, and those after.
pub joined_split : (pieces : List (List ℕ)) (k : ℕ) → joined pieces ≡ joined (take k pieces) ++ (get_or pieces k [] ++ joined (drop (suc k) pieces))
unfolding joined
joined_split [] zero = refl
joined_split [] (suc k) = refl
joined_split (piece ∷ pieces) zero = refl
joined_split (piece ∷ pieces) (suc k) = ap (λ t. piece ++ t) (joined_split pieces k) ∙ sym (append_assoc piece _ _)

-- The part where the k-th piece of a record stands is that piece: one line for each.
pub piece_part : (pieces : List (List ℕ)) (k at len : ℕ) → length (joined (take k pieces)) ≡ at → length (get_or pieces k []) ≡ len
    → part_of (joined pieces) at len ≡ get_or pieces k []
piece_part pieces k at len p q = rw (joined_split pieces k) (part_piece (joined (take k pieces)) (get_or pieces k []) (joined (drop (suc k) pieces)) at len p q)

-- a record cut into pieces of given lengths, one after the other from a place on
abbrev pub cut : List ℕ → ℕ → List ℕ → List (List ℕ)
cut s at [] = []
cut s at (n ∷ ns) = part_of s at n ∷ cut s (at + n) ns

abbrev pub total : List ℕ → ℕ
total [] = 0
total (n ∷ ns) = n + total ns

-- The pieces of a cut, joined, are the part that they cover.
pub cut-joined : (s : List ℕ) (at : ℕ) (ns : List ℕ) → at + total ns ≤ length s → joined (cut s at ns) ≡ part_of s at (total ns)
unfolding joined
cut-joined s at [] h = sym (part_in s at 0 h)
cut-joined s at (n ∷ ns) h = ap (λ t. part_of s at n ++ t) (cut-joined s (at + n) ns (omega arith)) ∙ part_next s at n (total ns) (omega arith)

-- Records put together piece by piece.
pub joined-append : (pieces others : List (List ℕ)) → joined (pieces ++ others) ≡ joined pieces ++ joined others
unfolding joined
joined-append [] others = refl
joined-append (piece ∷ pieces) others = ap (λ t. piece ++ t) (joined-append pieces others) ∙ sym (append_assoc piece _ _)

-- What `part` hands out for a span that lies inside: those bytes, at that place.
pub handed_out : {B : Type 0} (s bytes : List ℕ) (block own : B) (place start : ℕ) {asked span : Span} → asked ≡ span → span.at + span.len ≤ length s
    → (bytes ≡ part_of s asked.at asked.len) × ((block ≡ own) × (place ≡ start + start_of s asked.at asked.len))
    → (bytes ≡ part_of s span.at span.len) × ((block ≡ own) × (place ≡ start + span.at))
handed_out s bytes block own place start {span = span} is inside got =
    (got.0 ∙ ap (λ t. part_of s t.at t.len) is, (got.1.0, got.1.1 ∙ ap (λ t. start + start_of s t.at t.len) is ∙ ap (λ n. start + n) (start_in s span.at span.len inside)))
