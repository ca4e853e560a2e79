-- Laws of root key identifiers: stored and read back, read and stored, and compared.
use Rattle.lemmas.proofs.Basics.{ℕ, ◌+◌, ◌^◌, ◌≤◌, ◌<◌, arith, true, ◌&&◌, false≢true, List, [], ◌++◌, ◌≡◌, refl, sym, ap, ap₂, ◌∙◌, eqb, length, get_or, take, eq-eqb, eqb-true}
use mathlib.Core.Bool.{and_comm}
use Rattle.lemmas.proofs.Cases.{by_cases}
use Rattle.wire.specs.Numbers.{le_of, le_bytes}
use Rattle.wire.specs.Parts.{le_at, part_of, joined}
use Rattle.wire.proofs.Numbers.{Bytes, le_back, bytes_part, le_part_back}
use Rattle.wire.proofs.Parts.{piece_part, part_whole, part_next, length_part}
use Rattle.rootid.specs.declared.RootId.{RootId}
use Rattle.rootid.specs.Root.{root_at, root_bytes, same_root}

pub length-root_bytes : (r : RootId) → length (root_bytes r) ≡ 16
unfolding root_bytes le_bytes
length-root_bytes r = refl

halves : (r : RootId) → r.high < 2 ^ 64 → r.low < 2 ^ 64 → (le_of (part_of (root_bytes r) 0 8) ≡ r.low) × (le_of (part_of (root_bytes r) 8 8) ≡ r.high)
unfolding root_bytes le_bytes part_of
halves r high low = (le_back 8 r.low low, le_back 8 r.high high)

-- Stored as the k-th piece of a record, and read back.
pub root_piece : (pieces : List (List ℕ)) (k : ℕ) (r : RootId) (at : ℕ) → get_or pieces k [] ≡ root_bytes r → r.high < 2 ^ 64 → r.low < 2 ^ 64
    → length (joined (take k pieces)) ≡ at → root_at (joined pieces) at ≡ r
unfolding root_at le_at
root_piece pieces k r at e high low p =
    let part : part_of (joined pieces) at 16 ≡ root_bytes r = piece_part pieces k at 16 p (ap length e ∙ length-root_bytes r) ∙ e in
    rw part (λ i. record { low = (halves r high low).0 i; high = (halves r high low).1 i })

-- Read from bytes, and stored: the same bytes.
pub root_bytes_lem : (s : List ℕ) (at : ℕ) → Bytes s → at + 16 ≤ length s → root_bytes (root_at s at) ≡ part_of s at 16
unfolding root_at root_bytes
root_bytes_lem s at b h =
    let p = part_of s at 16 in
    let bp = bytes_part s at 16 b in
    let size = length_part s at 16 h in
    ap₂ (λ x y. x ++ y) (le_part_back 8 p 0 bp (omega arith)) (le_part_back 8 p 8 bp (omega arith))
    ∙ part_next p 0 8 8 (omega arith) ∙ ap (part_of p 0) (sym size) ∙ part_whole p

-- Compared: the same exactly where both halves are.
pub same_root_lem : (a b : RootId) → same_root a b ≡ true → a ≡ b
unfolding same_root
same_root_lem a b =
    by_cases (λ t. t && eqb a.low b.low ≡ true → a ≡ b) (eqb a.high b.high)
    (λ p q i. record { high = eqb-true a.high b.high p i; low = eqb-true a.low b.low q i })
    (λ p q. absurd (false≢true q))

-- which is what a derived `==` asks
pub same_halves : (a b : RootId) → same_root a b ≡ eqb a.low b.low && eqb a.high b.high
unfolding same_root
same_halves a b = and_comm (eqb a.high b.high) (eqb a.low b.low)

pub root-same : (a : RootId) → same_root a a ≡ true
unfolding same_root
root-same a = rw (eq-eqb a.high a.high refl, eq-eqb a.low a.low refl)
