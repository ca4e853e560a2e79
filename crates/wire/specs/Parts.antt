-- A part of a list of bytes, a number at a place in it, and bytes put at its start. Offsets and lengths are whole numbers.
use Rattle.std.specs.Prelude.{ℕ, ◌≡◌, ◌+◌, cond, List, [], ◌∷◌, ◌++◌, map, length, take, drop, leb}
use Rattle.std.specs.Borrow.{Bor}
use Rattle.wire.specs.Numbers.{le_of, le_bytes, be_of}

-- the len bytes from at on, or none where any of it lies outside
unfoldable pub part_of : List ℕ → ℕ → ℕ → List ℕ
part_of s at len = cond (leb (at + len) (length s)) (take len (drop at s)) []

-- where that part begins: an empty part that stands for one outside lies at the start
unfoldable pub start_of : List ℕ → ℕ → ℕ → ℕ
start_of s at len = cond (leb (at + len) (length s)) at 0

-- bytes that are handed out lie in what was lent: in the same block, so many bytes behind its first
abbrev pub LiesAt : Bor (List ℕ) → Bor (List ℕ) → ℕ → Type 0
LiesAt part whole start = (part.ref_ptr.0 ≡ whole.ref_ptr.0) × (part.ref_ptr.1 ≡ whole.ref_ptr.1 + start)

-- the number in the w bytes from at on, or 0 where any of it lies outside
unfoldable pub le_at : ℕ → List ℕ → ℕ → ℕ
le_at w s at = le_of (part_of s at w)

unfoldable pub be_at : ℕ → List ℕ → ℕ → ℕ
be_at w s at = be_of (part_of s at w)

-- a record of pieces, one after the other
unfoldable pub joined : List (List ℕ) → List ℕ
joined [] = []
joined (piece ∷ pieces) = piece ++ joined pieces

-- bytes put at the start of a lent part: they, then what stood behind them; unchanged where they do not fit
unfoldable pub onto : List ℕ → List ℕ → List ℕ
onto bs s = cond (leb (length bs) (length s)) (bs ++ drop (length bs) s) s

-- numbers one after the other, each in four bytes, the least significant first
unfoldable pub le32_bytes : List ℕ → List ℕ
le32_bytes xs = joined (map (le_bytes 4) xs)
