-- The 16-bit units of a text, little-endian, and Unicode's surrogates among them.
use Rattle.std.specs.Prelude.{ℕ, ◌*◌, Bool, ◌&&◌, List, [], ◌∷◌, leb}
use Rattle.wire.specs.Numbers.{le_of}
use Rattle.wire.specs.Parts.{le_at}

-- the k-th unit; 0 behind the last
abbrev pub unit : List ℕ → ℕ → ℕ
unit s k = le_at 2 s (2 * k)

-- all of them; half a unit is none
unfoldable pub units_of : List ℕ → List ℕ
units_of [] = []
units_of (b0 ∷ []) = []
units_of (b0 ∷ b1 ∷ rest) = le_of (b0 ∷ b1 ∷ []) ∷ units_of rest

-- a high surrogate: D800 to DBFF
unfoldable pub is_high : ℕ → Bool
is_high u = leb 0xD800 u && leb u 0xDBFF

-- a low surrogate: DC00 to DFFF
unfoldable pub is_low : ℕ → Bool
is_low u = leb 0xDC00 u && leb u 0xDFFF
