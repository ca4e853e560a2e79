-- Unicode's UTF-16 as an encoding of characters: what it means that units convert to characters without loss.
use Rattle.std.specs.Prelude.{ℕ, ◌+◌, ◌-◌, ◌/◌, ◌%◌, ◌≤◌, ◌<◌, cond, List, [], ◌∷◌, map, ◌⊎◌, ◌≡◌, ltb}
use Rattle.wire.specs.Parts.{joined}

-- each of a list is so
abbrev pub Each : (ℕ → Type 0) → List ℕ → Type 0
Each P [] = Unit {0}
Each P (x ∷ xs) = P x × Each P xs

-- a character, by its number: 0 to 10FFFF but for D800..DFFF
abbrev pub Scalar : ℕ → Type 0
Scalar c = (c < 0xD800) ⊎ ((0xDFFF < c) × (c ≤ 0x10FFFF))

-- its units: below 10000 itself; else what is above 10000 has its upper ten bits in a high surrogate and its lower ten in a low one
unfoldable pub utf16 : ℕ → List ℕ
utf16 c = cond (ltb c 0x10000) (c ∷ []) ((0xD800 + (c - 0x10000) / 0x400) ∷ (0xDC00 + (c - 0x10000) % 0x400) ∷ [])

-- units that are those of characters, one after the other
pub record Converts (us : List ℕ) : Type 0 where
  pub characters : List ℕ
  pub scalars : Each Scalar characters
  pub encoded : joined (map utf16 characters) ≡ us
