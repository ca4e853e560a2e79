-- Document 01, "Group Key Envelope", 10, and document 02, No. 6, 24, without an order: MS-GKDI 2.2.4's null-terminated Unicode string.
use Rattle.std.specs.Prelude.{ℕ, ◌+◌, ◌*◌, ◌≤◌, ◌<◌, List, [], ◌∷◌, ◌⊎◌, ◌≡◌, length}
use Rattle.text.specs.Units.{unit, units_of}

-- whole units, of which there is one at least; the last is zero, and no earlier one
pub record Terminated (s : List ℕ) : Type 0 where
  pub before : ℕ
  pub units : length s ≡ 2 * (before + 1)
  pub last : unit s before ≡ 0
  pub earlier : (k : ℕ) → k < before → unit s k ≡ 0 → ⊥

-- a sequence of characters, as Unicode has it in UTF-16: each is one unit outside D800..DFFF, or a pair of one in D800..DBFF and one in DC00..DFFF
pub data Characters : List ℕ → Type 0 where
  none : Characters []
  one : {u : ℕ} {us : List ℕ} → (u < 0xD800) ⊎ (0xDFFF < u) → Characters us → Characters (u ∷ us)
  pair : {high low : ℕ} {us : List ℕ} → (0xD800 ≤ high) × (high ≤ 0xDBFF) → (0xDC00 ≤ low) × (low ≤ 0xDFFF) → Characters us → Characters (high ∷ low ∷ us)

pub record WellFormed (s : List ℕ) : Type 0 where
  pub terminated : Terminated s
  pub characters : Characters (units_of s)
