-- Laws of the units of bytes: those behind the first one are those of the rest, and behind the last there is none.
use Rattle.lemmas.proofs.Basics.{ℕ, zero, suc, ◌+◌, ◌*◌, ◌<◌, arith, List, [], ◌∷◌, ◌≡◌, ap, ◌∙◌, length, get_or}
use Rattle.wire.specs.Numbers.{le_of}
use Rattle.wire.specs.Parts.{le_at, part_of}
use Rattle.wire.proofs.Parts.{part_in, part_out, part_right}
use Rattle.text.specs.Units.{unit, units_of}

pub unit_first : (a b : ℕ) (s : List ℕ) → unit (a ∷ b ∷ s) 0 ≡ le_of (a ∷ b ∷ [])
unfolding le_at
unit_first a b s = ap le_of (part_in (a ∷ b ∷ s) 0 2 (omega arith))

pub unit-later : (a b : ℕ) (s : List ℕ) (k : ℕ) → unit (a ∷ b ∷ s) (suc k) ≡ unit s k
unfolding le_at
unit-later a b s k = let next : 2 * suc k ≡ 2 + 2 * k = omega arith in ap (λ n. le_of (part_of (a ∷ b ∷ s) n 2)) next ∙ ap le_of (part_right (a ∷ b ∷ []) s (2 * k) 2)

pub unit-none : (s : List ℕ) (k : ℕ) → length s < 2 * k + 2 → unit s k ≡ 0
unfolding le_at le_of
unit-none s k h = ap le_of (part_out s (2 * k) 2 h)

pub units_at : (s : List ℕ) (k : ℕ) → unit s k ≡ get_or (units_of s) k 0
unfolding units_of
units_at [] k = unit-none [] k (omega arith)
units_at (a ∷ []) k = unit-none (a ∷ []) k (omega arith)
units_at (a ∷ b ∷ s) zero = unit_first a b s
units_at (a ∷ b ∷ s) (suc k) = unit-later a b s k ∙ units_at s k
