-- Document 01, "Time and identifiers" and "The GetKey decision": an identifier (L0, L1, L2), its index rule, and the order.
use Rattle.std.specs.Prelude.{ℕ, ◌≤◌, Bool, false, cond, ◌||◌, ltb, eqb}
use Rattle.gkid.specs.declared.Gkid.{Gkid}

-- the identifier (L0, L1, L2)
abbrev pub gkid : ℕ → ℕ → ℕ → Gkid
gkid l0 l1 l2 = record { l0 = record { 0 = l0 }; l1 = record { 0 = l1 }; l2 = record { 0 = l2 } }

-- 5: L1 or L2 index above 31
unfoldable pub index_above_31 : Gkid → Bool
index_above_31 i = ltb 31 i.l1.0 || ltb 31 i.l2.0

-- an L0 group has L1 and L2 from 0 to 31
abbrev pub InGroup : Gkid → Type 0
InGroup i = (i.l1.0 ≤ 31) × (i.l2.0 ≤ 31)

-- the later is told by an index or, where that is the same, by the next one
unfoldable pub later_then : ℕ → ℕ → Bool → Bool
later_then a b next = cond (eqb a b) next (ltb b a)

-- of identifiers, earlier and up to go by L0, then L1, then L2
unfoldable pub later : Gkid → Gkid → Bool
later i j = later_then i.l0.0 j.l0.0 (later_then i.l1.0 j.l1.0 (later_then i.l2.0 j.l2.0 false))
