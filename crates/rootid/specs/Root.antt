-- A root key identifier and its 16 bytes: two numbers, each the least significant byte first.
use Rattle.std.specs.Prelude.{ℕ, Bool, ◌&&◌, List, ◌++◌, eqb}
use Rattle.wire.specs.Numbers.{le_bytes}
use Rattle.wire.specs.Parts.{le_at, part_of}
use Rattle.rootid.specs.declared.RootId.{RootId}

-- the identifier in the 16 bytes from at on; zeros where any of them lies outside
unfoldable pub root_at : List ℕ → ℕ → RootId
root_at s at = record { low = le_at 8 (part_of s at 16) 0; high = le_at 8 (part_of s at 16) 8 }

unfoldable pub root_bytes : RootId → List ℕ
root_bytes r = le_bytes 8 r.low ++ le_bytes 8 r.high

unfoldable pub same_root : RootId → RootId → Bool
same_root a b = eqb a.high b.high && eqb a.low b.low
