-- Document 01, "Reach, and the two envelopes": chains run downward. What the keys of a seed envelope at an identifier reach.
use Rattle.std.specs.Prelude.{Bool, not, cond, ◌&&◌, ◌||◌, eqb, leb, ltb}
use Rattle.gkid.specs.declared.Gkid.{Gkid}
use Rattle.gkid.specs.Identifier.{index_above_31}
use Rattle.keys.specs.declared.SeedKeys.{SeedKeys}

-- i is of at's L0 group: the 1,024 identifiers of one L0, with L1 and L2 from 0 to 31
unfoldable pub of_group : Gkid → Gkid → Bool
of_group at i = eqb i.l0.0 at.l0.0 && not (index_above_31 i)

-- the L1 key reaches all of rows 0 to L1 if L2 = 31, else rows 0 to L1-1
unfoldable pub l1_reaches : Gkid → Gkid → Bool
l1_reaches at i = of_group at i && cond (eqb at.l2.0 31) (leb i.l1.0 at.l1.0) (ltb i.l1.0 at.l1.0)

-- the L2 key reaches its own L1 row from L2 index 0 to its own
unfoldable pub l2_reaches : Gkid → Gkid → Bool
l2_reaches at i = of_group at i && (eqb i.l1.0 at.l1.0 && leb i.l2.0 at.l2.0)

-- reached by a key that is present
unfoldable pub reaches : SeedKeys → Gkid → Gkid → Bool
reaches keys at i = keys.l1 && l1_reaches at i || keys.l2 && l2_reaches at i
