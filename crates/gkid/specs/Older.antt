-- Document 01, "Time and identifiers": an identifier's next older one in its L0 group.
use Rattle.std.specs.Prelude.{ℕ, ◌-◌, Bool, true, false, cond, ltb, Result, Ok, Err, Option, None, Some}
use Rattle.refusal.specs.declared.Refusal.{Refusal}
use Rattle.refusal.specs.declared.Refusal.TheVariants.{IndexAbove31}
use Rattle.refusal.specs.Number.{number_of}
use Rattle.gkid.specs.declared.Gkid.{Gkid}
use Rattle.gkid.specs.Identifier.{gkid, index_above_31}

-- 5 if an index is above 31; else one L2 index less; at L2 index 0 the last L2 index of the L1 index before; (L0, 0, 0) has none
unfoldable pub older_of : Gkid → Result (Option Gkid) Refusal
older_of i =
    cond (index_above_31 i) (Err IndexAbove31)
    (cond (ltb 0 i.l2.0) (Ok (Some (gkid i.l0.0 i.l1.0 (i.l2.0 - 1))))
    (cond (ltb 0 i.l1.0) (Ok (Some (gkid i.l0.0 (i.l1.0 - 1) 31)))
    (Ok None)))

-- the paper's number, whether there is an older one, and that one: none is number 0, not found, with zeros beside it
unfoldable pub older_number : Result (Option Gkid) Refusal → ℕ
older_number (Ok (Some i)) = 0
older_number (Ok None) = 0
older_number (Err r) = number_of r

unfoldable pub older_found : Result (Option Gkid) Refusal → Bool
older_found (Ok (Some i)) = true
older_found (Ok None) = false
older_found (Err r) = false

unfoldable pub older_shown : Result (Option Gkid) Refusal → Gkid
older_shown (Ok (Some i)) = i
older_shown (Ok None) = gkid 0 0 0
older_shown (Err r) = gkid 0 0 0
