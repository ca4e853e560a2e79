-- Document 01, "The GetKey decision": the three signed indices of a request, their checks, and what they name.
use Rattle.std.specs.Prelude.{ℕ, Bool, true, false, cond, not, ◌&&◌, ◌||◌, List, [], ◌∷◌, eqb, ℤ, pos, negsuc}
use Rattle.std.specs.Int.Signed.{lt_z, non_neg}
use Rattle.refusal.specs.declared.Refusal.TheVariants.{IndexOutOfRange, MixedIndices}
use Rattle.refusal.specs.Chain.{Check, ◌⇒◌}
use Rattle.gkid.specs.declared.Gkid.{Gkid}
use Rattle.gkid.specs.Identifier.{gkid}
use Rattle.request.specs.declared.Request.{Request}

-- an index below -1
unfoldable pub below : ℤ → Bool
below index = lt_z index (negsuc 0)

-- an index outside -1..31
unfoldable pub outside : ℤ → Bool
outside index = below index || lt_z (pos 31) index

-- 14: L0 < -1, or L1 or L2 is outside -1..31
unfoldable pub out_of_range : Request → Bool
out_of_range q = below q.l0 || (outside q.l1 || outside q.l2)

-- an index of -1
unfoldable pub unset : ℤ → Bool
unset (pos n) = false
unset (negsuc n) = eqb n 0

-- 15: some index is -1, and not all are
unfoldable pub mixed : Request → Bool
mixed q = (unset q.l0 || (unset q.l1 || unset q.l2)) && not (unset q.l0 && (unset q.l1 && unset q.l2))

-- the checks of the indices alone: 14, 15
unfoldable pub index_checks : Request → List Check
index_checks q = (out_of_range q ⇒ IndexOutOfRange) ∷ (mixed q ⇒ MixedIndices) ∷ []

-- signed: an index is later than now's, or earlier, or the next one decides
unfoldable pub later_then_z : ℤ → ℕ → Bool → Bool
later_then_z index present next = cond (lt_z (pos present) index) true (cond (lt_z index (pos present)) false next)

-- 17: the triple is lexically later than now, compared signed
unfoldable pub later_than_now : Request → Gkid → Bool
later_than_now q present = later_then_z q.l0 present.l0.0 (later_then_z q.l1 present.l1.0 (later_then_z q.l2 present.l2.0 false))

-- a request names an identifier if its three indices are 0 or above
unfoldable pub names : Request → Bool
names q = non_neg q.l0 && (non_neg q.l1 && non_neg q.l2)

unfoldable pub natural : ℤ → ℕ
natural (pos n) = n
natural (negsuc n) = 0

-- that triple is the named one
unfoldable pub named_of : Request → Gkid
named_of q = gkid (natural q.l0) (natural q.l1) (natural q.l2)
