-- MS-GKDI 2.2.4, narrowed by document 01 and widened by the house rule of document 02, No. 4: which lengths an envelope's two keys have,
-- without an order of checks.
use Rattle.std.specs.Prelude.{ℕ, Bool, true, false, ◌⊎◌, ◌≡◌}
use Rattle.gkid.specs.declared.Gkid.{Gkid}

pub record WellFormed (public : Bool) (at : Gkid) (publicLen l1Len l2Len : ℕ) : Type 0 where
  -- L1 key: absent, or 64 bytes of a seed envelope whose L1 index is not zero or whose L2 index is 31
  pub l1_key : (l1Len ≡ 0) ⊎ ((l1Len ≡ 64) × ((public ≡ false) × (at.l1.0 ≡ 0 → at.l2.0 ≡ 31)))
  -- L2 key: absent; or 64 bytes of a seed envelope whose L2 index is not 31; or, by the house rule at every L2 index, the public key
  -- length of a public envelope. The source says of cbL2Key, whatever the envelope: "This field MUST be zero if the value in the L2 index
  -- field is equal to 31"
  pub l2_key : (l2Len ≡ 0) ⊎ (((l2Len ≡ 64) × ((public ≡ false) × (at.l2.0 ≡ 31 → ⊥))) ⊎ ((l2Len ≡ publicLen) × (public ≡ true)))
