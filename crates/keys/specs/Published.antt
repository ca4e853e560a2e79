-- MS-GKDI 2.2.4, as document 01 has it: the published rule of the two keys' lengths, over which the house rule of document 02, No. 4 decides.
-- No contract goes by it; `proofs/HouseRule` says what the house rule changes of it.
use Rattle.std.specs.Prelude.{ℕ, Bool, false, not, cond, ◌&&◌, ◌||◌, List, [], ◌∷◌, eqb}
use Rattle.refusal.specs.declared.Refusal.TheVariants.{IndexAbove31, KeyLength}
use Rattle.refusal.specs.Chain.{Check, ◌⇒◌}
use Rattle.gkid.specs.declared.Gkid.{Gkid}
use Rattle.gkid.specs.Identifier.{index_above_31}
use Rattle.keys.specs.declared.SeedKeys.{SeedKeys}
use Rattle.keys.specs.KeyRule.{l1_key_allowed}
use Rattle.keys.specs.Forms.{seed_key_length}

-- L2 key: 0 if L2 = 31; else 0, or 64 for a seed, or the public key length for a public envelope
unfoldable pub published_l2_key_allowed : Bool → Gkid → ℕ → ℕ → Bool
published_l2_key_allowed public at publicLen len = cond (eqb at.l2.0 31) (eqb len 0) (eqb len 0 || eqb len (cond public publicLen 64))

-- both keys are as published
unfoldable pub published_allowed : Bool → Gkid → ℕ → ℕ → ℕ → Bool
published_allowed public at publicLen l1Len l2Len = l1_key_allowed public at l1Len && published_l2_key_allowed public at publicLen l2Len

-- a seed envelope at an identifier with just those keys is refused 5, then 11
unfoldable pub published_seed_checks : SeedKeys → Gkid → List Check
published_seed_checks keys at =
    (index_above_31 at ⇒ IndexAbove31) ∷ (not (published_allowed false at 0 (seed_key_length keys.l1) (seed_key_length keys.l2)) ⇒ KeyLength) ∷ []
