-- Document 01, "Group Key Envelope", and the house rule of document 02, No. 4: the lengths that an envelope's two keys may have.
use Rattle.std.specs.Prelude.{ℕ, Bool, not, cond, ◌&&◌, ◌||◌, List, [], ◌∷◌, eqb}
use Rattle.refusal.specs.declared.Refusal.TheVariants.{KeyLength}
use Rattle.refusal.specs.Chain.{Check, ◌⇒◌}
use Rattle.gkid.specs.declared.Gkid.{Gkid}

-- L1 key: length 0 or 64, and 0 if public or if L1 = 0 and L2 is not 31
unfoldable pub l1_key_allowed : Bool → Gkid → ℕ → Bool
l1_key_allowed public at len = cond (public || eqb at.l1.0 0 && not (eqb at.l2.0 31)) (eqb len 0) (eqb len 0 || eqb len 64)

-- L2 key: 0 for a seed if L2 = 31; else 0, or 64 for a seed, or the public key length for a public envelope. That the absence at L2 = 31
-- holds for seed envelopes only is the house rule, which decides over the source
unfoldable pub l2_key_allowed : Bool → Gkid → ℕ → ℕ → Bool
l2_key_allowed public at publicLen len = cond (not public && eqb at.l2.0 31) (eqb len 0) (eqb len 0 || eqb len (cond public publicLen 64))

-- both keys are as allowed
unfoldable pub keys_allowed : Bool → Gkid → ℕ → ℕ → ℕ → Bool
keys_allowed public at publicLen l1Len l2Len = l1_key_allowed public at l1Len && l2_key_allowed public at publicLen l2Len

-- 11: key length breaks the key rules
unfoldable pub key_checks : Bool → Gkid → ℕ → ℕ → ℕ → List Check
key_checks public at publicLen l1Len l2Len = (not (keys_allowed public at publicLen l1Len l2Len) ⇒ KeyLength) ∷ []
