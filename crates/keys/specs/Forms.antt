-- Document 01, "The GetKey decision", Form: the seed keys of each form, the form for seed rights, and where such keys are refused.
use Rattle.std.specs.Prelude.{ℕ, Bool, true, false, cond, List, ◌∷◌, eqb}
use Rattle.refusal.specs.declared.Refusal.TheVariants.{IndexAbove31}
use Rattle.refusal.specs.Chain.{Check, ◌⇒◌}
use Rattle.gkid.specs.declared.Gkid.{Gkid}
use Rattle.gkid.specs.Identifier.{index_above_31}
use Rattle.keys.specs.declared.Form.{Form}
use Rattle.keys.specs.declared.Form.TheVariants.{Keyless, L1Only, L2Only, Both, Public}
use Rattle.keys.specs.declared.SeedKeys.{SeedKeys}
use Rattle.keys.specs.KeyRule.{key_checks}

-- the seed keys that are present: a public envelope's key is no seed key
unfoldable pub keys_of : Form → SeedKeys
keys_of Keyless = record { l1 = false; l2 = false }
keys_of L1Only = record { l1 = true; l2 = false }
keys_of L2Only = record { l1 = false; l2 = true }
keys_of Both = record { l1 = true; l2 = true }
keys_of Public = record { l1 = false; l2 = false }

-- seed rights give L1ONLY if L2 = 31, else L2ONLY if L1 = 0, else BOTH; so told of any indices, those above 31 too
unfoldable pub seed_form : Gkid → Form
seed_form at = cond (eqb at.l2.0 31) L1Only (cond (eqb at.l1.0 0) L2Only Both)

-- a seed key that is present has 64 bytes
abbrev pub seed_key_length : Bool → ℕ
seed_key_length present = cond present 64 0

-- "Reach, and the two envelopes": a seed envelope at an identifier with just those keys is refused 5, then by the key rule
unfoldable pub seed_checks : SeedKeys → Gkid → List Check
seed_checks keys at = (index_above_31 at ⇒ IndexAbove31) ∷ key_checks false at 0 (seed_key_length keys.l1) (seed_key_length keys.l2)
