-- Laws of the form that an envelope's keys make: its seed keys are the keys that are there, unless the envelope is public.
use Rattle.lemmas.proofs.Basics.{ℕ, Bool, true, false, cond, not, ◌&&◌, and-false, List, ◌≡◌, refl, ◌∙◌, eqb, eq-eqb}
use Rattle.std.specs.Prelude.{Ok}
use Rattle.refusal.specs.Chain.{first_of}
use Rattle.refusal.proofs.Chains.{first_next}
use Rattle.gkid.specs.declared.Gkid.{Gkid}
use Rattle.gkid.proofs.Order.{not_above}
use Rattle.keys.specs.declared.Form.TheVariants.{Keyless, L1Only, L2Only, Both, Public}
use Rattle.keys.specs.declared.SeedKeys.{SeedKeys}
use Rattle.keys.specs.Forms.{keys_of, seed_checks}
use Rattle.keys.proofs.FormLaws.{seed_keys_of, seed_64, seed_alone}
use Rattle.envelope.specs.declared.Envelope.{Envelope}
use Rattle.envelope.specs.Layout.{head_of, is_public, lengths_of, bodies_of}
use Rattle.envelope.specs.Reading.{shown, envelope_of, envelope_number, form_of}
use Rattle.envelope.proofs.ExactlyWhen.{accepted-keys}

-- the seed keys that are there
abbrev pub seed_keys : Envelope → SeedKeys
seed_keys e = seed_keys_of (is_public e.head.flags) e.bodies.l1_key.len e.bodies.l2_key.len

pub form_keys : (e : Envelope) → keys_of (form_of e) ≡ seed_keys e
unfolding form_of keys_of
form_keys e = told (eqb e.bodies.l1_key.len 0) (eqb e.bodies.l2_key.len 0) (is_public e.head.flags)
  where
    told : (a b p : Bool) → keys_of (cond (a && b) Keyless (cond p Public (cond b L1Only (cond a L2Only Both)))) ≡ record { l1 = not p && not a; l2 = not p && not b }
    told true true true = refl
    told true true false = refl
    told true false true = refl
    told true false false = refl
    told false true true = refl
    told false true false = refl
    told false false true = refl
    told false false false = refl

-- Absent means absent: with no L1 key nothing is reached by one, and so for the L2 key. A public envelope has no seed key.
pub absent_l1 : (e : Envelope) → e.bodies.l1_key.len ≡ 0 → (keys_of (form_of e)).l1 ≡ false
absent_l1 e z = rw (form_keys e, eq-eqb _ _ z) (and-false (not (is_public e.head.flags)))

pub absent_l2 : (e : Envelope) → e.bodies.l2_key.len ≡ 0 → (keys_of (form_of e)).l2 ≡ false
absent_l2 e z = rw (form_keys e, eq-eqb _ _ z) (and-false (not (is_public e.head.flags)))

pub public_none : (e : Envelope) → is_public e.head.flags ≡ true → keys_of (form_of e) ≡ record { l1 = false; l2 = false }
public_none e p = rw (form_keys e, p)

-- The seed keys of an accepted envelope.
module _ (s : List ℕ) (z : envelope_number (envelope_of s) ≡ 0) where
  abbrev own : SeedKeys
  own = keys_of (form_of (shown s))

  abbrev at : Gkid
  at = (head_of s).at

  -- each that is there has 64 bytes
  pub keys_64 : (own.l1 ≡ true → (lengths_of s).l1_key ≡ 64) × (own.l2 ≡ true → (lengths_of s).l2_key ≡ 64)
  unfolding shown bodies_of
  keys_64 = rw (form_keys (shown s)) (seed_64 _ _ _ _ _ (accepted-keys s z).1)

  -- A seed envelope at that identifier with just those keys is accepted too.
  pub seed_accepted : first_of (seed_checks own at) ≡ Ok tt
  unfolding seed_checks shown bodies_of
  seed_accepted = first_next _ _ _ (not_above at (accepted-keys s z).0) ∙ rw (form_keys (shown s)) (seed_alone _ at _ _ _ (accepted-keys s z).1)
