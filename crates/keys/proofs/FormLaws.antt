-- Laws of the key rule: no key at all is allowed, what it allows of seed keys and asks of a public one, and that the form for seed rights is
-- never refused by it.
use Rattle.lemmas.proofs.Basics.{ℕ, ◌<◌, arith, Bool, true, false, cond, not, ◌&&◌, ◌||◌, and-false, true≢false, false≢true, inl, ⊎_elim, ◌≡◌, refl, sym, ap, ap₂, ◌∙◌, eqb}
use Rattle.std.specs.Prelude.{Ok, Err}
use Rattle.lemmas.proofs.Cases.{cond_cases}
use Rattle.refusal.specs.declared.Refusal.TheVariants.{IndexAbove31}
use Rattle.refusal.specs.Chain.{first_of}
use Rattle.refusal.proofs.Chains.{pass_accepted}
use Rattle.gkid.specs.declared.Gkid.{Gkid}
use Rattle.gkid.specs.Identifier.{index_above_31, InGroup}
use Rattle.gkid.proofs.Order.{not_above}
use Rattle.keys.specs.declared.SeedKeys.{SeedKeys}
use Rattle.keys.specs.declared.Form.{Form}
use Rattle.keys.specs.declared.Form.TheVariants.{Keyless, L1Only, L2Only, Both}
use Rattle.keys.specs.KeyRule.{l1_key_allowed, l2_key_allowed, keys_allowed, key_checks}
use Rattle.keys.specs.WellFormed.{WellFormed}
use Rattle.keys.specs.Forms.{keys_of, seed_form, seed_key_length, seed_checks}
use Rattle.keys.proofs.ExactlyWhen.{well_formed_keys}

-- An envelope may carry no key.
pub none-accepted : (public : Bool) (at : Gkid) (publicLen : ℕ) → first_of (key_checks public at publicLen 0 0) ≡ Ok tt
none-accepted public at publicLen = well_formed_keys public at publicLen 0 0 (record { l1_key = inl refl; l2_key = inl refl })

-- An envelope that carries both keys is a seed envelope, and not at L2 = 31.
pub both_keys : (public : Bool) (at : Gkid) (publicLen l1Len l2Len : ℕ) → WellFormed public at publicLen l1Len l2Len → 0 < l1Len → 0 < l2Len → at.l2.0 ≡ 31 → ⊥
both_keys public at publicLen l1Len l2Len w l1 l2 last =
    ⊎_elim (λ none. omega arith) (λ seed. ⊎_elim (λ none. omega arith) (⊎_elim (λ some. some.1.1 last) (λ own. true≢false (sym own.1 ∙ seed.1.0))) w.l2_key) w.l1_key

-- The public key length has no say in a seed envelope, and the identifier none in a public one.
pub seed_checks_lem : (at : Gkid) (p q l1Len l2Len : ℕ) → key_checks false at p l1Len l2Len ≡ key_checks false at q l1Len l2Len
unfolding key_checks keys_allowed l2_key_allowed
seed_checks_lem at p q l1Len l2Len = refl

pub public_checks : (at i : Gkid) (publicLen l1Len l2Len : ℕ) → key_checks true at publicLen l1Len l2Len ≡ key_checks true i publicLen l1Len l2Len
unfolding key_checks keys_allowed l1_key_allowed l2_key_allowed
public_checks at i publicLen l1Len l2Len = refl

-- the seed keys among keys of these lengths: those that are there, unless the envelope is public
abbrev pub seed_keys_of : Bool → ℕ → ℕ → SeedKeys
seed_keys_of public l1Len l2Len = record { l1 = not public && not (eqb l1Len 0); l2 = not public && not (eqb l2Len 0) }

-- the lengths of a seed envelope's keys
seed_lengths : {at : Gkid} {publicLen l1Len l2Len : ℕ} → WellFormed false at publicLen l1Len l2Len
    → (seed_key_length (not (eqb l1Len 0)) ≡ l1Len) × (seed_key_length (not (eqb l2Len 0)) ≡ l2Len)
seed_lengths w = (
  ⊎_elim (λ none. rw none) (λ some. rw some.0) w.l1_key,
  ⊎_elim (λ none. rw none) (⊎_elim (λ some. rw some.0) (λ own. absurd (false≢true own.1))) w.l2_key,
)

-- A seed key that is there has 64 bytes.
pub seed_64 : (public : Bool) (at : Gkid) (publicLen l1Len l2Len : ℕ) → WellFormed public at publicLen l1Len l2Len
    → ((seed_keys_of public l1Len l2Len).l1 ≡ true → l1Len ≡ 64) × ((seed_keys_of public l1Len l2Len).l2 ≡ true → l2Len ≡ 64)
seed_64 true at publicLen l1Len l2Len w = (λ k. absurd (false≢true k), λ k. absurd (false≢true k))
seed_64 false at publicLen l1Len l2Len w = let long = seed_lengths w in (λ k. sym long.0 ∙ rw k, λ k. sym long.1 ∙ rw k)

-- A seed envelope at that identifier with just the seed keys is allowed too.
pub seed_alone : (public : Bool) (at : Gkid) (publicLen l1Len l2Len : ℕ) → WellFormed public at publicLen l1Len l2Len
    → first_of (key_checks false at 0 (seed_key_length (seed_keys_of public l1Len l2Len).l1) (seed_key_length (seed_keys_of public l1Len l2Len).l2)) ≡ Ok tt
seed_alone true at publicLen l1Len l2Len w = none-accepted false at 0
seed_alone false at publicLen l1Len l2Len w =
    let long = seed_lengths w in
    rw (long.0, long.1, seed_checks_lem at 0 publicLen l1Len l2Len) (well_formed_keys false at publicLen l1Len l2Len w)

-- A seed envelope's 64-byte keys are allowed but for an L1 key at L1 = 0 and L2 not 31, and an L2 key at L2 = 31.
pub seed_keys_lem : (keys : SeedKeys) (at : Gkid) → keys_allowed false at 0 (seed_key_length keys.l1) (seed_key_length keys.l2)
    ≡ not (keys.l1 && (eqb at.l1.0 0 && not (eqb at.l2.0 31))) && not (keys.l2 && eqb at.l2.0 31)
unfolding keys_allowed l1_key_allowed l2_key_allowed
seed_keys_lem keys at = ap₂ ◌&&◌ (key keys.l1 _) (key keys.l2 _)
  where
    key : (present barred : Bool) → cond barred (eqb (cond present 64 0) 0) (eqb (cond present 64 0) 0 || eqb (cond present 64 0) 64) ≡ not (present && barred)
    key true true = refl
    key true false = refl
    key false true = refl
    key false false = refl

-- The form is L1ONLY if L2 = 31, else L2ONLY if L1 = 0, else BOTH.
pub form_cases : (P : Form → Type 0) (at : Gkid) → (eqb at.l2.0 31 ≡ true → P L1Only) → (eqb at.l2.0 31 ≡ false → eqb at.l1.0 0 ≡ true → P L2Only)
    → (eqb at.l2.0 31 ≡ false → eqb at.l1.0 0 ≡ false → P Both) → P (seed_form at)
unfolding seed_form
form_cases P at last first other = cond_cases P (eqb at.l2.0 31) last (λ l. cond_cases P (eqb at.l1.0 0) (first l) (other l))

-- The form for seed rights is not refused.
pub seed_form-accepted : (at : Gkid) → InGroup at → first_of (seed_checks (keys_of (seed_form at)) at) ≡ Ok tt
unfolding keys_of seed_checks key_checks
seed_form-accepted at g =
    pass_accepted _ (
      not_above at g,
      (
        ap not (form_cases (λ form. keys_allowed false at 0 (seed_key_length (keys_of form).l1) (seed_key_length (keys_of form).l2) ≡ true) at
            (λ l. rw (seed_keys_lem (keys_of L1Only) at, l, and-false))
            (λ l f. rw (seed_keys_lem (keys_of L2Only) at, l))
            (λ l f. rw (seed_keys_lem (keys_of Both) at, l, f))),
        tt,
      ),
    )

-- No key at all: 5 where an index is above 31, never 11.
pub keyless_checks : (at : Gkid) → first_of (seed_checks (keys_of Keyless) at) ≡ cond (index_above_31 at) (Err IndexAbove31) (Ok tt)
unfolding seed_checks keys_of first_of
keyless_checks at = ap (cond (index_above_31 at) (Err IndexAbove31)) (none-accepted false at 0)
