-- Document 02, No. 4: what the house rule changes of the published one. A seed envelope's keys are judged as before, and so is every form.
use Rattle.lemmas.proofs.Basics.{ℕ, Bool, true, false, cond, ◌&&◌, ◌||◌, ◌≡◌, refl, sym, ◌∙◌, eqb, eqb-true, eqb-false}
use Rattle.std.specs.Prelude.{Ok}
use mathlib.Core.Bool.{or-false}
use Rattle.lemmas.proofs.Cases.{not-false, both_true}
use Rattle.refusal.specs.Chain.{first_of}
use Rattle.refusal.proofs.Chains.{accepted_pass}
use Rattle.gkid.specs.declared.Gkid.{Gkid}
use Rattle.keys.specs.declared.SeedKeys.{SeedKeys}
use Rattle.keys.specs.KeyRule.{l1_key_allowed, l2_key_allowed, keys_allowed, key_checks}
use Rattle.keys.specs.Forms.{seed_checks}
use Rattle.keys.specs.Published.{published_l2_key_allowed, published_allowed, published_seed_checks}

-- The house rule allows what the published rule does, and of a public envelope at L2 = 31, which has no L1 key, an L2 key of the public key length.
pub house_rule : (public : Bool) (at : Gkid) (publicLen l1Len l2Len : ℕ) → keys_allowed public at publicLen l1Len l2Len
    ≡ published_allowed public at publicLen l1Len l2Len || public && (eqb at.l2.0 31 && (eqb l1Len 0 && eqb l2Len publicLen))
unfolding keys_allowed l1_key_allowed l2_key_allowed published_allowed published_l2_key_allowed
house_rule true at publicLen l1Len l2Len = told (eqb l1Len 0) (eqb at.l2.0 31)
  where
    told : (noL1 last : Bool) → noL1 && (eqb l2Len 0 || eqb l2Len publicLen)
        ≡ noL1 && cond last (eqb l2Len 0) (eqb l2Len 0 || eqb l2Len publicLen) || last && (noL1 && eqb l2Len publicLen)
    told true true = refl
    told true false = sym (or-false _)
    told false true = refl
    told false false = refl
house_rule false at publicLen l1Len l2Len = sym (or-false _)

-- So the checks of a form, 11 among them, are the published ones: a form is asked of a seed envelope.
pub forms_as_published : (keys : SeedKeys) (at : Gkid) → seed_checks keys at ≡ published_seed_checks keys at
unfolding seed_checks key_checks keys_allowed l2_key_allowed published_seed_checks published_allowed published_l2_key_allowed
forms_as_published keys at = refl

-- what keys are that the house rule accepts and the published rule does not
pub record HouseOnly (public : Bool) (at : Gkid) (publicLen l1Len l2Len : ℕ) : Type 0 where
  pub is_public_lem : public ≡ true
  pub last : at.l2.0 ≡ 31
  pub no_l1_key : l1Len ≡ 0
  pub own_key : l2Len ≡ publicLen
  pub some_key : l2Len ≡ 0 → ⊥

pub house_only : (public : Bool) (at : Gkid) (publicLen l1Len l2Len : ℕ) → first_of (key_checks public at publicLen l1Len l2Len) ≡ Ok tt
    → published_allowed public at publicLen l1Len l2Len ≡ false → HouseOnly public at publicLen l1Len l2Len
unfolding key_checks published_allowed l1_key_allowed published_l2_key_allowed
house_only public at publicLen l1Len l2Len e against =
    let more : public && (eqb at.l2.0 31 && (eqb l1Len 0 && eqb l2Len publicLen)) ≡ true = rw against at (sym (house_rule public at publicLen l1Len l2Len) ∙ not-false _ (accepted_pass _ e).0) in
    let p = both_true _ _ more in
    let l = both_true _ _ p.1 in
    let k = both_true _ _ l.1 in
    record {
      is_public_lem = p.0;
      last = eqb-true _ _ l.0;
      no_l1_key = eqb-true _ _ k.0;
      own_key = eqb-true _ _ k.1;
      some_key = eqb-false _ _ (rw (p.0, l.0, k.0) at against);
    }
