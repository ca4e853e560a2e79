-- Keys are accepted exactly when their lengths are well formed.
use Rattle.lemmas.proofs.Basics.{ℕ, Bool, true, false, cond, not, ◌&&◌, ◌||◌, true≢false, ◌⊎◌, inl, inr, ⊎_elim, ◌≡◌, refl, ap, eqb, eq-eqb, ne_eqb, eqb-true, eqb-false}
use Rattle.std.specs.Prelude.{Ok}
use Rattle.lemmas.proofs.Cases.{by_cases, not-false, both_true, true-and, or-true, true-or}
use Rattle.refusal.specs.Chain.{first_of}
use Rattle.refusal.proofs.Chains.{accepted_pass, pass_accepted}
use Rattle.gkid.specs.declared.Gkid.{Gkid}
use Rattle.keys.specs.KeyRule.{l1_key_allowed, l2_key_allowed, keys_allowed, key_checks}
use Rattle.keys.specs.WellFormed.{WellFormed}

-- the rule's two halves, as facts
abbrev L1Rule : Bool → Gkid → ℕ → Type 0
L1Rule public at len = (len ≡ 0) ⊎ ((len ≡ 64) × ((public ≡ false) × (at.l1.0 ≡ 0 → at.l2.0 ≡ 31)))

abbrev L2Rule : Bool → Gkid → ℕ → ℕ → Type 0
L2Rule public at publicLen len = (len ≡ 0) ⊎ (((len ≡ 64) × ((public ≡ false) × (at.l2.0 ≡ 31 → ⊥))) ⊎ ((len ≡ publicLen) × (public ≡ true)))

l1_rule : (public : Bool) (at : Gkid) (len : ℕ) → l1_key_allowed public at len ≡ true → L1Rule public at len
unfolding l1_key_allowed
l1_rule true at len = λ e. inl (eqb-true len 0 e)
l1_rule false at len =
    by_cases (λ t. cond t (eqb len 0) (eqb len 0 || eqb len 64) ≡ true → L1Rule false at len) (eqb at.l1.0 0 && not (eqb at.l2.0 31))
    (λ q e. inl (eqb-true len 0 e))
    (λ q e. ⊎_elim (λ z. inl (eqb-true len 0 z)) (λ l. inr (eqb-true len 64 l, (refl, λ z. eqb-true at.l2.0 31 (last z q)))) (or-true _ _ e))
  where
    last : at.l1.0 ≡ 0 → eqb at.l1.0 0 && not (eqb at.l2.0 31) ≡ false → eqb at.l2.0 31 ≡ true
    last z q = not-false _ (rw (eq-eqb at.l1.0 0 z) at q)

rule_l1 : (public : Bool) (at : Gkid) (len : ℕ) → L1Rule public at len → l1_key_allowed public at len ≡ true
unfolding l1_key_allowed
rule_l1 public at len (inl z) = by_cases (λ t. cond t (eqb len 0) (eqb len 0 || eqb len 64) ≡ true) (public || eqb at.l1.0 0 && not (eqb at.l2.0 31)) (λ _. eq-eqb len 0 z) (λ _. rw (eq-eqb len 0 z))
rule_l1 true at len (inr f) = absurd (true≢false f.1.0)
rule_l1 false at len (inr f) =
    by_cases (λ t. cond (t && not (eqb at.l2.0 31)) (eqb len 0) (eqb len 0 || eqb len 64) ≡ true) (eqb at.l1.0 0)
    (λ q. rw (eq-eqb at.l2.0 31 (f.1.1 (eqb-true at.l1.0 0 q))) long)
    (λ q. long)
  where
    long : eqb len 0 || eqb len 64 ≡ true
    long = rw f.0

l2_rule : (public : Bool) (at : Gkid) (publicLen len : ℕ) → l2_key_allowed public at publicLen len ≡ true → L2Rule public at publicLen len
unfolding l2_key_allowed
l2_rule true at publicLen len = λ e. ⊎_elim (λ z. inl (eqb-true len 0 z)) (λ l. inr (inr (eqb-true len publicLen l, refl))) (or-true _ _ e)
l2_rule false at publicLen len =
    by_cases (λ t. cond t (eqb len 0) (eqb len 0 || eqb len 64) ≡ true → L2Rule false at publicLen len) (eqb at.l2.0 31)
    (λ q e. inl (eqb-true len 0 e))
    (λ q e. ⊎_elim (λ z. inl (eqb-true len 0 z)) (λ l. inr (inl (eqb-true len 64 l, (refl, eqb-false at.l2.0 31 q)))) (or-true _ _ e))

rule_l2 : (public : Bool) (at : Gkid) (publicLen len : ℕ) → L2Rule public at publicLen len → l2_key_allowed public at publicLen len ≡ true
unfolding l2_key_allowed
rule_l2 public at publicLen len (inl z) = by_cases (λ t. cond t (eqb len 0) (eqb len 0 || eqb len (cond public publicLen 64)) ≡ true) (not public && eqb at.l2.0 31) (λ _. eq-eqb len 0 z) (λ _. rw (eq-eqb len 0 z))
rule_l2 public at publicLen len (inr (inl f)) = rw (f.1.0, ne_eqb at.l2.0 31 f.1.1) (true-or (eqb len 0) (eq-eqb len 64 f.0))
rule_l2 public at publicLen len (inr (inr f)) = rw f.1 (true-or (eqb len 0) (eq-eqb len publicLen f.0))

-- Accepted, so well formed.
pub keys_well_formed : (public : Bool) (at : Gkid) (publicLen l1Len l2Len : ℕ) → first_of (key_checks public at publicLen l1Len l2Len) ≡ Ok tt
    → WellFormed public at publicLen l1Len l2Len
unfolding key_checks keys_allowed
keys_well_formed public at publicLen l1Len l2Len e =
    let allowed = both_true _ _ (not-false _ (accepted_pass (key_checks public at publicLen l1Len l2Len) e).0) in
    record { l1_key = l1_rule public at l1Len allowed.0; l2_key = l2_rule public at publicLen l2Len allowed.1 }

-- Well formed, so accepted.
pub well_formed_keys : (public : Bool) (at : Gkid) (publicLen l1Len l2Len : ℕ) → WellFormed public at publicLen l1Len l2Len
    → first_of (key_checks public at publicLen l1Len l2Len) ≡ Ok tt
unfolding key_checks keys_allowed
well_formed_keys public at publicLen l1Len l2Len w =
    pass_accepted _ (ap not (true-and (rule_l1 public at l1Len w.l1_key) (rule_l2 public at publicLen l2Len w.l2_key)), tt)
