-- No identifier is reached by both keys that an envelope carries.
use Rattle.lemmas.proofs.Basics.{ℕ, ◌<◌, arith, Bool, true, cond, ◌≡◌, ltb, leb, eqb, ltb-true, eqb-true}
use Rattle.lemmas.proofs.Cases.{by_cases, both_true}
use Rattle.gkid.specs.declared.Gkid.{Gkid}
use Rattle.keys.specs.WellFormed.{WellFormed}
use Rattle.keys.proofs.FormLaws.{both_keys}
use Rattle.reach.specs.Reached.{of_group, l1_reaches, l2_reaches}

-- Where it carries both, its L2 index is not 31, and the L1 key ends a row below its own.
pub not_by_both : (public : Bool) (at i : Gkid) (publicLen l1Len l2Len : ℕ) → WellFormed public at publicLen l1Len l2Len → 0 < l1Len → 0 < l2Len
    → l1_reaches at i ≡ true → l2_reaches at i ≡ true → ⊥
unfolding l1_reaches l2_reaches
not_by_both public at i publicLen l1Len l2Len w l1 l2 by-l1 by-l2 =
    let own : i.l1.0 ≡ at.l1.0 = eqb-true _ _ (both_true _ _ (both_true (of_group at i) _ by-l2).1).0 in
    by_cases (λ t. cond t (leb i.l1.0 at.l1.0) (ltb i.l1.0 at.l1.0) ≡ true → ⊥) (eqb at.l2.0 31)
    (λ last _. both_keys public at publicLen l1Len l2Len w l1 l2 (eqb-true at.l2.0 31 last))
    (λ _ below. omega (arith, ltb-true i.l1.0 at.l1.0 below))
    (both_true (of_group at i) _ by-l1).1
