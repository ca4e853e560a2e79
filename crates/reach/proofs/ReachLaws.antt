-- Laws of what keys reach: only identifiers of the L0 group.
use Rattle.lemmas.proofs.Basics.{true, false, not, and-false, ◌≡◌, refl, eqb, eq-eqb, eqb-true, not-true}
use Rattle.lemmas.proofs.Cases.{both_true}
use Rattle.gkid.specs.declared.Gkid.{Gkid}
use Rattle.gkid.specs.Identifier.{index_above_31, InGroup}
use Rattle.gkid.proofs.Order.{in_group, not_above}
use Rattle.keys.specs.declared.SeedKeys.{SeedKeys}
use Rattle.reach.specs.Reached.{of_group, l1_reaches, l2_reaches, reaches}

-- Of the L0 group: the same L0, and L1 and L2 at most 31.
pub group_is : (at i : Gkid) → of_group at i ≡ true → (i.l0.0 ≡ at.l0.0) × InGroup i
unfolding of_group
group_is at i e = let h = both_true (eqb i.l0.0 at.l0.0) (not (index_above_31 i)) e in (eqb-true _ _ h.0, in_group i (not-true _ h.1))

pub is_group : (at i : Gkid) → i.l0.0 ≡ at.l0.0 → InGroup i → of_group at i ≡ true
unfolding of_group
is_group at i e g = rw (eq-eqb _ _ e, not_above i g)

-- Outside the L0 group nothing is reached.
pub outside : (keys : SeedKeys) (at i : Gkid) → of_group at i ≡ false → reaches keys at i ≡ false
unfolding reaches l1_reaches l2_reaches
outside keys at i e = rw e (simp and-false)

-- With no key present nothing is reached.
pub no_key : (at i : Gkid) → reaches (record { l1 = false; l2 = false }) at i ≡ false
unfolding reaches
no_key at i = refl

-- An identifier with an index above 31 is reached by nothing.
pub above_31 : (keys : SeedKeys) (at i : Gkid) → index_above_31 i ≡ true → reaches keys at i ≡ false
unfolding of_group
above_31 keys at i e = outside keys at i (rw e (and-false (eqb i.l0.0 at.l0.0)))
