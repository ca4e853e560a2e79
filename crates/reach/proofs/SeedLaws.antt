-- Laws of the form that seed rights give at an identifier: it is not refused, it reaches exactly the identifiers of the L0 group up
-- to that one, 32·L1 + L2 + 1 of them.
use Rattle.lemmas.proofs.Basics.{ℕ, zero, suc, ◌+◌, ◌*◌, ◌<◌, min, arith, not, ◌&&◌, ◌||◌, ◌≡◌, refl, sym, ap, ◌∙◌, ltb, leb, eqb, le-ltb, ltb-true, ltb-false, le-leb, lt-leb, leb-true, leb-false, eqb-true, eqb-false}
use mathlib.Core.Bool.{or-false}
use Rattle.lemmas.proofs.Cases.{by_cases, leb-same}
use Rattle.lemmas.specs.Counting.{bit, count}
use Rattle.lemmas.proofs.Counting.{count_is}
use Rattle.refusal.specs.Chain.{unless_refused}
use Rattle.gkid.specs.declared.Gkid.{Gkid}
use Rattle.gkid.specs.Identifier.{InGroup, later}
use Rattle.gkid.proofs.Order.{ordinal, later_ordinal}
use Rattle.keys.specs.Forms.{keys_of, seed_form}
use Rattle.keys.proofs.FormLaws.{form_cases, seed_form-accepted}
use Rattle.reach.specs.Reached.{of_group, l1_reaches, l2_reaches, reaches}
use Rattle.reach.specs.Reaches.{map_reach, keys_reach, form_reach, reach_rows, reach_total, reached_in}
use Rattle.reach.proofs.ReachLaws.{group_is, is_group, outside}
use Rattle.reach.proofs.MapLaws.{in_map_lem, member, map-total}

-- The form is not refused.
pub seed_accepted : (at : Gkid) → InGroup at → form_reach (seed_form at) at ≡ map_reach (keys_of (seed_form at)) at
unfolding form_reach keys_reach unless_refused
seed_accepted at g = rw (seed_form-accepted at g)

leb-not-ltb : (a b : ℕ) → leb a b ≡ not (ltb b a)
leb-not-ltb a b = by_cases (λ t. leb a b ≡ not t) (ltb b a) (λ e. lt-leb a b (ltb-true b a e)) (λ e. le-leb a b (ltb-false b a e))

-- of the group, in a row below or in the same row up to its index: up to it by the ordinals
up_to : (at i : Gkid) → i.l0.0 ≡ at.l0.0 → InGroup at → InGroup i
    → ltb i.l1.0 at.l1.0 || eqb i.l1.0 at.l1.0 && leb i.l2.0 at.l2.0 ≡ leb (ordinal i) (ordinal at)
up_to at i e g h =
    by_cases (λ t. t || eqb i.l1.0 at.l1.0 && leb i.l2.0 at.l2.0 ≡ leb (ordinal i) (ordinal at)) (ltb i.l1.0 at.l1.0)
    (λ l. sym (le-leb (ordinal i) (ordinal at) (omega (arith, ltb-true))))
    (λ l. by_cases (λ t. t && leb i.l2.0 at.l2.0 ≡ leb (ordinal i) (ordinal at)) (eqb i.l1.0 at.l1.0)
    (λ s. let same = eqb-true i.l1.0 at.l1.0 s in leb-same i.l2.0 at.l2.0 (ordinal i) (ordinal at) (omega arith) (omega arith))
    (λ s. sym (lt-leb (ordinal i) (ordinal at) (omega (arith, ltb-false, eqb-false i.l1.0 at.l1.0 s)))))

inside : (at i : Gkid) → i.l0.0 ≡ at.l0.0 → InGroup at → InGroup i → reaches (keys_of (seed_form at)) at i ≡ leb (ordinal i) (ordinal at)
unfolding keys_of reaches l1_reaches l2_reaches
inside at i e g h =
    form_cases (λ form. reaches (keys_of form) at i ≡ leb (ordinal i) (ordinal at)) at
    (λ l. rw (is_group at i e h, l, or-false) (let last = eqb-true at.l2.0 31 l in leb-same i.l1.0 at.l1.0 (ordinal i) (ordinal at) (omega arith) (omega arith)))
    (λ l f. rw (is_group at i e h) (rw (le-ltb i.l1.0 at.l1.0 (omega (arith, eqb-true at.l1.0 0 f))) at (up_to at i e g h)))
    (λ l f. rw (is_group at i e h, l) (up_to at i e g h))

-- It reaches exactly the identifiers of the L0 group up to this one.
pub seed_reaches : (at i : Gkid) → InGroup at → reaches (keys_of (seed_form at)) at i ≡ of_group at i && not (later i at)
seed_reaches at i g =
    by_cases (λ t. of_group at i ≡ t → reaches (keys_of (seed_form at)) at i ≡ t && not (later i at)) (of_group at i)
    (λ _ of. let h = group_is at i of in
    inside at i h.0 g h.1 ∙ leb-not-ltb (ordinal i) (ordinal at) ∙ ap not (sym (later_ordinal i at h.1 g)))
    (λ _ out. outside _ at i out)
    refl

-- So do the bits of the form's map.
pub seed_bits : (at i : Gkid) → InGroup at → reached_in at (form_reach (seed_form at) at) i ≡ of_group at i && not (later i at)
unfolding reached_in reach_rows
seed_bits at i g = rw (seed_accepted at g) (in_map_lem (keys_of (seed_form at)) at i ∙ seed_reaches at i g)

-- of the numbers below n, those up to m
count_to : (n m : ℕ) → count n (λ k. leb k m) ≡ min n (suc m)
unfolding count bit
count_to zero m = omega arith
count_to (suc n) m =
    by_cases (λ t. count n (λ k. leb k m) + bit t ≡ min (suc n) (suc m)) (leb n m)
    (λ l. omega (arith, count_to n m, leb-true n m l))
    (λ l. omega (arith, count_to n m, leb-false n m l))

-- Its total is 32·L1 + L2 + 1.
pub seed_total : (at : Gkid) → InGroup at → reach_total (form_reach (seed_form at) at) ≡ 32 * at.l1.0 + at.l2.0 + 1
unfolding reach_total reach_rows
seed_total at g =
    let below : 32 * at.l1.0 + at.l2.0 < 1024 = omega arith in
    rw (seed_accepted at g)
    (map-total (keys_of (seed_form at)) at
    ∙ count_is 1024 (λ n h. inside at (member at.l0.0 n) refl g (omega arith) ∙ leb-same (ordinal (member at.l0.0 n)) (ordinal at) n (32 * at.l1.0 + at.l2.0) (omega arith) (omega arith))
    ∙ count_to 1024 _ ∙ omega arith)
