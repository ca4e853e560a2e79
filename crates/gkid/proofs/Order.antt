-- Laws of identifiers: of two, one is up to the other; up to is transitive and antisymmetric; 5 is the index rule; and where L1
-- and L2 are at most 31, the order is that of the ordinals.
use Rattle.lemmas.proofs.Basics.{ℕ, ◌+◌, ◌*◌, ◌≤◌, ◌<◌, arith, Bool, true, false, ◌||◌, true≢false, false≢true, ◌≡◌, refl, sym, ◌∙◌, ltb, eqb, lt-ltb, le-ltb, ltb-true, ltb-false, eqb-true, eqb-false}
use Rattle.gkid.specs.declared.Gkid.{Gkid}
use Rattle.gkid.specs.Identifier.{gkid, index_above_31, InGroup, later_then, later}
use Rattle.lemmas.proofs.Cases.{by_cases, cond_cases}

-- two indices compare in three ways
then_cases : (a b : ℕ) (next : Bool) (P : Bool → Type 0) → (a < b → P false) → (a ≡ b → P next) → (b < a → P true) → P (later_then a b next)
unfolding later_then
then_cases a b next P less same more =
    cond_cases P (eqb a b) (λ e. same (eqb-true a b e)) (λ e. by_cases P (ltb b a) (λ l. more (ltb-true b a l)) (λ l. less (omega (arith, eqb-false a b e, ltb-false))))

-- up to: at most, and where the same, not later by the next index
up_to : (a b : ℕ) (next : Bool) → (a ≤ b) × (a ≡ b → next ≡ false) → later_then a b next ≡ false
up_to a b next h = then_cases a b next (λ t. t ≡ false) (λ l. refl) h.1 (λ l. absurd (omega arith))

up_to_is : (a b : ℕ) (next : Bool) → later_then a b next ≡ false → (a ≤ b) × (a ≡ b → next ≡ false)
up_to_is a b next =
    then_cases a b next (λ t. t ≡ false → (a ≤ b) × (a ≡ b → next ≡ false))
    (λ l e. (omega arith, λ s. absurd (omega arith)))
    (λ s e. (omega arith, λ _. e))
    (λ l e. absurd (true≢false e))

then_total : (a b : ℕ) (r s : Bool) → (r ≡ true → s ≡ false) → later_then a b r ≡ true → later_then b a s ≡ false
then_total a b r s next =
    then_cases a b r (λ t. t ≡ true → later_then b a s ≡ false)
    (λ l e. absurd (false≢true e))
    (λ m e. up_to b a s (omega arith, λ _. next e))
    (λ l e. up_to b a s (omega arith, λ m. absurd (omega arith)))

then_transitive : (a b c : ℕ) (r s t : Bool) → (r ≡ false → s ≡ false → t ≡ false) → later_then a b r ≡ false → later_then b c s ≡ false → later_then a c t ≡ false
then_transitive a b c r s t next p q =
    let p' = up_to_is a b r p in
    let q' = up_to_is b c s q in
    up_to a c t (omega arith, λ e. next (p'.1 (omega arith)) (q'.1 (omega arith)))

then_antisymmetric : (a b : ℕ) (r s : Bool) → later_then a b r ≡ false → later_then b a s ≡ false → (a ≡ b) × ((r ≡ false) × (s ≡ false))
then_antisymmetric a b r s p q =
    let p' = up_to_is a b r p in
    let q' = up_to_is b a s q in
    let e : a ≡ b = omega arith in
    (e, (p'.1 e, q'.1 (sym e)))

-- Of two identifiers, one is up to the other.
pub later-total : (i j : Gkid) → later i j ≡ true → later j i ≡ false
unfolding later
later-total i j = then_total _ _ _ _ (then_total _ _ _ _ (then_total _ _ _ _ (λ e. refl)))

-- Up to is transitive.
pub later_transitive : (i j k : Gkid) → later i j ≡ false → later j k ≡ false → later i k ≡ false
unfolding later
later_transitive i j k = then_transitive _ _ _ _ _ _ (then_transitive _ _ _ _ _ _ (then_transitive _ _ _ _ _ _ (λ p q. refl)))

-- Two identifiers that are each up to the other are the same.
pub later_antisymmetric : (i j : Gkid) → later i j ≡ false → later j i ≡ false → i ≡ j
unfolding later
later_antisymmetric i j p q =
    let l0 = then_antisymmetric _ _ _ _ p q in
    let l1 = then_antisymmetric _ _ _ _ l0.1.0 l0.1.1 in
    let l2 = then_antisymmetric _ _ _ _ l1.1.0 l1.1.1 in
    λ n. gkid (l0.0 n) (l1.0 n) (l2.0 n)

then_test : (a b x y : ℕ) (next : Bool) → (a < b → x ≤ y) → (b < a → y < x) → (a ≡ b → next ≡ ltb y x) → later_then a b next ≡ ltb y x
then_test a b x y next less more same = then_cases a b next (λ t. t ≡ ltb y x) (λ l. sym (le-ltb y x (less l))) same (λ l. sym (lt-ltb y x (more l)))

-- No 5 exactly where L1 and L2 are at most 31.
pub in_group : (i : Gkid) → index_above_31 i ≡ false → InGroup i
unfolding index_above_31
in_group i = by_cases (λ t. t || ltb 31 i.l2.0 ≡ false → InGroup i) (ltb 31 i.l1.0) (λ l e. absurd (true≢false e)) (λ l e. omega (arith, ltb-false))

pub not_above : (i : Gkid) → InGroup i → index_above_31 i ≡ false
unfolding index_above_31
not_above i g = rw (le-ltb 31 i.l1.0 g.0, le-ltb 31 i.l2.0 g.1)

-- an identifier's number, L2 steps counted from (0, 0, 0)
abbrev pub ordinal : Gkid → ℕ
ordinal i = 1024 * i.l0.0 + 32 * i.l1.0 + i.l2.0

-- With L1 and L2 at most 31, the later identifier is the one with the higher ordinal.
pub later_ordinal : (i j : Gkid) → InGroup i → InGroup j → later i j ≡ ltb (ordinal j) (ordinal i)
unfolding later
later_ordinal i j p q =
    then_test _ _ (ordinal i) (ordinal j) _ (omega arith) (omega arith)
    (λ e. then_test _ _ (ordinal i) (ordinal j) _ (omega arith) (omega arith)
    (λ f. then_test _ _ (ordinal i) (ordinal j) _ (omega arith) (omega arith)
    (λ g. sym (le-ltb (ordinal j) (ordinal i) (omega arith)))))

-- With L1 and L2 at most 31, no two identifiers share an ordinal.
pub ordinal_injective : (i j : Gkid) → InGroup i → InGroup j → ordinal i ≡ ordinal j → i ≡ j
ordinal_injective i j p q e =
    let same : (i.l0.0 ≡ j.l0.0) × ((i.l1.0 ≡ j.l1.0) × (i.l2.0 ≡ j.l2.0)) = omega arith in
    λ n. gkid (same.0 n) (same.1.0 n) (same.1.1 n)

-- up to, by the ordinals
pub up_to_ordinal : (i j : Gkid) → InGroup i → InGroup j → later i j ≡ false → ordinal i ≤ ordinal j
up_to_ordinal i j g h e = ltb-false (ordinal j) (ordinal i) (sym (later_ordinal i j g h) ∙ e)

pub ordinal_up_to : (i j : Gkid) → InGroup i → InGroup j → ordinal i ≤ ordinal j → later i j ≡ false
ordinal_up_to i j g h l = later_ordinal i j g h ∙ le-ltb (ordinal j) (ordinal i) l

pub up_to_itself : (i : Gkid) → later i i ≡ false
up_to_itself i = by_cases (λ t. t ≡ false) (later i i) (λ e. sym e ∙ later-total i i e) (λ _. refl)
