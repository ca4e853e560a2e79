-- Signed numbers as the machine holds them, by their bits, and as they are meant.
use Rattle.lemmas.proofs.Basics.{ℕ, suc, ◌-◌, ◌^◌, arith, Bool, true, false, cond, not, ◌&&◌, ◌||◌, false≢true, ◌≡◌, refl, ◌∙◌, ltb, eqb, ltb-true, le-ltb, eq-eqb, ne_eqb, eqb-true, eqb-false}
use lib.Dec.{T}
use lib.IntN.{ℤ, pos, negsuc, nat_abs}
use lib.Signed.{non_neg}
use mir.Syntax.{w32}
use mir.Val.{Fits, SFits, of_z}
use Rattle.lemmas.proofs.Cases.{by_cases, both_true}
use Rattle.request.specs.declared.Request.{Request}
use Rattle.request.specs.Indices.{unset, natural, names, later_then_z}
use Rattle.std.specs.Prelude.{Some}
use Rattle.std.proofs.Common.{Ordering, Less, Equal, Greater}
use Rattle.std.specs.Ordering.{int_cmp, is_gt, is_some_and, partial_ordering_then}
use mathlib.Core.Bool.{beq}

-- -1 is the number of all bits set
pub unset_bits : (z : ℤ) → SFits w32 z → eqb (of_z w32 z) 4294967295 ≡ unset z
unfolding unset
unset_bits (pos n) h = ne_eqb n 4294967295 (omega (arith, h.sfits))
unset_bits (negsuc n) h =
    by_cases (λ t. eqb (2 ^ 32 - suc n) 4294967295 ≡ t) (eqb n 0)
    (λ e. eq-eqb (2 ^ 32 - suc n) 4294967295 (omega (arith, eqb-true n 0 e)))
    (λ e. ne_eqb (2 ^ 32 - suc n) 4294967295 (λ q. eqb-false n 0 e (omega (arith, h.sfits))))

-- where an index is not negative, the cast to 32 unsigned bits gives it
pub record Narrowed (z : ℤ) : Type 0 where
  pub allowed : T (non_neg z) × Fits w32 (nat_abs z)
  pub same : nat_abs z ≡ natural z

narrows : (z : ℤ) → SFits w32 z → non_neg z ≡ true → Narrowed z
unfolding natural
narrows (pos n) h e = record { allowed = (tt, record { fits = omega (arith, h.sfits) }); same = refl }
narrows (negsuc n) h e = absurd (false≢true e)

-- and so each index of a request that names an identifier
pub names_each : (q : Request) → SFits w32 q.l0 → SFits w32 q.l1 → SFits w32 q.l2 → names q ≡ true → Narrowed q.l0 × (Narrowed q.l1 × Narrowed q.l2)
unfolding names
names_each q f0 f1 f2 e =
    let first = both_true (non_neg q.l0) _ e in
    let rest = both_true (non_neg q.l1) _ first.1 in
    (narrows q.l0 f0 first.0, (narrows q.l1 f1 rest.0, narrows q.l2 f2 rest.1))

-- what an index tells by its order against now's
told : Ordering → Bool → Bool
told Less next = false
told Equal next = next
told Greater next = true

index_told : (z : ℤ) (n : ℕ) (next : Bool) → told (int_cmp z (pos n)) next ≡ later_then_z z n next
unfolding told later_then_z
index_told (pos m) n next =
    by_cases (λ t. told (cond t Less (cond (ltb n m) Greater Equal)) next ≡ cond (ltb n m) true (cond t false next)) (ltb m n)
    (λ l. rw (le-ltb n m (omega (arith, ltb-true))))
    (λ l. by_cases (λ t. told (cond t Greater Equal) next ≡ cond t true next) (ltb n m) (λ k. refl) (λ k. refl))
index_told (negsuc m) n next = refl

triple_told : (o p q : Ordering) → is_some_and is_gt (partial_ordering_then (partial_ordering_then (Some o) (Some p)) (Some q)) ≡ told o (told p (told q false))
unfolding told
triple_told Less p q = refl
triple_told Greater p q = refl
triple_told Equal Less q = refl
triple_told Equal Greater q = refl
triple_told Equal Equal Less = refl
triple_told Equal Equal Equal = refl
triple_told Equal Equal Greater = refl

-- The order of triples: by an index or, where that is the same, by the next one.
pub triple_order : (a b c : ℤ) (x y z : ℕ) → is_some_and is_gt (partial_ordering_then (partial_ordering_then (Some (int_cmp a (pos x))) (Some (int_cmp b (pos y)))) (Some (int_cmp c (pos z)))) ≡ later_then_z a x (later_then_z b y (later_then_z c z false))
triple_order a b c x y z = triple_told (int_cmp a (pos x)) (int_cmp b (pos y)) (int_cmp c (pos z)) ∙ rw (index_told a x, index_told b y, index_told c z)

-- some of three hold and not all, where two neighbours differ
pub differ : (a b c : Bool) → not (beq a b) || not (beq b c) ≡ (a || (b || c)) && not (a && (b && c))
differ true true true = refl
differ true true false = refl
differ true false c = refl
differ false true c = refl
differ false false true = refl
differ false false false = refl
