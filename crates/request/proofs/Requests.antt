-- Laws of requests: what their indices show once narrowed; and where neither 14 nor 15 refuses them, they are all -1 or all 0 and above.
use Rattle.lemmas.proofs.Basics.{ℕ, arith, Bool, true, false, cond, true≢false, ◌≡◌, refl, ltb, eqb, ltb-true, ltb-false, eq-eqb, ne_eqb}
use Rattle.std.specs.Prelude.{Result, Ok, Err, Option, Some, None}
use Rattle.rootid.specs.declared.RootId.{RootId}
use Rattle.refusal.specs.declared.Refusal.{Refusal}
use lib.IntN.{ℤ, pos, negsuc}
use Rattle.lemmas.proofs.Cases.{by_cases, or-false}
use Rattle.refusal.specs.Outcome.{Outcome}
use Rattle.refusal.specs.Chain.{first_of, unless_refused}
use Rattle.refusal.specs.Number.{outcome_number}
use Rattle.refusal.proofs.Numbers.{number_not-zero}
use Rattle.gkid.specs.declared.Gkid.{Gkid}
use Rattle.gkid.specs.Identifier.{gkid, InGroup, later_then, later}
use Rattle.request.specs.declared.Request.{Request}
use Rattle.request.specs.Indices.{below, outside, out_of_range, unset, mixed, index_checks, later_then_z, later_than_now, names, natural, named_of}
use Rattle.request.specs.Narrowed.{narrowed_of, narrowed_number, narrowed_names, narrowed_shown, named_or_zeros}

-- what stands behind 14 and 15
abbrev pub asked_of : Request → Option Gkid
asked_of q = cond (names q) (Some (named_of q)) None

pub narrowed_asks : (q : Request) → out_of_range q ≡ false → mixed q ≡ false → narrowed_of q ≡ Ok (asked_of q)
unfolding narrowed_of index_checks first_of unless_refused
narrowed_asks q h e = rw (h, e)

-- The number is that of the checks, and where they are accepted, what is named is shown.
pub narrowed_shows : (q : Request) {r : Result (Option Gkid) Refusal} → r ≡ narrowed_of q
    → record { answer : r ≡ narrowed_of q; number : narrowed_number r ≡ outcome_number (first_of (index_checks q)); shown : narrowed_number r ≡ 0 → (narrowed_names r ≡ names q) × (narrowed_shown r ≡ named_or_zeros q) }
unfolding narrowed_of narrowed_number narrowed_names narrowed_shown named_or_zeros unless_refused outcome_number
narrowed_shows q e = rw e (let told = of (first_of (index_checks q)) (names q) (named_of q) in record { answer = refl; number = told.0; shown = told.1 })
  where
    of : (o : Outcome) (n : Bool) (i : Gkid) → let r = unless_refused Err o (Ok (cond n (Some i) None)) in
        (narrowed_number r ≡ outcome_number o) × (narrowed_number r ≡ 0 → (narrowed_names r ≡ n) × (narrowed_shown r ≡ cond n i (gkid 0 0 0)))
    of (Ok tt) true i = (refl, λ _. (refl, refl))
    of (Ok tt) false i = (refl, λ _. (refl, refl))
    of (Err r) n i = (refl, λ z. absurd (number_not-zero r z))

-- Either no index names anything, and the request is never later than now; or all do, and it is later where the named one is.
pub data Asks (q : Request) : Type 0 where
  latest : names q ≡ false → ((present : Gkid) → later_than_now q present ≡ false) → Asks q
  named : names q ≡ true → InGroup (named_of q) → ((present : Gkid) → later_than_now q present ≡ later (named_of q) present) → Asks q

then_natural : (a b : ℕ) {next other : Bool} → next ≡ other → later_then_z (pos a) b next ≡ later_then a b other
unfolding later_then_z later_then
then_natural a b {next} {other} e =
    by_cases (λ t. cond t true (cond (ltb a b) false next) ≡ cond (eqb a b) other t) (ltb b a)
    (λ l. rw (ne_eqb a b (omega (arith, ltb-true))))
    (λ l. by_cases (λ t. cond t false next ≡ cond (eqb a b) other false) (ltb a b)
    (λ m. rw (ne_eqb a b (omega (arith, ltb-true))))
    (λ m. rw (eq-eqb a b (omega (arith, ltb-false))) e))

-- after 14, a negative index is -1
minus_one : (n : ℕ) → below (negsuc n) ≡ false → eqb n 0 ≡ true
unfolding below
minus_one n e = eq-eqb n 0 (omega (arith, ltb-false))

asks_of : (root : Option RootId) (a b c : ℤ) → let q : Request = record { root = root; l0 = a; l1 = b; l2 = c } in
    below a ≡ false → outside b ≡ false → outside c ≡ false → mixed q ≡ false → Asks q
unfolding below outside mixed unset names natural named_of later_than_now later_then_z later
asks_of root (pos a) (pos b) (pos c) h k l e =
    named refl (ltb-false 31 b k, ltb-false 31 c l) (λ present. then_natural a _ (then_natural b _ (then_natural c _ refl)))
asks_of root (negsuc a) (negsuc b) (negsuc c) h k l e = latest refl (λ present. refl)
asks_of root (pos a) (pos b) (negsuc c) h k l e = absurd (true≢false (rw (minus_one c (or-false (below (negsuc c)) _ l).0) at e))
asks_of root (pos a) (negsuc b) (pos c) h k l e = absurd (true≢false (rw (minus_one b (or-false (below (negsuc b)) _ k).0) at e))
asks_of root (pos a) (negsuc b) (negsuc c) h k l e = absurd (true≢false (rw (minus_one b (or-false (below (negsuc b)) _ k).0) at e))
asks_of root (negsuc a) (pos b) (pos c) h k l e = absurd (true≢false (rw (minus_one a h) at e))
asks_of root (negsuc a) (pos b) (negsuc c) h k l e = absurd (true≢false (rw (minus_one a h) at e))
asks_of root (negsuc a) (negsuc b) (pos c) h k l e = absurd (true≢false (rw (minus_one a h, minus_one b (or-false (below (negsuc b)) _ k).0) at e))

pub asks : (q : Request) → out_of_range q ≡ false → mixed q ≡ false → Asks q
unfolding out_of_range
asks q h e =
    let l0 = or-false (below q.l0) _ h in
    let rest = or-false (outside q.l1) _ l0.1 in
    asks_of q.root q.l0 q.l1 q.l2 l0.0 rest.0 rest.1 e
