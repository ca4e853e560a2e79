-- Laws of the chain of checks: accepted exactly where no check applies, and refused exactly by the first that does.
use Rattle.lemmas.proofs.Basics.{ℕ, arith, Bool, true, false, List, [], ◌∷◌, ◌++◌, ◌≡◌, refl, sym, ap, ◌∙◌}
use Rattle.std.specs.Prelude.{Ok, Err}
use Rattle.refusal.specs.declared.Refusal.{Refusal}
use Rattle.refusal.specs.Outcome.{Outcome}
use Rattle.refusal.specs.Chain.{Check, ◌⇒◌, first_of, unless_refused, goes_on, refuse_if}
use Rattle.refusal.specs.Number.{number_of}
use Rattle.lemmas.proofs.Cases.{cond_else}
use Rattle.refusal.proofs.Numbers.{number_not-zero}

-- no check of the chain applies
abbrev pub Pass : List Check → Type 0
Pass [] = Unit {0}
Pass ((applies ⇒ r) ∷ checks) = (applies ≡ false) × Pass checks

pub never_both : {r : Refusal} → ◌≡◌ {A = Outcome} (Err r) (Ok tt) → ⊥
never_both e = let z : ◌≡◌ {A = ℕ} 0 1 = cc in omega arith

-- Accepted exactly where no check applies.
pub accepted_pass : (checks : List Check) → first_of checks ≡ Ok tt → Pass checks
unfolding first_of
accepted_pass [] e = tt
accepted_pass ((true ⇒ r) ∷ checks) e = absurd (never_both e)
accepted_pass ((false ⇒ r) ∷ checks) e = (refl, accepted_pass checks e)

pub pass_accepted : (checks : List Check) → Pass checks → first_of checks ≡ Ok tt
unfolding first_of
pass_accepted [] p = refl
pass_accepted ((applies ⇒ r) ∷ checks) p = rw p.0 (pass_accepted checks p.1)

-- a check that applies is the answer, and one that does not leaves it to those after it
pub first_here : (applies : Bool) (r : Refusal) (checks : List Check) → applies ≡ true → first_of ((applies ⇒ r) ∷ checks) ≡ Err r
unfolding first_of
first_here applies r checks e = rw e

pub first_next : (applies : Bool) (r : Refusal) (checks : List Check) → applies ≡ false → first_of ((applies ⇒ r) ∷ checks) ≡ first_of checks
unfolding first_of
first_next applies r checks e = rw e

-- chains that begin with the same check agree where what follows it agrees
pub first_after : (applies : Bool) (r : Refusal) (checks others : List Check) → (applies ≡ false → first_of checks ≡ first_of others)
    → first_of ((applies ⇒ r) ∷ checks) ≡ first_of ((applies ⇒ r) ∷ others)
unfolding first_of
first_after applies r checks others = cond_else applies (Err r)

-- A refusal is that of the first check that applies: none before it does.
pub record First (checks : List Check) (r : Refusal) : Type 0 where
  pub before : List Check
  pub after : List Check
  pub split : checks ≡ before ++ (true ⇒ r) ∷ after
  pub passed : Pass before

pub refused_first : (checks : List Check) (r : Refusal) → first_of checks ≡ Err r → First checks r
unfolding first_of
refused_first [] r e = absurd (never_both (sym e))
refused_first ((true ⇒ q) ∷ checks) r e = record { before = []; after = checks; split = cc; passed = tt }
refused_first ((false ⇒ q) ∷ checks) r e =
    let rest = refused_first checks r e in
    record { before = (false ⇒ q) ∷ rest.before; after = rest.after; split = ap (λ cs. (false ⇒ q) ∷ cs) rest.split; passed = (refl, rest.passed) }

pub first_refused : (before after : List Check) (r : Refusal) → Pass before → first_of (before ++ (true ⇒ r) ∷ after) ≡ Err r
unfolding first_of
first_refused [] after r p = refl
first_refused ((applies ⇒ q) ∷ before) after r p = rw p.0 (first_refused before after r p.1)

-- The chain as code runs it, one `refuse_if` after another, is the chain: `run_first`, with `refuse_is` for a link of it, and `linked`, by which
-- a `refuse_if` of code behind a `?` is such a link.
unfoldable pub run : Outcome → List Check → Outcome
run o [] = o
run o ((applies ⇒ r) ∷ checks) = run (refuse_if o applies r) checks

pub run_refused : (checks : List Check) (r : Refusal) → run (Err r) checks ≡ Err r
unfolding run refuse_if unless_refused
run_refused [] r = refl
run_refused ((applies ⇒ q) ∷ checks) r = run_refused checks r

pub run_first : (checks : List Check) → run (Ok tt) checks ≡ first_of checks
unfolding run refuse_if unless_refused first_of
run_first [] = refl
run_first ((true ⇒ r) ∷ checks) = run_refused checks r
run_first ((false ⇒ r) ∷ checks) = run_first checks

-- a link of the chain, from the link before it and the value of its test
pub refuse_is : {o p : Outcome} {a b : Bool} (r : Refusal) → o ≡ p → a ≡ b → refuse_if o a r ≡ refuse_if p b r
refuse_is r e f = λ i. refuse_if (e i) (f i) r

-- a check of code is the list of that one, and a `?` before it goes on where nothing is refused
pub linked : (o : Outcome) (applies : Bool) (r : Refusal) → goes_on o (first_of ((applies ⇒ r) ∷ [])) ≡ run o ((applies ⇒ r) ∷ [])
unfolding run refuse_if first_of
linked o applies r = refl

-- Two lists of checks, one behind the other: the chain goes on where the first comes to no refusal.
pub first_append : (checks others : List Check) → first_of (checks ++ others) ≡ goes_on (first_of checks) (first_of others)
unfolding first_of unless_refused
first_append [] others = refl
first_append ((true ⇒ r) ∷ checks) others = refl
first_append ((false ⇒ r) ∷ checks) others = first_append checks others

-- So both are accepted, or neither the whole.
pub append-accepted : (checks others : List Check) → first_of (checks ++ others) ≡ Ok tt → (first_of checks ≡ Ok tt) × (first_of others ≡ Ok tt)
unfolding unless_refused
append-accepted checks others e = both (first_of checks) (sym (first_append checks others) ∙ e)
  where
    both : (o : Outcome) → goes_on o (first_of others) ≡ Ok tt → (o ≡ Ok tt) × (first_of others ≡ Ok tt)
    both (Ok tt) e = (refl, e)
    both (Err r) e = absurd (never_both e)

pub accepted-append : (checks others : List Check) → first_of checks ≡ Ok tt → first_of others ≡ Ok tt → first_of (checks ++ others) ≡ Ok tt
unfolding unless_refused
accepted-append checks others first second = first_append checks others ∙ rw (first, second)

-- An answer whose number is that of its refusal is 0 only where the outcome is accepted, and what stands behind it is 0.
pub unless_zero : {A : Type 0} (number : A → ℕ) (told : Refusal → A) → ((r : Refusal) → number (told r) ≡ number_of r)
    → (o : Outcome) (rest : A) → number (unless_refused told o rest) ≡ 0 → (o ≡ Ok tt) × (number rest ≡ 0)
unfolding unless_refused
unless_zero number told tells (Ok tt) rest z = (refl, z)
unless_zero number told tells (Err r) rest z = absurd (number_not-zero r (sym (tells r) ∙ z))

-- what is said of every refusal in a list of checks
abbrev pub Each : (Refusal → Type 0) → List Check → Type 0
Each P [] = Unit {0}
Each P ((applies ⇒ r) ∷ checks) = P r × Each P checks

-- What holds of every refusal that they tell, and of what stands behind them, holds of the answer.
pub unless_each : {A : Type 0} (P : A → Type 0) (told : Refusal → A) (checks : List Check) (rest : A) → Each (λ r. P (told r)) checks → P rest
    → P (unless_refused told (first_of checks) rest)
unfolding first_of unless_refused
unless_each P told [] rest each behind = behind
unless_each P told ((true ⇒ r) ∷ checks) rest each behind = each.0
unless_each P told ((false ⇒ r) ∷ checks) rest each behind = unless_each P told checks rest each.1 behind

-- two outcomes in code, one behind the other
pub goes_is : {o p q r : Outcome} → o ≡ p → q ≡ r → goes_on o q ≡ goes_on p r
goes_is e f = λ i. goes_on (e i) (f i)

-- two chains in code, one behind the other
pub then_first : {o p : Outcome} (checks others : List Check) → o ≡ first_of checks → p ≡ first_of others → goes_on o p ≡ first_of (checks ++ others)
then_first checks others e f = goes_is e f ∙ sym (first_append checks others)

-- a chain that stops at a refusal, and one that goes on where there is none
pub stops : {o : Outcome} {r : Refusal} (checks others : List Check) → o ≡ first_of checks → o ≡ Err r → o ≡ first_of (checks ++ others)
unfolding unless_refused
stops checks others e told = told ∙ rw (first_append checks others, ← e, told)

pub follows : {o p : Outcome} (checks others : List Check) → o ≡ first_of checks → o ≡ Ok tt → p ≡ first_of others → p ≡ first_of (checks ++ others)
unfolding unless_refused
follows checks others e told next = next ∙ rw (first_append checks others, ← e, told)
