-- Laws of the layout's tests: each fails exactly where the plain fact holds.
use Rattle.lemmas.proofs.Basics.{ℕ, ◌+◌, ◌-◌, ◌≤◌, ◌<◌, min, max, arith, min_comm, max_comm, true, false, cond, not, ◌||◌, ◌⊎◌, inl, inr, ◌≡◌, refl, ap, ltb, leb, lt-ltb, le-ltb, ltb-false, le-leb, lt-leb, leb-true}
use Rattle.std.specs.Prelude.{Ok, Err}
use mathlib.Core.Bool.{or_comm}
use Rattle.lemmas.proofs.Cases.{by_cases, or-false, false-or, not-false}
use Rattle.refusal.specs.declared.Refusal.TheVariants.{Overlap, UnusedRun}
use Rattle.refusal.specs.Chain.{first_of}
use Rattle.keyentry.specs.Layout.{outside, overlap, run_before, run_between, run_after, long_run, run_checks}

pub inside : (p n L : ℕ) → outside p n L ≡ false → (20 ≤ p) × (p + n ≤ L)
unfolding outside
inside p n L e = let both = or-false _ _ e in (ltb-false p 20 both.0, ltb-false L (p + n) both.1)

pub not-outside : (p n L : ℕ) → 20 ≤ p → p + n ≤ L → outside p n L ≡ false
unfolding outside
not-outside p n L a b = false-or (le-ltb p 20 a) (le-ltb L (p + n) b)

pub one_first : (p n f e : ℕ) → overlap p n f e ≡ false → (p + n ≤ f) ⊎ (f + e ≤ p)
unfolding overlap
one_first p n f e h =
    by_cases (λ t. t || leb (f + e) p ≡ true → (p + n ≤ f) ⊎ (f + e ≤ p)) (leb (p + n) f)
    (λ q _. inl (leb-true (p + n) f q))
    (λ _ q. inr (leb-true (f + e) p q))
    (not-false _ h)

pub item_first : (p n f e : ℕ) → p + n ≤ f → overlap p n f e ≡ false
unfolding overlap
item_first p n f e h = rw (le-leb (p + n) f h)

pub fek_first : (p n f e : ℕ) → f + e ≤ p → overlap p n f e ≡ false
unfolding overlap
fek_first p n f e h = by_cases (λ t. not (t || leb (f + e) p) ≡ false) (leb (p + n) f) (λ _. refl) (λ _. ap not (le-leb (f + e) p h))

pub short_runs : (p n f e L : ℕ) → long_run p n f e L ≡ false → (run_before p f ≤ 8) × (run_between p n f e ≤ 8) × (run_after p n f e L ≤ 8)
unfolding long_run
short_runs p n f e L h =
    let first = or-false _ _ h in
    let rest = or-false _ _ first.1 in
    (ltb-false 8 _ first.0, ltb-false 8 _ rest.0, ltb-false 8 _ rest.1)

pub no_long_run : (p n f e L : ℕ) → run_before p f ≤ 8 → run_between p n f e ≤ 8 → run_after p n f e L ≤ 8 → long_run p n f e L ≡ false
unfolding long_run
no_long_run p n f e L a b c = false-or (le-ltb 8 _ a) (false-or (le-ltb 8 _ b) (le-ltb 8 _ c))

-- the unused runs where the items (p, n) and (f, e) stand in this order
pub ordered : (p n f e L : ℕ) → p + n ≤ f → (run_before p f ≡ p - 20) × (run_between p n f e ≡ f - (p + n)) × (run_after p n f e L ≡ L - (f + e))
ordered p n f e L order =
    let first : min p f ≡ p = omega arith in
    let last : max p f ≡ f = omega arith in
    let first-end : min (p + n) (f + e) ≡ p + n = omega arith in
    let last_end : max (p + n) (f + e) ≡ f + e = omega arith in
    (rw first, rw (last, first-end), rw last_end)

-- Which of the two is called the item does not matter.
pub runs_turned : (p n f e L : ℕ) → first_of (run_checks f e p n L) ≡ first_of (run_checks p n f e L)
unfolding run_checks overlap long_run
runs_turned p n f e L = rw (or_comm (leb (f + e) p) (leb (p + n) f), min_comm f p, max_comm f p, min_comm (f + e) (p + n), max_comm (f + e) (p + n))

-- 9 by the three runs in turn, where the items stand in this order.
module _ (p n f e L : ℕ) (order : p + n ≤ f) where
  long_is : long_run p n f e L ≡ ltb 8 (p - 20) || (ltb 8 (f - (p + n)) || ltb 8 (L - (f + e)))
  unfolding long_run
  long_is = let o = ordered p n f e L order in rw (o.0, o.1, o.2)

  runs_are : first_of (run_checks p n f e L) ≡ cond (ltb 8 (p - 20) || (ltb 8 (f - (p + n)) || ltb 8 (L - (f + e)))) (Err UnusedRun) (Ok tt)
  unfolding run_checks first_of
  runs_are = rw (item_first p n f e order, long_is)

  pub run_before_lem : 28 < p → first_of (run_checks p n f e L) ≡ Err UnusedRun
  run_before_lem h = rw (runs_are, lt-ltb 8 (p - 20) (omega arith))

  pub run_between_lem : p ≤ 28 → p + n + 8 < f → first_of (run_checks p n f e L) ≡ Err UnusedRun
  run_between_lem b h = rw (runs_are, le-ltb 8 (p - 20) (omega arith), lt-ltb 8 (f - (p + n)) (omega arith))

  pub run_after_lem : p ≤ 28 → f ≤ p + n + 8 → f + e + 8 < L → first_of (run_checks p n f e L) ≡ Err UnusedRun
  run_after_lem b m h = rw (runs_are, le-ltb 8 (p - 20) (omega arith), le-ltb 8 (f - (p + n)) (omega arith), lt-ltb 8 (L - (f + e)) (omega arith))

  pub runs_short : p ≤ 28 → f ≤ p + n + 8 → L ≤ f + e + 8 → first_of (run_checks p n f e L) ≡ Ok tt
  runs_short b m h = rw (runs_are, le-ltb 8 (p - 20) (omega arith), le-ltb 8 (f - (p + n)) (omega arith), le-ltb 8 (L - (f + e)) (omega arith))

-- Neither stands before the other.
pub run_overlap : (p n f e L : ℕ) → f < p + n → p < f + e → first_of (run_checks p n f e L) ≡ Err Overlap
unfolding run_checks overlap first_of
run_overlap p n f e L a b = rw (lt-leb (p + n) f a, lt-leb (f + e) p b)
