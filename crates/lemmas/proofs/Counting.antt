-- Laws of counting: tests that agree, a test that holds of none, and a count in two parts; and of a test that holds of every number.
use Rattle.lemmas.proofs.Basics.{ℕ, zero, suc, ◌+◌, ◌<◌, arith, add-zero, add-suc, Bool, true, false, ◌≡◌, refl, ap₂, below_more}
use Rattle.lemmas.proofs.Cases.{both_true}
use Rattle.lemmas.specs.Counting.{bit, count, every}

-- Tests that agree below n have the same count.
pub count_is : (n : ℕ) {f g : ℕ → Bool} → ((k : ℕ) → k < n → f k ≡ g k) → count n f ≡ count n g
unfolding count
count_is zero same = refl
count_is (suc n) same = ap₂ (λ x b. x + bit b) (count_is n (λ k h. same k (omega arith))) (same n (omega arith))

-- A test that holds of none counts none.
pub count_none : (n : ℕ) {f : ℕ → Bool} → ((k : ℕ) → f k ≡ false) → count n f ≡ 0
unfolding count bit
count_none zero none = refl
count_none (suc n) none = rw (count_none n none, none n)

-- A count in two parts.
pub count_parts : (a b : ℕ) (test : ℕ → Bool) → count (a + b) test ≡ count a test + count b (λ k. test (a + k))
unfolding count
count_parts a zero test = rw (add-zero a) (omega arith)
count_parts a (suc b) test = rw (add-suc, count_parts a b test) (omega arith)

-- A test that holds of every number below n holds of each, and back.
pub every_all : (n : ℕ) (test : ℕ → Bool) → every n test ≡ true → (j : ℕ) → j < n → test j ≡ true
unfolding every
every_all zero test e j h = absurd (omega arith)
every_all (suc n) test e j h =
    let both = both_true (every n test) (test n) e in
    below_more (λ j. test j ≡ true) n (every_all n test both.0) both.1 j (omega arith)

pub all_every : (n : ℕ) (test : ℕ → Bool) → ((j : ℕ) → j < n → test j ≡ true) → every n test ≡ true
unfolding every
all_every zero test all = refl
all_every (suc n) test all = rw (all_every n test (λ j h. all j (omega arith)), all n (omega arith))
