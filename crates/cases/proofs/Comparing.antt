-- Two lists have the same bytes exactly where they are equal.
use Rattle.lemmas.proofs.Basics.{ℕ, Bool, true, false, false≢true, List, [], ◌∷◌, ◌≡◌, refl, eqb, eq-eqb, eqb-true}
use Rattle.lemmas.proofs.Cases.{by_cases, both_true}
use Rattle.cases.specs.Comparing.{same}

same_refl : (xs : List ℕ) → same xs xs ≡ true
unfolding same
same_refl [] = refl
same_refl (x ∷ xs) = rw (eq-eqb x x refl) (same_refl xs)

same_equal : (xs ys : List ℕ) → same xs ys ≡ true → xs ≡ ys
unfolding same
same_equal [] [] e = refl
same_equal [] (y ∷ ys) e = absurd (false≢true e)
same_equal (x ∷ xs) [] e = absurd (false≢true e)
same_equal (x ∷ xs) (y ∷ ys) e =
    let both = both_true (eqb x y) (same xs ys) e in
    let first = eqb-true x y both.0 in
    let others = same_equal xs ys both.1 in
    cc

-- A test that holds exactly where they are equal tells it.
pub same_is : (xs ys : List ℕ) (t : Bool) → (t ≡ true → xs ≡ ys) × (xs ≡ ys → t ≡ true) → same xs ys ≡ t
same_is xs ys true told = rw (told.0 refl) (same_refl ys)
same_is xs ys false told = by_cases (λ s. s ≡ false) (same xs ys) (λ q. absurd (false≢true (told.1 (same_equal xs ys q)))) (λ _. refl)
