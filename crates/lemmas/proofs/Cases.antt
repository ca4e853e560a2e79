-- A test's two cases, each with what the test told.
use Rattle.lemmas.proofs.Basics.{ℕ, ◌≤◌, ◌<◌, Bool, true, false, cond, not, ◌&&◌, ◌||◌, true≢false, false≢true, ◌⊎◌, inl, inr, ◌≡◌, refl, sym, leb, le-leb, lt-leb, leb-true, leb-false}

pub by_cases : (P : Bool → Type 0) (t : Bool) → (t ≡ true → P true) → (t ≡ false → P false) → P t
by_cases P true f g = f refl
by_cases P false f g = g refl

pub cond_cases : {A : Type 0} (P : A → Type 0) (t : Bool) {x y : A} → (t ≡ true → P x) → (t ≡ false → P y) → P (cond t x y)
cond_cases P t {x} {y} f g = by_cases (λ u. P (cond u x y)) t f g

pub cond_else : {A : Type 0} (t : Bool) (x : A) {y z : A} → (t ≡ false → y ≡ z) → cond t x y ≡ cond t x z
cond_else true x f = refl
cond_else false x f = f refl

-- three tests, one behind the other, that come to the same are one; cited by no proof, it stands, since the documents named it
pub cond_any : {A : Type 0} (a b c : Bool) (x y : A) → cond a x (cond b x (cond c x y)) ≡ cond (a || b || c) x y
cond_any true b c x y = refl
cond_any false true c x y = refl
cond_any false false c x y = refl

-- one of two tests holds, or neither
pub or-false : (a b : Bool) → a || b ≡ false → (a ≡ false) × (b ≡ false)
or-false true b e = absurd (true≢false e)
or-false false b e = (refl, e)

pub or-true : (a b : Bool) → a || b ≡ true → (a ≡ true) ⊎ (b ≡ true)
or-true true b e = inl refl
or-true false b e = inr e

pub true-or : (a : Bool) {b : Bool} → b ≡ true → a || b ≡ true
true-or true e = refl
true-or false e = e

pub false-or : {a b : Bool} → a ≡ false → b ≡ false → a || b ≡ false
false-or p q = rw (p, q)

-- a test that is not false holds
pub not-false : (a : Bool) → not a ≡ false → a ≡ true
not-false true e = refl
not-false false e = absurd (true≢false e)

-- two tests that hold together each hold
pub both_true : (a b : Bool) → a && b ≡ true → (a ≡ true) × (b ≡ true)
both_true true b e = (refl, e)
both_true false b e = absurd (false≢true e)

pub true-and : {a b : Bool} → a ≡ true → b ≡ true → a && b ≡ true
true-and p q = rw (p, q)

-- two tests of which each holds where the other does
pub same_truth : (a b : Bool) → (a ≡ true → b ≡ true) → (b ≡ true → a ≡ true) → a ≡ b
same_truth true b there back = sym (there refl)
same_truth false true there back = back refl
same_truth false false there back = refl

-- two tests of orders that hold together and fail together
pub leb-same : (a b c d : ℕ) → (a ≤ b → c ≤ d) → (b < a → d < c) → leb a b ≡ leb c d
leb-same a b c d holds fails =
    by_cases (λ t. t ≡ leb c d) (leb a b) (λ q. sym (le-leb c d (holds (leb-true a b q)))) (λ q. sym (lt-leb c d (fails (leb-false a b q))))
