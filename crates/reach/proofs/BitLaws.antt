-- Laws of rows of bits: a bit of a row is what its test says, a row is told by its bits, and a machine's count of
-- ones is the count of set bits.
use Rattle.lemmas.proofs.Basics.{ℕ, zero, suc, ◌+◌, ◌-◌, ◌*◌, ◌/◌, ◌%◌, ◌^◌, ◌≤◌, ◌<◌, arith, add-zero, add-suc, pow-suc, pow-succ', div-div-eq-div-mul, div-eq_of_lt, Bool, true, false, [], ◌∷◌, ◌++◌, ◌≡◌, refl, sym, ap, ap₂, ◌∙◌, ltb, leb, eqb, length, get_or, length-append, get_or-append, get_or_at, ltb-true, ltb-false, le-leb, eqb-true, eqb-false}
use lib.Count.{ones, ones_step}
use Rattle.lemmas.proofs.Cases.{by_cases}
use Rattle.lemmas.specs.Counting.{bit, count}
use Rattle.reach.specs.Bits.{bit_at, row_where, table}

bit_below : (b : Bool) → bit b < 2
unfolding bit
bit_below true = omega arith
bit_below false = omega arith

bit-set : (b : Bool) → eqb (bit b) 1 ≡ b
unfolding bit
bit-set true = refl
bit-set false = refl

bit_digit : (n : ℕ) → bit (eqb (n % 2) 1) ≡ n % 2
unfolding bit
bit_digit n = by_cases (λ t. bit t ≡ n % 2) (eqb (n % 2) 1) (λ e. sym (eqb-true (n % 2) 1 e)) (λ e. omega (arith, eqb-false (n % 2) 1 e))

-- j bits stand below the bit at index k of a row of k + 1 + j
bit_of : (test : ℕ → Bool) (k j : ℕ) → row_where (suc (k + j)) test / 2 ^ j % 2 ≡ bit (test k)
unfolding row_where
bit_of test k zero = rw add-zero (omega (arith, bit_below (test k)))
bit_of test k (suc j) =
    let halved : (2 * row_where (suc (k + j)) test + bit (test (suc (k + j)))) / 2 ≡ row_where (suc (k + j)) test = omega (arith, bit_below (test (suc (k + j)))) in
    rw (add-suc, pow-succ', ← div-div-eq-div-mul, halved) (bit_of test k j)

-- The bit at an index of a row is what the test says of it.
pub row-bit : (test : ℕ → Bool) (k : ℕ) → k < 32 → bit_at (row_where 32 test) k ≡ test k
unfolding bit_at
row-bit test k h =
    let size : 32 ≡ suc (k + (31 - k)) = omega arith in
    ap (λ n. eqb (row_where n test / 2 ^ (31 - k) % 2) 1) size ∙ ap (λ b. eqb b 1) (bit_of test k (31 - k)) ∙ bit-set (test k)

-- the first n bits of a row
row_top : (row n : ℕ) → row < 2 ^ 32 → n ≤ 32 → row_where n (bit_at row) ≡ row / 2 ^ (32 - n)
unfolding row_where bit_at
row_top row zero h l = sym (div-eq_of_lt h)
row_top row (suc n) h l =
    let more : 32 - n ≡ suc (31 - n) = omega arith in
    let rest : 32 - suc n ≡ 31 - n = omega arith in
    let half : row / 2 ^ (32 - n) ≡ row / 2 ^ (31 - n) / 2 = rw (more, pow-suc, div-div-eq-div-mul) in
    rw (row_top row n h (omega arith), half, bit_digit, rest) (omega arith)

-- A row of 32 bits is told by its bits.
pub row_back : (row : ℕ) → row < 2 ^ 32 → row_where 32 (bit_at row) ≡ row
row_back row h = row_top row 32 h (omega arith) ∙ omega arith

ones_row : (n : ℕ) (test : ℕ → Bool) → ones (row_where n test) ≡ count n test
unfolding row_where count ones
ones_row zero test = refl
ones_row (suc n) test =
    let last = bit_below (test n) in
    let halved : (2 * row_where n test + bit (test n)) / 2 ≡ row_where n test = omega arith in
    rw (ones_step, halved, ones_row n test) (omega arith)

-- What the machine counts is the number of set bits.
pub ones_count : (row : ℕ) → row < 2 ^ 32 → ones row ≡ count 32 (bit_at row)
ones_count row h = ap ones (sym (row_back row h)) ∙ ones_row 32 (bit_at row)

-- Tests that agree below n make the same row.
pub row_is : (n : ℕ) {f g : ℕ → Bool} → ((k : ℕ) → k < n → f k ≡ g k) → row_where n f ≡ row_where n g
unfolding row_where
row_is zero same = refl
row_is (suc n) same = ap₂ (λ x b. 2 * x + bit b) (row_is n (λ k h. same k (omega arith))) (same n (omega arith))

-- A table has f of k at index k.
length-table : (n : ℕ) (f : ℕ → ℕ) → length (table n f) ≡ n
unfolding table
length-table zero f = refl
length-table (suc n) f = rw (length-append, length-table n f) (omega arith)

pub table_at : (n : ℕ) (f : ℕ → ℕ) (k : ℕ) → k < n → get_or (table n f) k 0 ≡ f k
unfolding table
table_at (suc n) f k h =
    by_cases (λ _. get_or (table n f ++ (f n ∷ [])) k 0 ≡ f k) (ltb k n)
    (λ l. get_or-append (table n f) _ 0 k (rw length-table (ltb-true k n l)) ∙ table_at n f k (ltb-true k n l))
    (λ l. let e : k ≡ n = omega (arith, ltb-false k n l) in rw e (get_or_at (table n f) (f n) [] 0 n (length-table n f)))
table_at zero f k h = absurd (omega arith)

-- A row set from index 0 to j: a word of ones with its last 31 - j shifted out.
ones_to : table 32 (λ j. 4294967295 * 2 ^ (31 - j) % 4294967296) ≡ table 32 (λ j. row_where 32 (λ k. leb k j))
unfolding table row_where bit
ones_to = refl

pub row_to : (j : ℕ) → j < 32 → 4294967295 * 2 ^ (31 - j) % 4294967296 ≡ row_where 32 (λ k. leb k j)
row_to j h = sym (table_at 32 _ j h) ∙ ap (λ rows. get_or rows j 0) ones_to ∙ table_at 32 _ j h

pub row-whole : (j : ℕ) → 31 ≤ j → 4294967295 ≡ row_where 32 (λ k. leb k j)
unfolding row_where bit
row-whole j h = sym (row_is 32 {g = λ _. true} (λ k l. le-leb k j (omega arith)))
