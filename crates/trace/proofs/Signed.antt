-- Two's complement, as the machine has it and as the paper says it.
use Rattle.lemmas.proofs.Basics.{ℕ, zero, suc, ◌-◌, ◌^◌, ◌≤◌, ◌<◌, arith, ltb, ◌≡◌, refl, ap, ◌∙◌, lt-ltb, le-ltb, ltb-true, ltb-false}
use Rattle.lemmas.proofs.Cases.{by_cases}
use lib.IntN.{ℤ, pos, negsuc, ◌-ℤ◌}
use mir.Syntax.{w32}
use lib.Signed.{mag}
use mir.Val.{to_z, of_z}
use mir.Facts.{to_z_pos, to_z-of_z}
use Rattle.trace.specs.Layout.{twos_complement}

-- below 2 ^ 31 the number itself
pub as_it_is : (x : ℕ) → x < 2147483648 → to_z w32 x ≡ twos_complement 32 x
unfolding twos_complement
as_it_is x h = rw (lt-ltb x 2147483648 h)

minus : (n : ℕ) → negsuc 0 -ℤ pos n ≡ negsuc n
minus zero = refl
minus (suc n) = ap negsuc (omega arith)

-- from 2 ^ 31 on, less 2 ^ 32
high_half : (x : ℕ) → 2147483648 ≤ x → to_z w32 x ≡ twos_complement 32 x
unfolding twos_complement
high_half x high = rw (le-ltb x 2147483648 high)

module _ (x : ℕ) (high : 2147483648 ≤ x) (fits : x < 2 ^ 32) where
  -- which is -1 less the number of the bits that are not set
  turned : negsuc 0 -ℤ to_z w32 (4294967295 - x) ≡ to_z w32 x
  turned =
      let small : 4294967295 - x < 2147483648 = omega arith in
      let same : 4294967295 - x ≡ 4294967296 - suc x = omega arith in
      ap (λ z. negsuc 0 -ℤ z) (to_z_pos w32 small) ∙ minus _ ∙ rw (le-ltb x 2147483648 high) (ap negsuc same)

  pub less : negsuc 0 -ℤ to_z w32 (4294967295 - x) ≡ twos_complement 32 x
  less = turned ∙ high_half x high

-- So the machine's reading of 32 bits is the paper's.
pub signed : (n : ℕ) → to_z w32 n ≡ twos_complement 32 n
signed n = by_cases (λ _. to_z w32 n ≡ twos_complement 32 n) (ltb n 2147483648) (λ low. as_it_is n (ltb-true n 2147483648 low)) (λ high. high_half n (ltb-false n 2147483648 high))

-- A signed result is kept as its bits, and they say the number again.
pub kept : (z : ℤ) {n m : ℕ} → mag z < 2147483648 → z ≡ twos_complement 32 n → n ≡ m → to_z w32 (of_z w32 z) ≡ twos_complement 32 m
kept z small is same = to_z-of_z {w = w32} (record { sfits = small }) ∙ is ∙ ap (twos_complement 32) same
