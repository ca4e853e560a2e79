-- A number's digits, made from the last one on, and how many there are.
use Rattle.lemmas.proofs.Basics.{ℕ, zero, suc, ◌+◌, ◌-◌, ◌/◌, ◌%◌, ◌^◌, ◌≤◌, ◌<◌, arith, pow-suc, cond, List, [], ◌∷◌, ◌++◌, append-nil, append_assoc, ◌≡◌, sym, ap, ap₂, ◌∙◌, ltb, length, take, drop, length-append, length-set, drop-cons, drop_of_length-le, lt-ltb, le-ltb}
use lib.ListN.{set}
use lib.Seq.{get_or-set_same, drop-set-lt}
use Rattle.lemmas.proofs.Cases.{by_cases}
use Rattle.wire.proofs.Parts.{rest_whole}
use Rattle.line.specs.Text.{decimal_in}

-- the digits of n in the last places of 20, but for those of what is left, which ends at place i
pub record Spelt (n : ℕ) (digits : List ℕ) (left i : ℕ) : Type 0 where
  pub place : i ≤ 19
  pub small : left < 10 ^ suc i
  pub size : length digits ≡ 20
  pub text : decimal_in (suc i) left ++ drop (suc i) digits ≡ decimal_in 20 n

pub spelt_start : (n : ℕ) (digits : List ℕ) → n < 10 ^ 20 → length digits ≡ 20 → Spelt n digits n 19
spelt_start n digits small size =
    record {
      place = omega arith;
      small = small;
      size = size;
      text = ap (λ t. decimal_in 20 n ++ t) (drop_of_length-le digits {i = 20} (omega arith)) ∙ append-nil (decimal_in 20 n);
    }

stored : (l : List ℕ) (i v : ℕ) → i < length l → drop i (set l i v) ≡ v ∷ drop (suc i) l
stored l i v h =
    drop-cons (set l i v) i 0 (rw length-set h) ∙ ap₂ (λ x t. x ∷ t) (get_or-set_same l i v 0 h) (drop-set-lt (suc i) l i v (omega arith))

-- Where more than one digit is left, so is a place before the last.
pub two_digits : {n : ℕ} {digits : List ℕ} {left : ℕ} (i : ℕ) → Spelt n digits left i → 10 ≤ left → 1 ≤ i
two_digits zero s large = absurd (omega (arith, s.small))
two_digits (suc i) s large = omega arith

-- More than one digit is left: the last of them is put.
pub spelt_more : {n : ℕ} {digits : List ℕ} {left : ℕ} (i : ℕ) → Spelt n digits left i → 10 ≤ left → Spelt n (set digits i (48 + left % 10)) (left / 10) (i - 1)
unfolding decimal_in
spelt_more zero s large = absurd (omega (arith, s.small))
spelt_more {n} {digits} {left} (suc i) s large =
    let one : suc i - 1 ≡ i = omega arith in
    let inside : suc i < length digits = omega (arith, s.place, s.size) in
    rw one
    (record {
      place = omega (arith, s.place);
      small = omega (arith, s.small, pow-suc 10 (suc i));
      size = length-set digits (suc i) (48 + left % 10) ∙ s.size;
      text =
          ap (λ t. decimal_in (suc i) (left / 10) ++ t) (stored digits (suc i) (48 + left % 10) inside)
          ∙ sym (append_assoc (decimal_in (suc i) (left / 10)) ((48 + left % 10) ∷ []) (drop (suc (suc i)) digits))
          ∙ rw (le-ltb left 10 large) at s.text;
    })

-- One digit is left: with it the digits are the number's text.
pub spelt_last : {n : ℕ} {digits : List ℕ} {left : ℕ} (i : ℕ) → Spelt n digits left i → left < 10
    → take (20 - i) (drop i (set digits i (48 + left))) ≡ decimal_in 20 n
unfolding decimal_in
spelt_last {n} {digits} {left} i s small =
    let size : length (set digits i (48 + left)) ≡ 20 = length-set digits i (48 + left) ∙ s.size in
    ap (λ k. take (k - i) (drop i (set digits i (48 + left)))) (sym size) ∙ rest_whole (set digits i (48 + left)) i
    ∙ stored digits i (48 + left) (omega (arith, s.place, s.size)) ∙ rw (lt-ltb left 10 small) at s.text

-- A number's text has at most as many digits as are asked.
pub length_decimal : (f n : ℕ) → length (decimal_in f n) ≤ f
unfolding decimal_in
length_decimal zero n = omega arith
length_decimal (suc f) n =
    by_cases (λ t. length (cond t ((48 + n) ∷ []) (decimal_in f (n / 10) ++ ((48 + n % 10) ∷ []))) ≤ suc f) (ltb n 10)
    (λ _. omega arith)
    (λ _. omega (arith, length-append (decimal_in f (n / 10)) ((48 + n % 10) ∷ []), length_decimal f (n / 10)))
