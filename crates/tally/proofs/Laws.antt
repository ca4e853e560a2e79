-- Laws of totals: a total is that of its two parts merged; merging is associative, with the total of no record as its unit; and accepted
-- and refused are all.
use Rattle.lemmas.proofs.Basics.{ℕ, ◌+◌, ◌^◌, ◌<◌, arith, add-zero, Bool, true, false, not, List, [], ◌∷◌, ◌++◌, append-nil, ◌≡◌, refl, ap, ◌∙◌, cond, length, ltb-true, lt-ltb}
use Rattle.std.specs.Prelude.{Option, Some, None}
use Rattle.gkid.specs.declared.FileTime.{FileTime}
use Rattle.tally.specs.declared.Ends.{Ends}
use Rattle.lemmas.specs.Counting.{bit}
use Rattle.lemmas.proofs.Cases.{by_cases, both_true}
use Rattle.tally.specs.declared.Counted.{Counted}
use Rattle.tally.specs.declared.Tally.{Tally}
use Rattle.tally.specs.Totals.{accepted_in, refused_in, with_clock, clocks_in, earlier_behind, earlier_in, last_behind, ends_of, tally_of}
use Rattle.tally.specs.Merging.{seam, joined_ends, merge, fits, merged_of}

-- Accepted and refused are all.
pub all_counted : (cs : List Counted) → accepted_in cs + refused_in cs ≡ length cs
unfolding accepted_in refused_in bit
all_counted [] = refl
all_counted (c ∷ cs) = omega (arith, one c.accepted, all_counted cs)
  where
    one : (b : Bool) → bit b + bit (not b) ≡ 1
    one true = refl
    one false = refl

accepted-append : (xs ys : List Counted) → accepted_in (xs ++ ys) ≡ accepted_in xs + accepted_in ys
unfolding accepted_in
accepted-append [] ys = omega arith
accepted-append (x ∷ xs) ys = omega (arith, accepted-append xs ys)

refused_append : (xs ys : List Counted) → refused_in (xs ++ ys) ≡ refused_in xs + refused_in ys
unfolding refused_in
refused_append [] ys = omega arith
refused_append (x ∷ xs) ys = omega (arith, refused_append xs ys)

clocks_append : (xs ys : List Counted) → clocks_in (xs ++ ys) ≡ clocks_in xs ++ clocks_in ys
unfolding clocks_in with_clock
clocks_append [] ys = refl
clocks_append (x ∷ xs) ys = ap (with_clock x.clock) (clocks_append xs ys) ∙ put x.clock
  where
    put : (c : Option FileTime) → with_clock c (clocks_in xs ++ clocks_in ys) ≡ with_clock c (clocks_in xs) ++ clocks_in ys
    put None = refl
    put (Some time) = refl

-- Clocks behind a clock, and others behind those.
earlier_behind_lem : (before : ℕ) (ks bs : List ℕ) → earlier_behind before (ks ++ bs) ≡ earlier_behind before ks + earlier_behind (last_behind before ks) bs
unfolding earlier_behind last_behind
earlier_behind_lem before [] bs = omega arith
earlier_behind_lem before (a ∷ ks) bs = omega (arith, earlier_behind_lem a ks bs)

last_behind_lem : (before : ℕ) (ks bs : List ℕ) → last_behind before (ks ++ bs) ≡ last_behind (last_behind before ks) bs
unfolding last_behind
last_behind_lem before [] bs = refl
last_behind_lem before (a ∷ ks) bs = last_behind_lem a ks bs

earlier-append : (ks bs : List ℕ) → earlier_in (ks ++ bs) ≡ earlier_in ks + earlier_in bs + seam (ends_of ks) (ends_of bs)
unfolding earlier_in ends_of seam earlier_behind
earlier-append [] bs = omega arith
earlier-append (a ∷ ks) [] = ap (earlier_behind a) (append-nil ks) ∙ omega arith
earlier-append (a ∷ ks) (b ∷ bs) = omega (arith, earlier_behind_lem a ks (b ∷ bs))

ends_append : (ks bs : List ℕ) → ends_of (ks ++ bs) ≡ joined_ends (ends_of ks) (ends_of bs)
unfolding ends_of joined_ends last_behind
ends_append [] bs = refl
ends_append (a ∷ ks) [] = ap (λ t. Some (record { first = record { 0 = a }; last = record { 0 = last_behind a t } })) (append-nil ks)
ends_append (a ∷ ks) (b ∷ bs) = ap (λ n. Some (record { first = record { 0 = a }; last = record { 0 = n } })) (last_behind_lem a ks (b ∷ bs))

-- The total of a trace is the totals of its two parts, merged.
pub tally_append : (xs ys : List Counted) → tally_of (xs ++ ys) ≡ merge (tally_of xs) (tally_of ys)
unfolding tally_of merge
tally_append xs ys =
    let clocks = clocks_append xs ys in
    λ i.
    record {
      accepted = accepted-append xs ys i;
      refused = refused_append xs ys i;
      earlier = (ap earlier_in clocks ∙ earlier-append (clocks_in xs) (clocks_in ys)) i;
      clocks = (ap ends_of clocks ∙ ends_append (clocks_in xs) (clocks_in ys)) i;
    }

-- Merging is associative: pieces may be merged in any grouping.
seams : (a b c : Option Ends) → seam a b + seam (joined_ends a b) c ≡ seam b c + seam a (joined_ends b c)
unfolding seam joined_ends
seams None b c = omega arith
seams (Some p) None c = omega arith
seams (Some p) (Some q) None = omega arith
seams (Some p) (Some q) (Some r) = omega arith

ends_assoc : (a b c : Option Ends) → joined_ends (joined_ends a b) c ≡ joined_ends a (joined_ends b c)
unfolding joined_ends
ends_assoc None b c = refl
ends_assoc (Some p) None c = refl
ends_assoc (Some p) (Some q) None = refl
ends_assoc (Some p) (Some q) (Some r) = refl

pub merge-assoc : (x y z : Tally) → merge (merge x y) z ≡ merge x (merge y z)
unfolding merge
merge-assoc x y z =
    let accepted : x.accepted + y.accepted + z.accepted ≡ x.accepted + (y.accepted + z.accepted) = omega arith in
    let refused : x.refused + y.refused + z.refused ≡ x.refused + (y.refused + z.refused) = omega arith in
    let earlier : (merge (merge x y) z).earlier ≡ (merge x (merge y z)).earlier = omega (arith, seams x.clocks y.clocks z.clocks) in
    λ i. record { accepted = accepted i; refused = refused i; earlier = earlier i; clocks = ends_assoc x.clocks y.clocks z.clocks i }

-- The total of no record changes nothing, before or behind.
pub merge_none : (x : Tally) → (merge (tally_of []) x ≡ x) × (merge x (tally_of []) ≡ x)
unfolding tally_of merge accepted_in refused_in clocks_in earlier_in ends_of seam joined_ends
merge_none x =
    let none : (n : ℕ) → 0 + n ≡ n = λ n. omega arith in
    let before : 0 + x.earlier + 0 ≡ x.earlier = omega arith in
    let behind : x.earlier + 0 + seam x.clocks None ≡ x.earlier = omega (arith, seam-none x.clocks) in (
      (λ i. record { accepted = none x.accepted i; refused = none x.refused i; earlier = before i; clocks = x.clocks }),
      (λ i. record { accepted = add-zero x.accepted i; refused = add-zero x.refused i; earlier = behind i; clocks = ends_none x.clocks i }),
    )
  where
    seam-none : (a : Option Ends) → seam a None ≡ 0
    seam-none None = refl
    seam-none (Some p) = refl

    ends_none : (a : Option Ends) → joined_ends a None ≡ a
    ends_none None = refl
    ends_none (Some p) = refl

-- What fits, count by count.
pub fits_told : (x : Tally) → fits x ≡ true → (x.accepted < 2 ^ 64) × ((x.refused < 2 ^ 64) × (x.earlier < 2 ^ 64))
unfolding fits
fits_told x e =
    let first = both_true _ _ e in
    let second = both_true _ _ first.1 in
    (ltb-true _ _ first.0, (ltb-true _ _ second.0, ltb-true _ _ second.1))

-- A total whose counts do not all fit is none.
pub full : (x y : Tally) → ((merge x y).accepted < 2 ^ 64 → (merge x y).refused < 2 ^ 64 → (merge x y).earlier < 2 ^ 64 → ⊥) → None ≡ merged_of x y
unfolding merged_of
full x y not = by_cases (λ t. None ≡ cond t (Some (merge x y)) None) (fits (merge x y)) (λ e. let h = fits_told _ e in absurd (not h.0 h.1.0 h.1.1)) (λ _. refl)

-- And one whose counts do is the total.
pub fits_all : (x y : Tally) → (merge x y).accepted < 2 ^ 64 → (merge x y).refused < 2 ^ 64 → (merge x y).earlier < 2 ^ 64 → Some (merge x y) ≡ merged_of x y
unfolding merged_of fits
fits_all x y a r e = rw (lt-ltb _ _ a, lt-ltb _ _ r, lt-ltb _ _ e)
