-- Laws of surrogates: none is unpaired exactly where the units are characters. Between the two stands that of any two neighbours the first is a high one exactly where the
-- second is a low one.
use Rattle.lemmas.proofs.Basics.{ℕ, zero, suc, ◌+◌, ◌*◌, ◌/◌, ◌≤◌, ◌<◌, arith, true, false, ◌&&◌, true≢false, false≢true, ◌⊎◌, inl, inr, ⊎_elim, List, [], ◌∷◌, ◌≡◌, refl, sym, ap, ◌∙◌, leb, length, get_or, le-leb, leb-true, leb-false}
use Rattle.lemmas.proofs.Counting.{every_all, all_every}
use Rattle.lemmas.proofs.Cases.{by_cases, cond_cases, both_true, true-and}
use Rattle.text.specs.Units.{unit, units_of, is_high, is_low}
use Rattle.text.specs.Text.{behind_high, is_paired, are_paired}
use Rattle.text.specs.WellFormed.{Characters, none, one, pair}
use Rattle.text.proofs.Units.{unit-none, units_at}

-- What the tests of a range say.
in_range : (low u high : ℕ) → leb low u && leb u high ≡ true → (low ≤ u) × (u ≤ high)
in_range low u high e = let both = both_true _ _ e in (leb-true low u both.0, leb-true u high both.1)

range_in : (low u high : ℕ) → (low ≤ u) × (u ≤ high) → leb low u && leb u high ≡ true
range_in low u high r = true-and (le-leb low u r.0) (le-leb u high r.1)

out_of_range_lem : (low u high : ℕ) → ((low ≤ u) × (u ≤ high) → ⊥) → leb low u && leb u high ≡ false
out_of_range_lem low u high out = by_cases (λ t. t ≡ false) (leb low u && leb u high) (λ e. absurd (out (in_range low u high e))) (λ _. refl)

outside : (low u high : ℕ) → 0xD800 ≤ low → high ≤ 0xDFFF → (u < 0xD800) ⊎ (0xDFFF < u) → leb low u && leb u high ≡ false
outside low u high from to out = out_of_range_lem low u high (λ r. ⊎_elim (λ h. omega (arith, r.0, h)) (λ h. omega (arith, r.1, h)) out)

-- no unit is both, and one that is neither stands outside
high_not_low : (u : ℕ) → is_high u ≡ true → is_low u ≡ false
unfolding is_high is_low
high_not_low u e = let r = in_range 0xD800 u 0xDBFF e in out_of_range_lem 0xDC00 u 0xDFFF (λ l. omega (arith, r.1, l.0))

low_not_high : (u : ℕ) → is_low u ≡ true → is_high u ≡ false
unfolding is_high is_low
low_not_high u e = let r = in_range 0xDC00 u 0xDFFF e in out_of_range_lem 0xD800 u 0xDBFF (λ h. omega (arith, r.0, h.1))

neither : (u : ℕ) → is_high u ≡ false → is_low u ≡ false → (u < 0xD800) ⊎ (0xDFFF < u)
unfolding is_high is_low
neither u high low =
    by_cases (λ _. (u < 0xD800) ⊎ (0xDFFF < u)) (leb 0xD800 u)
    (λ p. by_cases (λ _. (u < 0xD800) ⊎ (0xDFFF < u)) (leb u 0xDFFF)
    (λ q. absurd (by_cases (λ _. ⊥) (leb u 0xDBFF)
    (λ r. true≢false (sym (true-and p r) ∙ high))
    (λ r. let above = leb-false u 0xDBFF r in true≢false (sym (true-and (le-leb 0xDC00 u (omega arith)) q) ∙ low))))
    (λ q. inr (leb-false u 0xDFFF q)))
    (λ p. inl (leb-false 0xD800 u p))

-- of any two neighbours the first is a high one exactly where the second is a low one; before the first there is none
pub record Neighbours (f : ℕ → ℕ) : Type 0 where
  pub first : is_low (f 0) ≡ false
  pub next : (k : ℕ) → is_high (f k) ≡ is_low (f (suc k))

neighbours_same : {f g : ℕ → ℕ} → ((k : ℕ) → f k ≡ g k) → Neighbours f → Neighbours g
neighbours_same same n = record { first = ap is_low (sym (same 0)) ∙ n.first; next = λ k. ap is_high (sym (same k)) ∙ n.next k ∙ ap is_low (same (suc k)) }

-- So the units are characters, and back.
characters_of : (us : List ℕ) → Neighbours (λ k. get_or us k 0) → Characters us
unfolding is_high is_low
characters_of [] n = none
characters_of (u ∷ []) n = one (neither u (n.next 0) n.first) none
characters_of (u ∷ v ∷ us) n =
    by_cases (λ _. Characters (u ∷ v ∷ us)) (is_high u)
    (λ high. let low = sym (n.next 0) ∙ high in
    pair (in_range _ u _ high) (in_range _ v _ low) (characters_of us (record { first = sym (n.next 1) ∙ low_not_high v low; next = λ k. n.next (suc (suc k)) })))
    (λ plain. one (neither u plain n.first) (characters_of (v ∷ us) (record { first = sym (n.next 0) ∙ plain; next = λ k. n.next (suc k) })))

neighbours_of : {us : List ℕ} → Characters us → Neighbours (λ k. get_or us k 0)
unfolding is_high is_low
neighbours_of none = record { first = refl; next = λ k. refl }
neighbours_of (one {u} {us} out rest) =
    let n = neighbours_of rest in
    record {
      first = outside 0xDC00 u 0xDFFF (omega arith) (omega arith) out;
      next = λ k. elim k as (λ k. is_high (get_or (u ∷ us) k 0) ≡ is_low (get_or (u ∷ us) (suc k) 0)) [ zero ↦ outside 0xD800 u 0xDBFF (omega arith) (omega arith) out ∙ sym n.first | suc j ↦ n.next j ];
    }
neighbours_of (pair {high} {low} {us} is-high is-low rest) =
    let n = neighbours_of rest in
    let h = range_in 0xD800 high 0xDBFF is-high in
    let l = range_in 0xDC00 low 0xDFFF is-low in
    record {
      first = high_not_low high h;
      next = λ k.
          elim k as (λ k. is_high (get_or (high ∷ low ∷ us) k 0) ≡ is_low (get_or (high ∷ low ∷ us) (suc k) 0)) [
            | zero ↦ h ∙ sym l
            | suc j ↦ elim j as (λ j. is_high (get_or (low ∷ us) j 0) ≡ is_low (get_or (low ∷ us) (suc j) 0)) [ zero ↦ low_not_high low l ∙ sym n.first | suc i ↦ n.next i ]
          ];
    }

-- No surrogate is unpaired, so neighbours are so; and back.
pub paired_neighbours : (s : List ℕ) → are_paired s ≡ true → Neighbours (unit s)
unfolding are_paired is_paired behind_high is_high is_low
paired_neighbours s e = record { first = first; next = next }
  where
    -- a surrogate is a unit, so it is paired
    paired : (low k : ℕ) → 0 < low → low ≤ unit s k → is_paired s k ≡ true
    paired low k some least =
        by_cases (λ _. is_paired s k ≡ true) (leb (2 * k + 2) (length s))
        (λ q. let inside = leb-true (2 * k + 2) (length s) q in every_all (length s / 2) (is_paired s) e k (omega arith))
        (λ q. absurd (omega (arith, unit-none s k (leb-false _ _ q))))

    low_behind : (k : ℕ) → is_low (unit s k) ≡ true → behind_high s k ≡ true
    low_behind k low = rw (low_not_high (unit s k) low, low) at (paired 0xDC00 k (omega arith) (in_range _ (unit s k) _ low).0)

    first : is_low (unit s 0) ≡ false
    first = by_cases (λ t. t ≡ false) (is_low (unit s 0)) (λ low. absurd (false≢true (low_behind 0 low))) (λ _. refl)

    next : (k : ℕ) → is_high (unit s k) ≡ is_low (unit s (suc k))
    next k =
        by_cases (λ t. t ≡ is_low (unit s (suc k))) (is_high (unit s k))
        (λ high. sym (rw high at (paired 0xD800 k (omega arith) (in_range _ (unit s k) _ high).0)))
        (λ plain. by_cases (λ t. false ≡ t) (is_low (unit s (suc k))) (λ low. sym plain ∙ low_behind (suc k) low) (λ _. refl))

pub neighbours_paired : (s : List ℕ) → Neighbours (unit s) → are_paired s ≡ true
unfolding are_paired is_paired behind_high
neighbours_paired s n = all_every (length s / 2) (is_paired s) (λ k _. each k)
  where
    each : (k : ℕ) → is_paired s k ≡ true
    each k = cond_cases (λ t. t ≡ true) (is_high (unit s k)) (λ h. sym (n.next k) ∙ h) (λ _. cond_cases (λ t. t ≡ true) (is_low (unit s k)) (λ l. behind k l) (λ _. refl))
      where
        behind : (k : ℕ) → is_low (unit s k) ≡ true → behind_high s k ≡ true
        behind zero l = absurd (true≢false (sym l ∙ n.first))
        behind (suc j) l = n.next j ∙ l

-- No surrogate is unpaired exactly where the units are characters.
pub paired_characters : (s : List ℕ) → are_paired s ≡ true → Characters (units_of s)
paired_characters s e = characters_of (units_of s) (neighbours_same (units_at s) (paired_neighbours s e))

pub characters_paired : (s : List ℕ) → Characters (units_of s) → are_paired s ≡ true
characters_paired s cs = neighbours_paired s (neighbours_same (λ k. sym (units_at s k)) (neighbours_of cs))
