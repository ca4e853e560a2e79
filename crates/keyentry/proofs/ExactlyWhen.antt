-- An entry is accepted exactly when it is well formed, as MS-EFSR 2.2.2.1.2 states it, narrowed by document 01.
use Rattle.lemmas.proofs.Basics.{ℕ, ◌+◌, ◌-◌, ◌≤◌, ◌<◌, max, arith, min_comm, max_comm, Bool, false, not, List, ◌⊎◌, inl, inr, ⊎_elim, ◌≡◌, ap, ltb, leb, length, le-ltb, ltb-true, ltb-false, leb-true, leb-false, eq-eqb, ne_eqb, eqb-true, eqb-false}
use Rattle.lemmas.proofs.Cases.{by_cases, not-false}
use Rattle.refusal.specs.Chain.{unless_refused}
use Rattle.keyentry.specs.Layout.{public_key_at, public_key_length, fek_at, fek_length, run_before, run_between, run_after, overlap}
use Rattle.keyentry.specs.Reading.{entry_of, entry_number}
use Rattle.keyentry.specs.WellFormed.{Of, Apart, Used, WellFormed}
use Rattle.keyentry.proofs.Reading.{accepted-checks, passed, passes}
use Rattle.keyentry.proofs.Tests.{inside, not-outside, one_first, item_first, fek_first, short_runs, no_long_run, ordered}

-- Of any 9 bytes in a row one is used, where the items stand in this order and the runs are of 8 bytes at most.
covered : (p n f e L : ℕ) → 20 ≤ p → 0 < n → p + n ≤ f → 0 < e → f + e ≤ L → (run_before p f ≤ 8) × (run_between p n f e ≤ 8) × (run_after p n f e L ≤ 8)
    → (from : ℕ) → 20 ≤ from → from + 9 ≤ L → (k : ℕ) × ((from ≤ k) × ((k < from + 9) × (Of k p n ⊎ Of k f e)))
covered p n f e L start some order more end runs from low high =
    let o = ordered p n f e L order in
    let before : p - 20 ≤ 8 = rw o.0 at runs.0 in
    let between : f - (p + n) ≤ 8 = rw o.1 at runs.1 in
    let after : L - (f + e) ≤ 8 = rw o.2 at runs.2 in
    by_cases P (ltb from p) (λ q. let h = ltb-true from p q in (p, (omega arith, (omega arith, inl (omega arith)))))
    (λ q. let i = ltb-false from p q in
    by_cases P (ltb from (p + n)) (λ q. let h = ltb-true from (p + n) q in (from, (omega arith, (omega arith, inl (omega arith)))))
    (λ q. let j = ltb-false from (p + n) q in
    by_cases P (ltb from f) (λ q. let h = ltb-true from f q in (f, (omega arith, (omega arith, inr (omega arith)))))
    (λ q. let k = ltb-false from f q in
    (from, (omega arith, (omega arith, inr (omega arith)))))))
  where
    P : Bool → Type 0
    P _ = (k : ℕ) × ((from ≤ k) × ((k < from + 9) × (Of k p n ⊎ Of k f e)))

swapped : (p n f e from : ℕ) → (k : ℕ) × ((from ≤ k) × ((k < from + 9) × (Of k f e ⊎ Of k p n))) → (k : ℕ) × ((from ≤ k) × ((k < from + 9) × (Of k p n ⊎ Of k f e)))
swapped p n f e from h = (h.0, (h.1.0, (h.1.1.0, ⊎_elim inr inl h.1.1.1)))

turned : (p n f e L : ℕ) → (run_before p f ≤ 8) × (run_between p n f e ≤ 8) × (run_after p n f e L ≤ 8) → (run_before f p ≤ 8) × (run_between f e p n ≤ 8) × (run_after f e p n L ≤ 8)
turned p n f e L runs = rw (min_comm f p, max_comm f p, min_comm (f + e) (p + n), max_comm (f + e) (p + n)) runs

some_of : {n : ℕ} → 4 ≤ n → 0 < n
some_of h = omega arith

-- Accepted, so well formed.
pub accepted_well_formed : (s : List ℕ) → entry_number (entry_of s) ≡ 0 → WellFormed s
accepted_well_formed s z =
    let L = length s in
    let p = public_key_at s in
    let n = public_key_length s in
    let f = fek_at s in
    let e = fek_length s in
    let t = passed s (accepted-checks s z) in
    let item-start = inside p 4 L t.own_length in
    let whole = ltb-false n 4 t.whole in
    let item-end = ltb-false L (p + n) t.item-end in
    let some : 0 < e = omega (arith, eqb-false e 0 t.fek_some) in
    let fek = inside f e L t.fek in
    let order = one_first p n f e t.apart in
    let runs = short_runs p n f e L t.runs in
    record {
      limit = ltb-false 65535 L t.limit;
      head = ltb-false L 20 t.head;
      length_is = eqb-true _ L (not-false _ t.length_is);
      own_length = item-start;
      whole = whole;
      public_key = (item-start.0, item-end);
      fek_some = some;
      fek = fek;
      apart = λ k a b. ⊎_elim (λ o. omega arith) (λ o. omega arith) order;
      used = λ from low high. ⊎_elim
          (λ o. covered p n f e L item-start.0 (some_of whole) o some fek.1 runs from low high)
          (λ o. swapped p n f e from (covered f e p n L fek.0 some o (some_of whole) item-end (turned p n f e L runs) from low high))
          order;
    }

-- Where no byte belongs to both items, one ends before the other begins.
apart_ordered : (p n f e : ℕ) → 0 < n → 0 < e → Apart p n f e → (p + n ≤ f) ⊎ (f + e ≤ p)
apart_ordered p n f e some more apart =
    by_cases (λ _. (p + n ≤ f) ⊎ (f + e ≤ p)) (leb (p + n) f)
    (λ q. inl (leb-true (p + n) f q))
    (λ q. by_cases (λ _. (p + n ≤ f) ⊎ (f + e ≤ p)) (leb (f + e) p)
    (λ r. inr (leb-true (f + e) p r))
    (λ r. let a = leb-false (p + n) f q in
    let b = leb-false (f + e) p r in
    absurd (apart (max p f) (omega arith) (omega arith))))

-- no 9 bytes in a row are unused, so each run has 8 at most
short : (x : ℕ) → (8 < x → ⊥) → x ≤ 8
short x h = by_cases (λ _. x ≤ 8) (ltb 8 x) (λ q. absurd (h (ltb-true 8 x q))) (λ q. ltb-false 8 x q)

used_runs : (s : List ℕ) (p n f e : ℕ) → 20 ≤ p → 0 < n → p + n ≤ f → 0 < e → f + e ≤ length s → Used s p n f e
    → (run_before p f ≤ 8) × (run_between p n f e ≤ 8) × (run_after p n f e (length s) ≤ 8)
used_runs s p n f e start some order more end used = rw ((ordered p n f e (length s) order).0, (ordered p n f e (length s) order).1, (ordered p n f e (length s) order).2) (
  short (p - 20) (λ h. let k = used 20 (omega arith) (omega arith) in ⊎_elim (λ i. omega arith) (λ i. omega arith) k.1.1.1),
  short (f - (p + n)) (λ h. let k = used (p + n) (omega arith) (omega arith) in ⊎_elim (λ i. omega arith) (λ i. omega arith) k.1.1.1),
  short (length s - (f + e)) (λ h. let k = used (f + e) (omega arith) (omega arith) in ⊎_elim (λ i. omega arith) (λ i. omega arith) k.1.1.1),
)

-- Well formed, so accepted.
pub well_formed_accepted : (s : List ℕ) → WellFormed s → entry_number (entry_of s) ≡ 0
unfolding entry_of entry_number unless_refused
well_formed_accepted s w =
    let L = length s in
    let p = public_key_at s in
    let n = public_key_length s in
    let f = fek_at s in
    let e = fek_length s in
    let order = apart_ordered p n f e (some_of w.whole) w.fek_some w.apart in
    let overlaps : overlap p n f e ≡ false = ⊎_elim (item_first p n f e) (fek_first p n f e) order in
    let runs : (run_before p f ≤ 8) × (run_between p n f e ≤ 8) × (run_after p n f e L ≤ 8) = ⊎_elim
    (λ o. used_runs s p n f e w.public_key.0 (some_of w.whole) o w.fek_some w.fek.1 w.used)
    (λ o. turned f e p n L (used_runs s f e p n w.fek.0 w.fek_some o (some_of w.whole) w.public_key.1 (λ from low high. swapped f e p n from (w.used from low high))))
    order
    in
    rw (passes s (record {
      limit = le-ltb 65535 L w.limit;
      head = le-ltb L 20 w.head;
      length_is = ap not (eq-eqb _ L w.length_is);
      own_length = not-outside p 4 L w.own_length.0 w.own_length.1;
      whole = le-ltb n 4 w.whole;
      item-end = le-ltb L (p + n) w.public_key.1;
      fek_some = ne_eqb e 0 (λ z. some_not z w.fek_some);
      fek = not-outside f e L w.fek.0 w.fek.1;
      apart = overlaps;
      runs = no_long_run p n f e L runs.0 runs.1 runs.2;
    }))
  where
    some_not : {e : ℕ} → e ≡ 0 → 0 < e → ⊥
    some_not z h = omega arith
