-- A list is accepted exactly when every one of its entries is well formed, their lengths add up, and nothing is left.
use Rattle.lemmas.proofs.Basics.{ℕ, zero, suc, ◌+◌, ◌-◌, ◌≤◌, arith, add-zero, cond, List, ◌++◌, ◌≡◌, refl, sym, ap, subst, ◌∙◌, eqb, length, take, drop, length-append, length-drop, take-append-drop, drop_of_length-le, length-take-le, drop_at, drop-drop, le-ltb, ltb-false, eq-eqb, eqb-true}
use Rattle.std.specs.Prelude.{Result, Ok}
use Rattle.keylist.specs.declared.ListRefusal.{ListRefusal}
use Rattle.refusal.specs.Outcome.{Outcome}
use Rattle.refusal.specs.declared.Refusal.TheVariants.{BytesLeft}
use Rattle.refusal.specs.Chain.{first_of, unless_refused}
use Rattle.lemmas.proofs.Cases.{by_cases, false-or}
use Rattle.refusal.proofs.Chains.{accepted_pass, pass_accepted, append-accepted, accepted-append, unless_zero}
use Rattle.refusal.proofs.Numbers.{number_not-zero}
use Rattle.wire.specs.Numbers.{le_of}
use Rattle.wire.specs.Parts.{le_at, part_of}
use Rattle.wire.proofs.Parts.{part_in, part_left, part_right, part_piece}
use Rattle.keyentry.specs.Reading.{entry_checks, entry_of, entry_number}
use Rattle.keyentry.specs.WellFormed.{WellFormed}
use Rattle.keyentry.proofs.ExactlyWhen.{accepted_well_formed, well_formed_accepted}
use Rattle.keyentry.proofs.Reading.{accepted-checks, pass_shown}
use Rattle.keylist.specs.Reading.{count_of, list_checks, length_at, record_at, extent_checks, place_checks, refused_at, entries_from, list_of, list_number}
use Rattle.keylist.specs.WellFormed.{Entries, none, more, WellFormedList}
use Rattle.keylist.proofs.Stepping.{lying}

-- an answer that is 0: the checks that come first are passed, and what stands behind them is 0
behind_checks : (o : Outcome) (index : ℕ) (rest : Result ℕ ListRefusal) → list_number (unless_refused (refused_at index) o rest) ≡ 0 → (o ≡ Ok tt) × (list_number rest ≡ 0)
unfolding list_number
behind_checks o index rest = unless_zero list_number (refused_at index) (λ r. refl) o rest

-- the entry's record, then what follows it
split : (s : List ℕ) (at : ℕ) → length_at s at ≤ length s - at → 20 ≤ length_at s at → record_at s at ++ drop (at + length_at s at) s ≡ drop at s
split s at h some =
    ap (λ t. t ++ drop (at + length_at s at) s) (part_in s at (length_at s at) (omega arith))
    ∙ ap (λ t. take (length_at s at) (drop at s) ++ t) (sym (drop-drop (length_at s at) at s)) ∙ take-append-drop (length_at s at) (drop at s)

accepted-entries : (n : ℕ) (s : List ℕ) (at index : ℕ) → list_number (entries_from n s at index) ≡ 0 → Entries n (drop at s)
unfolding entries_from place_checks extent_checks list_number entry_number
accepted-entries zero s at index z =
    by_cases (λ t. list_number (cond t (Ok index) (refused_at 0 BytesLeft)) ≡ 0 → Entries zero (drop at s)) (eqb at (length s))
    (λ q _. subst (Entries zero) (sym (drop_of_length-le s {i = at} (omega (arith, eqb-true at (length s) q)))) none)
    (λ q w. absurd (number_not-zero BytesLeft w))
    z
accepted-entries (suc n) s at index z =
    let told = behind_checks (first_of (place_checks s at)) index _ z in
    let t = append-accepted (extent_checks s at) (entry_checks (record_at s at)) told.0 in
    let l = lying s at _ t.0 refl in
    let accepted = ap entry_number (pass_shown (record_at s at) t.1) in
    subst (Entries (suc n)) (split s at l.high l.low)
    (more (record_at s at) (accepted_well_formed (record_at s at) accepted) (accepted-entries n s (at + length_at s at) (index + 1) told.1))

-- Accepted, so well formed.
pub accepted_well_formed_list : (s : List ℕ) → list_number (list_of s) ≡ 0 → WellFormedList s
unfolding list_of list_checks
accepted_well_formed_list s z =
    let told = behind_checks (first_of (list_checks s)) 0 _ z in
    let t = accepted_pass (list_checks s) told.0 in
    record { limit = ltb-false 65535 (length s) t.0; head = ltb-false (length s) 4 t.1.0; entries = accepted-entries (count_of s) s 4 0 told.1 }

-- An entry that stands at a place is that place's record, and passes its checks.
record Stands (s : List ℕ) (at : ℕ) (e : List ℕ) : Type 0 where
  size : length_at s at ≡ length e
  is : record_at s at ≡ e
  passes : first_of (place_checks s at) ≡ Ok tt

stands : (s : List ℕ) (at : ℕ) (e rest : List ℕ) → at ≤ length s → e ++ rest ≡ drop at s → WellFormed e → Stands s at e
unfolding le_at place_checks extent_checks entry_of
stands s at e rest inside is w =
    let whole : take at s ++ (e ++ rest) ≡ s = ap (λ t. take at s ++ t) is ∙ take-append-drop at s in
    let before = length-take-le at s inside in
    let room : length e + length rest ≡ length s - at = sym (length-append e rest) ∙ ap length is ∙ length-drop at s in
    let four : part_of s at 4 ≡ part_of e 0 4 =
    ap (λ t. part_of t at 4) (sym whole) ∙ ap (λ a. part_of (take at s ++ (e ++ rest)) a 4) (sym (ap (λ n. n + 0) before ∙ add-zero at))
    ∙ part_right (take at s) (e ++ rest) 0 4 ∙ part_left e rest 0 4 (omega (arith, w.head))
    in
    let size : length_at s at ≡ length e = ap le_of four ∙ w.length_is in
    let is-e : record_at s at ≡ e = ap (part_of s at) size ∙ ap (λ t. part_of t at (length e)) (sym whole) ∙ part_piece (take at s) e rest at (length e) before refl in
    let low : 20 ≤ length_at s at = omega (arith, w.head) in
    let high : length_at s at ≤ length s - at = omega arith in
    let left : 20 ≤ length s - at = omega arith in
    let accepted : first_of (entry_checks (record_at s at)) ≡ (Ok tt) = rw is-e (accepted-checks e (well_formed_accepted e w)) in
    record {
      size = size;
      is = is-e;
      passes = accepted-append (extent_checks s at) _ (pass_accepted _ (le-ltb (length s - at) 20 left, (false-or (le-ltb _ 20 low) (le-ltb (length s - at) _ high), tt))) accepted;
    }

entries-accepted : {n : ℕ} {t : List ℕ} → Entries n t → (s : List ℕ) (at index : ℕ) → at ≤ length s → t ≡ drop at s → list_number (entries_from n s at index) ≡ 0
unfolding entries_from unless_refused list_number
entries-accepted none s at index inside e =
    let end : at ≡ length s = omega (arith, ap length e, length-drop at s) in
    rw (eq-eqb at (length s) end)
entries-accepted (more {rest = rest} entry w es) s at index inside e =
    let st = stands s at entry rest inside e w in
    let room : length entry + length rest ≡ length s - at = sym (length-append entry rest) ∙ ap length e ∙ length-drop at s in
    let after : rest ≡ drop (at + length_at s at) s =
    sym (drop_at entry rest (length entry) refl) ∙ ap (drop (length entry)) e ∙ drop-drop (length entry) at s ∙ ap (λ n. drop (at + n) s) (sym st.size)
    in
    rw st.passes (entries-accepted es s (at + length_at s at) (index + 1) (omega (arith, st.size)) after)

-- Well formed, so accepted.
pub well_formed_list_accepted : (s : List ℕ) → WellFormedList s → list_number (list_of s) ≡ 0
unfolding list_of list_checks unless_refused
well_formed_list_accepted s w =
    rw (pass_accepted (list_checks s) (le-ltb 65535 (length s) w.limit, (le-ltb (length s) 4 w.head, tt))) (entries-accepted w.entries s 4 0 w.head refl)

-- An accepted list shows its count: the number in its first four bytes.
entries_counted : (n : ℕ) (s : List ℕ) (at index : ℕ) → list_number (entries_from n s at index) ≡ 0 → entries_from n s at index ≡ Ok (index + n)
unfolding entries_from unless_refused list_number
entries_counted zero s at index z =
    by_cases (λ t. list_number (cond t (Ok index) (refused_at 0 BytesLeft)) ≡ 0 → cond t (Ok index) (refused_at 0 BytesLeft) ≡ Ok (index + 0)) (eqb at (length s))
    (λ q _. ap Ok (sym (add-zero index)))
    (λ q w. absurd (number_not-zero BytesLeft w))
    z
entries_counted (suc n) s at index z =
    let told = behind_checks (first_of (place_checks s at)) index _ z in
    rw told.0 (entries_counted n s (at + length_at s at) (index + 1) told.1 ∙ ap Ok (omega arith))

pub accepted_counted : (s : List ℕ) → list_number (list_of s) ≡ 0 → list_of s ≡ Ok (count_of s)
unfolding list_of unless_refused
accepted_counted s z = let told = behind_checks (first_of (list_checks s)) 0 _ z in rw told.0 (entries_counted (count_of s) s 4 0 told.1 ∙ ap Ok (omega arith))
