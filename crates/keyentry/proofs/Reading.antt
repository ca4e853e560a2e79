-- Laws of the reader's answer.
use Rattle.lemmas.proofs.Basics.{ℕ, ◌+◌, ◌≤◌, arith, false, not, List, ◌≡◌, refl, ap, ltb, eqb, length, ltb-false}
use Rattle.std.specs.Prelude.{Result, Ok, Err}
use Rattle.refusal.specs.Outcome.{Outcome}
use Rattle.refusal.specs.declared.Refusal.{Refusal}
use Rattle.refusal.specs.Chain.{first_of, unless_refused}
use Rattle.refusal.proofs.Chains.{accepted_pass, pass_accepted, unless_zero}
use Rattle.keyentry.specs.declared.Entry.{Entry}
use Rattle.keyentry.specs.declared.EntryPart.{EntryPart}
use Rattle.keyentry.specs.declared.EntryPart.TheVariants.{Item, Fek}
use Rattle.keyentry.specs.Layout.{length_field, public_key_at, public_key_length, fek_at, fek_length, outside, overlap, long_run, run_checks, item_checks}
use Rattle.keyentry.specs.Reading.{entry_checks, shown, entry_of, entry_number, span_of, entry_span}
use Rattle.keyentry.proofs.Tests.{inside}

-- the answer of an outcome
abbrev pub answer : Outcome → Entry → Result Entry Refusal
answer o e = unless_refused Err o (Ok e)

-- The answer from the outcome of the checks, and what is shown; cited by no proof, it stands, since the documents named it.
pub entry_judged : (s : List ℕ) {o : Outcome} {e : Entry} → o ≡ first_of (entry_checks s) → e ≡ shown s → entry_of s ≡ answer o e
unfolding entry_of
entry_judged s judged is-shown = rw (judged, is-shown)

-- What an answer tells of the checks: accepted with what is shown, or refused by the first that applies.
pub accepted-shown : (s : List ℕ) (e : Entry) → entry_of s ≡ Ok e → (first_of (entry_checks s) ≡ Ok tt) × (e ≡ shown s)
unfolding entry_of unless_refused
accepted-shown s e = told (first_of (entry_checks s))
  where
    told : (o : Outcome) → answer o (shown s) ≡ Ok e → (o ≡ Ok tt) × (e ≡ shown s)
    told (Ok tt) h = (refl, cc)
    told (Err r) h = let z : ◌≡◌ {A = ℕ} 0 1 = cc in absurd (omega arith)

pub refused_checks : (s : List ℕ) (r : Refusal) → entry_of s ≡ Err r → first_of (entry_checks s) ≡ Err r
unfolding entry_of unless_refused
refused_checks s r = told (first_of (entry_checks s))
  where
    told : (o : Outcome) → answer o (shown s) ≡ Err r → o ≡ Err r
    told (Ok tt) h = let z : ◌≡◌ {A = ℕ} 0 1 = cc in absurd (omega arith)
    told (Err q) h = ap Err (cc)

-- Where no check applies, the answer is what is shown.
pub pass_shown : (s : List ℕ) → first_of (entry_checks s) ≡ Ok tt → entry_of s ≡ Ok (shown s)
unfolding entry_of unless_refused
pass_shown s e = rw e

-- An accepted entry: no check applies.
pub accepted-checks : (s : List ℕ) → entry_number (entry_of s) ≡ 0 → first_of (entry_checks s) ≡ Ok tt
unfolding entry_of entry_number
accepted-checks s z = (unless_zero entry_number Err (λ r. refl) (first_of (entry_checks s)) _ z).0

-- what checks that are passed say of an entry
pub record Passed (s : List ℕ) : Type 0 where
  pub limit : ltb 65535 (length s) ≡ false
  pub head : ltb (length s) 20 ≡ false
  pub length_is : not (eqb (length_field s) (length s)) ≡ false
  pub own_length : outside (public_key_at s) 4 (length s) ≡ false
  pub whole : ltb (public_key_length s) 4 ≡ false
  pub item-end : ltb (length s) (public_key_at s + public_key_length s) ≡ false
  pub fek_some : eqb (fek_length s) 0 ≡ false
  pub fek : outside (fek_at s) (fek_length s) (length s) ≡ false
  pub apart : overlap (public_key_at s) (public_key_length s) (fek_at s) (fek_length s) ≡ false
  pub runs : long_run (public_key_at s) (public_key_length s) (fek_at s) (fek_length s) (length s) ≡ false

pub passed : (s : List ℕ) → first_of (entry_checks s) ≡ Ok tt → Passed s
unfolding entry_checks item_checks run_checks
passed s e =
    let p = accepted_pass (entry_checks s) e in
    let item = p.1.1.1 in
    let fek = item.1.1.1 in
    record {
      limit = p.0;
      head = p.1.0;
      length_is = p.1.1.0;
      own_length = item.0;
      whole = item.1.0;
      item-end = item.1.1.0;
      fek_some = fek.0;
      fek = fek.1.0;
      apart = fek.1.1.0;
      runs = fek.1.1.1.0;
    }

pub passes : (s : List ℕ) → Passed s → first_of (entry_checks s) ≡ Ok tt
unfolding entry_checks item_checks run_checks
passes s p =
    pass_accepted (entry_checks s) (p.limit, (p.head, (p.length_is, (p.own_length, (p.whole, (p.item-end, (p.fek_some, (p.fek, (p.apart, (p.runs, tt))))))))))

-- Each part lies inside the entry.
pub part_inside : (s : List ℕ) (which : EntryPart) → (entry_span s which).at + (entry_span s which).len ≤ length s
unfolding entry_of unless_refused span_of shown
part_inside s which = told (first_of (entry_checks s)) refl which
  where
    told : (o : Outcome) → first_of (entry_checks s) ≡ o → (which : EntryPart) → (entry_span s which).at + (entry_span s which).len ≤ length s
    told (Ok tt) e Item = rw e (ltb-false _ _ (passed s e).item-end)
    told (Ok tt) e Fek = rw e (inside _ _ _ (passed s e).fek).1
    told (Err r) e which = rw e (omega arith)
