-- Laws of the SID area: zero bytes, one at least, give no hint; a SID does; and where what the area holds stands.
use Rattle.lemmas.proofs.Basics.{ℕ, ◌≤◌, arith, Bool, true, false, cond, ◌&&◌, List, [], ◌∷◌, ◌≡◌, refl, leb, eqb, length, le-leb, leb-true, eq-eqb, ne_eqb, eqb-true, eqb-false}
use lib.Bits.{bit_or, or_add_and, and_le_l, and_le_r}
use Rattle.std.specs.Prelude.{Result, Ok, Err}
use Rattle.refusal.specs.declared.Refusal.{Refusal}
use Rattle.refusal.specs.declared.Refusal.TheVariants.{MalformedSid}
use Rattle.refusal.specs.Outcome.{Outcome}
use Rattle.refusal.specs.Chain.{◌⇒◌, first_of}
use Rattle.refusal.proofs.Chains.{pass_accepted, first_here}
use Rattle.efskey.specs.declared.SidHint.{SidHint}
use Rattle.lemmas.proofs.Cases.{by_cases, cond_cases, both_true}
use Rattle.lemmas.proofs.Counting.{every_all, all_every}
use Rattle.sid.specs.WellFormed as sid
use Rattle.efskey.specs.declared.SidHint.TheVariants.{None, Sid, NoHint}
use Rattle.efskey.specs.Layout.{all_zeros, is_no_hint, area_span, hint_of, sid_malformed, area_of}
use Rattle.efskey.specs.Reading.{hint_span}
use Rattle.efskey.specs.WellFormed.{Zeros}

pub hint_zeros : (area : List ℕ) → is_no_hint area ≡ true → (1 ≤ length area) × Zeros area
unfolding is_no_hint all_zeros
hint_zeros area e =
    let both = both_true (leb 1 (length area)) (all_zeros area) e in
    (leb-true 1 _ both.0, λ k h. eqb-true _ _ (every_all _ _ both.1 k h))

pub zeros_hint : (area : List ℕ) → 1 ≤ length area → Zeros area → is_no_hint area ≡ true
unfolding is_no_hint all_zeros
zeros_hint area some zeros = rw (le-leb 1 _ some) (all_every _ _ (λ k h. eq-eqb _ _ (zeros k h)))

pub sid_hint : (area : List ℕ) → sid.WellFormed area → is_no_hint area ≡ false
sid_hint area sound =
    by_cases (λ t. t ≡ false) (is_no_hint area) (λ q. let z = hint_zeros area q in absurd (omega (arith, z.1 0 (omega (arith, z.0)), sound.revision_is))) (λ _. refl)

pub hint_span_lem : (offset : ℕ) (area : List ℕ) → hint_span (hint_of offset area) ≡ cond (eqb offset 0) (record { at = 0; len = 0 }) (area_span area)
unfolding hint_of hint_span
hint_span_lem offset area = told (eqb offset 0) (is_no_hint area)
  where
    told : (none zeros : Bool) → hint_span (cond none None (cond zeros (NoHint (area_span area)) (Sid (area_span area)))) ≡ cond none (record { at = 0; len = 0 }) (area_span area)
    told true zeros = refl
    told false true = refl
    told false false = refl

-- what an answer says of the area: what it holds passes the check and is the hint; what is malformed does not pass
abbrev pub Says : ℕ → List ℕ → Result SidHint Refusal → Type 0
Says offset area (Ok hint) = (sid_malformed (hint_of offset area) area ≡ false) × (hint ≡ hint_of offset area)
Says offset area (Err r) = (sid_malformed (hint_of offset area) area ≡ true) × (r ≡ MalformedSid)

pub area_says : (offset : ℕ) (area : List ℕ) → Says offset area (area_of offset area)
unfolding area_of
area_says offset area = cond_cases (Says offset area) (sid_malformed (hint_of offset area) area) (λ q. (q, refl)) (λ q. (q, refl))

-- The area's check, from that answer.
abbrev pub judged : Result SidHint Refusal → Outcome
judged (Ok hint) = Ok tt
judged (Err r) = Err r

pub said-judged : (offset : ℕ) (area : List ℕ) (a : Result SidHint Refusal) → Says offset area a → first_of ((sid_malformed (hint_of offset area) area ⇒ MalformedSid) ∷ []) ≡ judged a
said-judged offset area (Ok hint) said = pass_accepted _ (said.0, tt)
said-judged offset area (Err r) said = rw said.1 (first_here _ _ [] said.0)

pub area_judged : (offset : ℕ) (area : List ℕ) → first_of ((sid_malformed (hint_of offset area) area ⇒ MalformedSid) ∷ []) ≡ judged (area_of offset area)
area_judged offset area = said-judged offset area _ (area_says offset area)

-- No bit is set of two numbers exactly where none is of either.
pub or_zero : (a b : ℕ) → eqb (bit_or a b) 0 ≡ eqb a 0 && eqb b 0
or_zero a b =
    by_cases (λ t. eqb (bit_or a b) 0 ≡ t && eqb b 0) (eqb a 0)
    (λ p. by_cases (λ t. eqb (bit_or a b) 0 ≡ t) (eqb b 0)
    (λ q. eq-eqb (bit_or a b) 0 (omega (arith, or_add_and a b, eqb-true a 0 p, eqb-true b 0 q)))
    (λ q. ne_eqb (bit_or a b) 0 (λ z. eqb-false b 0 q (omega (arith, or_add_and a b, and_le_l a b)))))
    (λ p. ne_eqb (bit_or a b) 0 (λ z. eqb-false a 0 p (omega (arith, or_add_and a b, and_le_r a b))))
