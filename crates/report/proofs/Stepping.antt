-- One record answered and counted.
use Rattle.lemmas.proofs.Basics.{ℕ, ◌+◌, ◌^◌, ◌≤◌, ◌<◌, arith, Bool, cond, ◌&&◌, and-false, List, [], ◌∷◌, ◌≡◌, refl, sym, ap, ◌∙◌, ltb, eqb, lt-ltb, le-ltb, ne_eqb}
use Rattle.std.specs.Prelude.{Result, Ok, Err, Option, Some, None}
use Rattle.std.specs.Result.{is_ok}
use Rattle.refusal.proofs.Numbers.{number_not-zero}
use Rattle.refusal.specs.declared.Refusal.{Refusal}
use Rattle.trace.specs.declared.Recorded.{Recorded}
use Rattle.getkey.specs.declared.Granted.{Granted}
use Rattle.gkid.specs.declared.FileTime.{FileTime}
use Rattle.lemmas.proofs.Cases.{by_cases}
use Rattle.getkey.specs.Deciding.{answer_number}
use Rattle.trace.specs.Reading.{record_of}
use Rattle.tally.specs.declared.Tally.{Tally}
use Rattle.tally.specs.Totals.{tally_of}
use Rattle.tally.specs.Merging.{merge, fits, merged_of}
use Rattle.report.specs.declared.State.{State}
use Rattle.report.specs.Records.{answered, answer_to, clock_of, counted_of, total_of}
use Rattle.report.specs.Replaying.{stepped, after, counts, step_of}

-- accepted is number 0, as no refusal is
pub accepted_is : (a : Result Granted Refusal) → is_ok a ≡ eqb (answer_number a) 0
unfolding answer_number
accepted_is (Ok granted) = refl
accepted_is (Err r) = sym (ne_eqb _ 0 (number_not-zero r))

-- what was read, answered and counted, as the definitions have it
module _ (table : List ℕ) (s : List ℕ) {read : Result Recorded Refusal} {answer : Result Granted Refusal} (is_read : read ≡ record_of s) (is-answer : answer ≡ answered table read) where
  pub answer_is : answer ≡ answer_to table s
  unfolding answer_to
  answer_is = is-answer ∙ ap (answered table) is_read

  pub one_is : {accepted : Bool} {clock : Option FileTime} {one : Tally} → accepted ≡ eqb (answer_number answer) 0 → clock ≡ clock_of read
      → one ≡ tally_of (record { accepted = accepted; clock = clock } ∷ []) → one ≡ total_of table (s ∷ [])
  unfolding total_of counted_of
  one_is told timed counted =
      counted ∙ (λ i. tally_of (record { accepted = (told ∙ ap (λ a. eqb (answer_number a) 0) answer_is) i; clock = (timed ∙ ap clock_of is_read) i } ∷ []))

-- the line, where the counts fit; none where one does not
module _ (table : List ℕ) (st : State) (s : List ℕ) where
  pub steps : {y : Tally} → merged_of st.tally (total_of table (s ∷ [])) ≡ Some y → st.next + 1 < 2 ^ 64
      → Some (stepped st.next (answer_to table s) (record { next = st.next + 1; tally = y })) ≡ step_of table st s
  unfolding step_of counts after merged_of
  steps {y} told small =
      by_cases
      (λ t. cond t (Some (merge st.tally (total_of table (s ∷ [])))) None ≡ Some y
      → Some (stepped st.next (answer_to table s) (record { next = st.next + 1; tally = y })) ≡ cond (ltb (st.next + 1) (2 ^ 64) && t) (Some (stepped st.next (answer_to table s) (after table st (s ∷ [])))) None)
      (fits (merge st.tally (total_of table (s ∷ []))))
      (λ q w. let is : y ≡ merge st.tally (total_of table (s ∷ [])) = cc in rw (lt-ltb (st.next + 1) (2 ^ 64) small, is))
      (λ q w. let z : ◌≡◌ {A = ℕ} 0 1 = cc in absurd (omega arith))
      told

  pub steps_not : merged_of st.tally (total_of table (s ∷ [])) ≡ None → None ≡ step_of table st s
  unfolding step_of counts after merged_of
  steps_not told =
      by_cases
      (λ t. cond t (Some (merge st.tally (total_of table (s ∷ [])))) None ≡ None
      → None ≡ cond (ltb (st.next + 1) (2 ^ 64) && t) (Some (stepped st.next (answer_to table s) (after table st (s ∷ [])))) None)
      (fits (merge st.tally (total_of table (s ∷ []))))
      (λ q w. let z : ◌≡◌ {A = ℕ} 0 1 = cc in absurd (omega arith))
      (λ q w. rw and-false)
      told

  pub last_number : 2 ^ 64 ≤ st.next + 1 → None ≡ step_of table st s
  unfolding step_of counts
  last_number large = rw (le-ltb (st.next + 1) (2 ^ 64) large)
