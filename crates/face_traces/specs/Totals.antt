-- Document 02, No. 7, as C has its answers: a total, as C hands it in and is shown it, and two of them merged.
use Rattle.std.specs.Prelude.{ℕ, cond, eqb, Option, Some, None}
use Rattle.tally.specs.declared.Ends.{Ends}
use Rattle.tally.specs.declared.Tally.{Tally}
use Rattle.face_traces.specs.declared.TallyNumbers.{TallyNumbers}
use Rattle.face_traces.specs.declared.MergeAnswer.{MergeAnswer}

-- a code that is not 1 is none, whatever first and last are
abbrev pub clocks_from : ℕ → ℕ → ℕ → Option Ends
clocks_from code first last = cond (eqb code 1) (Some (record { first = record { 0 = first }; last = record { 0 = last } })) None

abbrev pub tally_from : TallyNumbers → Tally
tally_from t = record { accepted = t.accepted; refused = t.refused; earlier = t.earlier; clocks = clocks_from t.clocks t.first t.last }

-- 1 where there are clocks
unfoldable pub clocks_code : Option Ends → ℕ
clocks_code None = 0
clocks_code (Some ends) = 1

-- 0 where there are none
unfoldable pub first_clock : Option Ends → ℕ
first_clock None = 0
first_clock (Some ends) = ends.first.0

unfoldable pub last_clock : Option Ends → ℕ
last_clock None = 0
last_clock (Some ends) = ends.last.0

unfoldable pub tally_shown : Tally → TallyNumbers
tally_shown t =
    record {
      accepted = t.accepted;
      refused = t.refused;
      earlier = t.earlier;
      first = first_clock t.clocks;
      last = last_clock t.clocks;
      clocks = clocks_code t.clocks;
      reserved = 0;
    }

-- zeros beside full
abbrev pub no_tally : TallyNumbers
no_tally = record { accepted = 0; refused = 0; earlier = 0; first = 0; last = 0; clocks = 0; reserved = 0 }

unfoldable pub merge_answer : Option Tally → MergeAnswer
merge_answer (Some t) = record { full = 0; reserved = 0; tally = tally_shown t }
merge_answer None = record { full = 1; reserved = 0; tally = no_tally }
