-- Document 02, No. 7: what C is shown of a replay and hands in again is where the replay stands.
use Rattle.lemmas.proofs.Basics.{◌≡◌, refl}
use Rattle.std.specs.Prelude.{Option, Some, None}
use Rattle.tally.specs.declared.Ends.{Ends}
use Rattle.tally.specs.declared.Tally.{Tally}
use Rattle.report.specs.declared.State.{State}
use Rattle.face_traces.specs.Totals.{clocks_from, clocks_code, first_clock, last_clock, tally_from, tally_shown}
use Rattle.face_traces.specs.Replays.{state_from, state_shown}

clocks_again : (cs : Option Ends) → clocks_from (clocks_code cs) (first_clock cs) (last_clock cs) ≡ cs
unfolding clocks_code first_clock last_clock
clocks_again None = refl
clocks_again (Some ends) = refl

pub tally_again : (t : Tally) → tally_from (tally_shown t) ≡ t
unfolding tally_shown
tally_again t = λ i. record { accepted = t.accepted; refused = t.refused; earlier = t.earlier; clocks = clocks_again t.clocks i }

pub state-again : (st : State) → state_from (state_shown st) ≡ st
state-again st = λ i. record { next = st.next; tally = tally_again st.tally i }
