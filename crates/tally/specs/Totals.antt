-- Document 02, No. 7: the total of a trace, over what is counted of each of its records.
use Rattle.std.specs.Prelude.{ℕ, ◌+◌, not, List, [], ◌∷◌, ltb, Option, Some, None}
use Rattle.gkid.specs.declared.FileTime.{FileTime}
use Rattle.tally.specs.declared.Ends.{Ends}
use Rattle.lemmas.specs.Counting.{bit}
use Rattle.tally.specs.declared.Counted.{Counted}
use Rattle.tally.specs.declared.Tally.{Tally}

-- "accepted"
unfoldable pub accepted_in : List Counted → ℕ
accepted_in [] = 0
accepted_in (c ∷ cs) = bit c.accepted + accepted_in cs

-- "refused (26 included)"
unfoldable pub refused_in : List Counted → ℕ
refused_in [] = 0
refused_in (c ∷ cs) = bit (not c.accepted) + refused_in cs

-- the clocks in order, "26 left out": such a record has none that counts
unfoldable pub with_clock : Option FileTime → List ℕ → List ℕ
with_clock None clocks = clocks
with_clock (Some time) clocks = time.0 ∷ clocks

unfoldable pub clocks_in : List Counted → List ℕ
clocks_in [] = []
clocks_in (c ∷ cs) = with_clock c.clock (clocks_in cs)

-- "times the clock was earlier than in the last record before": behind a clock, and from the first on
unfoldable pub earlier_behind : ℕ → List ℕ → ℕ
earlier_behind before [] = 0
earlier_behind before (clock ∷ clocks) = bit (ltb clock before) + earlier_behind clock clocks

unfoldable pub earlier_in : List ℕ → ℕ
earlier_in [] = 0
earlier_in (clock ∷ clocks) = earlier_behind clock clocks

-- the first and the last of the clocks
unfoldable pub last_behind : ℕ → List ℕ → ℕ
last_behind before [] = before
last_behind before (clock ∷ clocks) = last_behind clock clocks

unfoldable pub ends_of : List ℕ → Option Ends
ends_of [] = None
ends_of (clock ∷ clocks) = Some (record { first = record { 0 = clock }; last = record { 0 = last_behind clock clocks } })

-- the total; the clocks at its ends stand by for what comes before and after
unfoldable pub tally_of : List Counted → Tally
tally_of cs = record { accepted = accepted_in cs; refused = refused_in cs; earlier = earlier_in (clocks_in cs); clocks = ends_of (clocks_in cs) }
