-- Document 01, "Reach, and the two envelopes": the reach of an envelope.
use Rattle.std.specs.Prelude.{ℕ, List, Result, Ok, Err}
use Rattle.refusal.specs.declared.Refusal.{Refusal}
use Rattle.envelope.specs.declared.Envelope.{Envelope}
use Rattle.keys.specs.Forms.{keys_of}
use Rattle.reach.specs.declared.Reach.{Reach}
use Rattle.reach.specs.Reaches.{keys_reach}
use Rattle.envelope.specs.Reading.{envelope_of, form_of}

-- an accepted envelope reaches what its keys reach; a refused one has its refusal, and reaches nothing
unfoldable pub reach_of : Result Envelope Refusal → Result Reach Refusal
reach_of (Ok e) = keys_reach (keys_of (form_of e)) e.head.at
reach_of (Err r) = Err r

abbrev pub envelope_reach : List ℕ → Result Reach Refusal
envelope_reach s = reach_of (envelope_of s)
