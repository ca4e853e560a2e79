-- Document 01, "Reach, and the two envelopes": when an envelope serves an identifier under a root key, said of its bytes.
use Rattle.std.specs.Prelude.{ℕ, true, List, ◌≡◌}
use Rattle.gkid.specs.declared.Gkid.{Gkid}
use Rattle.rootid.specs.declared.RootId.{RootId}
use Rattle.reach.specs.Reaches.{reached_in}
use Rattle.envelope.specs.Layout.{head_of}
use Rattle.envelope.specs.Reading.{envelope_of, envelope_number}
use Rattle.serving.specs.Reach.{envelope_reach}

pub record Serves (s : List ℕ) (root : RootId) (i : Gkid) : Type 0 where
  -- it is accepted,
  pub accepted : envelope_number (envelope_of s) ≡ 0
  -- has that root
  pub has_root : (head_of s).root ≡ root
  -- and L0,
  pub has_l0 : (head_of s).at.l0.0 ≡ i.l0.0
  -- and reaches the identifier: of its own reach map the bit in row L1 at index L2 is set
  pub reached : reached_in (head_of s).at (envelope_reach s) i ≡ true
