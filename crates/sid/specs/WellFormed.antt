-- MS-DTYP 2.4.2, narrowed by document 01: when bytes are one SID, without an order of tests.
use Rattle.std.specs.Prelude.{ℕ, ◌+◌, ◌*◌, ◌≤◌, List, ◌≡◌, length}
use Rattle.sid.specs.Rule.{revision, count}

pub record WellFormed (s : List ℕ) : Type 0 where
  -- Revision: MUST be 1
  pub revision_is : revision s ≡ 1
  -- SubAuthorityCount: at most 15
  pub at_most : count s ≤ 15
  -- the head of 8 bytes, then four for each sub-authority
  pub size : length s ≡ 8 + 4 * count s
