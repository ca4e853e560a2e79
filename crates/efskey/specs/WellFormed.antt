-- MS-GPEF 2.2.1.2.2, narrowed by document 01, with No. 2 of document 02: when an EfsKey is well formed, without an order of checks.
use Rattle.std.specs.Prelude.{ℕ, ◌+◌, ◌≤◌, ◌<◌, List, [], ◌∷◌, ◌≡◌, length, get_or}
use Rattle.wire.specs.Parts.{part_of}
use Rattle.sid.specs.WellFormed as sid
use Rattle.efskey.specs.Layout.{length1, length2, sid_offset, certificate_length, certificate_offset, sid_area}

-- all of them zero
abbrev pub Zeros : List ℕ → Type 0
Zeros bytes = (k : ℕ) → k < length bytes → get_or bytes k 0 ≡ 0

-- SID, optional: absent, with the certificate straight behind the head; or from byte 32 to the certificate zero bytes, one at least,
-- which give no hint; or one SID there
pub data SidField (s : List ℕ) : Type 0 where
  absent : sid_offset s ≡ 0 → certificate_offset s ≡ 28 → SidField s
  no_hint : sid_offset s ≡ 28 → 1 ≤ length (sid_area s) → Zeros (sid_area s) → SidField s
  present : sid_offset s ≡ 28 → sid.WellFormed (sid_area s) → SidField s

pub record WellFormed (s : List ℕ) : Type 0 where
  -- at most 65,535 bytes, and the 32 of the head are there
  pub limit : length s ≤ 65535
  pub head : 32 ≤ length s
  -- Length1: from the beginning of Length1 to the end of the certificate; Length2: from its own beginning, so four less
  pub length1_is : length1 s ≡ length s
  pub length2_is : length2 s + 4 ≡ length s
  -- Reserved1: 02 00 00 00
  pub marked : part_of s 12 4 ≡ 2 ∷ 0 ∷ 0 ∷ 0 ∷ []
  -- the certificate: not empty, behind the head, and to the end of the record; its offset counts from byte 4
  pub certificate : 1 ≤ certificate_length s
  pub behind : 32 ≤ 4 + certificate_offset s
  pub end : 4 + certificate_offset s + certificate_length s ≡ length s
  pub sid : SidField s
