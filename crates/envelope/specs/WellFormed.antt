-- MS-GKDI 2.2.4, narrowed by document 01 and for the texts by document 02, No. 6, and for the keys' lengths the house rule of document 02,
-- No. 4: when an envelope is well formed, without an order of checks.
use Rattle.std.specs.Prelude.{ℕ, ◌≤◌, List, ◌≡◌, length}
use Rattle.wire.specs.Parts.{part_of}
use Rattle.gkid.specs.Identifier.{InGroup}
use Rattle.text.specs.WellFormed as text
use Rattle.keys.specs.WellFormed as keys
use Rattle.envelope.specs.declared.EnvelopePart.TheVariants.{Kdf, Agreement, Domain, Forest}
use Rattle.envelope.specs.Layout.{mark, head_of, is_public, lengths_of, end_at}
use Rattle.envelope.specs.Reading.{body_at}

pub record WellFormed (s : List ℕ) : Type 0 where
  -- document 01: at most 65,535 bytes, and the head is there
  pub limit : length s ≤ 65535
  pub head : 80 ≤ length s
  -- the four fixed bytes
  pub marked : part_of s 4 4 ≡ mark
  -- L1 and L2 index MUST be a number between 0 and 31, inclusive
  pub indices : InGroup (head_of s).at
  -- each length field MUST be the length of its body, and the bodies make up the rest of the record
  pub lengths : end_at (lengths_of s) ≡ length s
  -- null-terminated Unicode strings, of which each is sound UTF-16
  pub kdf : text.WellFormed (body_at s Kdf)
  pub agreement : text.WellFormed (body_at s Agreement)
  pub domain : text.WellFormed (body_at s Domain)
  pub forest : text.WellFormed (body_at s Forest)
  -- the keys' lengths; by the house rule, against the source, a public envelope may carry its key at L2 index 31 too
  pub keys : keys.WellFormed (is_public (head_of s).flags) (head_of s).at (head_of s).public_length (lengths_of s).l1_key (lengths_of s).l2_key
