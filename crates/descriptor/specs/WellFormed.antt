-- Document 02, No. 5 (MS-DTYP 2.4.6, 2.4.5, 2.4.4.1): when bytes are a sound self-relative descriptor, without an order of tests.
use Rattle.std.specs.Prelude.{ℕ, zero, suc, ◌+◌, ◌≤◌, List, ◌++◌, ◌≡◌, length, drop}
use Rattle.wire.specs.Parts.{part_of}
use Rattle.sid.specs.WellFormed as sid
use Rattle.descriptor.specs.Layout.{revision, owner_at, group_at, sacl_at, dacl_at, self_relative, told_size, entry_count}

-- an item as long as it says, and at least as long as its head
pub record Sized (least : ℕ) (item : List ℕ) : Type 0 where
  pub size : told_size item ≡ length item
  pub head : least ≤ length item

-- a list of n entries that lie one behind the other, each as long as it says; bytes may be left
pub data Entries : ℕ → List ℕ → Type 0 where
  none : {left : List ℕ} → Entries zero left
  more : {n : ℕ} {rest : List ℕ} (entry : List ℕ) → Sized 4 entry → Entries n rest → Entries (suc n) (entry ++ rest)

-- an ACL: as long as it says, and as many entries as it counts from its byte 8 on
pub record Acl (acl : List ℕ) : Type 0 where
  pub sized : Sized 8 acl
  pub entries : Entries (entry_count acl) (drop 8 acl)

-- what an offset names: nothing if it is 0; else an item that lies behind the head and inside the descriptor. Items may share bytes.
pub data Names (Item : List ℕ → Type 0) (s : List ℕ) (at : ℕ) : Type 0 where
  nothing : at ≡ 0 → Names Item s at
  something : (size : ℕ) → 20 ≤ at → at + size ≤ length s → Item (part_of s at size) → Names Item s at

pub record WellFormed (s : List ℕ) : Type 0 where
  pub limit : length s ≤ 65535
  pub head : 20 ≤ length s
  -- Revision: MUST be 1
  pub revision_is : revision s ≡ 1
  -- Control: SR, self-relative, MUST be set
  pub relative : self_relative s ≡ 1
  -- OffsetOwner, OffsetGroup: a SID by document 01's rule
  pub owner : Names sid.WellFormed s (owner_at s)
  pub group : Names sid.WellFormed s (group_at s)
  -- OffsetSacl, OffsetDacl: an ACL
  pub sacl : Names Acl s (sacl_at s)
  pub dacl : Names Acl s (dacl_at s)
