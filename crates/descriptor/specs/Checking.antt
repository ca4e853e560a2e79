-- Document 02, No. 5: whether bytes are a sound self-relative descriptor, or which part fails first. Each item is judged where it stands,
-- at the start of the bytes from its offset on: no offset is added to another, and what lies behind the end is no item.
use Rattle.std.specs.Prelude.{ℕ, zero, suc, Bool, true, cond, not, ◌&&◌, ◌||◌, List, leb, eqb, length, take, drop, Result, Ok, Err}
use Rattle.sid.specs.Rule.{starts_sid}
use Rattle.descriptor.specs.declared.Part.{Part}
use Rattle.descriptor.specs.declared.Part.TheVariants.{Head, Owner, Group, Sacl, Dacl}
use Rattle.descriptor.specs.Layout.{revision, owner_at, group_at, sacl_at, dacl_at, self_relative, told_size, entry_count}

-- an item that tells its own size, which is at least that of its head, and lies inside
unfoldable pub starts_sized : ℕ → List ℕ → Bool
starts_sized least t = leb least (told_size t) && leb (told_size t) (length t)

-- n entries end to end from the first byte on, each with a head of 4 bytes; bytes may be left
unfoldable pub entries_fit : ℕ → List ℕ → Bool
entries_fit zero t = true
entries_fit (suc n) t = starts_sized 4 t && entries_fit n (drop (told_size t) t)

-- an ACL: a head of 8 bytes, then as many entries as it counts, all inside its own size
unfoldable pub starts_acl : List ℕ → Bool
starts_acl t = starts_sized 8 t && entries_fit (entry_count t) (drop 8 (take (told_size t) t))

-- an offset: 0, or at least 20 with its item inside the descriptor
unfoldable pub names : (List ℕ → Bool) → List ℕ → ℕ → Bool
names starts s at = eqb at 0 || leb 20 at && starts (drop at s)

-- at most 65,535 bytes, a head of 20, revision 1, control bit 0x8000
unfoldable pub head_sound : List ℕ → Bool
head_sound s = leb (length s) 65535 && (leb 20 (length s) && (eqb (revision s) 1 && eqb (self_relative s) 1))

-- head, owner, group, SACL, DACL: the first that fails, or sound
unfoldable pub finding_of : List ℕ → Result (Unit {0}) Part
finding_of s =
    cond (not (head_sound s)) (Err Head)
    (cond (not (names starts_sid s (owner_at s))) (Err Owner)
    (cond (not (names starts_sid s (group_at s))) (Err Group)
    (cond (not (names starts_acl s (sacl_at s))) (Err Sacl)
    (cond (not (names starts_acl s (dacl_at s))) (Err Dacl)
    (Ok tt)))))

-- its number: 0 for sound, else the part's
unfoldable pub finding_number : Result (Unit {0}) Part → ℕ
finding_number (Ok tt) = 0
finding_number (Err Head) = 1
finding_number (Err Owner) = 2
finding_number (Err Group) = 3
finding_number (Err Sacl) = 4
finding_number (Err Dacl) = 5

unfoldable pub is_sound : List ℕ → Bool
is_sound s = eqb (finding_number (finding_of s)) 0
