-- Document 02, No. 7: a recorded request, or 26.
use Rattle.std.specs.Prelude.{ℕ, cond, not, ◌&&◌, List, [], ◌∷◌, ltb, eqb, length, Result, Ok, Err, Option, Some, None}
use Rattle.rootid.specs.declared.RootId.{RootId}
use Rattle.refusal.specs.declared.Refusal.{Refusal}
use Rattle.refusal.specs.declared.Refusal.TheVariants.{MalformedRecord}
use Rattle.refusal.specs.Chain.{Check, ◌⇒◌, first_of, unless_refused}
use Rattle.refusal.specs.Number.{number_of}
use Rattle.wire.specs.Numbers.{be_bytes}
use Rattle.rootid.specs.Root.{root_at}
use Rattle.getkey.specs.declared.Rights.{Rights}
use Rattle.getkey.specs.declared.Rights.TheVariants as rights
use Rattle.trace.specs.declared.Recorded.{Recorded}
use Rattle.trace.specs.Layout.{clock_field, given_field, rights_field, verdict_field, spare_field, l0_field, l1_field, l2_field, root_field, twos_complement}

-- "We record requests as 37-byte records"
abbrev pub record_length : ℕ
record_length = 37

-- "a part of a record .. is 26 as well"; "A spare bit set, rights 3, or identifier bits set while no root is given"
unfoldable pub record_checks : List ℕ → List Check
record_checks s =
    (ltb (length s) record_length ⇒ MalformedRecord)
    ∷ (not (eqb (spare_field s) 0) ⇒ MalformedRecord)
    ∷ (eqb (rights_field s) 3 ⇒ MalformedRecord)
    ∷ (eqb (given_field s) 0 && not (eqb (root_field s) 0) ⇒ MalformedRecord)
    ∷ []

-- "0 none, 1 public, 2 seed"; 3 is refused
abbrev pub rights_of : ℕ → Rights
rights_of n = cond (eqb n 1) rights.Public (cond (eqb n 2) rights.Seed rights.None)

-- the root identifier's bits as its 16 bytes, where a root is given
abbrev pub root_of : ℕ → ℕ → Option RootId
root_of given id = cond (eqb given 0) None (Some (root_at (be_bytes 16 id) 0))

unfoldable pub shown : List ℕ → Recorded
shown s =
    record {
      clock = record { 0 = clock_field s };
      rights = rights_of (rights_field s);
      verdict = eqb (verdict_field s) 1;
      request =
          record {
            root = root_of (given_field s) (root_field s);
            l0 = twos_complement 32 (l0_field s);
            l1 = twos_complement 32 (l1_field s);
            l2 = twos_complement 32 (l2_field s);
          };
    }

-- the record at the start of bytes: what stands behind its 37 bytes is not looked at
unfoldable pub record_of : List ℕ → Result Recorded Refusal
record_of s = unless_refused Err (first_of (record_checks s)) (Ok (shown s))

-- document 01's number: 0, or the refusal's
unfoldable pub record_number : Result Recorded Refusal → ℕ
record_number (Ok r) = 0
record_number (Err r) = number_of r
