-- Document 01, "The GetKey decision", by the verdict on a security descriptor, and by the descriptor's bytes (document 02, No. 5).
use Rattle.std.specs.Prelude.{ℕ, ◌<◌, ◌^◌, Bool, true, false, cond, not, List, [], ◌∷◌, ltb, length, Result, Ok, Err, Option, Some, None}
use Rattle.std.specs.Option.{ForSome, is_none, unwrap_or}
use Rattle.rootid.specs.declared.RootId.{RootId}
use Rattle.refusal.specs.declared.Refusal.{Refusal}
use Rattle.refusal.specs.declared.Refusal.TheVariants.{VerdictNo, IndexOutOfRange, MixedIndices, LaterThanNow, RightsTooLow, TableLength, NoRootKey}
use Rattle.refusal.specs.Chain.{Check, ◌⇒◌, first_of, unless_refused}
use Rattle.refusal.specs.Number.{number_of}
use Rattle.gkid.specs.declared.FileTime.{FileTime}
use Rattle.gkid.specs.declared.Gkid.{Gkid}
use Rattle.gkid.specs.Identifier.{gkid, InGroup}
use Rattle.gkid.specs.Conversion.{gkid_at}
use Rattle.gkid.specs.Start.{start_time}
use Rattle.descriptor.specs.Checking.{is_sound}
use Rattle.keys.specs.declared.Form.{Form}
use Rattle.keys.specs.declared.Form.TheVariants as form
use Rattle.keys.specs.Forms.{seed_form}
use Rattle.getkey.specs.declared.Granted.{Granted}
use Rattle.getkey.specs.declared.Rights.{Rights}
use Rattle.getkey.specs.declared.Rights.TheVariants as rights
use Rattle.request.specs.declared.Request.{Request}
use Rattle.roottable.specs.declared.Wanted.{Wanted}
use Rattle.roottable.specs.declared.Wanted.TheVariants as wanted
use Rattle.request.specs.Indices.{out_of_range, mixed, later_than_now, names}
use Rattle.request.specs.Narrowed.{narrowed_of}
use Rattle.roottable.specs.Rows.{table_wrong}
use Rattle.roottable.specs.Selection.{chosen_row}

-- 18: rights are none, or public while an identifier is named
unfoldable pub rights_too_low : Rights → Bool → Bool
rights_too_low rights.None named = true
rights_too_low rights.Public named = named
rights_too_low rights.Seed named = false

-- 16, 14, 15, 17, 18, 20; 19 comes after them
unfoldable pub checks : Bool → Rights → Request → Gkid → ℕ → List Check
checks verdict rights q present len =
    (not verdict ⇒ VerdictNo)
    ∷ (out_of_range q ⇒ IndexOutOfRange)
    ∷ (mixed q ⇒ MixedIndices)
    ∷ (later_than_now q present ⇒ LaterThanNow)
    ∷ (rights_too_low rights (names q) ⇒ RightsTooLow)
    ∷ (table_wrong len ⇒ TableLength)
    ∷ []

-- root none and named: the named one; root given and L0 before now's L0: (L0, 31, 31); else now
unfoldable pub granted_at : Option Gkid → Option RootId → Gkid → Gkid
granted_at (Some i) None present = i
granted_at (Some i) (Some id) present = cond (ltb i.l0.0 present.l0.0) (gkid i.l0.0 31 31) present
granted_at None root present = present

-- public rights give PUBLIC, seed rights the seed form; no rights give no key
unfoldable pub form_for : Rights → Gkid → Form
form_for rights.None at = form.Keyless
form_for rights.Public at = form.Public
form_for rights.Seed at = seed_form at

-- given: that root; none and all -1: the highest use-start; none and named: in use at the start of the named one, which is granted
unfoldable pub wanted_of : Option RootId → Option Gkid → Wanted
wanted_of (Some id) asked = wanted.Root id
wanted_of None None = wanted.Newest
wanted_of None (Some i) = wanted.InUse (record { 0 = start_time i })

-- no such row: CREATE if none is given and all are -1, which suits every row, so that the table is empty; else 19
unfoldable pub without_row : Option RootId → Option Gkid → Gkid → Form → Result Granted Refusal
without_row None None at form = Ok (record { at = at; form = form; row = None })
without_row None (Some i) at form = Err NoRootKey
without_row (Some id) asked at form = Err NoRootKey

-- what comes of the search for a row; 20 as it stands
unfoldable pub with_row : Result (Option ℕ) Refusal → Option RootId → Option Gkid → Gkid → Form → Result Granted Refusal
with_row (Ok (Some k)) root asked at form = Ok (record { at = at; form = form; row = Some k })
with_row (Ok None) root asked at form = without_row root asked at form
with_row (Err r) root asked at form = Err r

-- what the indices ask for, if a row is found; 14 and 15 as they stand
unfoldable pub granting : Rights → Option RootId → Result (Option Gkid) Refusal → Gkid → List ℕ → Result Granted Refusal
granting rights root (Err r) present table = Err r
granting rights root (Ok asked) present table =
    with_row (chosen_row (wanted_of root asked) table) root asked (granted_at asked root present) (form_for rights (granted_at asked root present))

unfoldable pub decision_by_verdict : Bool → Rights → Request → FileTime → List ℕ → Result Granted Refusal
decision_by_verdict verdict rights q clock table =
    unless_refused Err (first_of (checks verdict rights q (gkid_at clock) (length table))) (granting rights q.root (narrowed_of q) (gkid_at clock) table)

-- the descriptor's bytes in place of the verdict: it is yes where they are sound
unfoldable pub decision : List ℕ → Rights → Request → FileTime → List ℕ → Result Granted Refusal
decision descriptor rights q clock table = decision_by_verdict (is_sound descriptor) rights q clock table

-- the start of what is named, as 64 bits hold it
abbrev pub Starts : Option Gkid → Type 0
Starts named = ForSome named (λ i. InGroup i × (start_time i < 2 ^ 64))

-- document 01's number and values: 0 and the identifier, the form, the row, and whether a root key is created; or the refusal's
-- number and zeros
unfoldable pub answer_number : Result Granted Refusal → ℕ
answer_number (Ok granted) = 0
answer_number (Err r) = number_of r

unfoldable pub answer_at : Result Granted Refusal → Gkid
answer_at (Ok granted) = granted.at
answer_at (Err r) = gkid 0 0 0

unfoldable pub answer_form : Result Granted Refusal → Form
answer_form (Ok granted) = granted.form
answer_form (Err r) = form.Keyless

unfoldable pub answer_row : Result Granted Refusal → ℕ
answer_row (Ok granted) = unwrap_or granted.row 0
answer_row (Err r) = 0

unfoldable pub answer_creates : Result Granted Refusal → Bool
answer_creates (Ok granted) = is_none granted.row
answer_creates (Err r) = false
