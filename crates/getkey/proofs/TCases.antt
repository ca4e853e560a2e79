-- Document 01, "Bench cases": the T cases on times, start times and the decision, in one table, with the least sound descriptor and by verdict; an
-- accepted answer of each kind of request; and demand 3 on one of them.
use Rattle.lemmas.proofs.Basics.{ℕ, ◌+◌, arith, Bool, true, false, List, [], ◌∷◌, ◌++◌, map, ◌≡◌, refl, ap, replicate}
use Rattle.std.specs.Prelude.{Result, Option, Some, None}
use Rattle.refusal.specs.declared.Refusal.{Refusal}
use Rattle.getkey.specs.declared.Granted.{Granted}
use lib.IntN.{ℤ, pos, negsuc}
use Rattle.refusal.specs.Number.{number_of}
use Rattle.refusal.specs.Chain.{first_of, unless_refused}
use Rattle.wire.specs.Numbers.{le_of, le_bytes, be_of, be_bytes}
use Rattle.wire.specs.Parts.{part_of, le_at, be_at}
use Rattle.gkid.specs.declared.FileTime.{FileTime}
use Rattle.gkid.specs.declared.Gkid.{Gkid}
use Rattle.gkid.specs.Identifier.{gkid, index_above_31}
use Rattle.gkid.specs.Conversion.{l0_step, gkid_at}
use Rattle.gkid.specs.Start.{start_of, start_number, start_shown}
use Rattle.rootid.specs.declared.RootId.{RootId}
use Rattle.rootid.specs.Root.{root_at, root_bytes, same_root}
use Rattle.descriptor.specs.Checking as descriptor
use Rattle.descriptor.specs.Checking.{finding_number, finding_of, head_sound, is_sound}
use Rattle.keys.specs.declared.Form.{Form}
use Rattle.keys.specs.declared.Form.TheVariants as form
use Rattle.keys.specs.KeyRule.{keys_allowed, l1_key_allowed, l2_key_allowed, key_checks}
use Rattle.keys.specs.Forms.{keys_of, seed_form, seed_checks}
use Rattle.reach.specs.Reached.{of_group, l1_reaches, l2_reaches, reaches}
use Rattle.lemmas.specs.Counting.{bit, count, every}
use Rattle.reach.specs.Bits.{bit_at, row_where, table}
use Rattle.reach.specs.Maps.{row_of, map_of, empty_map, total_of}
use Rattle.reach.specs.Reaches.{keys_reach, form_reach, reach_rows, reach_total}
use Rattle.getkey.specs.declared.Rights.{Rights}
use Rattle.getkey.specs.declared.Rights.TheVariants.{Public, Seed}
use Rattle.request.specs.declared.Request.{Request}
use Rattle.request.specs.Indices.{below, outside, out_of_range, unset, mixed, later_then_z, later_than_now, names, index_checks, natural, named_of}
use Rattle.request.specs.Narrowed.{narrowed_of}
use Rattle.roottable.specs.Rows.{table_wrong, row_at, suitable, rank}
use Rattle.roottable.specs.Selection.{first_where, first_highest, chosen_row}
use Rattle.getkey.specs.Deciding.{rights_too_low, checks, granted_at, form_for, wanted_of, without_row, with_row, granting, decision, decision_by_verdict, answer_number, answer_at, answer_form, answer_creates}
use Rattle.getkey.specs.Waiting.{height, NoWorse}
use Rattle.getkey.proofs.DemandThree.{waiting_loses_nothing}

-- now, (5, 3, 7); a root; a table of one row, in use since 3, made at 4
unfoldable pub clock : FileTime
clock = record { 0 = 1880280000000000 }

unfoldable pub id : RootId
id = record { high = 1; low = 2 }

unfoldable pub rows : List ℕ
rows = root_bytes id ++ (be_bytes 8 3 ++ be_bytes 8 4)

-- document 02, No. 5: revision 1, the control bit 0x8000, and no item
unfoldable pub least : List ℕ
least = 1 ∷ 0 ∷ 0 ∷ 128 ∷ replicate 16 0

unfoldable pub asking : Option RootId → ℤ → ℤ → ℤ → Request
asking root l0 l1 l2 = record { root = root; l0 = l0; l1 = l1; l2 = l2 }

-- a reading's identifier; a start time's number, 0 where accepted, with the time; a decision's number, identifier and form, with how many
-- the form reaches there
pub data Shown : Type 0 where
  identifier : Gkid → Shown
  began : ℕ → ℕ → Shown
  decided : ℕ → Gkid → Form → ℕ → Shown

pub data Question : Type 0 where
  time : ℕ → Question
  start : Gkid → Question
  ask : Request → Question

unfoldable pub shown_of : Result Granted Refusal → Shown
shown_of a = decided (answer_number a) (answer_at a) (answer_form a) (reach_total (form_reach (answer_form a) (answer_at a)))

unfoldable pub reply : (Request → Result Granted Refusal) → Question → Shown
reply by (time t) = identifier (gkid_at (record { 0 = t }))
reply by (start i) = began (start_number (start_of i)) (start_shown (start_of i))
reply by (ask q) = shown_of (by q)

abbrev pub refused : ℕ → Shown
refused number = decided number (gkid 0 0 0) form.Keyless 0

unfoldable pub cases : List (Question × Shown)
cases =
    (time 0, identifier (gkid 0 0 0))
    ∷ (time 359999999999, identifier (gkid 0 0 0))
    ∷ (time 360000000000, identifier (gkid 0 0 1))
    ∷ (time 11519999999999, identifier (gkid 0 0 31))
    ∷ (time 368640000000000, identifier (gkid 1 0 0))
    ∷ (time 18446744073709551615, identifier (gkid 50039 31 27))
    ∷ (start (gkid 50039 31 27), began 0 18446743800000000000)
    ∷ (start (gkid 50039 31 28), began 21 0)
    ∷ (time 1880280000000000, identifier (gkid 5 3 7))
    ∷ (ask (asking (Some id) (pos 5) (pos 0) (pos 0)), decided 0 (gkid 5 3 7) form.Both 104)
    ∷ (ask (asking (Some id) (pos 4) (pos 2) (pos 2)), decided 0 (gkid 4 31 31) form.L1Only 1024)
    ∷ (ask (asking None (pos 4) (pos 0) (pos 2)), decided 0 (gkid 4 0 2) form.L2Only 3)
    ∷ (ask (asking None (pos 5) (pos 3) (pos 8)), refused 17)
    ∷ (ask (asking None (pos 0) (negsuc 0) (pos 0)), refused 15)
    ∷ []

-- seed rights and a suitable root
unfoldable pub answered_by : (Rights → Request → FileTime → List ℕ → Result Granted Refusal) → List Shown
answered_by by = map (λ c. reply (λ q. by Seed q clock rows) c.0) cases

-- Each is answered as the table says.
pub t_cases : (answered_by (decision least) ≡ map (λ c. c.1) cases) × (answered_by (decision_by_verdict true) ≡ map (λ c. c.1) cases)
unfolding clock id rows least asking reply shown_of cases answered_by start_of start_number start_shown number_of first_of le_of le_bytes be_of be_bytes part_of le_at be_at index_above_31 gkid_at root_at root_bytes same_root keys_allowed l1_key_allowed l2_key_allowed keys_of seed_form of_group l1_reaches l2_reaches reaches bit_at bit row_where count table row_of map_of empty_map total_of seed_checks key_checks keys_reach form_reach reach_rows reach_total below outside out_of_range unset mixed later_then_z later_than_now names natural named_of index_checks narrowed_of table_wrong row_at suitable rank every first_where first_highest chosen_row rights_too_low checks granted_at form_for wanted_of without_row with_row granting unless_refused is_sound finding_number finding_of head_sound descriptor.names decision decision_by_verdict answer_number answer_at answer_form
t_cases = (refl, refl)

-- An accepted answer of each kind of request: root given or not, and all -1 or named, which takes seed rights; and CREATE. So nothing that
-- is shown of accepted answers is empty.
pub record Kind : Type 0 where
  pub given : Bool
  pub naming : Bool
  pub number : ℕ
  pub create : Bool

unfoldable pub given : Option RootId → Bool
given None = false
given (Some _) = true

unfoldable pub kind_of : Rights → Request → List ℕ → Kind
kind_of rights q t =
    record { given = given q.root; naming = names q; number = answer_number (decision least rights q clock t); create = answer_creates (decision least rights q clock t) }

abbrev pub accepted : Bool → Bool → Bool → Kind
accepted given naming create = record { given = given; naming = naming; number = 0; create = create }

unfoldable pub latest : Option RootId → Request
latest root = asking root (negsuc 0) (negsuc 0) (negsuc 0)

unfoldable pub kinds : List ((Rights × (Request × List ℕ)) × Kind)
kinds =
    ((Public, (latest None, rows)), accepted false false false)
    ∷ ((Public, (latest (Some id), rows)), accepted true false false)
    ∷ ((Public, (latest None, [])), accepted false false true)
    ∷ ((Seed, (latest None, rows)), accepted false false false)
    ∷ ((Seed, (latest (Some id), rows)), accepted true false false)
    ∷ ((Seed, (latest None, [])), accepted false false true)
    ∷ ((Seed, (asking None (pos 4) (pos 0) (pos 2), rows)), accepted false true false)
    ∷ ((Seed, (asking (Some id) (pos 5) (pos 0) (pos 0), rows)), accepted true true false)
    ∷ []

pub each_kind_accepted : map (λ k. kind_of k.0.0 k.0.1.0 k.0.1.1) kinds ≡ map (λ k. k.1) kinds
unfolding clock id rows least asking latest kinds kind_of given number_of first_of le_of le_bytes be_of be_bytes part_of le_at be_at gkid_at root_at root_bytes same_root below outside out_of_range unset mixed later_then_z later_than_now names natural named_of index_checks narrowed_of table_wrong row_at suitable rank every first_where first_highest chosen_row rights_too_low checks granted_at wanted_of without_row with_row granting unless_refused is_sound finding_number finding_of head_sound descriptor.names decision decision_by_verdict answer_number answer_creates
each_kind_accepted = refl

number_first : List Kind → ℕ
number_first [] = 1
number_first (k ∷ ks) = k.number

-- Demand 3 on the first of them, asked again an L0 step later with seed rights.
pub public_then_seed : NoWorse (decision least Public (latest None) clock rows) (decision least Seed (latest None) (record { 0 = clock.0 + l0_step }) rows)
unfolding height kinds kind_of number_first
public_then_seed =
    (waiting_loses_nothing least (latest None) rows (record { clock = clock; rights = Public }) (record { clock = record { 0 = clock.0 + l0_step }; rights = Seed }) (omega arith) (omega arith)).again
    (ap number_first each_kind_accepted)
