-- Demand 3, waiting loses nothing: its words over the decision and the reach of a form, and the whole of it as one statement.
use Rattle.std.specs.Prelude.{ℕ, ◌+◌, ◌*◌, ◌≤◌, Bool, true, false, not, ◌&&◌, List, ◌≡◌, Result}
use Rattle.refusal.specs.declared.Refusal.{Refusal}
use Rattle.getkey.specs.declared.Granted.{Granted}
use Rattle.gkid.specs.declared.FileTime.{FileTime}
use Rattle.gkid.specs.declared.Gkid.{Gkid}
use Rattle.gkid.specs.Identifier.{later}
use Rattle.reach.specs.Reached.{of_group}
use Rattle.reach.specs.Reaches.{form_reach, reach_number, reach_total, reached_in}
use Rattle.request.specs.declared.Request.{Request}
use Rattle.request.specs.Indices.{names, named_of}
use Rattle.getkey.specs.declared.Rights.{Rights}
use Rattle.getkey.specs.declared.Rights.TheVariants.{None, Public, Seed}
use Rattle.getkey.specs.Deciding.{decision, decision_by_verdict, answer_number, answer_at, answer_form, answer_row, answer_creates}

-- none, public, seed
unfoldable pub height : Rights → ℕ
height None = 0
height Public = 1
height Seed = 2

-- rights no lower than the first
abbrev pub NoLower : Rights → Rights → Type 0
NoLower first second = height first ≤ height second

-- one asking: the clock and the rights, which alone may differ
pub record Asking : Type 0 where
  pub clock : FileTime
  pub rights : Rights

-- accepted is number 0, CREATE included
abbrev pub Accepted : Result Granted Refusal → Type 0
Accepted answer = answer_number answer ≡ 0

-- so is the second, with the same root row or the same CREATE, and an identifier not earlier
pub record NoWorse (first second : Result Granted Refusal) : Type 0 where
  pub accepted : Accepted second
  pub row : answer_row second ≡ answer_row first
  pub create : answer_creates second ≡ answer_creates first
  pub not_earlier : later (answer_at first) (answer_at second) ≡ false

-- the granted form's reach is asked at the granted identifier; an identifier is reached if it is of the granted one's L0 group and the
-- map's bit in row L1 at index L2 is set
unfoldable pub reached_by : Result Granted Refusal → Gkid → Bool
reached_by answer i = reached_in (answer_at answer) (form_reach (answer_form answer) (answer_at answer)) i

-- the granted one is of the named one's L0 group; the form's reach is not refused, and is exactly the identifiers of that L0 group up to
-- the granted one, total 32·L1 + L2 + 1; so the named one is reached
pub record ReachesUpTo (named : Gkid) (answer : Result Granted Refusal) : Type 0 where
  pub group : (answer_at answer).l0.0 ≡ named.l0.0
  pub accepted : reach_number (form_reach (answer_form answer) (answer_at answer)) ≡ 0
  pub reached : (i : Gkid) → reached_by answer i ≡ of_group named i && not (later i (answer_at answer))
  pub total : reach_total (form_reach (answer_form answer) (answer_at answer)) ≡ 32 * (answer_at answer).l1.0 + (answer_at answer).l2.0 + 1
  pub itself : reached_by answer named ≡ true

-- the answers to one request, with one descriptor, or one verdict, and one root table
abbrev pub by_descriptor : List ℕ → Request → List ℕ → Asking → Result Granted Refusal
by_descriptor descriptor q table a = decision descriptor a.rights q a.clock table

abbrev pub by_verdict : Bool → Request → List ℕ → Asking → Result Granted Refusal
by_verdict verdict q table a = decision_by_verdict verdict a.rights q a.clock table

-- "Waiting loses nothing. The same request, table and verdict asked again with the clock equal or later and the rights equal or higher
-- (none, public, seed): [No. 5: one descriptor for one verdict]
pub record LosesNothing (q : Request) (answer_to : Asking → Result Granted Refusal) (first second : Asking) : Type 0 where
  -- if the first is accepted, so is the second, with the same root row or the same CREATE, and an identifier not earlier.
  pub again : Accepted (answer_to first) → NoWorse (answer_to first) (answer_to second)
  -- Whenever a request that names an identifier is accepted, the granted form reaches exactly the identifiers of that L0 group up to the
  -- granted one, total 32·L1 + L2 + 1; so the named one is reached,
  pub whenever : (a : Asking) → names q ≡ true → Accepted (answer_to a) → ReachesUpTo (named_of q) (answer_to a)
  -- and what the first form reaches, the second reaches too."
  pub still : names q ≡ true → Accepted (answer_to first) → (i : Gkid) → reached_by (answer_to first) i ≡ true → reached_by (answer_to second) i ≡ true
