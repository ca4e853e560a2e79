-- The root row of the decision, once every check but 19 is passed: the row granted is the one that the rule names, CREATE is answered exactly
-- for an empty table, no root and all -1, and 19 exactly if there is no such row.
use Rattle.lemmas.proofs.Basics.{ℕ, ◌%◌, arith, Bool, false, not, true≢false, List, [], ◌∷◌, ◌≡◌, refl, eqb, length, eqb-true}
use Rattle.std.specs.Prelude.{Result, Ok, Err, Option, Some, None, MatchOption}
use Rattle.rootid.specs.declared.RootId.{RootId}
use Rattle.refusal.specs.declared.Refusal.{Refusal}
use borrow.Author.Tests.{not-false}
use Rattle.refusal.specs.declared.Refusal.TheVariants.{NoRootKey}
use Rattle.lemmas.proofs.Cases.{or-false}
use Rattle.gkid.specs.declared.FileTime.{FileTime}
use Rattle.gkid.specs.declared.Gkid.{Gkid}
use Rattle.gkid.specs.Conversion.{gkid_at}
use Rattle.keys.specs.declared.Form.{Form}
use Rattle.getkey.specs.declared.Granted.{Granted}
use Rattle.getkey.specs.declared.Rights.{Rights}
use Rattle.request.specs.declared.Request.{Request}
use Rattle.request.proofs.Requests.{asked_of}
use Rattle.roottable.specs.Rows.{row_size, row_count, suitable, table_wrong}
use Rattle.roottable.specs.Selection.{chosen_row}
use Rattle.getkey.specs.Deciding.{wanted_of, without_row, with_row, granting, decision_by_verdict}
use Rattle.roottable.proofs.Choice.{Chosen, NoneSuits, SaysRow, suits, ranks, chosen_row_lem}
use Rattle.getkey.proofs.Decisions.{Passed, passed_decided}

-- what an answer says of the table
abbrev pub RowSays : Option RootId → Option Gkid → List ℕ → Result Granted Refusal → Type 0
RowSays root asked table (Ok granted) =
    MatchOption granted.row ((root ≡ None) × ((asked ≡ None) × (table ≡ []))) (Chosen (row_count table) (suits (wanted_of root asked) table) (ranks (wanted_of root asked) table))
RowSays root asked table (Err r) = (r ≡ NoRootKey) × NoneSuits (row_count table) (suits (wanted_of root asked) table)

no_row : (table : List ℕ) → table_wrong (length table) ≡ false → NoneSuits (row_count table) (suits (wanted_of None None) table) → table ≡ []
unfolding table_wrong wanted_of suitable
no_row [] e none = refl
no_row (b ∷ bs) e none =
    let whole = eqb-true (length (b ∷ bs) % row_size) 0 (not-false _ (or-false (not (eqb (length (b ∷ bs) % row_size) 0)) _ e).0) in
    absurd (true≢false (none 0 (omega arith)))

with_row_lem : (f : Result (Option ℕ) Refusal) (root : Option RootId) (asked : Option Gkid) (table : List ℕ) (at : Gkid) (form : Form) → table_wrong (length table) ≡ false
    → SaysRow (row_count table) (suits (wanted_of root asked) table) (ranks (wanted_of root asked) table) f → RowSays root asked table (with_row f root asked at form)
unfolding with_row without_row
with_row_lem (Ok (Some k)) root asked table at form e s = s
with_row_lem (Err r) root asked table at form e s = absurd s
with_row_lem (Ok None) None None table at form e s = (refl, (refl, no_row table e s))
with_row_lem (Ok None) None (Some i) table at form e s = (refl, s)
with_row_lem (Ok None) (Some id) asked table at form e s = (refl, s)

-- Granted: the row is suitable, no suitable one is higher, none before it as high. Refused: none is suitable.
pub row_says : (verdict : Bool) (rights : Rights) (q : Request) (t : FileTime) (table : List ℕ) → Passed verdict rights q (gkid_at t) → table_wrong (length table) ≡ false
    → RowSays q.root (asked_of q) table (decision_by_verdict verdict rights q t table)
unfolding granting
row_says verdict rights q t table p whole =
    rw (passed_decided verdict rights q t table p).is
    (with_row_lem (chosen_row (wanted_of q.root (asked_of q)) table) q.root (asked_of q) table _ _ whole (chosen_row_lem (wanted_of q.root (asked_of q)) table whole))
