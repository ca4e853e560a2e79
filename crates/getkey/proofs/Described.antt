-- The decision by descriptor, document 02, No. 5: it is the one by verdict where the verdict is the checker's, and it answers 16 exactly where
-- the descriptor is not sound.
use Rattle.lemmas.proofs.Basics.{ℕ, arith, Bool, true, false, not, List, ◌≡◌, refl, sym, ◌∙◌, eqb, length, drop, ne_eqb}
use Rattle.std.specs.Prelude.{Result, Ok, Err, Option, Some, None}
use Rattle.rootid.specs.declared.RootId.{RootId}
use Rattle.refusal.specs.declared.Refusal.{Refusal}
use Rattle.getkey.specs.declared.Granted.{Granted}
use Rattle.lemmas.proofs.Cases.{cond_cases}
use Rattle.refusal.specs.Chain.{first_of, unless_refused}
use Rattle.refusal.specs.Number.{number_of}
use Rattle.refusal.proofs.Chains.{unless_each}
use Rattle.gkid.specs.declared.FileTime.{FileTime}
use Rattle.gkid.specs.declared.Gkid.{Gkid}
use Rattle.gkid.specs.Conversion.{gkid_at}
use Rattle.keys.specs.declared.Form.{Form}
use Rattle.descriptor.specs.Checking.{is_sound}
use Rattle.request.specs.declared.Request.{Request}
use Rattle.request.specs.Indices.{index_checks}
use Rattle.request.specs.Narrowed.{narrowed_of}
use Rattle.request.proofs.Requests.{asked_of}
use Rattle.roottable.specs.Rows.{table_wrong}
use Rattle.roottable.specs.Selection.{chosen_row, found_number, table_number}
use Rattle.roottable.proofs.Choice.{row_shows}
use Rattle.getkey.specs.declared.Rights.{Rights}
use Rattle.getkey.specs.Deciding.{checks, wanted_of, without_row, with_row, granting, decision, decision_by_verdict, answer_number}

-- Where the verdict is the checker's, the two agree.
pub described : (descriptor : List ℕ) {verdict : Bool} → verdict ≡ is_sound descriptor → (rights : Rights) (q : Request) (t : FileTime) (table : List ℕ)
    → decision descriptor rights q t table ≡ decision_by_verdict verdict rights q t table
unfolding decision
described descriptor is rights q t table = rw is

is16 : Result Granted Refusal → Bool
is16 a = eqb (answer_number a) 16

-- no row, or a refused table: never 16
with_row_lem : (f : Result (Option ℕ) Refusal) (root : Option RootId) (asked : Option Gkid) (at : Gkid) (form : Form) → (found_number f ≡ 16 → ⊥) → is16 (with_row f root asked at form) ≡ false
unfolding is16 with_row without_row answer_number found_number number_of
with_row_lem (Ok (Some k)) root asked at form h = refl
with_row_lem (Err r) root asked at form h = ne_eqb _ 16 h
with_row_lem (Ok None) None None at form h = refl
with_row_lem (Ok None) None (Some i) at form h = refl
with_row_lem (Ok None) (Some id) asked at form h = refl

table_told : (table : List ℕ) → table_number table ≡ 16 → ⊥
unfolding table_number number_of
table_told table = cond_cases (λ n. n ≡ 16 → ⊥) (table_wrong (length table)) (λ _ e. omega arith) (λ _ e. omega arith)

-- nor is it 16 that comes of the indices
grants : (rights : Rights) (q : Request) (present : Gkid) (table : List ℕ) → is16 (granting rights q.root (narrowed_of q) present table) ≡ false
unfolding is16 answer_number number_of narrowed_of index_checks granting
grants rights q present table =
    unless_each (λ n. is16 (granting rights q.root n present table) ≡ false) Err (index_checks q) (Ok (asked_of q)) (refl, (refl, tt))
    (with_row_lem (chosen_row (wanted_of q.root (asked_of q)) table) q.root (asked_of q) _ _
    (λ e. table_told table (sym (row_shows (wanted_of q.root (asked_of q)) table refl).number ∙ e)))

-- 16 exactly where the verdict is no,
pub verdict_16 : (verdict : Bool) (rights : Rights) (q : Request) (t : FileTime) (table : List ℕ) → eqb (answer_number (decision_by_verdict verdict rights q t table)) 16 ≡ not verdict
unfolding decision_by_verdict checks first_of unless_refused answer_number number_of is16
verdict_16 false rights q t table = refl
verdict_16 true rights q t table =
    unless_each (λ a. is16 a ≡ false) Err (drop 1 (checks true rights q (gkid_at t) (length table))) _ (refl, (refl, (refl, (refl, (refl, tt))))) (grants rights q (gkid_at t) table)

-- and so where the descriptor is not sound.
pub unsound_16 : (descriptor : List ℕ) (rights : Rights) (q : Request) (t : FileTime) (table : List ℕ) → eqb (answer_number (decision descriptor rights q t table)) 16 ≡ not (is_sound descriptor)
unfolding decision
unsound_16 descriptor = verdict_16 (is_sound descriptor)
