-- Laws of the decision: what an accepted answer shows, and what its request asks for.
use Rattle.lemmas.proofs.Basics.{arith, ℕ, ◌^◌, ◌<◌, Bool, true, false, cond, not, true≢false, List, [], ◌∷◌, ◌≡◌, refl, sym, ◌∙◌, length, take}
use Rattle.std.specs.Prelude.{Result, Ok, Err, Option}
use Rattle.std.proofs.lemmas.Option.{cond_some}
use Rattle.rootid.specs.declared.RootId.{RootId}
use Rattle.refusal.specs.declared.Refusal.{Refusal}
use Rattle.refusal.specs.declared.Refusal.TheVariants.{TableLength}
use Rattle.refusal.specs.Chain.{◌⇒◌, first_of, unless_refused}
use Rattle.refusal.proofs.Chains.{accepted_pass, first_append, append-accepted, unless_zero}
use Rattle.gkid.specs.declared.FileTime.{FileTime}
use Rattle.gkid.specs.declared.Gkid.{Gkid}
use Rattle.gkid.specs.Identifier.{InGroup}
use Rattle.gkid.specs.Start.{start_time}
use Rattle.gkid.specs.Conversion.{gkid_at}
use Rattle.gkid.proofs.Times.{up_to_now}
use Rattle.keys.specs.declared.Form.{Form}
use Rattle.getkey.specs.declared.Rights.{Rights}
use Rattle.request.specs.declared.Request.{Request}
use Rattle.request.specs.Indices.{out_of_range, mixed, later_than_now, names, named_of}
use Rattle.request.specs.Narrowed.{narrowed_of}
use Rattle.roottable.specs.Rows.{table_wrong}
use Rattle.roottable.specs.Selection.{chosen_row}
use Rattle.getkey.specs.Deciding.{rights_too_low, checks, with_row, granting, decision_by_verdict, Starts, answer_number}
use Rattle.getkey.specs.Waiting.{Accepted}
use Rattle.request.proofs.Requests.{asked_of, narrowed_asks, Asks, latest, named, asks}

-- what the checks before 20 say of a request, once passed
pub record Passed (verdict : Bool) (rights : Rights) (q : Request) (present : Gkid) : Type 0 where
  pub verdict_yes : not verdict ≡ false
  pub ranged : out_of_range q ≡ false
  pub unmixed : mixed q ≡ false
  pub not-later : later_than_now q present ≡ false
  pub allowed : rights_too_low rights (names q) ≡ false

pub passed : (verdict : Bool) (rights : Rights) (q : Request) (present : Gkid) (len : ℕ) → first_of (take 5 (checks verdict rights q present len)) ≡ Ok tt
    → Passed verdict rights q present
unfolding checks
passed verdict rights q present len e = let p = accepted_pass _ e in search p

-- 64 bits hold the start of what is named.
pub begins : {verdict : Bool} {rights : Rights} (q : Request) (t : FileTime) {asked : Option Gkid} → t.0 < 2 ^ 64 → Passed verdict rights q (gkid_at t)
    → narrowed_of q ≡ Ok asked → Starts asked
begins q t {asked} h p e i some =
    let same : asked_of q ≡ asked = grind (arith, e, narrowed_asks q p.ranged p.unmixed) in
    let told = cond_some _ _ _ (same ∙ some) in
    rw (← told.1) (of told.0 (asks q p.ranged p.unmixed))
  where
    of : names q ≡ true → Asks q → InGroup (named_of q) × (start_time (named_of q) < 2 ^ 64)
    of n (latest e l) = absurd (true≢false (sym n ∙ e))
    of n (named e g l) = (g, up_to_now (named_of q) t h g (sym (l (gkid_at t)) ∙ p.not-later))

-- A refusal of the checks before 20 is the decision's.
pub refused_decided : (verdict : Bool) (rights : Rights) (q : Request) (t : FileTime) (table : List ℕ) {r : Refusal}
    → first_of (take 5 (checks verdict rights q (gkid_at t) (length table))) ≡ Err r → decision_by_verdict verdict rights q t table ≡ Err r
unfolding decision_by_verdict checks unless_refused
refused_decided verdict rights q t table e = rw (first_append (take 5 (checks verdict rights q (gkid_at t) (length table))) ((table_wrong (length table) ⇒ TableLength) ∷ []), e)

-- of a wrong table the search for a row answers 20, as the last check does
table_told : (wrong : Bool) (f : Result (Option ℕ) Refusal) (root : Option RootId) (asked : Option Gkid) (at : Gkid) (form : Form) → let found = with_row (cond wrong (Err TableLength) f) root asked at form in
    unless_refused Err (cond wrong (Err TableLength) (Ok tt)) found ≡ found
unfolding with_row unless_refused
table_told true f root asked at form = refl
table_told false f root asked at form = refl

-- A request that passed is granted what it asks for, if a row is found.
pub passed_granting : (verdict : Bool) (rights : Rights) (q : Request) (t : FileTime) (table : List ℕ) → Passed verdict rights q (gkid_at t)
    → decision_by_verdict verdict rights q t table ≡ granting rights q.root (narrowed_of q) (gkid_at t) table
unfolding decision_by_verdict checks first_of granting chosen_row
passed_granting verdict rights q t table p =
    rw (p.verdict_yes, p.ranged, p.unmixed, p.not-later, p.allowed, narrowed_asks q p.ranged p.unmixed) (table_told (table_wrong (length table)) _ q.root (asked_of q) _ _)

pub record Decided (verdict : Bool) (rights : Rights) (q : Request) (t : FileTime) (table : List ℕ) : Type 0 where
  pub checked : Passed verdict rights q (gkid_at t)
  pub is : decision_by_verdict verdict rights q t table ≡ granting rights q.root (Ok (asked_of q)) (gkid_at t) table

pub passed_decided : (verdict : Bool) (rights : Rights) (q : Request) (t : FileTime) (table : List ℕ) → Passed verdict rights q (gkid_at t)
    → Decided verdict rights q t table
passed_decided verdict rights q t table p =
    record { checked = p; is = rw (passed_granting verdict rights q t table p, narrowed_asks q p.ranged p.unmixed) }

pub accepted_decided : (verdict : Bool) (rights : Rights) (q : Request) (t : FileTime) (table : List ℕ) → Accepted (decision_by_verdict verdict rights q t table)
    → Decided verdict rights q t table
unfolding decision_by_verdict checks answer_number
accepted_decided verdict rights q t table e =
    let all = (unless_zero answer_number Err (λ r. refl) _ _ e).0 in
    passed_decided verdict rights q t table (passed verdict rights q (gkid_at t) (length table) (append-accepted (take 5 (checks verdict rights q (gkid_at t) (length table))) _ all).0)
