-- Laws of the choice of a row: the chosen row is suitable, no suitable row is higher, none before it as high; none is chosen exactly
-- where none is suitable; and one pass over the rows finds it.
use Rattle.lemmas.proofs.Basics.{ℕ, zero, suc, ◌≤◌, ◌<◌, arith, Bool, true, false, cond, not, ◌&&◌, ◌||◌, true≢false, false≢true, List, ◌≡◌, refl, sym, ap, subst, ◌∙◌, length, ltb, leb, ltb-true, ltb-false, le-leb, leb-true, below_more}
use Rattle.std.specs.Prelude.{Result, Ok, Err, Option, None, Some}
use Rattle.std.specs.Option.{option_or}
use Rattle.refusal.specs.declared.Refusal.{Refusal}
use Rattle.refusal.specs.declared.Refusal.TheVariants.{TableLength}
use Rattle.refusal.specs.Number.{number_of}
use Rattle.lemmas.specs.Counting.{every}
use Rattle.lemmas.proofs.Cases.{by_cases, cond_cases, both_true}
use Rattle.lemmas.proofs.Counting.{every_all, all_every}
use Rattle.roottable.specs.declared.Wanted.{Wanted}
use Rattle.roottable.specs.declared.Best.{Best}
use Rattle.roottable.specs.Rows.{table_wrong, row_at, row_count, suitable, rank}
use Rattle.roottable.specs.Selection.{first_where, first_highest, chosen_row, found_number, found_any, found_row, table_number}
use Rattle.roottable.specs.Passing.{better, step_of}

-- of n places, k is suitable, no suitable one is higher, and none before it as high
pub record Chosen (n : ℕ) (suits : ℕ → Bool) (height : ℕ → ℕ) (k : ℕ) : Type 0 where
  pub within : k < n
  pub suited : suits k ≡ true
  pub highest : (j : ℕ) → j < n → suits j ≡ true → height j ≤ height k
  pub first : (j : ℕ) → j < k → suits j ≡ true → height j < height k

abbrev pub NoneSuits : ℕ → (ℕ → Bool) → Type 0
NoneSuits n suits = (j : ℕ) → j < n → suits j ≡ false

abbrev pub Says : ℕ → (ℕ → Bool) → (ℕ → ℕ) → Option ℕ → Type 0
Says n suits height (Some k) = Chosen n suits height k
Says n suits height None = NoneSuits n suits

first_none : (n : ℕ) (test : ℕ → Bool) → ((j : ℕ) → j < n → test j ≡ false) → first_where n test ≡ None
unfolding first_where
first_none zero test none = refl
first_none (suc n) test none = rw (first_none n test (λ j h. none j (omega arith)), none n (omega arith))

first_is : (n k : ℕ) (test : ℕ → Bool) → k < n → test k ≡ true → ((j : ℕ) → j < k → test j ≡ false) → first_where n test ≡ Some k
unfolding first_where
first_is zero k test h e none = absurd (omega arith)
first_is (suc n) k test h e none =
    by_cases (λ _. option_or (first_where n test) (cond (test n) (Some n) None) ≡ Some k) (ltb k n)
    (λ l. rw (first_is n k test (ltb-true k n l) e none))
    (λ l. let last : n ≡ k = omega (arith, ltb-false) in rw (last, first_none k test none, e))

-- the test that the definition makes of a place
abbrev Test : ℕ → (ℕ → Bool) → (ℕ → ℕ) → ℕ → Bool
Test n suits height k = suits k && every n (λ j. not (suits j) || leb (height j) (height k))

chosen_test : (n : ℕ) (suits : ℕ → Bool) (height : ℕ → ℕ) (k : ℕ) → Chosen n suits height k → Test n suits height k ≡ true
chosen_test n suits height k c =
    rw c.suited
    (all_every n _ (λ j h. by_cases (λ t. not t || leb (height j) (height k) ≡ true) (suits j) (λ e. le-leb (height j) (height k) (c.highest j h e)) (λ _. refl)))

-- a place with a higher suitable one is not chosen
beaten : (n : ℕ) (suits : ℕ → Bool) (height : ℕ → ℕ) (j k : ℕ) → k < n → suits k ≡ true → (suits j ≡ true → height j < height k) → Test n suits height j ≡ false
beaten n suits height j k h e less =
    by_cases (λ t. t ≡ false) (Test n suits height j)
    (λ passed. let both = both_true (suits j) _ passed in
    absurd (omega (arith, less both.0, leb-true (height k) (height j) (rw e at (every_all n _ both.1 k h)))))
    (λ _. refl)

-- What is said of one place alone is that the definition finds it.
says_is : (n : ℕ) (suits : ℕ → Bool) (height : ℕ → ℕ) (f : Option ℕ) → Says n suits height f → first_highest n suits height ≡ f
unfolding first_highest
says_is n suits height (Some k) c =
    first_is n k (Test n suits height) c.within (chosen_test n suits height k c) (λ j h. beaten n suits height j k c.within c.suited (c.first j h))
says_is n suits height None none = first_none n (Test n suits height) (λ j h. rw (none j h))

-- what the best of the first n places says
abbrev pub BestSays : ℕ → (ℕ → Bool) → (ℕ → ℕ) → Option Best → Type 0
BestSays n suits height (Some b) = Chosen n suits height b.row × (b.rank ≡ height b.row)
BestSays n suits height None = NoneSuits n suits

abbrev pub place : Option Best → Option ℕ
place (Some b) = Some b.row
place None = None

placed : (n : ℕ) (suits : ℕ → Bool) (height : ℕ → ℕ) (b : Option Best) → BestSays n suits height b → Says n suits height (place b)
placed n suits height (Some b) s = s.0
placed n suits height None s = s

-- One place more.
unsuited : (n : ℕ) (suits : ℕ → Bool) (height : ℕ → ℕ) (b : Option Best) → BestSays n suits height b → suits n ≡ false → BestSays (suc n) suits height b
unsuited n suits height (Some b) s e =
    let c = s.0 in (
      record {
        within = omega (arith, c.within);
        suited = c.suited;
        highest = λ j h. below_more (λ j. suits j ≡ true → height j ≤ height b.row) n c.highest (λ t. absurd (true≢false (sym t ∙ e))) j (omega arith);
        first = c.first;
      },
      s.1,
    )
unsuited n suits height None s e = λ j h. below_more (λ j. suits j ≡ false) n s e j (omega arith)

suited_next : (n : ℕ) (suits : ℕ → Bool) (height : ℕ → ℕ) (b : Option Best) → BestSays n suits height b → suits n ≡ true → BestSays (suc n) suits height (better b n (height n))
unfolding better
suited_next n suits height (Some b) s e =
    let c = s.0 in
    cond_cases (λ x. BestSays (suc n) suits height (Some x)) (ltb b.rank (height n))
    (λ l. let more : height b.row < height n = omega (arith, s.1, ltb-true) in (
      record {
        within = omega arith;
        suited = e;
        highest = λ j h. below_more (λ j. suits j ≡ true → height j ≤ height n) n (λ j h t. omega (arith, c.highest j h t)) (λ t. omega arith) j (omega arith);
        first = λ j h t. omega (arith, c.highest j h t);
      },
      refl,
    ))
    (λ l. (
      record {
        within = omega (arith, c.within);
        suited = c.suited;
        highest = λ j h. below_more (λ j. suits j ≡ true → height j ≤ height b.row) n c.highest (λ t. omega (arith, s.1, ltb-false)) j (omega arith);
        first = c.first;
      },
      s.1,
    ))
suited_next n suits height None s e = (
  record {
    within = omega arith;
    suited = e;
    highest = λ j h. below_more (λ j. suits j ≡ true → height j ≤ height n) n (λ j h t. absurd (true≢false (sym t ∙ s j h))) (λ t. omega arith) j (omega arith);
    first = λ j h t. absurd (true≢false (sym t ∙ s j h));
  },
  refl,
)

pub step_says : (n : ℕ) (suits : ℕ → Bool) (height : ℕ → ℕ) (b : Option Best) → BestSays n suits height b → BestSays (suc n) suits height (step_of b (suits n) n (height n))
unfolding step_of
step_says n suits height b s = cond_cases (BestSays (suc n) suits height) (suits n) (suited_next n suits height b s) (unsuited n suits height b s)

-- one pass over n places
passed : ℕ → (ℕ → Bool) → (ℕ → ℕ) → Option Best
passed zero suits height = None
passed (suc n) suits height = step_of (passed n suits height) (suits n) n (height n)

passed_says : (n : ℕ) (suits : ℕ → Bool) (height : ℕ → ℕ) → BestSays n suits height (passed n suits height)
unfolding passed
passed_says zero suits height = λ j h. absurd (omega arith)
passed_says (suc n) suits height = step_says n suits height (passed n suits height) (passed_says n suits height)

-- The place found is suitable, no suitable one is higher, none before it as high; none is found exactly where none is suitable.
pub first_highest_lem : (n : ℕ) (suits : ℕ → Bool) (height : ℕ → ℕ) → Says n suits height (first_highest n suits height)
first_highest_lem n suits height =
    let found = place (passed n suits height) in
    let says = placed n suits height (passed n suits height) (passed_says n suits height) in
    subst (Says n suits height) {x = found} (sym (says_is n suits height found says)) says

-- the rows of a table that suit, and their ranks
abbrev pub suits : Wanted → List ℕ → ℕ → Bool
suits wanted table k = suitable wanted (row_at table k)

abbrev pub ranks : Wanted → List ℕ → ℕ → ℕ
ranks wanted table k = rank wanted (row_at table k)

-- what a choice says of a table: it is not refused
abbrev pub SaysRow : ℕ → (ℕ → Bool) → (ℕ → ℕ) → Result (Option ℕ) Refusal → Type 0
SaysRow n suits height (Ok found) = Says n suits height found
SaysRow n suits height (Err r) = ⊥

-- So is the row chosen, where the table is whole.
pub chosen_row_lem : (wanted : Wanted) (table : List ℕ) → table_wrong (length table) ≡ false
    → SaysRow (row_count table) (suits wanted table) (ranks wanted table) (chosen_row wanted table)
unfolding chosen_row
chosen_row_lem wanted table e = rw e (first_highest_lem (row_count table) (suits wanted table) (ranks wanted table))

-- The number is 20's or 0, and a row that is found lies in the table.
shows : (n : ℕ) (suits : ℕ → Bool) (height : ℕ → ℕ) (wrong : Bool) (f : Option ℕ) → Says n suits height f → let g : Result (Option ℕ) Refusal = cond wrong (Err TableLength) (Ok f) in
    (found_number g ≡ cond wrong (number_of TableLength) 0) × (found_any g ≡ true → found_row g < n)
unfolding found_number found_any found_row
shows n suits height true f s = (refl, λ e. absurd (false≢true e))
shows n suits height false None s = (refl, λ e. absurd (false≢true e))
shows n suits height false (Some k) s = (refl, λ _. s.within)

pub row_shows : (wanted : Wanted) (table : List ℕ) {f : Result (Option ℕ) Refusal} → f ≡ chosen_row wanted table
    → record { answer : f ≡ chosen_row wanted table; number : found_number f ≡ table_number table; row : found_any f ≡ true → found_row f < row_count table }
unfolding chosen_row table_number
row_shows wanted table e =
    rw e
    (let told = shows _ _ _ (table_wrong (length table)) _ (first_highest_lem (row_count table) (suits wanted table) (ranks wanted table)) in
    record { answer = refl; number = told.0; row = told.1 })

-- And the best of all rows is that row.
pub best_row : (wanted : Wanted) (table : List ℕ) (b : Option Best) → table_wrong (length table) ≡ false
    → BestSays (row_count table) (suits wanted table) (ranks wanted table) b → chosen_row wanted table ≡ Ok (place b)
unfolding chosen_row
best_row wanted table b e says =
    rw e
    (ap Ok (says_is (row_count table) (suits wanted table) (ranks wanted table) (place b) (placed (row_count table) (suits wanted table) (ranks wanted table) b says)))
