-- Document 01, "The GetKey decision", root row: 20; else of the suitable rows the first of the highest rank.
use Rattle.std.specs.Prelude.{ℕ, zero, suc, Bool, true, false, cond, not, ◌&&◌, ◌||◌, List, leb, length, Result, Ok, Err, Option, None, Some}
use Rattle.std.specs.Option.{option_or}
use Rattle.refusal.specs.declared.Refusal.{Refusal}
use Rattle.lemmas.specs.Counting.{every}
use Rattle.refusal.specs.declared.Refusal.TheVariants.{TableLength}
use Rattle.refusal.specs.Number.{number_of}
use Rattle.roottable.specs.declared.Wanted.{Wanted}
use Rattle.roottable.specs.Rows.{table_wrong, row_at, row_count, suitable, rank}

-- the first number below n of which the test holds
unfoldable pub first_where : ℕ → (ℕ → Bool) → Option ℕ
first_where zero test = None
first_where (suc n) test = option_or (first_where n test) (cond (test n) (Some n) None)

-- of n places, the first suitable one of which no suitable one is higher
unfoldable pub first_highest : ℕ → (ℕ → Bool) → (ℕ → ℕ) → Option ℕ
first_highest n suits height = first_where n (λ k. suits k && every n (λ j. not (suits j) || leb (height j) (height k)))

-- 20, or the row of the table that is wanted
unfoldable pub chosen_row : Wanted → List ℕ → Result (Option ℕ) Refusal
chosen_row wanted table =
    cond (table_wrong (length table)) (Err TableLength)
    (Ok (first_highest (row_count table) (λ k. suitable wanted (row_at table k)) (λ k. rank wanted (row_at table k))))

-- the paper's number, whether a row is found, and that row: none is number 0, not found, with zero beside it, since what comes of it
-- is the request's to say; or the refusal's number and zero
unfoldable pub found_number : Result (Option ℕ) Refusal → ℕ
found_number (Ok None) = 0
found_number (Ok (Some k)) = 0
found_number (Err r) = number_of r

unfoldable pub found_any : Result (Option ℕ) Refusal → Bool
found_any (Ok None) = false
found_any (Ok (Some k)) = true
found_any (Err r) = false

unfoldable pub found_row : Result (Option ℕ) Refusal → ℕ
found_row (Ok None) = 0
found_row (Ok (Some k)) = k
found_row (Err r) = 0

-- 20, or 0
unfoldable pub table_number : List ℕ → ℕ
table_number table = cond (table_wrong (length table)) (number_of TableLength) 0
