-- Chunks are invisible: a trace replayed in pieces of whole records gives the text, the state and the total of the whole.
use Rattle.lemmas.proofs.Basics.{ℕ, zero, suc, ◌+◌, ◌-◌, ◌*◌, ◌/◌, ◌%◌, ◌≤◌, ◌<◌, arith, Bool, true, false, cond, List, [], ◌∷◌, ◌++◌, map, append-nil, append_assoc, ◌≡◌, refl, sym, ap, ap₂, ◌∙◌, length, take, drop, length-append, length-drop, take-append-drop, length-take-le, take-append-le, drop-append-le}
use Rattle.tally.specs.Totals.{tally_of, clocks_in, earlier_in}
use Rattle.tally.specs.Merging.{merge}
use Rattle.tally.proofs.Laws.{all_counted, tally_append, merge-assoc, merge_none}
use Rattle.report.specs.declared.State.{State}
use Rattle.report.specs.Records.{cut, records_of, recorded, answer_to, counted_of, total_of}
use Rattle.report.specs.Lines.{line_of, lines_from, total_line}
use Rattle.report.specs.Replaying.{start, after, report_from, report_of}

one_more : (ends : Bool) (n : ℕ) → 37 ≤ n + cond ends 36 0 → (n + cond ends 36 0) / 37 ≡ suc ((n - 37 + cond ends 36 0) / 37)
one_more true n has = omega arith
one_more false n has = omega arith

-- Where bytes have a record, it is their first 37, or what there is of them, and the others are behind; where they have none, there is none.
pub records_next : (ends : Bool) (s : List ℕ) → 37 ≤ length s + cond ends 36 0 → records_of ends s ≡ take 37 s ∷ records_of ends (drop 37 s)
unfolding records_of cut
records_next ends s has = ap (λ n. cut n s) (one_more ends (length s) has ∙ ap (λ n. suc ((n + cond ends 36 0) / 37)) (sym (length-drop 37 s)))

pub records-none : (ends : Bool) (s : List ℕ) → length s + cond ends 36 0 < 37 → records_of ends s ≡ []
unfolding records_of cut
records-none ends s small = let none : (length s + cond ends 36 0) / 37 ≡ 0 = omega arith in ap (λ n. cut n s) none

-- The records of whole records and what follows them.
pub records-append : (ends : Bool) (m : ℕ) (a b : List ℕ) → length a ≡ 37 * m → records_of ends (a ++ b) ≡ records_of false a ++ records_of ends b
records-append ends zero [] b size = ap (λ t. t ++ records_of ends b) (sym (records-none false [] (omega arith)))
records-append ends zero (x ∷ a) b size = absurd (omega arith)
records-append ends (suc m) a b size =
    let whole : 37 ≤ length a = omega arith in
    let next : length (drop 37 a) ≡ 37 * m = length-drop 37 a ∙ omega arith in
    records_next ends (a ++ b) (omega (arith, length-append a b))
    ∙ ap₂ (λ s t. s ∷ records_of ends t) (take-append-le 37 a b whole) (drop-append-le 37 a b whole)
    ∙ ap (λ t. take 37 a ∷ t) (records-append ends m (drop 37 a) b next)
    ∙ ap (λ t. t ++ records_of ends b) (sym (records_next false a (omega arith)))

-- A chunk's records are those of a trace that is the bytes which they have.
pub recorded_same : (ends : Bool) (s : List ℕ) → records_of ends s ≡ records_of true (recorded ends s)
unfolding recorded
recorded_same true s = refl
recorded_same false s =
    let n = length s - length s % 37 in
    let size : length (take n s) ≡ 37 * (length s / 37) = length-take-le n s (omega arith) ∙ omega arith in
    ap (records_of false) (sym (take-append-drop n s)) ∙ records-append false (length s / 37) (take n s) (drop n s) size
    ∙ ap (λ t. records_of false (take n s) ++ t) (records-none false (drop n s) (omega (arith, length-drop n s)) ∙ sym (records-none true [] (omega arith)))
    ∙ sym (records-append true (length s / 37) (take n s) [] size) ∙ ap (records_of true) (append-nil (take n s))

-- Lines, totals and states of records and of those that follow them.
pub lines_append : (table : List ℕ) (n : ℕ) (xs ys : List (List ℕ)) → lines_from table n (xs ++ ys) ≡ lines_from table n xs ++ lines_from table (n + length xs) ys
unfolding lines_from
lines_append table n [] ys = let same : n + 0 ≡ n = omega arith in ap (λ k. lines_from table k ys) (sym same)
lines_append table n (x ∷ xs) ys =
    let next : n + 1 + length xs ≡ n + suc (length xs) = omega arith in
    ap (λ t. line_of n (answer_to table x) ++ t) (lines_append table (n + 1) xs ys) ∙ sym (append_assoc (line_of n (answer_to table x)) _ _)
    ∙ ap (λ k. line_of n (answer_to table x) ++ lines_from table (n + 1) xs ++ lines_from table k ys) next

map-append : {A B : Type 0} (f : A → B) (xs ys : List A) → map f (xs ++ ys) ≡ map f xs ++ map f ys
map-append f [] ys = refl
map-append f (x ∷ xs) ys = ap (λ t. f x ∷ t) (map-append f xs ys)

pub total-append : (table : List ℕ) (xs ys : List (List ℕ)) → total_of table (xs ++ ys) ≡ merge (total_of table xs) (total_of table ys)
unfolding total_of
total-append table xs ys = ap tally_of (map-append (counted_of table) xs ys) ∙ tally_append (map (counted_of table) xs) (map (counted_of table) ys)

pub after-append : (table : List ℕ) (st : State) (xs ys : List (List ℕ)) → after table st (xs ++ ys) ≡ after table (after table st xs) ys
unfolding after
after-append table st xs ys =
    let next : st.next + length (xs ++ ys) ≡ st.next + length xs + length ys = rw length-append (omega arith) in
    let tally = ap (merge st.tally) (total-append table xs ys) ∙ sym (merge-assoc st.tally (total_of table xs) (total_of table ys)) in
    λ i. record { next = next i; tally = tally i }

pub after_none : (table : List ℕ) (st : State) → after table st [] ≡ st
unfolding after total_of
after_none table st = let next : st.next + 0 ≡ st.next = omega arith in λ i. record { next = next i; tally = (merge_none st.tally).1 i }

-- A report is the lines of its first records, then the report of what follows, from the state behind these.
pub report_split : (table : List ℕ) (st : State) (s t : List ℕ) (xs : List (List ℕ)) → records_of true s ≡ xs ++ records_of true t
    → report_from table st s ≡ lines_from table st.next xs ++ report_from table (after table st xs) t
unfolding report_from after
report_split table st s t xs split =
    let ys = records_of true t in
    ap (λ rs. lines_from table st.next rs ++ total_line (after table st rs).tally) split
    ∙ ap₂ (λ u v. u ++ total_line v.tally) (lines_append table st.next xs ys) (after-append table st xs ys)
    ∙ append_assoc (lines_from table st.next xs) (lines_from table (st.next + length xs) ys) _

-- So the text of whole records a and what follows them is that of a, then that of the rest, from the state behind a.
pub report_append : (table : List ℕ) (st : State) (m : ℕ) (a b : List ℕ) → length a ≡ 37 * m
    → report_from table st (a ++ b) ≡ lines_from table st.next (records_of false a) ++ report_from table (after table st (records_of false a)) b
report_append table st m a b size = report_split table st (a ++ b) b (records_of false a) (records-append true m a b size)

-- The total of whole records and what follows them is the two totals merged: pieces may be replayed anywhere, and in any order.
pub totals_merge : (table : List ℕ) (m : ℕ) (a b : List ℕ) → length a ≡ 37 * m
    → total_of table (records_of true (a ++ b)) ≡ merge (total_of table (records_of false a)) (total_of table (records_of true b))
totals_merge table m a b size = ap (total_of table) (records-append true m a b size) ∙ total-append table (records_of false a) (records_of true b)

-- Accepted plus refused is the number of lines, and earlier is that of the clocks of the records that are not 26, in order.
pub total_told : (table : List ℕ) (records : List (List ℕ))
    → ((total_of table records).accepted + (total_of table records).refused ≡ length records)
    × ((total_of table records).earlier ≡ earlier_in (clocks_in (map (counted_of table) records)))
unfolding total_of tally_of
total_told table records = (all_counted (map (counted_of table) records) ∙ length-map (counted_of table) records, refl)
  where
    length-map : {A B : Type 0} (f : A → B) (xs : List A) → length (map f xs) ≡ length xs
    length-map f [] = refl
    length-map f (x ∷ xs) = ap suc (length-map f xs)

-- The report is that from the start: its total is that of all records.
pub report_total : (table s : List ℕ) → report_of table s ≡ lines_from table 1 (records_of true s) ++ total_line (total_of table (records_of true s))
unfolding report_of report_from start after
report_total table s = ap (λ t. lines_from table 1 (records_of true s) ++ total_line t) (merge_none (total_of table (records_of true s))).0
