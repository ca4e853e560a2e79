-- Document 02, No. 7: the lines of a replay, newline-ended.
use Rattle.std.specs.Prelude.{ℕ, ◌+◌, List, [], ◌∷◌, ◌++◌, length, Result, Ok, Err, Option, Some, None}
use Rattle.refusal.specs.declared.Refusal.{Refusal}
use Rattle.wire.specs.Parts.{joined}
use Rattle.records.specs.Writing.{written_of}
use Rattle.getkey.specs.declared.Granted.{Granted}
use Rattle.line.specs.Text.{space, newline, decimal_of}
use Rattle.words.specs.Words.{form_word, identifier_words, refused_words}
use Rattle.tally.specs.declared.Tally.{Tally}
use Rattle.report.specs.Records.{answer_to}

-- ROW and its number, or CREATE in their place
unfoldable pub row_words : Option ℕ → List (List ℕ)
row_words (Some row) = (32 ∷ 82 ∷ 79 ∷ 87 ∷ 32 ∷ []) ∷ decimal_of row ∷ []
row_words None = (32 ∷ 67 ∷ 82 ∷ 69 ∷ 65 ∷ 84 ∷ 69 ∷ []) ∷ []

-- the identifier, the form, and those; or REFUSED and the number
unfoldable pub answer_words : Result Granted Refusal → List (List ℕ)
answer_words (Ok granted) = identifier_words granted.at ++ (space ∷ form_word granted.form ∷ row_words granted.row)
answer_words (Err r) = refused_words r

-- "one line per record, numbered from 1"
unfoldable pub line_words : ℕ → Result Granted Refusal → List (List ℕ)
line_words number answer = decimal_of number ∷ space ∷ (answer_words answer ++ (newline ∷ []))

unfoldable pub line_of : ℕ → Result Granted Refusal → List ℕ
line_of number answer = joined (line_words number answer)

-- the lines of records, numbered from a number on
unfoldable pub lines_from : List ℕ → ℕ → List (List ℕ) → List ℕ
lines_from table number [] = []
lines_from table number (s ∷ records) = line_of number (answer_to table s) ++ lines_from table (number + 1) records

-- "then a total: accepted, refused (26 included), and times the clock was earlier"
unfoldable pub total_words : Tally → List (List ℕ)
total_words t = (84 ∷ 79 ∷ 84 ∷ 65 ∷ 76 ∷ 32 ∷ []) ∷ decimal_of t.accepted ∷ space ∷ decimal_of t.refused ∷ space ∷ decimal_of t.earlier ∷ newline ∷ []

unfoldable pub total_line : Tally → List ℕ
total_line t = joined (total_words t)

-- what the writer of the total's line answers: its length, or 13
unfoldable pub total_written : Tally → ℕ → Result ℕ Refusal
total_written t room = written_of (Ok tt) (length (total_line t)) room
