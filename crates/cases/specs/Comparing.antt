-- The words for bytes that were compared, in ASCII.
use Rattle.std.specs.Prelude.{ℕ, Bool, true, false, cond, ◌&&◌, List, [], ◌∷◌, eqb, drop, replicate}
use Rattle.wire.specs.declared.Span.{Span}
use Rattle.wire.specs.Parts.{part_of}
use Rattle.line.specs.Text.{space}

-- whether two lists have the same bytes
unfoldable pub same : List ℕ → List ℕ → Bool
same [] [] = true
same [] (y ∷ ys) = false
same (x ∷ xs) [] = false
same (x ∷ xs) (y ∷ ys) = eqb x y && same xs ys

-- SAME or OTHER
unfoldable pub compared_word : List ℕ → List ℕ → List ℕ
compared_word a b = cond (same a b) (83 ∷ 65 ∷ 77 ∷ 69 ∷ []) (79 ∷ 84 ∷ 72 ∷ 69 ∷ 82 ∷ [])

-- the words for the first bytes, for those of a span behind them, and for the whole, each behind a space
unfoldable pub around_words : List ℕ → List ℕ → ℕ → Span → List (List ℕ)
around_words a b before behind =
    space ∷ compared_word (part_of a 0 before) (part_of b 0 before) ∷ space ∷ compared_word (part_of a behind.at behind.len) (part_of b behind.at behind.len)
    ∷ space ∷ compared_word a b ∷ []

-- KEPT or CHANGED, by the bytes from len on
unfoldable pub kept_word : List ℕ → List ℕ → ℕ → List ℕ
kept_word before out len = cond (same (drop len before) (drop len out)) (75 ∷ 69 ∷ 80 ∷ 84 ∷ []) (67 ∷ 72 ∷ 65 ∷ 78 ∷ 71 ∷ 69 ∷ 68 ∷ [])

-- the same behind a space, where the n bytes from before were 238 each
unfoldable pub fill_kept_words : ℕ → List ℕ → ℕ → List (List ℕ)
fill_kept_words n out len = space ∷ kept_word (replicate n 238) out len ∷ []
