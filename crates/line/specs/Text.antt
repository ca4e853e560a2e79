-- Text in lent bytes and in a line, pieces put behind it, and numbers as decimal text.
use Rattle.std.specs.Prelude.{ℕ, zero, suc, ◌+◌, ◌/◌, ◌%◌, cond, List, [], ◌∷◌, ◌++◌, ltb, leb, length, take, drop}
use Rattle.std.specs.Borrow.{GName}
use Rattle.line.specs.declared.Line.{Line}

-- how many bytes a line holds
abbrev pub room : ℕ
room = 256

-- the text of a line so far: the first len of its bytes
abbrev pub text_of : Line → List ℕ
text_of line = take line.len line.bytes

-- a piece put behind a text; left out where it does not fit
unfoldable pub behind : List ℕ → List ℕ → List ℕ
behind text piece = cond (leb (length text + length piece) room) (text ++ piece) text

-- pieces put behind a text, one after the other
unfoldable pub laid : List ℕ → List (List ℕ) → List ℕ
laid text [] = text
laid text (piece ∷ pieces) = laid (behind text piece) pieces

-- lent bytes, of which the first len are text so far, and whose they are
pub record Buffer : Type 0 where
  pub lender : GName
  pub bytes : List ℕ
  pub len : ℕ

abbrev pub buffer : GName → List ℕ → ℕ → Buffer
buffer lender bytes len = record { lender = lender; bytes = bytes; len = len }

-- a piece put behind the text, where it fits: the bytes before it and behind it stay, and they stay their lender's
unfoldable pub put : Buffer → List ℕ → Buffer
put b piece =
    cond (leb (b.len + length piece) (length b.bytes))
    (buffer b.lender (take b.len b.bytes ++ (piece ++ drop (b.len + length piece) b.bytes)) (b.len + length piece)) b

-- pieces put one after the other
unfoldable pub put_all : Buffer → List (List ℕ) → Buffer
put_all b [] = b
put_all b (piece ∷ pieces) = put_all (put b piece) pieces

-- the decimal digits of a number, in ASCII, with no zeros in front; at most k of them
unfoldable pub decimal_in : ℕ → ℕ → List ℕ
decimal_in zero n = []
decimal_in (suc k) n = cond (ltb n 10) ((48 + n) ∷ []) (decimal_in k (n / 10) ++ ((48 + n % 10) ∷ []))

-- 20 digits hold every 64-bit number
abbrev pub decimal_of : ℕ → List ℕ
decimal_of n = decimal_in 20 n

abbrev pub space : List ℕ
space = 32 ∷ []

abbrev pub newline : List ℕ
newline = 10 ∷ []
