-- Laws of pieces put behind text, in lent bytes and in a line.
use Rattle.lemmas.proofs.Basics.{ℕ, ◌+◌, ◌-◌, ◌≤◌, ◌<◌, arith, List, [], ◌∷◌, ◌++◌, append-nil, append_assoc, ◌≡◌, refl, sym, ap, ◌∙◌, leb, length, take, drop, length-append, length-take, length-drop, length-take-le, take_at, drop-drop, le-leb, lt-leb, leb-true, leb-false}
use Rattle.std.specs.Borrow.{GName}
use borrow.Rule.Slice.PartMut.{put_mid, Post-is}
use Rattle.lemmas.proofs.Cases.{by_cases, cond_cases}
use Rattle.wire.specs.Parts.{onto, joined}
use Rattle.wire.proofs.Writing.{onto_in, length-onto, take-onto, drop-onto}
use Rattle.line.specs.Text.{room, behind, laid, Buffer, buffer, put, put_all}

pub behind_in : (text piece : List ℕ) → length text + length piece ≤ room → behind text piece ≡ text ++ piece
unfolding behind
behind_in text piece h = rw (le-leb (length text + length piece) room h)

-- A piece put into lent bytes, where it fits and where it does not.
pub put_in : (b : Buffer) (piece : List ℕ) → b.len + length piece ≤ length b.bytes
    → put b piece ≡ buffer b.lender (take b.len b.bytes ++ (piece ++ drop (b.len + length piece) b.bytes)) (b.len + length piece)
unfolding put
put_in b piece h = rw (le-leb (b.len + length piece) (length b.bytes) h)

pub put_out : (b : Buffer) (piece : List ℕ) → length b.bytes < b.len + length piece → put b piece ≡ b
unfolding put
put_out b piece h = rw (lt-leb (b.len + length piece) (length b.bytes) h)

-- The bytes stay their lender's, and whose they are makes no difference to what is put.
pub put_lender : (b : Buffer) (piece : List ℕ) → (put b piece).lender ≡ b.lender
unfolding put
put_lender b piece = cond_cases {A = Buffer} (λ c. c.lender ≡ b.lender) (leb (b.len + length piece) (length b.bytes)) (λ _. refl) (λ _. refl)

pub put_likewise : (b now : Buffer) (piece : List ℕ) (lender : GName) → now ≡ put b piece → buffer lender now.bytes now.len ≡ put (buffer lender b.bytes b.len) piece
unfolding put
put_likewise b now piece lender is =
    by_cases (λ _. buffer lender now.bytes now.len ≡ put (buffer lender b.bytes b.len) piece) (leb (b.len + length piece) (length b.bytes)) (λ q. rw (is, q)) (λ q. rw (is, q))

-- The part behind the text is lent, filled with the piece, and comes back.
pub put_filled : (b : Buffer) (piece : List ℕ) (end : ℕ) {last : List ℕ} → end ≡ b.len + length piece → end ≤ length b.bytes → last ≡ piece
    → buffer b.lender (put_mid b.len (end - b.len) b.bytes last) end ≡ put b piece
put_filled b piece end {last} is fits filled =
    rw (is, filled, Post-is b.len (b.len + length piece) b.bytes (omega arith)) (sym (put_in b piece (omega arith)))

-- the text so far
abbrev pub text_in : Buffer → List ℕ
text_in b = take b.len b.bytes

left_out : (bytes piece : List ℕ) (len : ℕ) → length bytes ≡ room → room < len + length piece → take len bytes ≡ behind (take len bytes) piece
unfolding behind
left_out bytes [] len long over = cond_cases (λ t. take len bytes ≡ t) (leb (length (take len bytes) + 0) room) (λ _. sym (append-nil (take len bytes))) (λ _. refl)
left_out bytes (b ∷ bs) len long over = rw (lt-leb (length (take len bytes) + length (b ∷ bs)) room (omega (arith, length-take len bytes)))

-- In lent bytes of a line's size a piece is put as behind a line; where len is over the room the line is full.
pub put-behind : (b : Buffer) (piece : List ℕ) → length b.bytes ≡ room → text_in (put b piece) ≡ behind (text_in b) piece
put-behind b piece long =
    by_cases (λ _. text_in (put b piece) ≡ behind (text_in b) piece) (leb (b.len + length piece) (length b.bytes))
    (λ q. let fits = leb-true _ _ q in
    let size : length (text_in b) ≡ b.len = length-take-le b.len b.bytes (omega arith) in
    let all : length (text_in b ++ piece) ≡ b.len + length piece = length-append (text_in b) piece ∙ omega arith in
    ap text_in (put_in b piece fits)
    ∙ ap (take (b.len + length piece)) (sym (append_assoc (text_in b) piece (drop (b.len + length piece) b.bytes)))
    ∙ take_at (text_in b ++ piece) _ (b.len + length piece) all ∙ sym (behind_in (text_in b) piece (omega arith)))
    (λ q. let over = leb-false _ _ q in
    ap text_in (put_out b piece over) ∙ left_out b.bytes piece b.len long (omega arith))

-- The bytes stay as many, and the text stays inside them.
pub length-put : (b : Buffer) (piece : List ℕ) → length (put b piece).bytes ≡ length b.bytes
length-put b piece =
    by_cases (λ _. length (put b piece).bytes ≡ length b.bytes) (leb (b.len + length piece) (length b.bytes))
    (λ q. let fits = leb-true _ _ q in
    let size : length (text_in b) ≡ b.len = length-take-le b.len b.bytes (omega arith) in
    let whole : length (text_in b ++ (piece ++ drop (b.len + length piece) b.bytes)) ≡ length b.bytes = rw (length-append, length-append, length-drop) (omega arith) in
    ap (λ b. length b.bytes) (put_in b piece fits) ∙ whole)
    (λ q. ap (λ b. length b.bytes) (put_out b piece (leb-false _ _ q)))

-- Pieces put one after the other are laid behind the line.
pub put-append : (b : Buffer) (pieces others : List (List ℕ)) → put_all (put_all b pieces) others ≡ put_all b (pieces ++ others)
unfolding put_all
put-append b [] others = refl
put-append b (piece ∷ pieces) others = put-append (put b piece) pieces others

pub put-laid : (b : Buffer) (pieces : List (List ℕ)) → length b.bytes ≡ room → text_in (put_all b pieces) ≡ laid (text_in b) pieces
unfolding put_all laid
put-laid b [] long = refl
put-laid b (piece ∷ pieces) long = put-laid (put b piece) pieces (length-put b piece ∙ long) ∙ ap (λ t. laid t pieces) (put-behind b piece long)

-- Text so far, `done`, at the start of s, and pieces put behind it, which fit.
put_next : {lender : GName} (done piece s : List ℕ) → length (done ++ piece) ≤ length s
    → put (buffer lender (onto done s) (length done)) piece ≡ buffer lender (onto (done ++ piece) s) (length (done ++ piece))
put_next {lender} done piece s h =
    let sum = length-append done piece in
    let fits : length done + length piece ≤ length (onto done s) = rw (length-onto done s) (omega arith) in
    let before : take (length done) (onto done s) ≡ done = take-onto done s (omega arith) in
    let after : drop (length done + length piece) (onto done s) ≡ drop (length (done ++ piece)) s =
    sym (drop-drop (length piece) (length done) (onto done s)) ∙ ap (drop (length piece)) (drop-onto done s (omega arith))
    ∙ drop-drop (length piece) (length done) s ∙ ap (λ n. drop n s) (sym sum)
    in
    put_in (buffer lender (onto done s) (length done)) piece fits
    ∙ (λ i. buffer lender (before i ++ (piece ++ after i)) (sym sum i))
    ∙ ap (λ t. buffer lender t (length (done ++ piece))) (sym (append_assoc done piece (drop (length (done ++ piece)) s)) ∙ sym (onto_in (done ++ piece) s h))

pub put-pieces : {lender : GName} (done s : List ℕ) (pieces : List (List ℕ)) → length (done ++ joined pieces) ≤ length s
    → put_all (buffer lender (onto done s) (length done)) pieces ≡ buffer lender (onto (done ++ joined pieces) s) (length (done ++ joined pieces))
unfolding put_all joined
put-pieces {lender} done s [] h = ap (λ t. buffer lender (onto t s) (length t)) (sym (append-nil done))
put-pieces {lender} done s (piece ∷ pieces) h =
    let next = sym (append_assoc done piece (joined pieces)) in
    let fits : length (done ++ piece ++ joined pieces) ≤ length s = rw next at h in
    rw (next, put_next done piece s (omega (arith, length-append (done ++ piece) (joined pieces)))) (put-pieces (done ++ piece) s pieces fits)

-- Pieces whose sizes fit come out joined.
pub fits-joined : (text : List ℕ) (pieces : List (List ℕ)) → length (text ++ joined pieces) ≤ room → laid text pieces ≡ text ++ joined pieces
unfolding laid joined
fits-joined text [] h = sym (append-nil text)
fits-joined text (piece ∷ pieces) h =
    let next = sym (append_assoc text piece (joined pieces)) in
    let size = length-append (text ++ piece) (joined pieces) in
    let fits : length (text ++ piece ++ joined pieces) ≤ room = rw next at h in
    rw (next, behind_in text piece (omega (arith, length-append text piece))) (fits-joined (text ++ piece) pieces fits)
