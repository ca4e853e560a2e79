-- A line fits in its room, and the total's line in a line.
use Rattle.lemmas.proofs.Basics.{ℕ, ◌≤◌, arith, [], ◌≡◌, refl, ap, ◌∙◌, length}
use Rattle.std.specs.Prelude.{Result, Ok, Err, Option, Some, None}
use Rattle.refusal.specs.declared.Refusal.{Refusal}
use Rattle.refusal.specs.Number.{number_of}
use Rattle.wire.proofs.Writing.{length-joined}
use Rattle.getkey.specs.declared.Granted.{Granted}
use Rattle.tally.specs.declared.Tally.{Tally}
use Rattle.line.specs.Text.{room, laid, Buffer, put_all}
use Rattle.line.proofs.Decimals.{length_decimal}
use Rattle.line.proofs.Lines.{text_in, put-laid, fits-joined}
use Rattle.words.specs.Words.{identifier_words, refused_words}
use Rattle.words.proofs.Lengths.{length_form}
use Rattle.report.specs.Lines.{row_words, answer_words, line_words, line_of, total_words, total_line}
use Rattle.report.specs.Replaying.{line_room}

-- No line is longer than its room.
pub length_line : (n : ℕ) (a : Result Granted Refusal) → length (line_of n a) ≤ line_room
unfolding line_of line_words answer_words row_words identifier_words refused_words
length_line n (Ok granted) = with_row granted.row refl
  where
    with_row : (row : Option ℕ) → granted.row ≡ row → length (line_of n (Ok granted)) ≤ line_room
    with_row (Some row) e =
        rw (e, length-joined)
        (omega (arith, length_decimal 20 n, length_decimal 20 granted.at.l0.0, length_decimal 20 granted.at.l1.0, length_decimal 20 granted.at.l2.0, length_form granted.form, length_decimal 20 row))
    with_row None e =
        rw (e, length-joined)
        (omega (arith, length_decimal 20 n, length_decimal 20 granted.at.l0.0, length_decimal 20 granted.at.l1.0, length_decimal 20 granted.at.l2.0, length_form granted.form))
length_line n (Err r) = rw length-joined (omega (arith, length_decimal 20 n, length_decimal 20 (number_of r)))

pub length-total : (t : Tally) → length (total_line t) ≤ line_room
unfolding total_line total_words
length-total t = rw length-joined (omega (arith, length_decimal 20 t.accepted, length_decimal 20 t.refused, length_decimal 20 t.earlier))

-- So the total's words, laid behind one another, are its line.
pub total-laid : (t : Tally) → laid [] (total_words t) ≡ total_line t
unfolding total_line
total-laid t = fits-joined [] (total_words t) (omega (arith, length-total t))

-- They are the text of a line in which they were put behind no text.
pub total-put : (t : Tally) (b : Buffer) {now : Buffer} → length b.bytes ≡ room → text_in b ≡ [] → now ≡ put_all b (total_words t) → text_in now ≡ total_line t
total-put t b long empty put = ap text_in put ∙ put-laid b (total_words t) long ∙ rw empty (total-laid t)
