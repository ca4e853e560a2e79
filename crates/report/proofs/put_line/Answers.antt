-- `put_line`: each piece is put behind those before it.
use Rattle.lemmas.proofs.Basics.{[], ◌∷◌}
use Rattle.line.specs.Text.{put_all, newline}
use Rattle.line.proofs.Lines.{put-append}
use Rattle.report.specs.Lines.{answer_words, line_words}
use Rattle.report.proofs.put_line.Goals as goal

pub returns : goal.returns
unfolding put_all line_words
returns g c =
    rw (c.text-2.ensures, c.put_answer.ensures, c.text.ensures, c.number.ensures) (put-append _ (answer_words _) (newline ∷ []))
