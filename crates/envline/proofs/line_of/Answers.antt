-- `line_of`: the words and the newline fit.
use Rattle.lemmas.proofs.Basics.{[], ◌∷◌, ◌++◌, ◌≡◌, ap, ◌∙◌, rules}
use Rattle.envelope.specs.Reading.{envelope_of}
use Rattle.line.specs.Text.{buffer, put, put_all, newline}
use Rattle.line.proofs.Lines.{text_in, put-append, put-laid}
use Rattle.envline.specs.Line.{line_words}
use Rattle.envline.proofs.Lines.{ended}
use Rattle.envline.proofs.line_of.Goals as goal

pub returns : goal.returns
unfolding put_all
returns c =
    let line = c.text.new.self in
    let start = c.new-line.result in
    let words = line_words (envelope_of c.args.s.now) in
    let placed : buffer 0 line.bytes line.len ≡ put_all (buffer 0 start.bytes start.len) (words ++ (newline ∷ [])) =
    c.text.ensures ∙ ap (λ b. put b newline) c.shown.ensures ∙ put-append (buffer 0 start.bytes start.len) words (newline ∷ [])
    in
    ap text_in placed ∙ put-laid (buffer 0 start.bytes start.len) (words ++ (newline ∷ [])) (search rules) ∙ rw c.new-line.ensures (ended (envelope_of c.args.s.now))
