-- `text`, in a line: the piece is put as it is in lent bytes.
use Rattle.line.proofs.Lines.{put_likewise}
use Rattle.line.proofs.LineText.text.Goals as goal

pub returns : goal.returns
returns c = put_likewise _ _ _ 0 c.text.ensures
