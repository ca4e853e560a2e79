-- `text`, in lent bytes: the piece goes into the part behind the text, where that has room.
use Rattle.lemmas.proofs.Basics.{arith, refl}
use Rattle.line.proofs.Lines.{put_filled}
use Rattle.line.proofs.LentText.text.Goals as goal

pub returns-then-s-self : goal.returns-then-s-self
returns-then-s-self c = put_filled _ _ _ refl (omega arith) c.copy_from_slice.ensures.after
