-- `total_line`: its words are put into a line, and fit.
use Rattle.lemmas.proofs.Basics.{rules}
use Rattle.report.proofs.Lines.{total-put}
use Rattle.report.proofs.total_line.Goals as goal

pub returns : goal.returns
returns c = total-put _ _ (search rules) c.new-line.ensures c.put_counts.ensures
