use Rattle.lemmas.proofs.Basics.{◌*◌, ◌≤◌, ◌≡◌, drop, length}
use Rattle.std.specs.Iterator.Adapters.{enumerate_source, enumerate_count}
use Rattle.std.specs.Slice.Iter.{chunks_exact_rest, chunks_exact_size}
use Rattle.roottable.specs.Rows.{row_size}
use Rattle.roottable.proofs.Choice.{BestSays, suits, ranks}
use Rattle.roottable.proofs.choose.Given as goal

abbrev pub invariant-loop-k : goal.invariant-loop-k
invariant-loop-k l =
    let k = enumerate_count l.k-iterator in
    let rows = enumerate_source l.k-iterator in
    record {
      size : chunks_exact_size rows ≡ row_size;
      rest : chunks_exact_rest rows ≡ drop (row_size * k) l.table;
      within : row_size * k ≤ length l.table;
      best : BestSays k (suits l.wanted l.table) (ranks l.wanted l.table) l.best;
    }
