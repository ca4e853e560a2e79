-- `RootBytes::from`: sixteen bytes put over sixteen.
use Rattle.wire.proofs.Writing.{onto-whole}
use Rattle.rootid.proofs.Roots.{length-root_bytes}
use Rattle.face.proofs.RootBytesFromRootId.from.Goals as goal

pub returns : goal.returns
returns c = rw (c.put.ensures, onto-whole _ _ (length-root_bytes _))
