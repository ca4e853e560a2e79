-- `gw_envelope_read`: what the head's checks or the reader told is laid out.
use Rattle.envelope.proofs.Reading.{head_refused}
use Rattle.gishwarem.proofs.envelopes.gw_envelope_read.Goals as goal

pub returns-in-Err : goal.returns-in-Err
returns-in-Err c =
    rw (c.from.ensures, head_refused _ c.judge_head.ensures c.in-Err.is)

pub returns-in-Ok : goal.returns-in-Ok
returns-in-Ok c =
    rw (c.from-in-Ok.ensures, ← c.read.ensures, c.in-Ok.is)

pub returns-in-Err-read : goal.returns-in-Err-read
returns-in-Err-read c =
    rw (c.from-in-Err-read.ensures, ← c.read.ensures, c.in-Err-read.is)
