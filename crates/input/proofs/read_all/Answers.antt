-- `read_all`: a read that brings bytes puts them behind those that were read so far.
use Rattle.std.proofs.Common.{rules, ℕ, List, ◌++◌, ◌+◌, ◌-◌, ◌≤◌, ◌≡◌, length, take, sym, ap, ◌∙◌, subst, length-take-le}
use lib.Seq.{take-append-add, take-append-le}
use borrow.Rule.Slice.PartMut.{put_mid, post_of}
use Rattle.std.specs.Io.KnownBytes.{Consumes}
use Rattle.std.proofs.KnownBytes.{Consumes-trans}
use Rattle.input.proofs.read_all.Goals as goal

-- the front of the buffer behind a read
front : (at n : ℕ) (buffer part : List ℕ) → at ≤ length buffer → n ≤ length part
    → take at buffer ++ take n part ≡ take (at + n) (put_mid at (length buffer - at) buffer part)
front at n buffer part inside fits =
    let before = take at buffer in
    let behind = part ++ post_of at (length buffer - at) buffer in
    sym (ap (λ k. take (k + n) (before ++ behind)) (sym (length-take-le at buffer inside)) ∙ take-append-add before behind n
    ∙ ap (λ l. before ++ l) (take-append-le n part (post_of at (length buffer - at) buffer) fits))

pub loop-at-preserved : goal.loop-at-preserved
loop-at-preserved g c =
    let inside = c.loop-at.invariant.0 in (
      search rules,
      search rules,
      subst (Consumes _ _) (front c.loop-at.at c.in_ok-more.more c.loop-at.buffer c.read.new.buf inside c.in_ok-more.ensures.bound.0)
          (Consumes-trans _ _ _ _ _ c.loop-at.invariant.2 c.in_ok-more.ensures.bytes.0),
    )
