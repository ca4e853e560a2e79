-- Laws of bytes put at an offset.
use Rattle.lemmas.proofs.Basics.{ℕ, ◌-◌, ◌≤◌, ◌<◌, arith, List, [], ◌∷◌, append-nil, ◌≡◌, sym, length, drop, length-drop, drop_of_length-le, take_all}
use borrow.Rule.Slice.PartMut.{mid_of, put_mid}
use Rattle.wire.specs.Parts.{onto}
use Rattle.wire.proofs.Writing.{onto_out, onto-none}
use Rattle.cases.specs.Building.{put_at}

-- The rest of a buffer from an offset on is lent, bytes are put there, and it comes back.
pub put_rest : (bs s : List ℕ) (at : ℕ) {last : List ℕ} → at ≤ length s → last ≡ onto bs (mid_of at (length s - at) s)
    → put_mid at (length s - at) s last ≡ put_at at bs s
unfolding put_at
put_rest bs s at {last} inside put =
    let whole : length (drop at s) ≤ length s - at = rw length-drop (omega arith) in
    rw (put, take_all (length s - at) (drop at s) whole, drop_of_length-le (drop at s) {i = length s - at} whole, append-nil (onto bs (drop at s)))

-- Past the end nothing is put.
pub put_past : (bs s : List ℕ) (at : ℕ) → length s < at → s ≡ put_at at bs s
unfolding put_at
put_past bs s at past = rw (take_all at s (omega arith), drop_of_length-le s {i = at} (omega arith), onto_empty bs) (sym (append-nil s))
  where
    onto_empty : (bs : List ℕ) → onto bs [] ≡ []
    onto_empty [] = onto-none []
    onto_empty (b ∷ bs) = onto_out (b ∷ bs) [] (omega arith)
