-- A chunk that is replayed in pieces, as many records at a time as the output holds, is replayed whole.
use Rattle.lemmas.proofs.Basics.{ℕ, zero, suc, ◌+◌, ◌-◌, ◌*◌, ◌/◌, ◌≤◌, ◌<◌, arith, Bool, true, false, List, ◌++◌, ◌≡◌, refl, sym, ap, ◌∙◌, subst, min, length, take, drop, take-add, take-length, take_all, drop-drop, length-drop}
use Rattle.std.specs.Prelude.{Option}
use Rattle.std.specs.Io.KnownBytes.{Appends}
use Rattle.std.proofs.KnownBytes.{Appends-nil, Appends-trans}
use Rattle.wire.specs.Parts.{part_of, onto}
use Rattle.wire.proofs.Parts.{part_in}
use Rattle.wire.proofs.Writing.{length-onto, take-onto}
use Rattle.report.specs.declared.State.{State}
use Rattle.report.specs.declared.Stopped.TheVariants.{Records, Room}
use Rattle.report.specs.declared.Progress.{Progress}
use Rattle.report.specs.Records.{cut, records_of}
use Rattle.report.specs.Lines.{lines_from}
use Rattle.report.specs.Replaying.{after, Replayed, replay_of, progress_of}
use Rattle.report.proofs.Chunks.{records_next, lines_append, after-append, after_none}
use Rattle.report.proofs.Replays.{Because, faithful}

-- the records behind the first k whole ones
records_behind : (ends : Bool) (k : ℕ) (s : List ℕ) → 37 * k ≤ length s → records_of ends (drop (37 * k) s) ≡ drop k (records_of ends s)
records_behind ends zero s h = refl
records_behind ends (suc k) s h =
    let whole : 37 ≤ length s = omega arith in
    let rest : 37 * k ≤ length (drop 37 s) = rw length-drop (omega arith) in
    let sum : 37 + 37 * k ≡ 37 * suc k = omega arith in
    ap (λ n. records_of ends (drop n s)) (sym sum) ∙ ap (records_of ends) (sym (drop-drop (37 * k) 37 s)) ∙ records_behind ends k (drop 37 s) rest
    ∙ ap (drop (suc k)) (sym (records_next ends s (omega arith)))

length_cut : (n : ℕ) (s : List ℕ) → length (cut n s) ≡ n
unfolding cut
length_cut zero s = refl
length_cut (suc n) s = ap suc (length_cut n (drop 37 s))

-- where a record is left behind k of them, these are whole
all_whole : (ends : Bool) (s : List ℕ) (k : ℕ) → k < length (records_of ends s) → 37 * k ≤ length s
unfolding records_of
all_whole true s k h = let few : k < (length s + 36) / 37 = subst (λ n. k < n) (length_cut ((length s + 36) / 37) s) h in omega (arith, few)
all_whole false s k h = let few : k < (length s + 0) / 37 = subst (λ n. k < n) (length_cut ((length s + 0) / 37) s) h in omega (arith, few)

-- A chunk of which the first records were replayed from a state on, and their lines written.
pub record Replaying (table chunk : List ℕ) (ends : Bool) (first : State) (before now : Option (List ℕ)) (at : ℕ) (present : State) : Type 0 where
  pub count : ℕ
  pub some : count ≤ length (records_of ends chunk)
  pub place : at ≡ 37 * count
  pub inside : at ≤ length chunk
  pub state : present ≡ after table first (take count (records_of ends chunk))
  pub text : Appends before now (lines_from table first.next (take count (records_of ends chunk)))

pub begun : (table chunk : List ℕ) (ends : Bool) (first : State) (before : Option (List ℕ)) → Replaying table chunk ends first before before 0 first
unfolding lines_from
begun table chunk ends first before =
    record { count = 0; some = omega arith; place = refl; inside = omega arith; state = sym (after_none table first); text = Appends-nil before }

-- What is put into the output by one replay, as it is written.
pub put : (text out : List ℕ) (n : ℕ) → length text ≤ length out → n ≡ length text → part_of (onto text out) 0 n ≡ text
put text out n fits size =
    let inside : 0 + n ≤ length (onto text out) = rw length-onto (omega arith) in
    part_in (onto text out) 0 n inside ∙ ap (λ k. take k (onto text out)) size ∙ take-onto text out fits

module _ (table chunk : List ℕ) (ends : Bool) (first : State) (before now : Option (List ℕ)) (at : ℕ) (present : State) (l : Replaying table chunk ends first before now at present) (room : ℕ) where
  abbrev pub replayed : Replayed
  replayed = replay_of table present (records_of ends (drop at chunk)) room

  abbrev pub all : List (List ℕ)
  all = records_of ends chunk

  left : records_of ends (drop at chunk) ≡ drop l.count all
  left = ap (λ n. records_of ends (drop n chunk)) l.place ∙ records_behind ends l.count chunk (omega (arith, l.place, l.inside))

  length_left : length (records_of ends (drop at chunk)) ≡ length all - l.count
  length_left = ap length left ∙ length-drop l.count all

  -- the records so far and those that were replayed now
  abbrev pub count : ℕ
  count = l.count + replayed.records

  fits : count ≤ length all
  fits = omega (arith, (faithful table present (records_of ends (drop at chunk)) room).some, length_left, l.some)

  joined : take count all ≡ take l.count all ++ take replayed.records (records_of ends (drop at chunk))
  joined = take-add l.count replayed.records all ∙ ap (λ t. take l.count all ++ take replayed.records t) (sym left)

  numbered : present.next ≡ first.next + length (take l.count all)
  unfolding after
  numbered = ap (λ s. s.next) l.state

  lines : lines_from table first.next (take count all) ≡ lines_from table first.next (take l.count all) ++ replayed.text
  lines =
      let f = faithful table present (records_of ends (drop at chunk)) room in
      ap (lines_from table first.next) joined ∙ lines_append table first.next (take l.count all) (take replayed.records (records_of ends (drop at chunk)))
      ∙ ap (λ t. lines_from table first.next (take l.count all) ++ t)
      (ap (λ n. lines_from table n (take replayed.records (records_of ends (drop at chunk)))) (sym numbered) ∙ sym f.text)

  pub state_now : replayed.state ≡ after table first (take count all)
  state_now =
      let f = faithful table present (records_of ends (drop at chunk)) room in
      f.state ∙ ap (λ s. after table s (take replayed.records (records_of ends (drop at chunk)))) l.state
      ∙ sym (after-append table first (take l.count all) (take replayed.records (records_of ends (drop at chunk))))
      ∙ ap (after table first) (sym joined)

  text_now : (next : Option (List ℕ)) → Appends now next replayed.text → Appends before next (lines_from table first.next (take count all))
  text_now next wrote = subst (Appends before next) (sym lines) (Appends-trans before now next _ _ l.text wrote)

  pub within : length replayed.text ≤ room
  within = (faithful table present (records_of ends (drop at chunk)) room).within

  -- no room: the chunk goes on behind them
  pub goes_on : (next : Option (List ℕ)) (used : ℕ) → replayed.stopped ≡ Room → used ≡ min (37 * replayed.records) (length (drop at chunk)) → Appends now next replayed.text
      → Replaying table chunk ends first before next (at + used) replayed.state
  goes_on next used stopped is wrote =
      let f = faithful table present (records_of ends (drop at chunk)) room in
      let more : replayed.records < length (records_of ends (drop at chunk)) = (subst (Because table (records_of ends (drop at chunk)) room replayed) stopped f.reason).0 in
      let whole : 37 * replayed.records ≤ length (drop at chunk) = all_whole ends (drop at chunk) replayed.records more in
      let taken : used ≡ 37 * replayed.records = omega (arith, is, whole) in
      let size : length (drop at chunk) ≡ length chunk - at = length-drop at chunk in
      record {
        count = count;
        some = fits;
        place = omega (arith, l.place, taken);
        inside = omega (arith, taken, whole, size, l.inside);
        state = state_now;
        text = text_now next wrote;
      }

  -- no record is left: the chunk is replayed whole
  module _ (stopped : replayed.stopped ≡ Records) where
    every : take count all ≡ all
    every =
        let f = faithful table present (records_of ends (drop at chunk)) room in
        let none : replayed.records ≡ length (records_of ends (drop at chunk)) = subst (Because table (records_of ends (drop at chunk)) room replayed) stopped f.reason in
        let total : count ≡ length all = omega (arith, none, length_left, l.some) in
        ap (λ n. take n all) total ∙ take-length all

    pub whole_text : (next : Option (List ℕ)) → Appends now next replayed.text → Appends before next (lines_from table first.next all)
    whole_text next wrote = subst (λ t. Appends before next (lines_from table first.next t)) every (text_now next wrote)

    pub whole_state : replayed.state ≡ after table first all
    whole_state = state_now ∙ ap (after table first) every

  -- a count does not fit: the lines of the records before it
  pub some_text : (next : Option (List ℕ)) → Appends now next replayed.text → (n : ℕ) × Appends before next (lines_from table first.next (take n all))
  some_text next wrote = (count, text_now next wrote)

-- One turn of the loop: a replay of what is left of the chunk, and its lines, written from the output.
module _ (table chunk : List ℕ) (ends : Bool) (first : State) (before now : Option (List ℕ)) (at : ℕ) (present : State) (l : Replaying table chunk ends first before now at present)
    (out : List ℕ) (p : Progress) (put_out lines : List ℕ) where
  -- what is left of the chunk, as it is lent
  abbrev lent : List ℕ
  lent = take (length chunk - at) (drop at chunk)

  abbrev turn_of : List ℕ → Replayed
  turn_of s = replay_of table present (records_of ends s) (length out)

  abbrev turn : Replayed
  turn = turn_of (drop at chunk)

  lent_whole : lent ≡ drop at chunk
  lent_whole = take_all (length chunk - at) (drop at chunk) (omega (arith, length-drop at chunk))

  module _ (told : p ≡ progress_of (length lent) (turn_of lent)) where
    comes : p ≡ progress_of (length (drop at chunk)) turn
    comes = told ∙ ap (λ s. progress_of (length s) (turn_of s)) lent_whole

    stops : p.stopped ≡ turn.stopped
    unfolding progress_of
    stops = ap (λ q. q.stopped) comes

    uses : p.used ≡ min (37 * turn.records) (length (drop at chunk))
    unfolding progress_of
    uses = ap (λ q. q.used) comes

    writes : p.written ≡ length turn.text
    unfolding progress_of
    writes = ap (λ q. q.written) comes

    comes_to : p.state ≡ turn.state
    unfolding progress_of
    comes_to = ap (λ q. q.state) comes

    pub used_inside : at + p.used ≤ length chunk
    used_inside = omega (arith, uses, length-drop at chunk, l.inside)

    pub turn_state : p.stopped ≡ Records → p.state ≡ after table first (records_of ends chunk)
    turn_state stopped = comes_to ∙ whole_state table chunk ends first before now at present l (length out) (sym stops ∙ stopped)

    module _ (output : put_out ≡ onto (turn_of lent).text out) (is : lines ≡ part_of put_out 0 p.written) (next : Option (List ℕ)) (wrote : Appends now next lines) where
      wrote_text : Appends now next turn.text
      wrote_text =
          let filled : put_out ≡ onto turn.text out = output ∙ ap (λ s. onto (turn_of s).text out) lent_whole in
          subst (Appends now next)
          (is ∙ ap (λ o. part_of o 0 p.written) filled ∙ put turn.text out p.written (within table chunk ends first before now at present l (length out)) writes) wrote

      pub turn_text : p.stopped ≡ Records → Appends before next (lines_from table first.next (records_of ends chunk))
      turn_text stopped = whole_text table chunk ends first before now at present l (length out) (sym stops ∙ stopped) next wrote_text

      pub turn_goes_on : p.stopped ≡ Room → Replaying table chunk ends first before next (at + p.used) p.state
      turn_goes_on stopped =
          subst (Replaying table chunk ends first before next (at + p.used)) (sym comes_to)
          (goes_on table chunk ends first before now at present l (length out) next p.used (sym stops ∙ stopped) uses wrote_text)

      pub turn_cut : (n : ℕ) × Appends before next (lines_from table first.next (take n (records_of ends chunk)))
      turn_cut = some_text table chunk ends first before now at present l (length out) next wrote_text
