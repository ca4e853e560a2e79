-- Chunks are invisible in what `replay` answers: wherever a trace is cut into chunks, and wherever a replay stops, the text that it put and the
-- report of what is left, from the state that it answers, are the report of the whole.
use Rattle.lemmas.proofs.Basics.{ℕ, zero, suc, ◌+◌, ◌*◌, ◌/◌, ◌≤◌, ◌<◌, arith, Bool, true, false, cond, List, ◌∷◌, ◌++◌, ◌≡◌, refl, sym, ap, ap₂, ◌∙◌, length, take, drop, take-length, take-append-le, drop-append-le, drop-drop, length-append, length-drop}
use Rattle.report.specs.declared.State.{State}
use Rattle.report.specs.declared.Stopped.TheVariants.{Records}
use Rattle.report.specs.Records.{cut, records_of}
use Rattle.report.specs.Lines.{lines_from, total_line}
use Rattle.report.specs.Replaying.{after, report_from, replay_of}
use Rattle.report.proofs.Chunks.{records_next, report_split}
use Rattle.report.proofs.Replays.{faithful}

-- Of records that are cut from bytes: how many, the first of them, and those that lie in the first of two runs of bytes.
length_cut : (n : ℕ) (s : List ℕ) → length (cut n s) ≡ n
unfolding cut
length_cut zero s = refl
length_cut (suc n) s = ap suc (length_cut n (drop 37 s))

cut-take : (n k : ℕ) (s : List ℕ) → k ≤ n → take k (cut n s) ≡ cut k s
unfolding cut
cut-take n zero s h = refl
cut-take zero (suc k) s h = absurd (omega arith)
cut-take (suc n) (suc k) s h = ap (λ t. take 37 s ∷ t) (cut-take n k (drop 37 s) (omega arith))

cut_left : (k : ℕ) (a b : List ℕ) → 37 * k ≤ length a → cut k (a ++ b) ≡ cut k a
unfolding cut
cut_left zero a b h = refl
cut_left (suc k) a b h =
    let whole : 37 ≤ length a = omega arith in
    let rest : 37 * k ≤ length (drop 37 a) = rw length-drop (omega arith) in
    ap₂ (λ s t. s ∷ cut k t) (take-append-le 37 a b whole) (drop-append-le 37 a b whole) ∙ ap (λ t. take 37 a ∷ t) (cut_left k (drop 37 a) b rest)

-- A number of records of a chunk, and the first of them.
used_few : (ends : Bool) (s : List ℕ) (k : ℕ) → k ≤ length (records_of ends s) → k ≤ (length s + cond ends 36 0) / 37
unfolding records_of
used_few ends s k h = rw (length_cut ((length s + cond ends 36 0) / 37) s) at h

first_used : (ends : Bool) (s : List ℕ) (k : ℕ) → k ≤ (length s + cond ends 36 0) / 37 → take k (records_of ends s) ≡ cut k s
unfolding records_of
first_used ends s k h = cut-take ((length s + cond ends 36 0) / 37) k s h

-- The records of a trace are its first whole ones and those of what is behind them.
records_from : (k : ℕ) (s : List ℕ) → 37 * k ≤ length s → records_of true s ≡ cut k s ++ records_of true (drop (37 * k) s)
unfolding cut
records_from zero s h = refl
records_from (suc k) s h =
    let whole : 37 ≤ length s = omega arith in
    let rest : 37 * k ≤ length (drop 37 s) = rw length-drop (omega arith) in
    let sum : 37 + 37 * k ≡ 37 * suc k = omega arith in
    records_next true s (omega arith)
    ∙ ap (λ t. take 37 s ∷ t) (records_from k (drop 37 s) rest)
    ∙ ap (λ t. take 37 s ∷ (cut k (drop 37 s) ++ records_of true t)) (drop-drop (37 * k) 37 s ∙ ap (λ n. drop n s) sum)

-- What a replay used is the first records of the trace: its text, then the report of what is left, from its state.
goes_on_lem : (table : List ℕ) (st : State) (s left : List ℕ) (records : List (List ℕ)) (room : ℕ) → let r = replay_of table st records room in
    records_of true s ≡ take r.records records ++ records_of true left → report_from table st s ≡ r.text ++ report_from table r.state left
goes_on_lem table st s left records room split =
    let f = faithful table st records room in
    report_split table st s left (take (replay_of table st records room).records records) split
    ∙ ap₂ (λ t next. t ++ report_from table next left) (sym f.text) (sym f.state)

-- A chunk that is cut anywhere: what the replay used of it, then what it left of the chunk and all that follows.
pub chunk_goes_on : (table : List ℕ) (st : State) (a b : List ℕ) (room : ℕ) → let r = replay_of table st (records_of false a) room in
    report_from table st (a ++ b) ≡ r.text ++ report_from table r.state (drop (37 * r.records) a ++ b)
chunk_goes_on table st a b room =
    let k = (replay_of table st (records_of false a) room).records in
    let few = used_few false a k (faithful table st (records_of false a) room).some in
    let inside : 37 * k ≤ length a = omega arith in
    let longer : 37 * k ≤ length (a ++ b) = rw length-append (omega arith) in
    goes_on_lem table st (a ++ b) (drop (37 * k) a ++ b) (records_of false a) room
    (records_from k (a ++ b) longer
    ∙ ap₂ (λ xs t. xs ++ records_of true t) (cut_left k a b inside ∙ sym (first_used false a k few)) (drop-append-le (37 * k) a b inside))

-- The last chunk: the same where the replay stopped before its end; and with the total's line the whole, where it did not.
pub end-goes_on : (table : List ℕ) (st : State) (s : List ℕ) (room : ℕ) → let r = replay_of table st (records_of true s) room in
    r.records < length (records_of true s) → report_from table st s ≡ r.text ++ report_from table r.state (drop (37 * r.records) s)
end-goes_on table st s room before =
    let k = (replay_of table st (records_of true s) room).records in
    let few = used_few true s (suc k) before in
    let inside : 37 * k ≤ length s = omega arith in
    goes_on_lem table st s (drop (37 * k) s) (records_of true s) room
    (records_from k s inside ∙ ap (λ xs. xs ++ records_of true (drop (37 * k) s)) (sym (first_used true s k (omega arith))))

pub end_told : (table : List ℕ) (st : State) (s : List ℕ) (room : ℕ) → let r = replay_of table st (records_of true s) room in
    r.stopped ≡ Records → report_from table st s ≡ r.text ++ total_line r.state.tally
unfolding report_from
end_told table st s room stopped =
    let rs = records_of true s in
    let f = faithful table st rs room in
    let all : take (replay_of table st rs room).records rs ≡ rs = ap (λ n. take n rs) (rw stopped at f.reason) ∙ take-length rs in
    ap₂ (λ t next. t ++ total_line next.tally) (ap (lines_from table st.next) (sym all) ∙ sym f.text) (ap (after table st) (sym all) ∙ sym f.state)
