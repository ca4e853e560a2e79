-- The loop of a replay: what is done so far, and that what is left gives the whole.
use Rattle.lemmas.proofs.Basics.{ℕ, ◌+◌, ◌-◌, ◌*◌, ◌%◌, ◌≤◌, ◌<◌, min, arith, sub-zero, Bool, true, false, cond, List, [], ◌∷◌, ◌++◌, append-nil, append_assoc, ◌≡◌, refl, sym, ap, ap₂, ◌∙◌, length, take, drop, length-append, drop_of_length-le, length-take-le, take_at, take_all, drop_at, lt-ltb, le-ltb}
use Rattle.std.specs.Borrow.{Bor, GName}
use Rattle.std.specs.Prelude.{Result, Some, None}
use Rattle.std.specs.Slice.Iter.{chunks_rest, chunks_size, chunks_steps}
use Rattle.std.specs.declared.slice.Chunks.{Chunks}
use Rattle.refusal.specs.declared.Refusal.{Refusal}
use Rattle.getkey.specs.declared.Granted.{Granted}
use Rattle.lemmas.proofs.Cases.{by_cases}
use Rattle.wire.specs.Parts.{onto}
use Rattle.wire.proofs.Writing.{onto-none, length-onto}
use Rattle.line.specs.Text.{Buffer, buffer, put_all}
use Rattle.line.proofs.Lines.{put-pieces}
use Rattle.report.specs.declared.State.{State}
use Rattle.report.specs.declared.Progress.{Progress}
use Rattle.report.specs.declared.Stopped.{Stopped}
use Rattle.report.specs.declared.Stopped.TheVariants.{Records, Room, Full}
use Rattle.report.specs.Records.{records_of, recorded, answer_to}
use Rattle.report.specs.Lines.{line_words, line_of}
use Rattle.report.specs.Replaying.{stepped, after, counts, step_of, line_room, Replayed, halt, behind, replay_of, progress_of}
use Rattle.report.proofs.Lines.{length_line}
use Rattle.report.proofs.Chunks.{records_next, records-none, recorded_same}

-- What a step says of the record.
pub record Took (table : List ℕ) (st : State) (s : List ℕ) (n : ℕ) (a : Result Granted Refusal) (next : State) : Type 0 where
  pub counted : counts table st s ≡ true
  pub number : n ≡ st.next
  pub answer : a ≡ answer_to table s
  pub state : next ≡ after table st (s ∷ [])

step_took : (table : List ℕ) (st : State) (s : List ℕ) {n : ℕ} {a : Result Granted Refusal} {next : State} → step_of table st s ≡ Some (stepped n a next) → Took table st s n a next
unfolding step_of
step_took table st s {n} {a} {next} e =
    by_cases (λ t. cond t (Some (stepped st.next (answer_to table s) (after table st (s ∷ [])))) None ≡ Some (stepped n a next) → Took table st s n a next) (counts table st s)
    (λ q w. let same : stepped n a next ≡ stepped st.next (answer_to table s) (after table st (s ∷ [])) = cc in
    record { counted = q; number = ap (λ w. w.number) same; answer = ap (λ w. w.answer) same; state = ap (λ w. w.state) same })
    (λ q w. let z : ◌≡◌ {A = ℕ} 0 1 = cc in absurd (omega arith))
    e

step_full : (table : List ℕ) (st : State) (s : List ℕ) → step_of table st s ≡ None → counts table st s ≡ false
unfolding step_of
step_full table st s e =
    by_cases (λ t. cond t (Some (stepped st.next (answer_to table s) (after table st (s ∷ [])))) None ≡ None → t ≡ false) (counts table st s)
    (λ q w. let z : ◌≡◌ {A = ℕ} 0 1 = cc in absurd (omega arith))
    (λ q w. refl)
    e

-- The first 37 bytes, or what there is of them, and what is left behind them.
parts : (s rest : List ℕ) → length s ≡ min 37 (length (s ++ rest)) → (take 37 (s ++ rest) ≡ s) × (drop 37 (s ++ rest) ≡ rest)
parts s [] size =
    let short : length s ≤ 37 = omega (arith, size) in
    rw append-nil (take_all 37 s (omega arith), drop_of_length-le s {i = 37} (omega arith))
parts s (x ∷ rest) size = let whole : length s ≡ 37 = omega (arith, length-append s (x ∷ rest)) in (take_at s _ 37 whole, drop_at s _ 37 whole)

-- the table and the chunk, the output as it was lent and the state at the start; the output, the records that are left and the progress now
pub record Replaying (table chunk : List ℕ) (lender : GName) (lent : List ℕ) (ends : Bool) (first : State) (out : Buffer) (left : Chunks ℕ) (p : Progress) : Type 0 where
  pub passed : ℕ
  pub done : List ℕ
  pub size : chunks_size left ≡ 37
  pub rest : length (chunks_rest left) ≡ length (recorded ends chunk) - 37 * passed
  pub few : 37 * passed < length (recorded ends chunk) + 37
  pub stopped : p.stopped ≡ Records
  pub used : p.used ≡ length (recorded ends chunk) - length (chunks_rest left)
  pub written : p.written ≡ length done
  pub within : length done ≤ length lent
  pub output : out ≡ buffer lender (onto done lent) (length done)
  pub whole : replay_of table first (records_of ends chunk) (length lent) ≡ behind passed done (replay_of table p.state (records_of true (chunks_rest left)) (length lent - length done))

pub replaying_start : (table chunk : List ℕ) (lender : GName) (lent : List ℕ) (ends : Bool) (st : State) (left : Chunks ℕ) → chunks_size left ≡ 37 → chunks_rest left ≡ recorded ends chunk
    → Replaying table chunk lender lent ends st (buffer lender lent 0) left (record { stopped = Records; used = 0; written = 0; state = st })
replaying_start table chunk lender lent ends st left size all =
    let none : (n : ℕ) → n ≡ 0 + n = λ n. omega arith in
    let r = replay_of table st (records_of ends chunk) (length lent) in
    let same = ap length all in
    record {
      passed = 0;
      done = [];
      size = size;
      rest = omega (arith, same);
      few = omega arith;
      stopped = refl;
      used = omega (arith, same);
      written = refl;
      within = omega arith;
      output = ap (λ s. buffer lender s 0) (sym (onto-none lent));
      whole = (λ i. record { stopped = r.stopped; records = none r.records i; text = r.text; state = r.state })
          ∙ ap₂ (λ rs n. behind 0 [] (replay_of table st rs n)) (recorded_same ends chunk ∙ ap (records_of true) (sym all)) (sym (sub-zero (length lent)));
    }

-- A record whose line is sure to fit, and which counts, is the first of what is replayed.
replay_one : (table : List ℕ) (st : State) (s : List ℕ) (records : List (List ℕ)) (room : ℕ) {n : ℕ} {a : Result Granted Refusal} {next : State} → line_room ≤ room → Took table st s n a next
    → replay_of table st (s ∷ records) room ≡ behind 1 (line_of n a) (replay_of table next records (room - length (line_of n a)))
unfolding replay_of
replay_one table st s records room enough t =
    rw (le-ltb room line_room enough, t.counted)
    (λ i. let line = line_of (sym t.number i) (sym t.answer i) in behind 1 line (replay_of table (sym t.state i) records (room - length line)))

behind-again : (p : ℕ) (d line : List ℕ) (r : Replayed) → behind p d (behind 1 line r) ≡ behind (p + 1) (d ++ line) r
behind-again p d line r =
    let sum : p + (1 + r.records) ≡ p + 1 + r.records = omega arith in
    λ i. record { stopped = r.stopped; records = sum i; text = sym (append_assoc d line r.text) i; state = r.state }

module _ {table chunk : List ℕ} {lender : GName} {lent : List ℕ} {ends : Bool} {first : State} {out : Buffer} {left : Chunks ℕ} {p : Progress} (r : Replaying table chunk lender lent ends first out left p) where
  room_left : length out.bytes - out.len ≡ length lent - length r.done
  room_left = omega (arith, ap (λ b. b.len) r.output, ap (λ b. length b.bytes) r.output, length-onto r.done lent)

  pub text_inside : out.len ≤ length out.bytes
  text_inside = omega (arith, ap (λ b. b.len) r.output, ap (λ b. length b.bytes) r.output, length-onto r.done lent, r.within)

  -- A record that comes is the first of those that are left.
  records_left : (s : Bor (List ℕ)) (rest : Chunks ℕ) → chunks_steps left (Some s) rest → records_of true (chunks_rest left) ≡ s.now ∷ records_of true (chunks_rest rest)
  records_left s rest steps =
      let cut = steps.1 in
      let first = parts s.now (chunks_rest rest) (cut.1 ∙ ap₂ (λ n t. min n (length t)) r.size cut.0) in
      records_next true (chunks_rest left) (omega (arith, cut.2)) ∙ ap (λ t. take 37 t ∷ records_of true (drop 37 t)) cut.0
      ∙ ap₂ (λ a b. a ∷ records_of true b) first.0 first.1

  -- One record more.
  pub replaying_again : (s : Bor (List ℕ)) (rest : Chunks ℕ) {n : ℕ} {a : Result Granted Refusal} {next : State} {now : Buffer} → chunks_steps left (Some s) rest → line_room ≤ length out.bytes - out.len
      → step_of table p.state s.now ≡ Some (stepped n a next) → now ≡ put_all out (line_words n a)
      → Replaying table chunk lender lent ends first now rest (record { stopped = Records; used = p.used + length s.now; written = now.len; state = next })
  unfolding line_of
  replaying_again s rest {n} {a} {next} {now} steps enough is put =
      let t = step_took table p.state s.now is in
      let line = line_of n a in
      let cut = steps.1 in
      let sum = length-append r.done line in
      let fits : length (r.done ++ line) ≤ length lent = omega (arith, length_line n a, room_left, r.within) in
      let placed : now ≡ buffer lender (onto (r.done ++ line) lent) (length (r.done ++ line)) =
      put ∙ ap (λ b. put_all b (line_words n a)) r.output ∙ put-pieces r.done lent (line_words n a) fits
      in
      let left-room : length lent - length r.done - length line ≡ length lent - length (r.done ++ line) = omega arith in
      let taken : length s.now ≡ min 37 (length (chunks_rest left)) = cut.1 ∙ ap (λ n. min n (length (chunks_rest left))) r.size in
      let cut-size : length (chunks_rest left) ≡ length s.now + length (chunks_rest rest) = ap length cut.0 ∙ length-append s.now (chunks_rest rest) in
      let one =
      ap (λ rs. replay_of table p.state rs (length lent - length r.done)) (records_left s rest steps)
      ∙ replay_one table p.state s.now (records_of true (chunks_rest rest)) (length lent - length r.done) (omega (arith, room_left)) t
      ∙ ap (λ k. behind 1 line (replay_of table next (records_of true (chunks_rest rest)) k)) left-room
      in
      record {
        passed = r.passed + 1;
        done = r.done ++ line;
        size = steps.0 ∙ r.size;
        rest = omega (arith, r.rest, taken);
        few = omega (arith, r.rest, cut.2);
        stopped = refl;
        used = omega (arith, r.used, r.rest);
        written = ap (λ b. b.len) placed;
        within = fits;
        output = placed;
        whole = r.whole ∙ ap (behind r.passed r.done) one ∙ behind-again r.passed r.done line _;
      }

  used_is : (ends : Bool) (n : ℕ) → 37 * n < length (recorded ends chunk) + 37 → min (37 * n) (length (recorded ends chunk)) ≡ min (37 * n) (length chunk)
  unfolding recorded
  used_is true n few = refl
  used_is false n few = let size = length-take-le (length chunk - length chunk % 37) chunk (omega arith) in omega arith

  -- what is replayed in all, and what a replay that stops says
  abbrev pub whole : Replayed
  whole = replay_of table first (records_of ends chunk) (length lent)

  abbrev pub Told : Stopped → Type 0
  Told why =
      let now : Progress = record { stopped = why; used = p.used; written = p.written; state = p.state } in
      record { answer : now ≡ progress_of (length chunk) whole; output : out ≡ buffer lender (onto whole.text lent) (length whole.text) }

  -- No more: what was replayed is the whole.
  pub replaying_stop : (why : Stopped) → replay_of table p.state (records_of true (chunks_rest left)) (length lent - length r.done) ≡ halt why p.state → Told why
  unfolding progress_of
  replaying_stop why halted =
      let all = r.whole ∙ ap (behind r.passed r.done) halted in
      let n = r.passed + 0 in
      let used : p.used ≡ min (37 * n) (length chunk) = r.used ∙ omega (arith, r.rest) ∙ used_is ends n (omega (arith, r.few)) in
      let text : r.done ≡ r.done ++ [] = sym (append-nil r.done) in
      record {
        answer = (λ i. record { stopped = why; used = used i; written = (r.written ∙ ap length text) i; state = p.state }) ∙ ap (progress_of (length chunk)) (sym all);
        output = r.output ∙ ap (λ t. buffer lender (onto t lent) (length t)) (text ∙ ap (λ w. w.text) (sym all));
      }

  -- Why it stops: no record; no room that is sure to do; a count that does not fit.
  pub no_record : (rest : Chunks ℕ) → chunks_steps left None rest → Told p.stopped
  unfolding replay_of
  no_record rest steps = rw r.stopped (replaying_stop Records (ap (λ rs. replay_of table p.state rs (length lent - length r.done)) (records-none true (chunks_rest left) (omega (arith, steps.1.0)))))

  pub no_room : (s : Bor (List ℕ)) (rest : Chunks ℕ) → chunks_steps left (Some s) rest → length out.bytes - out.len < line_room → Told Room
  unfolding replay_of
  no_room s rest steps small =
      replaying_stop Room
      (ap (λ rs. replay_of table p.state rs (length lent - length r.done)) (records_left s rest steps) ∙ rw (lt-ltb (length lent - length r.done) line_room (omega (arith, room_left))))

  pub no_count : (s : Bor (List ℕ)) (rest : Chunks ℕ) → chunks_steps left (Some s) rest → line_room ≤ length out.bytes - out.len → step_of table p.state s.now ≡ None → Told Full
  unfolding replay_of
  no_count s rest steps enough full =
      replaying_stop Full
      (ap (λ rs. replay_of table p.state rs (length lent - length r.done)) (records_left s rest steps)
      ∙ rw (le-ltb (length lent - length r.done) line_room (omega (arith, room_left)), step_full table p.state s.now full))
