-- What a replay of records into so much room comes to: the lines of the first of them, which fit, and the state behind these; and it stops only
-- for its reason.
use Rattle.lemmas.proofs.Basics.{ℕ, suc, ◌+◌, ◌-◌, ◌≤◌, ◌<◌, arith, false, cond, List, [], ◌∷◌, ◌++◌, ◌≡◌, refl, sym, ap, ◌∙◌, ltb, length, get_or, take, length-append, ltb-true, ltb-false}
use Rattle.lemmas.proofs.Cases.{by_cases}
use Rattle.report.specs.declared.State.{State}
use Rattle.report.specs.declared.Stopped.{Stopped}
use Rattle.report.specs.declared.Stopped.TheVariants.{Records, Room, Full}
use Rattle.report.specs.Records.{answer_to}
use Rattle.report.specs.Lines.{line_of, lines_from}
use Rattle.report.specs.Replaying.{after, counts, line_room, Replayed, halt, behind, replay_of}
use Rattle.report.proofs.Lines.{length_line}
use Rattle.report.proofs.Chunks.{after-append, after_none}

-- why it stopped: no record is left; or one is, and a line might not fit behind the text; or one is, and a count does not fit
abbrev pub Because : List ℕ → List (List ℕ) → ℕ → Replayed → Stopped → Type 0
Because table records room r Records = r.records ≡ length records
Because table records room r Room = (r.records < length records) × (room < length r.text + line_room)
Because table records room r Full = (r.records < length records) × (counts table r.state (get_or records r.records []) ≡ false)

pub record Faithful (table : List ℕ) (st : State) (records : List (List ℕ)) (room : ℕ) (r : Replayed) : Type 0 where
  -- of the records the first, their lines in order, which fit, and the state behind them
  pub some : r.records ≤ length records
  pub text : r.text ≡ lines_from table st.next (take r.records records)
  pub within : length r.text ≤ room
  pub state : r.state ≡ after table st (take r.records records)
  pub reason : Because table records room r r.stopped

because_next : (table : List ℕ) (s : List ℕ) (records : List (List ℕ)) (room : ℕ) (line : List ℕ) (r : Replayed) (why : Stopped) → length line ≤ room
    → Because table records (room - length line) r why → Because table (s ∷ records) room (behind 1 line r) why
because_next table s records room line r Records fits b = omega arith
because_next table s records room line r Room fits b = (omega (arith, b.0), omega (arith, b.1, length-append line r.text))
because_next table s records room line r Full fits b =
    let next : 1 + r.records ≡ suc r.records = omega arith in
    (omega (arith, b.0), ap (λ n. counts table r.state (get_or (s ∷ records) n [])) next ∙ b.1)

-- A replay of records is faithful, whatever they are.
pub faithful : (table : List ℕ) (st : State) (records : List (List ℕ)) (room : ℕ) → Faithful table st records room (replay_of table st records room)
unfolding replay_of lines_from after
faithful table st [] room = record { some = omega arith; text = refl; within = omega arith; state = sym (after_none table st); reason = refl }
faithful table st (s ∷ records) room =
    by_cases (λ t. Faithful table st (s ∷ records) room (cond t (halt Room st) (cond (counts table st s) more (halt Full st)))) (ltb room line_room)
    (λ q. record { some = omega arith; text = refl; within = omega arith; state = sym (after_none table st); reason = (omega arith, omega (arith, ltb-true room line_room q)) })
    (λ q. by_cases (λ t. Faithful table st (s ∷ records) room (cond t more (halt Full st))) (counts table st s)
    (λ _. onward (faithful table (after table st (s ∷ [])) records (room - length line)) (ltb-false room line_room q))
    (λ full. record { some = omega arith; text = refl; within = omega arith; state = sym (after_none table st); reason = (omega arith, full) }))
  where
    line : List ℕ
    line = line_of st.next (answer_to table s)

    rest : Replayed
    rest = replay_of table (after table st (s ∷ [])) records (room - length line)

    more : Replayed
    more = behind 1 line rest

    onward : Faithful table (after table st (s ∷ [])) records (room - length line) rest → line_room ≤ room → Faithful table st (s ∷ records) room more
    onward ih enough =
        let next : 1 + rest.records ≡ suc rest.records = omega arith in
        let fits : length line ≤ room = omega (arith, length_line st.next (answer_to table s)) in
        record {
          some = omega (arith, ih.some);
          text = ap (λ t. line ++ t) ih.text ∙ ap (λ n. lines_from table st.next (take n (s ∷ records))) (sym next);
          within = omega (arith, length-append line rest.text, ih.within);
          state = ih.state ∙ sym (after-append table st (s ∷ []) (take rest.records records)) ∙ ap (λ n. after table st (take n (s ∷ records))) (sym next);
          reason = because_next table s records room line rest rest.stopped fits ih.reason;
        }
