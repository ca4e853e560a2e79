-- A trace that is read and replayed in chunks is replayed whole.
use Rattle.lemmas.proofs.Basics.{ℕ, ◌+◌, ◌*◌, ◌≤◌, arith, Bool, true, false, List, [], ◌++◌, append-nil, append_assoc, ◌≡◌, refl, sym, ap, ◌∙◌, subst, length, take, length-take-le}
use Rattle.std.specs.Prelude.{Option, None, Some, ⊤, IfSome}
use Rattle.std.specs.Io.KnownBytes.{Appends, Consumes, IsAtEnd}
use Rattle.std.proofs.KnownBytes.{Appends-nil, Appends-trans}
use Rattle.wire.specs.Parts.{part_of}
use Rattle.wire.proofs.Parts.{part_in}
use Rattle.report.specs.declared.State.{State}
use Rattle.report.specs.Records.{records_of}
use Rattle.report.specs.Lines.{lines_from, total_line}
use Rattle.report.specs.Replaying.{start, after, report_from, report_of}
use Rattle.report.proofs.Chunks.{records-append, lines_append, after-append, after_none}
use Rattle.replay.specs.Cut.{OnlyLines}

-- known bytes are these records, and what is left of them
abbrev pub Records : Option (List ℕ) → Option (List ℕ) → List (List ℕ) → Type 0
Records None left records = ⊤
Records (Some trace) None records = ⊥
Records (Some trace) (Some left) records = records_of true trace ≡ records ++ records_of true left

-- A trace whose first records were read and replayed, and their lines written.
pub record Reading (table : List ℕ) (trace left before now : Option (List ℕ)) (state : State) : Type 0 where
  pub records : List (List ℕ)
  pub read : Records trace left records
  pub behind : state ≡ after table start records
  pub text : Appends before now (lines_from table 1 records)

pub begun : (table : List ℕ) (trace before : Option (List ℕ)) (state : State) → state ≡ start → Reading table trace trace before before state
unfolding lines_from
begun table trace before state is = record { records = []; read = none trace; behind = is ∙ sym (after_none table start); text = Appends-nil before }
  where
    none : (trace : Option (List ℕ)) → Records trace trace []
    none None = tt
    none (Some s) = refl

module _ (table : List ℕ) (trace left before now : Option (List ℕ)) (state : State) (l : Reading table trace left before now state) where
  numbered : (ys : List (List ℕ)) → lines_from table state.next ys ≡ lines_from table (1 + length l.records) ys
  unfolding after start
  numbered ys = ap (λ s. lines_from table s.next ys) l.behind

  -- records of a chunk whose lines were written
  joined : (ys : List (List ℕ)) (next : Option (List ℕ)) → Appends now next (lines_from table state.next ys) → Appends before next (lines_from table 1 (l.records ++ ys))
  joined ys next wrote =
      subst (Appends before next) (ap (λ t. lines_from table 1 l.records ++ t) (numbered ys) ∙ sym (lines_append table 1 l.records ys)) (Appends-trans before now next _ _ l.text wrote)

  onward : (ys : List (List ℕ)) (st : State) → st ≡ after table state ys → st ≡ after table start (l.records ++ ys)
  onward ys st is = is ∙ ap (λ s. after table s ys) l.behind ∙ sym (after-append table start l.records ys)

  pub cut_lines : (next : Option (List ℕ)) (records : List (List ℕ)) → (n : ℕ) × Appends now next (lines_from table state.next (take n records)) → OnlyLines table before next
  cut_lines next records some = (l.records ++ take some.0 records, joined (take some.0 records) next some.1)

  -- A chunk was read into a buffer, its first n bytes.
  module _ (buffer chunk : List ℕ) (n : ℕ) (inside : n ≤ length buffer) (is : chunk ≡ part_of buffer 0 n) (rest : Option (List ℕ)) (took : Consumes left rest (take n buffer)) where
    whole : chunk ≡ take n buffer
    whole = is ∙ part_in buffer 0 n (omega (arith, inside))

    size : length chunk ≡ n
    size = ap length whole ∙ length-take-le n buffer inside

    -- The buffer was filled: the trace goes on behind whole records.
    goes_on_lem : (m : ℕ) → n ≡ 37 * m → (trace left rest : Option (List ℕ)) → Records trace left l.records → Consumes left rest (take n buffer)
        → Records trace rest (l.records ++ records_of false chunk)
    goes_on_lem m full None left rest p q = tt
    goes_on_lem m full (Some s) None rest p q = absurd p
    goes_on_lem m full (Some s) (Some t) None p q = absurd q
    goes_on_lem m full (Some s) (Some t) (Some u) p q =
        p ∙ ap (λ ys. l.records ++ ys)
        (ap (records_of true) (q ∙ ap (λ a. a ++ u) (sym whole)) ∙ records-append true m chunk u (size ∙ full))
        ∙ sym (append_assoc l.records (records_of false chunk) (records_of true u))

    pub goes_on : (m : ℕ) → n ≡ 37 * m → (ends : Bool) → ends ≡ false → (next : Option (List ℕ)) (st : State) → st ≡ after table state (records_of ends chunk)
        → Appends now next (lines_from table state.next (records_of ends chunk)) → Reading table trace rest before next st
    goes_on m full ends more next st came wrote =
        let e : records_of ends chunk ≡ records_of false chunk = ap (λ b. records_of b chunk) more in
        record {
          records = l.records ++ records_of false chunk;
          read = goes_on_lem m full trace left rest l.read took;
          behind = onward (records_of false chunk) st (came ∙ ap (after table state) e);
          text = joined (records_of false chunk) next (subst (λ ys. Appends now next (lines_from table state.next ys)) e wrote);
        }

    -- The trace ended: its lines, and then the total.
    ended : (trace left rest : Option (List ℕ)) (P : List (List ℕ) → Type 0) → Records trace left l.records → Consumes left rest (take n buffer) → IsAtEnd rest
        → P (l.records ++ records_of true chunk) → IfSome trace (λ s. P (records_of true s))
    ended None left rest P p q end h = tt
    ended (Some s) None rest P p q end h = absurd p
    ended (Some s) (Some t) None P p q end h = absurd q
    ended (Some s) (Some t) (Some u) P p q end h =
        let last : t ≡ chunk = q ∙ ap (λ a. take n buffer ++ a) end ∙ append-nil (take n buffer) ∙ sym whole in
        subst P (sym (p ∙ ap (λ a. l.records ++ records_of true a) last)) h

    pub reported : IsAtEnd rest → (ends : Bool) → ends ≡ true → (next last : Option (List ℕ)) (st : State) → st ≡ after table state (records_of ends chunk)
        → Appends now next (lines_from table state.next (records_of ends chunk)) → Appends next last (total_line st.tally)
        → IfSome trace (λ s. Appends before last (report_of table s))
    unfolding report_of report_from start
    reported end ends done next last st came wrote total =
        let e : records_of ends chunk ≡ records_of true chunk = ap (λ b. records_of b chunk) done in
        let all = l.records ++ records_of true chunk in
        let behind : st ≡ after table start all = onward (records_of true chunk) st (came ∙ ap (after table state) e) in
        let lines : Appends before next (lines_from table 1 all) = joined (records_of true chunk) next (subst (λ ys. Appends now next (lines_from table state.next ys)) e wrote) in
        ended trace left rest (λ xs. Appends before last (lines_from table 1 xs ++ total_line (after table start xs).tally)) l.read took end
        (Appends-trans before next last _ _ lines (subst (λ s. Appends next last (total_line s.tally)) behind total))
