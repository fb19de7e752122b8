-- Labels have no influence: logs that differ in labels only are read alike, refusals and their places included, and have the same check.
use mathlib.Core.Path.{◌≡◌, refl, sym, ◌∙◌}
use mathlib.Core.Bool.{Bool, true, false}
use mathlib.Core.List.{List, [], ◌∷◌}
use mathlib.Core.Logic.{⊎_elim}
use Prim.Native.Nat.{ℕ, zero, suc, ◌+◌, ◌*◌, ◌<◌, ◌≤◌}
use native.Mathlib.Omega.{arith}
use lib.Dec.{leb, ltb}
use lib.ListN.{length, take, drop, get_or, set, length-set, length-take, length-drop}
use lib.Seq.{get_or-take, get_or-drop, get_or-set_other, ext_get_or}
use Rattle.answers.specs.declared.refusal.Refusal.TheVariants.{LogExtent, EventRegister}
use Rattle.log_answers.specs.declared.reading.Layout.{Layout}
use Rattle.fields.specs.Fields.{number_in, number_at}
use Rattle.layout.specs.Layout.{end_after, and_then, reads, section_end, salt_end, registers_end, events_end, event_section_end, claims_end, reading_of}
use Rattle.layout.specs.Layout.{salt_of, starts_of, events_of, claims_of}
use Rattle.records.specs.Events.{event_list, extensions}
use Rattle.bootlog.specs.Replay.{salt_in_effect, replayed, end_values}
use Rattle.bootlog.specs.Check.{ends_of, log_records, verdict_of, checked_at, check_of, check_buffer}
use Rattle.layout.proofs.Sections.{section, event_section}
use Rattle.layout.proofs.Sizes.{counts}
use Rattle.records.proofs.Events.{event_at, extensions_more}
use Rattle.records.proofs.Banks.{records_equal}
use Rattle.bootlog.proofs.Logs.{event_cons, log_blocks}
use Rattle.bootlog.proofs.Verdicts.{check_answer, check_buffer_lem, refused_answer, refused_buffer}
use Rattle.log_laws.specs.Labels.{third_at, LabelByte, LabelsOnly}
use Rattle.std.specs.Prelude.{Result, Ok, Err}
use Rattle.log_answers.specs.declared.reading.Fault.{Fault}

-- what follows a section matters only where that section ends
reads_same : {p q : Result ℕ Fault} (f g : ℕ → Result Layout Fault) → p ≡ q → ((i : ℕ) → p ≡ Ok i → f i ≡ g i) → reads p f ≡ reads q g
reads_same {p = Ok i} f g e h = rw (← e) (h i refl)
reads_same {p = Err x} f g e h = rw (← e)

then_same : {p q : Result ℕ Fault} (f g : ℕ → Result ℕ Fault) → p ≡ q → ((i : ℕ) → p ≡ Ok i → f i ≡ g i) → and_then p f ≡ and_then q g
then_same {p = Ok i} f g e h = rw (← e) (h i refl)
then_same {p = Err x} f g e h = rw (← e)

-- and what follows an event only behind it
next_same : (s t : Bool) (size i : ℕ) (f g : ℕ → Result ℕ Fault) → f (i + 36) ≡ g (i + 36)
    → and_then (end_after ((s, LogExtent, size) ∷ (t, EventRegister, i) ∷ []) (i + 36)) f
    ≡ and_then (end_after ((s, LogExtent, size) ∷ (t, EventRegister, i) ∷ []) (i + 36)) g
next_same true t size i f g h = refl
next_same false true size i f g h = refl
next_same false false size i f g h = h

module _ (log : List ℕ) where
  -- the places of the second count and the third
  salt_place_lem : (j : ℕ) → salt_end log ≡ Ok j → j ≡ 2 + number_at log 0
  unfolding salt_end
  salt_place_lem j e = omega (arith, (section log 0 _ 1 j e).end)

  registers_place : (i j : ℕ) → registers_end log i ≡ Ok j → j ≡ i + 2 + 32 * number_at log i
  unfolding registers_end
  registers_place i j e = sym (section log i _ 32 j e).end

  third_place : (i j : ℕ) → i ≡ 2 + number_at log 0 → j ≡ i + 2 + 32 * number_at log i → j ≡ third_at log
  unfolding third_at
  third_place i j s r = rw s at r

  -- no label has a byte among the n from place i on
  abbrev Clear : ℕ → ℕ → Type 0
  Clear i n = (k : ℕ) → k < number_at log (third_at log) → i < third_at log + 36 * k + 6 → third_at log + 36 * k + 4 < i + n → ⊥

module _ (log log' : List ℕ) (d : LabelsOnly log log') where
  byte_same : (i n : ℕ) → Clear log i n → (j : ℕ) → i ≤ j → j < i + n → get_or log j 0 ≡ get_or log' j 0
  byte_same i n c j p q = d.same j (λ l.
      let h = c l.event l.counted in
      ⊎_elim (λ e. h (omega arith) (omega arith)) (λ e. h (omega arith) (omega arith)) l.byte)

  number_same : (i : ℕ) → Clear log i 2 → number_at log i ≡ number_at log' i
  unfolding number_in
  number_same i c = rw (byte_same i 2 c i (omega arith) (omega arith), byte_same i 2 c (i + 1) (omega arith) (omega arith))

  part_same : (i n : ℕ) → Clear log i n → take n (drop i log) ≡ take n (drop i log')
  part_same i n c = ext_get_or 0 _ _ (simp (length-take, length-drop, d.size)) (λ j h.
      let g : j < n = omega (arith, length-take n (drop i log)) in
      rw (get_or-take n (drop i log) j 0 g, get_or-take n (drop i log') j 0 g, get_or-drop i log j 0, get_or-drop i log' j 0)
      (byte_same i n c (i + j) (omega arith) (omega arith)))

  first_same : number_at log 0 ≡ number_at log' 0
  first_same = number_same 0 (omega arith)

  second_same : number_at log (2 + number_at log 0) ≡ number_at log' (2 + number_at log 0)
  unfolding third_at
  second_same = number_same (2 + number_at log 0) (omega arith)

  third_same : number_at log (third_at log) ≡ number_at log' (third_at log)
  third_same = number_same (third_at log) (omega arith)

  -- an event's register
  register_same : (k : ℕ) → number_at log (third_at log + 2 + 36 * k) ≡ number_at log' (third_at log + 2 + 36 * k)
  register_same k = number_same (third_at log + 2 + 36 * k) (omega arith)

  -- where the sections end
  salt_end_lem : salt_end log ≡ salt_end log'
  unfolding salt_end section_end
  salt_end_lem = cc (d.size, first_same)

  registers_end_lem : (i : ℕ) → number_at log i ≡ number_at log' i → registers_end log i ≡ registers_end log' i
  unfolding registers_end section_end
  registers_end_lem i r = cc d.size

  events_end_lem : (r n k : ℕ) → events_end log r (third_at log + 2 + 36 * k) n ≡ events_end log' r (third_at log + 2 + 36 * k) n
  unfolding events_end
  events_end_lem r zero k = refl
  events_end_lem r (suc n) k =
      let i = third_at log + 2 + 36 * k in
      let z : i + 36 ≡ third_at log + 2 + 36 * suc k = omega arith in
      rw (d.size, register_same k)
      (next_same (ltb (length log') (i + 36)) (leb r (number_at log' i)) (length log') i (λ next. events_end log r next n) (λ next. events_end log' r next n)
      (rw z (events_end_lem r n (suc k))))

  event_section_end_lem : {r r' i : ℕ} → r ≡ r' → i ≡ third_at log → event_section_end log r i ≡ event_section_end log' r' i
  unfolding event_section_end section_end
  event_section_end_lem {r} {r'} {i} e t =
      let n : number_at log i ≡ number_at log' i = rw t third_same in
      let p : section_end log i (leb (number_at log i) 1024) 0 ≡ section_end log' i (leb (number_at log' i) 1024) 0 = cc d.size in
      then_same _ _ p (λ from q.
      let z : from ≡ third_at log + 2 + 36 * 0 = omega (arith, (section log i (leb (number_at log i) 1024) 0 from q).end) in
      rw (z, e, n) (events_end_lem r' (number_at log' i) 0))

  claims_end_lem : {r r' : ℕ} (i : ℕ) → r ≡ r' → number_at log i ≡ number_at log' i → claims_end log r i ≡ claims_end log' r' i
  unfolding claims_end section_end
  claims_end_lem i e k = cc d.size

  reading_same : reading_of log ≡ reading_of log'
  unfolding reading_of
  reading_same =
      reads_same _ _ salt_end_lem (λ second e₁.
      let s = salt_place_lem log second e₁ in
      let r : number_at log second ≡ number_at log' second = rw s second_same in
      reads_same _ _ (registers_end_lem second r) (λ third e₂.
      let t = third_place log second third s (registers_place log second third e₂) in
      let n : number_at log third ≡ number_at log' third = rw t third_same in
      reads_same _ _ (event_section_end_lem r t) (λ fourth e₃.
      let f = rw t at (event_section log (number_at log second) third fourth e₃).events.end in
      let k : number_at log fourth ≡ number_at log' fourth = number_same fourth (omega arith) in
      reads_same _ _ (claims_end_lem fourth r k) (λ end e₄. cc (d.size, first_same)))))

  -- the replay looks at registers and digests alone
  replay_same : (salt : List ℕ) (n k : ℕ) (bank : List ℕ)
      → replayed salt (event_list n (take (36 * n) (drop (third_at log + 2 + 36 * k) log))) bank
      ≡ replayed salt (event_list n (take (36 * n) (drop (third_at log + 2 + 36 * k) log'))) bank
  unfolding event_list replayed
  replay_same salt zero k bank = refl
  replay_same salt (suc n) k bank =
      let i = third_at log + 2 + 36 * k in
      let z : i + 36 ≡ third_at log + 2 + 36 * suc k = omega arith in
      rw (event_cons log n i, event_cons log' n i, register_same k, part_same (i + 4) 32 (omega arith), z) (replay_same salt n (suc k) _)

  -- and so does the count of extensions
  extensions_same : (r n k : ℕ)
      → extensions r (event_list n (take (36 * n) (drop (third_at log + 2 + 36 * k) log))) ≡ extensions r (event_list n (take (36 * n) (drop (third_at log + 2 + 36 * k) log')))
  unfolding event_list
  extensions_same r zero k = refl
  extensions_same r (suc n) k =
      let i = third_at log + 2 + 36 * k in
      let z : i + 36 ≡ third_at log + 2 + 36 * suc k = omega arith in
      rw (event_cons log n i, event_cons log' n i, extensions_more r (event_at log i), extensions_more r (event_at log' i), register_same k, z, extensions_same r n (suc k))

  -- the sections of a log that was read, and what the check makes of them
  module _ (at : Layout) (e : reading_of log ≡ Ok at) (e' : reading_of log' ≡ Ok at) where
    third_read : at.third ≡ third_at log
    third_read =
        let c = counts log at e in
        third_place log at.second at.third (omega arith) (omega arith)

    salt_same : salt_of log at ≡ salt_of log' at
    unfolding salt_of
    salt_same = part_same 2 at.salt (omega (arith, counts log at e, third_read))

    starts_same : starts_of log at ≡ starts_of log' at
    unfolding starts_of
    starts_same = part_same (at.second + 2) (32 * at.registers) (omega (arith, counts log at e, third_read))

    claims_same : claims_of log at ≡ claims_of log' at
    unfolding claims_of
    claims_same =
        let c = counts log at e in
        let n = rw third_read at c.events_at in
        part_same (at.fourth + 2) (32 * at.claims) (omega (arith, third_read))

    ends_same : ends_of log at ≡ ends_of log' at
    unfolding ends_of end_values events_of
    ends_same =
        let z : at.third + 2 ≡ third_at log + 2 + 36 * 0 = omega (arith, third_read) in
        rw (salt_same, starts_same, z) (replay_same (salt_in_effect (salt_of log' at)) at.events 0 (starts_of log' at))

    records_same : log_records log at ≡ log_records log' at
    unfolding log_records events_of
    records_same =
        let z : at.third + 2 ≡ third_at log + 2 + 36 * 0 = omega (arith, third_read) in
        records_equal (ends_of log at) (ends_of log' at) _ _ ends_same (λ r. rw z (extensions_same r at.events 0)) at.registers

    checked_same : (room : ℕ) → checked_at log at room ≡ checked_at log' at room
    unfolding checked_at verdict_of
    checked_same room = rw (log_blocks log at e, log_blocks log' at e', ends_same, claims_same)

pub labels_reading : (log log' : List ℕ) → LabelsOnly log log' → reading_of log ≡ reading_of log'
labels_reading log log' d = reading_same log log' d

pub labels_check : (log log' : List ℕ) → LabelsOnly log log' → (out : List ℕ)
    → (check_of log (length out) ≡ check_of log' (length out)) × (check_buffer log out ≡ check_buffer log' out)
labels_check log log' d out = by (reading_of log') (labels_reading log log' d) refl
  where
    by : (r : Result Layout Fault) → reading_of log ≡ r → reading_of log' ≡ r
        → (check_of log (length out) ≡ check_of log' (length out)) × (check_buffer log out ≡ check_buffer log' out)
    by (Err f) e e' =
        (sym (refused_answer log f e (length out)) ∙ refused_answer log' f e' (length out), sym (refused_buffer log f e out) ∙ refused_buffer log' f e' out)
    by (Ok at) e e' = (
      sym (check_answer log at e (length out) refl) ∙ check_answer log' at e' (length out) (checked_same log log' d at e e' (length out)),
      check_buffer_lem log' at e' out (rw (records_same log log' d at e e') at (sym (check_buffer_lem log at e out refl))),
    )

-- Another value for any byte of a label makes such a log.
pub label_changed : (log : List ℕ) (i v : ℕ) → LabelByte log i → LabelsOnly log (set log i v)
label_changed log i v l = record { size = sym (length-set log i v); same = λ j h. sym (get_or-set_other log i j v 0 (λ e. h (rw e l))) }
