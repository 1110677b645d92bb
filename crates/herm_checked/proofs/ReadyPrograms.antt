-- Programs that are made ready by rounds of labels are checked, and their runs are through sound states.
use Rattle.std.proofs.Common.{◌≡◌, ◌⊎◌, ◌≤◌, ℕ, zero, suc, List, [], ◌∷◌, ◌++◌, map, length, Bool, true, false, Some, is_some, option_map, Option, inl, inr, refl, sym, ap, ◌∙◌, true≢false}
use Rattle.std.proofs.lemmas.Bool.{eqb-true, ltb-true}
use Rattle.std.specs.Prelude.{IsTrue, ⊤, ◌&&◌, nat_eq, nat_lt}
use Rattle.herm_model.proofs.Lists.{or-either, and-both}
use Rattle.herm_model.specs.Lists.{IsIn}
use Rattle.herm_model.specs.ControlPaths.{flow_of}
use Rattle.herm_model.specs.Statements.{Process, IsWellFormedBlock}
use Rattle.herm_model.specs.Types.{TypeTable, predefined}
use Rattle.herm_model.specs.Values.{Name}
use Rattle.herm_model.specs.tests.BodyTests.{is_typed_program}
use Rattle.herm_model.proofs.DecidedPrograms.{test-programs}
use Rattle.herm_model.proofs.DifferentOutcomes.{process-EdgesDiffer}
use Rattle.herm_model.proofs.ExampleRefusals.{computed}
use Rattle.herm_model.proofs.Labels.{confirms, labels_found}
use Rattle.herm_model.proofs.Options.{map-some}
use Rattle.herm_journal.specs.NextNumbers.{Limits}
use Rattle.herm_system.specs.Machines.{Machine, is_local}
use Rattle.herm_system.specs.Rounds.{one_round}
use Rattle.herm_system.specs.Rounds as Rounds
use Rattle.herm_system.specs.Systems.{Run, start, step, steps, can_step, stands}
use Rattle.herm_system.specs.Statuses.{status_of}
use Rattle.herm_journal.specs.Entries.{Entry}
use Rattle.herm_journal.specs.Journals.{IsBefore, IsRisingFrom, IsRising, is_before}
use Rattle.herm_runs.proofs.Events.{IsRunBetween, both-runs, turns-run, rounds-run}
use Rattle.herm_runs.proofs.RoundsEnd.{elim-some, rounds-final}
use Rattle.herm_source.specs.AcceptedRuns.{AreCodesOf}
use Rattle.herm_source.specs.Checked.{IsChecked}
use Rattle.herm_source.specs.Instance.{source}
use Rattle.herm_source.specs.LabelRounds.{rounds, first_labels, has_label, ready}
use Rattle.herm_source.specs.Modules.{Program}
use Rattle.herm_source.specs.States.{State}
use Rattle.herm_source.specs.examples.CountExamples.{behind_rounds}
use Rattle.herm_source.specs.examples.RunExamples.{ready_program}
use Rattle.herm_checked.specs.examples.RunningPrograms.{IsSoundBehind, IsDescribedWithin, IsStuckBehind}
use Rattle.herm_source.proofs.instance.SourceLaws.{source-keeps-numbers}
use Rattle.herm_checked.proofs.SourceBegins.{source-begins-sound}
use Rattle.herm_checked.proofs.CheckedRuns.{checked-runs, checked-described}
use Rattle.herm_checked.proofs.ReadyLabels.{settled, rounds-exact}

-- of each process the labels are settled, and it is accepted
abbrev pub AllReady : TypeTable → List Process → Type 0
AllReady types [] = ⊤
AllReady types (p ∷ ps) =
    (settled (flow_of types p) (rounds 3 (flow_of types p).points (first_labels (flow_of types p))) ≡ true) × (confirms (flow_of types p) (labels_found (flow_of types p)) [] ≡ true) × AllReady types ps

ready-codes : (program : Program) (ps : List Process) → ((p : Process) → IsIn p ps → IsWellFormedBlock p.body) → AllReady program.types ps → AreCodesOf program ps (map (ready 3 program.types) ps)
ready-codes program [] formed h = tt
ready-codes program (p ∷ ps) formed h =
    let flow = flow_of program.types p in
    let differ = process-EdgesDiffer program.types p (formed p (inl refl)) in (
      (has_label (rounds 3 flow.points (first_labels flow)), refl, rounds-exact flow differ 3 h.0, computed program.types p [] h.1),
      ready-codes program ps (λ q m. formed q (inr m)) h.2,
    )

pub ready-checked : (exceptions : ℕ) (defined : TypeTable) (processes : List Process) (main : ℕ) → IsTrue (is_typed_program exceptions defined processes main) → AllReady (predefined ++ defined) processes
    → IsChecked exceptions (record { types = predefined ++ defined; processes = processes; main = main }) (ready_program (record { types = predefined ++ defined; processes = processes; main = main }))
ready-checked exceptions defined processes main typed all =
    let program : Program = record { types = predefined ++ defined; processes = processes; main = main } in
    let is = (test-programs exceptions defined processes main).0 typed in
    record { typed = is; accepted = record { types = refl; codes = ready-codes program processes (λ p m. (is.modules p m).blocks) all; main = refl } }

-- what rounds lead to is led to by events
behind-run : {P : Type 0} (machine : Machine Name P) (n : ℕ) (r t : Run P) → behind_rounds n machine r ≡ Some t → IsRunBetween machine r t
behind-run machine zero r t e = ([], e)
behind-run machine (suc n) r t e =
    let k = elim-some (one_round machine r) (λ round. behind_rounds n machine round.run) t e in
    both-runs machine r k.0.run t (turns-run r.system.book.limits.processes machine 1 (record { run = r; moved = false }) k.0 k.1) (behind-run machine n k.0.run t k.2)

-- what so many rounds lead to
abbrev pub rounds_of : Program → Limits → ℕ → Option (Run (State Name))
rounds_of program limits n = behind_rounds n (source (ready_program program)) (start (source (ready_program program)) limits [])

-- how many entries a run has, and whether a process can step
abbrev pub entries_of : Program → ℕ → Run (State Name) → ℕ × Bool
entries_of program p r = (length r.journal, can_step (source (ready_program program)) r.system p)

pub sound-behind : (exceptions : ℕ) (program : Program) → IsChecked exceptions program (ready_program program) → (limits : Limits) (n entries p : ℕ)
    → option_map (entries_of program p) (rounds_of program limits n) ≡ Some (entries, true) → IsSoundBehind program limits n entries
sound-behind exceptions program checked limits n entries p e =
    let r = map-some (entries_of program p) (rounds_of program limits n) (entries, true) e in
    let events = behind-run (source (ready_program program)) n (start (source (ready_program program)) limits []) r.0 r.1 in
    (r.0, r.1, ap (λ x. x.0) r.2, checked-runs exceptions program (ready_program program) checked limits [] events.0 r.0 refl events.1, (p, ap (λ x. x.1) r.2))

before-is : (e f : Entry) → is_before e f ≡ true → IsBefore e f
before-is e f is = by (or-either (nat_lt e.stamp f.stamp) (nat_eq e.stamp f.stamp && nat_lt e.process f.process) is)
  where
    by : (nat_lt e.stamp f.stamp ≡ true) ⊎ ((nat_eq e.stamp f.stamp && nat_lt e.process f.process) ≡ true) → IsBefore e f
    by (inl h) = inl (ltb-true e.stamp f.stamp h)
    by (inr h) = let both = and-both (nat_eq e.stamp f.stamp) (nat_lt e.process f.process) h in inr (eqb-true e.stamp f.stamp both.0, ltb-true e.process f.process both.1)

-- whether each entry comes before the next one
abbrev rises_from : Entry → List Entry → Bool
rises_from e [] = true
rises_from e (f ∷ fs) = is_before e f && rises_from f fs

abbrev pub rises : List Entry → Bool
rises [] = true
rises (e ∷ es) = rises_from e es

rises-from : (e : Entry) (es : List Entry) → rises_from e es ≡ true → IsRisingFrom e es
rises-from e [] h = tt
rises-from e (f ∷ fs) h = let both = and-both (is_before e f) (rises_from f fs) h in (before-is e f both.0, rises-from f fs both.1)

rising : (es : List Entry) → rises es ≡ true → IsRising es
rising [] h = tt
rising (e ∷ es) h = rises-from e es h

abbrev pub run_within : Program → Limits → (most : ℕ) → Option (Run (State Name))
run_within program limits most = Rounds.rounds most (source (ready_program program)) (start (source (ready_program program)) limits [])

-- whether a run's journal rises, how many entries it has, and its status
abbrev pub end_of : Program → Run (State Name) → Bool × ℕ × ℕ
end_of program r = (rises r.journal, length r.journal, status_of (source (ready_program program)) r.system)

pub described-within : (exceptions : ℕ) (program : Program) → IsChecked exceptions program (ready_program program) → (limits : Limits) (most entries status : ℕ) → 1 ≤ limits.processes
    → option_map (end_of program) (run_within program limits most) ≡ Some (true, entries, status) → IsDescribedWithin program limits most entries status
described-within exceptions program checked limits most entries status some e =
    let machine = source (ready_program program) in
    let r = map-some (end_of program) (run_within program limits most) (true, entries, status) e in
    let events = rounds-run most machine (start machine limits []) r.0 r.1 in
    let begins = source-begins-sound exceptions program (ready_program program) checked in (
      r.0,
      r.1,
      ap (λ x. x.1) r.2,
      ap (λ x. x.2) r.2,
      λ names asked. checked-described exceptions program (ready_program program) checked limits [] names asked events.0 r.0 refl events.1 (rising r.0.journal (ap (λ x. x.0) r.2))
          (rounds-final machine (source-keeps-numbers (ready_program program)) most limits [] begins.main.0 r.0 begins.main.1 some r.1),
    )

-- whether process 1 is to make a local step, and whether there is one
abbrev pub local_of : Program → Run (State Name) → Bool × Bool
local_of program r = (stands is_local (source (ready_program program)) r.system 1, is_some (step (source (ready_program program)) (steps 1) r.system))

pub stuck-behind : (program : Program) → ((p : Process) → IsIn p program.processes → IsWellFormedBlock p.body) → AllReady program.types program.processes → (limits : Limits) (n : ℕ)
    → option_map (local_of program) (rounds_of program limits n) ≡ Some (true, false) → IsStuckBehind program limits n
stuck-behind program formed all limits n e =
    let r = map-some (local_of program) (rounds_of program limits n) (true, false) e in (
      record { types = refl; codes = ready-codes program program.processes formed all; main = refl },
      (
        r.0,
        r.1,
        λ goes.
            let m = goes.local_steps (ap (λ x. x.0) r.2) in
            true≢false (sym (ap is_some m.1) ∙ ap (λ x. x.1) r.2),
      ),
    )
