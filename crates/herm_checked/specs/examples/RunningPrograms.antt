-- Programs in the middle of their runs, and a ring of three processes as a term.
use Rattle.std.specs.Prelude.{◌≡◌, ℕ, List, [], ◌∷◌, ◌++◌, Bool, true, Some, is_some, length}
use Rattle.herm_model.specs.Expressions.{copy, operation, plus, decimal}
use Rattle.herm_model.specs.Labels.{Labels, AreExact}
use Rattle.herm_model.specs.Outcomes.{overflow}
use Rattle.herm_model.specs.Paths.{Fact}
use Rattle.herm_model.specs.Statements.{Assign, Blocks, Connect, Create, New, Raise, Receive, Send, Statement, simple}
use Rattle.herm_model.specs.Types.{TypeTable, predefined, cases, fields, inport, outport}
use Rattle.herm_model.specs.ControlPaths.{Flow, flow_of}
use Rattle.herm_model.specs.Values.{Name}
use Rattle.herm_journal.specs.NextNumbers.{Limits}
use Rattle.herm_journal.specs.Entries.{Text}
use Rattle.herm_system.specs.Rounds.{rounds}
use Rattle.herm_system.specs.RunTexts.{Asked}
use Rattle.herm_system.specs.Statuses.{status_of}
use Rattle.herm_system.specs.Systems.{Run, start, can_step}
use Rattle.herm_source.specs.AcceptedRuns.{AreAccepted, Describes}
use Rattle.herm_source.specs.Checked.{IsChecked}
use Rattle.herm_source.specs.Instance.{source}
use Rattle.herm_source.specs.Modules.{Program}
use Rattle.herm_source.specs.States.{State}
use Rattle.herm_source.specs.examples.CheckedExamples.{choosing_process}
use Rattle.herm_source.specs.examples.CountExamples.{behind_rounds}
use Rattle.herm_source.specs.examples.Programs.{variable, part_in, a_number, alone, process_of, receives_start, says}
use Rattle.herm_source.specs.examples.RunExamples.{limited, ready_program}
use Rattle.herm_checked.specs.laws.CheckedRuns.{IsSoundAndReached, report_of}
use Rattle.herm_sound.specs.laws.SoundLaws.{GoOnFrom}

-- The program made ready is checked; and its run, with an empty argument, has so many entries behind so many rounds, its state there is
-- sound, and some process of it can step.
abbrev pub IsReady : (exceptions : ℕ) → Program → Type 0
IsReady exceptions program = IsChecked exceptions program (ready_program program)

abbrev pub IsSoundBehind : Program → Limits → (rounds entries : ℕ) → Type 0
IsSoundBehind program limits n entries =
    (r : Run (State Name)) × (behind_rounds n (source (ready_program program)) (start (source (ready_program program)) limits []) ≡ Some r) × (length r.journal ≡ entries)
    × IsSoundAndReached program (ready_program program) r.system × ((p : ℕ) × (can_step (source (ready_program program)) r.system p ≡ true))

-- The run by rounds, with an empty argument, ends within so many, with this status and so many entries, and its report describes it.
abbrev pub IsDescribedWithin : Program → Limits → (most entries status : ℕ) → Type 0
IsDescribedWithin program limits most entries status =
    (r : Run (State Name)) × (rounds most (source (ready_program program)) (start (source (ready_program program)) limits []) ≡ Some r) × (length r.journal ≡ entries)
    × (status_of (source (ready_program program)) r.system ≡ status)
    × ((names : List Text) (asked : Asked) → Describes (ready_program program) limits [] names asked (report_of (source (ready_program program)) names asked r))

-- process main(start: main_start) { raise Overflow; }
abbrev pub raises_alone : Program
raises_alone = alone [] (process_of (7 ∷ []) (simple (Raise overflow) ∷ []))

-- type li = inport of integer;  type lo = outport of li;  type boot = record { mine: li, next: lo };
-- type boot_in = inport of boot;  type boot_out = outport of boot_in;
-- process member(start: boot_in) {
--   var b: boot, n: integer;
--   receive b from start; receive n from b.mine; n := n + 1; send n to b.next;
-- }
-- process main(start: main_start) {
--   var m: main_message, a: li, o: lo, b: boot, p: boot_out, n: integer, s: string;
--   receive m from start; new a; connect o to a;
--   three times: new b; b.next := o; new b.mine; connect o to b.mine; create p of member; send b to p;
--   n := 0; send n to o; receive n from a; s := text(n); send s to m.out;
-- }
abbrev pub ring_types : TypeTable
ring_types = inport 1 [] ∷ outport 8 ∷ fields (8 ∷ 9 ∷ []) ∷ inport 10 [] ∷ outport 11 ∷ []

abbrev pub adds_member : List Statement
adds_member =
    simple (New (variable 4)) ∷ simple (Assign (part_in 4 1) (copy (variable 3))) ∷ simple (New (part_in 4 0)) ∷ simple (Connect (variable 3) (part_in 4 0))
    ∷ simple (Create (variable 5) 0) ∷ simple (Send (variable 4) (variable 5)) ∷ []

abbrev pub ring_of_three : Program
ring_of_three = record {
  types = predefined ++ ring_types;
  processes =
      process_of (11 ∷ 10 ∷ 1 ∷ []) (
      receives_start ∷ simple (Receive (variable 2) (part_in 1 0)) ∷ simple (Assign (variable 2) (operation plus (copy (variable 2)) (a_number 1)))
      ∷ simple (Send (variable 2) (part_in 1 1)) ∷ [])
      ∷ process_of (7 ∷ 6 ∷ 8 ∷ 9 ∷ 10 ∷ 12 ∷ 1 ∷ 2 ∷ []) (
      receives_start ∷ simple (New (variable 2)) ∷ simple (Connect (variable 3) (variable 2))
      ∷ (adds_member ++ (adds_member ++ (adds_member ++
      simple (Assign (variable 6) (a_number 0)) ∷ simple (Send (variable 6) (variable 3)) ∷ simple (Receive (variable 6) (variable 2))
      ∷ simple (Assign (variable 7) (decimal (copy (variable 6)))) ∷ says 7 ∷ []))))
      ∷ [];
  main = 1;
}

-- the program whose main is  var v: either, k: integer; k := 1; unite v.a from k; case v { .. }  with these arms; and whether so many
-- rounds of its run can be made, or a process is stuck
abbrev pub choosing_program : List ℕ → Blocks → Program
choosing_program arms blocks = alone (cases (1 ∷ 2 ∷ []) ∷ []) (choosing_process arms blocks)

abbrev pub makes_rounds : ℕ → Program → Bool
makes_rounds n program = is_some (behind_rounds n (source (ready_program program)) (start (source (ready_program program)) (limited 1000 4 4) []))

-- The modules are accepted, and behind so many rounds of its run process 1 is stuck.
abbrev pub IsStuckBehind : Program → Limits → (rounds : ℕ) → Type 0
IsStuckBehind program limits n =
    AreAccepted program (ready_program program)
    × ((r : Run (State Name)) × (behind_rounds n (source (ready_program program)) (start (source (ready_program program)) limits []) ≡ Some r) × (GoOnFrom (source (ready_program program)) r.system 1 → ⊥))

-- a process p(start: main_start) { var n: integer; raise Overflow; n := 1; }, whose second statement no control path reaches
abbrev pub past_a_raise : Flow
past_a_raise = flow_of predefined (process_of (7 ∷ 1 ∷ []) (simple (Raise overflow) ∷ simple (Assign (variable 1) (a_number 1)) ∷ []))

-- Labels that are exact for the flow may say anything at a place: each fact is said there, or is not, as one likes.
abbrev pub IsFreeAt : Flow → ℕ → Type 0
IsFreeAt flow i = (b : Bool) → (labels : Labels) × AreExact flow labels × ((f : Fact) → labels i f ≡ b)
