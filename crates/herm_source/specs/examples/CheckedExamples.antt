-- Programs that are checked, and some that are not typed.
use Rattle.std.specs.Prelude.{◌≡◌, ℕ, zero, suc, List, [], ◌∷◌, ◌++◌, Bool, not, ◌&&◌, Option, Some, None, option_map, option_and_then, is_some, slice_get}
use Rattle.herm_model.specs.Lists.{IsIn}
use Rattle.herm_model.specs.Types.{TypeTable, predefined, cases, inport}
use Rattle.herm_model.specs.Statements.{simple, choosing, repeating, leaving, Blocks, Assign, Move, Discard, Unite, Case, For, New, Process}
use Rattle.herm_model.specs.Nodes.{Node}
use Rattle.herm_model.specs.TypedStatements.{IsTypedForm}
use Rattle.herm_model.specs.Values.{Kind, an_inport, cell, Parts, no_parts, part_at, set_part, change_part, name_of, kind_of, parts_of}
use Rattle.herm_model.specs.examples.RefusedProcesses.{in_order}
use Rattle.herm_journal.specs.PartTypes.{each}
use Rattle.herm_forms.specs.Frames.{Name}
use Rattle.herm_forms.specs.Modules.{Module}
use Rattle.herm_system.specs.Machines.{is_local}
use Rattle.herm_system.specs.Kinds.{typed_in}
use Rattle.herm_source.specs.laws.PlaceLaws.{StandsAt}
use Rattle.herm_source.specs.States.{State, own_name, begin, local_step}
use Rattle.herm_source.specs.StepLimit.{ready_in}
use Rattle.herm_source.specs.Modules.{Program, Modules}
use Rattle.herm_source.specs.LabelRounds.{ready}
use Rattle.herm_source.specs.examples.Programs.{variable, part_in, a_number, process_of, alone, receives_start, row_types, new_row, inserts}
use Rattle.herm_source.specs.Checked.{IsChecked}

-- the program has modules with which it is checked
abbrev pub CanBeChecked : (exceptions : ℕ) → Program → Type 0
CanBeChecked exceptions program = (modules : Modules) × IsChecked exceptions program modules

-- process main(start: main_start) {
--   var m: main_message, r: row, t: rows, q: row;
--   receive m from start; new t; new r; r.k := 1; insert r into t; new r; r.k := 2; insert r into t;
--   for r in t { for q in t { leave; } leave; }
-- }
abbrev pub nested_loops : Program
nested_loops = alone row_types (process_of (7 ∷ 6 ∷ 8 ∷ 9 ∷ 8 ∷ []) (
    receives_start ∷ simple (New (variable 3)) ∷ (new_row 1 ++ inserts ∷ (new_row 2 ++ inserts
    ∷ repeating (For (variable 2) (variable 3)) (in_order (repeating (For (variable 4) (variable 3)) (in_order (leaving ∷ [])) ∷ leaving ∷ [])) ∷ []))))

-- type either = variant { a: integer, b: string };
-- process p(start: main_start) { var v: either, k: integer; k := 1; unite v.a from k; case v { .. } }
abbrev pub choosing_process : List ℕ → Blocks → Process
choosing_process arms blocks = process_of (7 ∷ 8 ∷ 1 ∷ []) (
    simple (Assign (variable 2) (a_number 1)) ∷ simple (Unite (variable 1) 0 (variable 2)) ∷ choosing (Case (variable 1) arms) blocks ∷ [])

abbrev pub choosing_code : List ℕ → Blocks → Module
choosing_code arms blocks = ready 3 (predefined ++ cases (1 ∷ 2 ∷ []) ∷ []) (choosing_process arms blocks)

-- the statement at a place of a code is typed, where there are the predefined exceptions alone, and no processes
abbrev pub IsTypedAt : Module → (place : ℕ) → Type 0
IsTypedAt c i = (n : Node) × (slice_get c.nodes i ≡ Some n) × IsTypedForm c.types c.variables 7 [] n.form

-- a process of the code as it begins, with an inport of port 1, and behind so many local steps
abbrev pub stepped : ℕ → Module → State Name → Option (State Name)
stepped zero c s = Some s
stepped (suc n) c s = option_and_then (stepped n c) (local_step own_name c s)

abbrev pub stepped_from : ℕ → Module → Option (State Name)
stepped_from n c = stepped n c (begin c 0 1 (cell (0, 0) (an_inport 1) no_parts))

-- whether a local step is next there, and there is none
abbrev pub is_stuck_behind : ℕ → Module → Option Bool
is_stuck_behind n c = option_map (λ (s : State Name). is_local (ready_in c 100 s) && not (is_some (local_step own_name c s))) (stepped_from n c)

-- a process p(start: main_start) { var v: either, k: integer; k := 1; unite v.a from k; k := 2; move k to v.a; }, which is not typed:
-- its last target passes through a component
abbrev pub component_target : Module
component_target = ready 3 (predefined ++ cases (1 ∷ 2 ∷ []) ∷ []) (process_of (7 ∷ 8 ∷ 1 ∷ []) (
    simple (Assign (variable 2) (a_number 1)) ∷ simple (Unite (variable 1) 0 (variable 2)) ∷ simple (Assign (variable 2) (a_number 2)) ∷ simple (Move (variable 2) (part_in 1 0)) ∷ []))

-- type either = variant { a: main_start, b: integer };
-- a process p(start: main_start) { var v: either, k: integer; k := 1; unite v.b from k; move start to v.a; }, which is not typed either
abbrev pub port_variant_types : TypeTable
port_variant_types = predefined ++ cases (7 ∷ 1 ∷ []) ∷ []

abbrev pub port_to_component : Module
port_to_component = ready 3 port_variant_types (process_of (7 ∷ 8 ∷ 1 ∷ []) (
    simple (Assign (variable 2) (a_number 1)) ∷ simple (Unite (variable 1) 1 (variable 2)) ∷ simple (Move (variable 0) (part_in 1 0)) ∷ []))

-- type other = inport of integer;  a process p(start: main_start) { var i: other; move start to i; discard i; }, which is not typed either
abbrev pub other_port_types : TypeTable
other_port_types = predefined ++ inport 1 [] ∷ []

abbrev pub other_port : Module
other_port = ready 3 other_port_types (process_of (7 ∷ 8 ∷ []) (simple (Move (variable 0) (variable 1)) ∷ simple (Discard (variable 1)) ∷ []))

-- what stands in the variables behind so many steps, where the port has the type main_start
abbrev pub stands_behind : ℕ → Module → Option (List (ℕ × Kind))
stands_behind n c = option_map (λ (s : State Name). typed_in c.types (each c.variables) s.frame.variables) (stepped_from n c)

abbrev pub Stand : TypeTable → List (ℕ × Kind) → Type 0
Stand types xs = (t : ℕ) (k : Kind) → IsIn (t, k) xs → StandsAt types (4 ∷ 7 ∷ []) (λ _ _. None) t k

-- the variables with what stands in the first of them at the first place in the second, were a component's place like a field's
abbrev pub moved_into : Parts Name → Parts Name
moved_into ps = change_part 1 (λ c. cell (name_of c) (kind_of c) (set_part 0 (part_at 0 ps) (parts_of c))) (set_part 0 None ps)

-- what would then stand in the variables behind so many steps
abbrev pub would_stand_behind : ℕ → Module → Option (List (ℕ × Kind))
would_stand_behind n c = option_map (λ (s : State Name). typed_in c.types (each c.variables) (moved_into s.frame.variables)) (stepped_from n c)
