-- What is proved of well-formed tables and typed programs.
use Rattle.std.specs.Prelude.{ℕ, ◌<◌, ◌≤◌, ◌↔◌, List, [], ◌++◌, length, Some, slice_get, IsTrue, ◌≡◌}
use Rattle.herm_model.specs.Lists.{IsIn}
use Rattle.herm_model.specs.Paths.{Fact}
use Rattle.herm_model.specs.Types.{inport, TypeTable, predefined, is_within_depth, greatest_depth, all_parts, part_paths, variable_paths}
use Rattle.herm_model.specs.Statements.{Process, numbers_of_block, IsWellFormedBlock}
use Rattle.herm_model.specs.Nodes.{Node, process_nodes}
use Rattle.herm_model.specs.Targets.{node}
use Rattle.herm_model.specs.ControlPaths.{flow_of, IsReached}
use Rattle.herm_model.specs.TypedExpressions.{HasShape}
use Rattle.herm_model.specs.WellFormedTables.{predefined_exceptions, greatest_paths, BeginsPredefined, Reaches, IsType, OfEachShape, NamesTypes, HasKey, LeadsToInport, CopiesInputs, DeclaresFields, DeclaresOneCase, RaisesKnown, RaisesDifferent, KeepsReturned, KeepsRising, KeepsNoneDisconnected, IsWellFormedTable}
use Rattle.herm_model.specs.TypedStatements.{IsTypedForm}
use Rattle.herm_model.specs.TypedPrograms.{greatest_statements, greatest_variable_paths, HasArms, HasHandlers, HasDifferentHandlers, HandlesKnown, LeavesLoop, OfEachStatement, IsTypedProcess, IsTypedProgram}
use Rattle.herm_model.specs.tests.TableTests.{TableRule, predefined_types, enough_exceptions, types_known, exceptions_known, exceptions_differ, shallow, few_paths, keys, outports, inputs_copyable, facts_of_fields, one_case, kept_returned, kept_rising, kept_disconnected, keeps_table_rule, broken_table_rules}
use Rattle.herm_model.specs.tests.BodyTests.{ProcessRule, port, variables_known, few_variable_paths, few_statements, blocks, arms, handlers, handlers_differ, handlers_known, leaves_in_loops, typed, reached, keeps_process_rule, broken_process_rules, is_typed_program}

-- what each rule of tables says
abbrev pub TableKeeps : (exceptions : ℕ) → TypeTable → TableRule → Type 0
TableKeeps exceptions table predefined_types = BeginsPredefined table
TableKeeps exceptions table enough_exceptions = predefined_exceptions ≤ exceptions
TableKeeps exceptions table types_known = OfEachShape table (NamesTypes table)
TableKeeps exceptions table exceptions_known = OfEachShape table (RaisesKnown exceptions)
TableKeeps exceptions table exceptions_differ = OfEachShape table RaisesDifferent
TableKeeps exceptions table shallow = ((t : ℕ) → Reaches table t t → ⊥) × ((t : ℕ) → IsType table t → IsTrue (is_within_depth greatest_depth table t))
TableKeeps exceptions table few_paths = (t : ℕ) → IsType table t → length (part_paths all_parts table t) ≤ greatest_paths
TableKeeps exceptions table keys = OfEachShape table (HasKey table)
TableKeeps exceptions table outports = OfEachShape table (LeadsToInport table)
TableKeeps exceptions table inputs_copyable = OfEachShape table (CopiesInputs table)
TableKeeps exceptions table facts_of_fields = OfEachShape table (DeclaresFields table)
TableKeeps exceptions table one_case = OfEachShape table DeclaresOneCase
TableKeeps exceptions table kept_returned = OfEachShape table KeepsReturned
TableKeeps exceptions table kept_rising = OfEachShape table KeepsRising
TableKeeps exceptions table kept_disconnected = OfEachShape table KeepsNoneDisconnected

-- The test of each rule of tables decides it, where types are within the depth.
abbrev pub TestsDecideTables : Type 0
TestsDecideTables = (exceptions : ℕ) (defined : TypeTable) → IsTrue (keeps_table_rule exceptions defined shallow)
    → (rule : TableRule) → IsTrue (keeps_table_rule exceptions defined rule) ↔ TableKeeps exceptions (predefined ++ defined) rule

-- A table that begins with the predefined types is well formed exactly where no test finds a broken rule.
abbrev pub NoneBrokenIsWellFormed : Type 0
NoneBrokenIsWellFormed = (exceptions : ℕ) (defined : TypeTable) → (broken_table_rules exceptions defined ≡ []) ↔ IsWellFormedTable exceptions (predefined ++ defined)

-- what each rule of processes says
abbrev pub ProcessKeeps : (exceptions : ℕ) → TypeTable → List Process → Process → ProcessRule → Type 0
ProcessKeeps exceptions table processes p port = (t message : ℕ) × (declared : List Fact) × (slice_get p.variables 0 ≡ Some t) × HasShape table t (inport message declared)
ProcessKeeps exceptions table processes p variables_known = (t : ℕ) → IsIn t p.variables → IsType table t
ProcessKeeps exceptions table processes p few_variable_paths = length (variable_paths all_parts table p.variables) ≤ greatest_variable_paths
ProcessKeeps exceptions table processes p few_statements = numbers_of_block p.body ≤ greatest_statements
ProcessKeeps exceptions table processes p blocks = IsWellFormedBlock p.body
ProcessKeeps exceptions table processes p arms = OfEachStatement p (λ l s. HasArms s)
ProcessKeeps exceptions table processes p handlers = OfEachStatement p (λ l s. HasHandlers s)
ProcessKeeps exceptions table processes p handlers_differ = OfEachStatement p (λ l s. HasDifferentHandlers s)
ProcessKeeps exceptions table processes p handlers_known = OfEachStatement p (λ l s. HandlesKnown exceptions s)
ProcessKeeps exceptions table processes p leaves_in_loops = OfEachStatement p LeavesLoop
ProcessKeeps exceptions table processes p typed = (n : Node) → IsIn n (process_nodes p) → IsTypedForm table p.variables exceptions processes n.form
ProcessKeeps exceptions table processes p reached = (i : ℕ) → i < length (process_nodes p) → IsReached (flow_of table p) (node i)

-- The test of each rule of processes decides it, in a well-formed table, where the body's blocks belong to their forms.
abbrev pub TestsDecideProcesses : Type 0
TestsDecideProcesses = (exceptions : ℕ) (table : TypeTable) (processes : List Process) (p : Process) → IsWellFormedTable exceptions table
    → IsTrue (keeps_process_rule exceptions table processes p blocks) → (rule : ProcessRule) → IsTrue (keeps_process_rule exceptions table processes p rule) ↔ ProcessKeeps exceptions table processes p rule

-- A process is typed exactly where no test finds a broken rule.
abbrev pub NoneBrokenIsTyped : Type 0
NoneBrokenIsTyped = (exceptions : ℕ) (table : TypeTable) (processes : List Process) (p : Process) → IsWellFormedTable exceptions table
    → (broken_process_rules exceptions table processes p ≡ []) ↔ IsTypedProcess exceptions table processes p

-- The test of programs decides which are typed.
abbrev pub TestDecidesPrograms : Type 0
TestDecidesPrograms = (exceptions : ℕ) (defined : TypeTable) (processes : List Process) (main : ℕ)
    → IsTrue (is_typed_program exceptions defined processes main) ↔ IsTypedProgram exceptions (predefined ++ defined) processes main
