-- Tests of bodies, processes and programs, rule by rule. A law says that they decide which are typed.
use Rattle.std.specs.Prelude.{ℕ, zero, suc, List, [], ◌∷◌, ◌++◌, map, filter, length, Bool, true, false, not, cond, ◌&&◌, ◌||◌, nat_eq, nat_lt, nat_le, is_some, slice_get}
use Rattle.herm_model.specs.Lists.{map_or, all_pass, any_pass, numbered, range}
use Rattle.herm_model.specs.Types.{TypeTable, predefined, all_parts, variable_paths}
use Rattle.herm_model.specs.Statements.{Form, Case, Statement, simple, choosing, repeating, leaving, trying, Block, no_statements, statement, Blocks, no_blocks, block, Handlers, no_handlers, handler, Process, Branching, goes_on, repeats, leaves, chooses, branching_of, count_blocks, numbers_of_block}
use Rattle.herm_model.specs.Nodes.{Node, process_nodes, entry_of}
use Rattle.herm_model.specs.Exits.{Exit, exits}
use Rattle.herm_model.specs.Targets.{Target, node, end, end_by}
use Rattle.herm_model.specs.tests.TableTests.{broken_table_rules, are_different, on_inport}
use Rattle.herm_model.specs.TypedStatements.{port_type}
use Rattle.herm_model.specs.TypedPrograms.{greatest_statements, greatest_variable_paths, main_start, Placed, placed_in, handled, is_some_block, is_some_handler}
use Rattle.herm_model.specs.tests.TypingTests.{is_number, is_typed_form}

abbrev pub same_branching : Branching → Branching → Bool
same_branching goes_on goes_on = true
same_branching repeats repeats = true
same_branching leaves leaves = true
same_branching (chooses m) (chooses n) = nat_eq m n
same_branching _ _ = false

abbrev pub has_different_arms : Form → Bool
has_different_arms (Case v components) = are_different nat_eq components
has_different_arms _ = true

abbrev mutual
  pub is_well_formed : Statement → Bool
  is_well_formed (simple form) = same_branching (branching_of form) goes_on
  is_well_formed (choosing form blocks) = same_branching (branching_of form) (chooses (count_blocks blocks)) && (has_different_arms form && are_well_formed blocks)
  is_well_formed (repeating form body) = same_branching (branching_of form) repeats && is_well_formed_block body
  is_well_formed leaving = true
  is_well_formed (trying body handlers) = is_well_formed_block body && are_well_formed_handlers handlers

  pub is_well_formed_block : Block → Bool
  is_well_formed_block no_statements = true
  is_well_formed_block (statement s rest) = is_well_formed s && is_well_formed_block rest

  pub are_well_formed : Blocks → Bool
  are_well_formed no_blocks = true
  are_well_formed (block b rest) = is_well_formed_block b && are_well_formed rest

  pub are_well_formed_handlers : Handlers → Bool
  are_well_formed_handlers no_handlers = true
  are_well_formed_handlers (handler e b rest) = is_well_formed_block b && are_well_formed_handlers rest

abbrev pub has_arms : Bool → Statement → Bool
has_arms l (choosing form blocks) = is_some_block blocks
has_arms l _ = true

abbrev pub has_handlers : Bool → Statement → Bool
has_handlers l (trying body handlers) = is_some_handler handlers
has_handlers l _ = true

abbrev pub has_different_handlers : Bool → Statement → Bool
has_different_handlers l (trying body handlers) = are_different nat_eq (handled handlers)
has_different_handlers l _ = true

abbrev pub handles_known : ℕ → Bool → Statement → Bool
handles_known exceptions l (trying body handlers) = all_pass (λ e. nat_lt e exceptions) (handled handlers)
handles_known exceptions l _ = true

abbrev pub leaves_loop : Bool → Statement → Bool
leaves_loop l leaving = l
leaves_loop l _ = true

abbrev pub of_each_statement : Process → (Bool → Statement → Bool) → Bool
of_each_statement p test = all_pass (λ (s : Placed). test s.in_loop s.statement) (placed_in false p.body)

-- the places to which targets lead
abbrev pub places_of : List Target → List ℕ
places_of [] = []
places_of (node i ∷ targets) = i ∷ places_of targets
places_of (end ∷ targets) = places_of targets
places_of (end_by e ∷ targets) = places_of targets

module _ (table : TypeTable) (p : Process) where
  abbrev pub places_behind : Node → List ℕ
  places_behind n = places_of (map (λ (e : Exit). e.target) (exits table p.variables n))

  -- One sweep over the nodes in order marks what is behind what is marked. Most often that is all that control reaches,
  -- since it goes back only to loops.
  abbrev pub sweep : List (ℕ × Node) → List ℕ → List ℕ
  sweep [] marked = marked
  sweep (n ∷ ns) marked = sweep ns (cond (any_pass (nat_eq n.0) marked) (places_behind n.1 ++ marked) marked)

  -- the entry is marked, and with each node what is behind it
  abbrev pub are_settled : List ℕ → Bool
  are_settled marked =
      all_pass (λ i. any_pass (nat_eq i) marked) (places_of (entry_of p ∷ []))
      && all_pass (λ n. not (any_pass (nat_eq n.0) marked) || all_pass (λ i. any_pass (nat_eq i) marked) (places_behind n.1)) (numbered 0 (process_nodes p))

  -- sweeps until the marks are settled, at most so many
  abbrev pub settle : ℕ → List ℕ → List ℕ
  settle zero marked = marked
  settle (suc n) marked = elim (are_settled marked) [ true ↦ marked | false ↦ settle n (sweep (numbered 0 (process_nodes p)) marked) ]

  -- what control reaches: a law says that the marks are settled
  abbrev pub marked_places : List ℕ
  marked_places = settle (suc (length (process_nodes p))) (places_of (entry_of p ∷ []))

  abbrev pub is_marked : ℕ → Bool
  is_marked i = any_pass (nat_eq i) marked_places

-- The rules of processes, by the names of the parts of a typed process.
pub data ProcessRule : Type 0 where
  port variables_known few_variable_paths few_statements : ProcessRule
  blocks arms handlers handlers_differ handlers_known leaves_in_loops typed reached : ProcessRule

abbrev pub process_rules : List ProcessRule
process_rules = port ∷ variables_known ∷ few_variable_paths ∷ few_statements ∷ blocks ∷ arms ∷ handlers ∷ handlers_differ ∷ handlers_known ∷ leaves_in_loops ∷ typed ∷ reached ∷ []

-- whether a process keeps a rule
abbrev pub keeps_process_rule : (exceptions : ℕ) → TypeTable → List Process → Process → ProcessRule → Bool
keeps_process_rule exceptions table processes p port = map_or false (λ t. on_inport (λ message declared. true) (slice_get table t)) (slice_get p.variables 0)
keeps_process_rule exceptions table processes p variables_known = all_pass (λ t. is_some (slice_get table t)) p.variables
keeps_process_rule exceptions table processes p few_variable_paths = nat_le (length (variable_paths all_parts table p.variables)) greatest_variable_paths
keeps_process_rule exceptions table processes p few_statements = nat_le (numbers_of_block p.body) greatest_statements
keeps_process_rule exceptions table processes p blocks = is_well_formed_block p.body
keeps_process_rule exceptions table processes p arms = of_each_statement p has_arms
keeps_process_rule exceptions table processes p handlers = of_each_statement p has_handlers
keeps_process_rule exceptions table processes p handlers_differ = of_each_statement p has_different_handlers
keeps_process_rule exceptions table processes p handlers_known = of_each_statement p (handles_known exceptions)
keeps_process_rule exceptions table processes p leaves_in_loops = of_each_statement p leaves_loop
keeps_process_rule exceptions table processes p typed = all_pass (λ (n : Node). is_typed_form table p.variables exceptions processes n.form) (process_nodes p)
keeps_process_rule exceptions table processes p reached = all_pass (is_marked table p) (range 0 (length (process_nodes p)))

-- the rules that are broken
abbrev pub broken_process_rules : (exceptions : ℕ) → TypeTable → List Process → Process → List ProcessRule
broken_process_rules exceptions table processes p = filter (λ rule. not (keeps_process_rule exceptions table processes p rule)) process_rules

abbrev pub is_empty : {X : Type 0} → List X → Bool
is_empty [] = true
is_empty (x ∷ xs) = false

-- whether a program is typed
abbrev pub is_typed_program : (exceptions : ℕ) → (defined : TypeTable) → List Process → (main : ℕ) → Bool
is_typed_program exceptions defined processes main =
    is_empty (broken_table_rules exceptions defined) && (all_pass (λ p. is_empty (broken_process_rules exceptions (predefined ++ defined) processes p)) processes && is_number (port_type processes main) main_start)
