-- What single processes hold, find and want in the middle of runs of small programs.
use Rattle.std.specs.Prelude.{ℕ, List, [], ◌∷◌, map, filter, flat_map, Bool, cond, not, ◌&&◌, Option, option_map, option_and_then}
use Rattle.herm_model.specs.Lists.{all_pass, any_pass, list_of}
use Rattle.herm_model.specs.Paths.{Path, init, is_at_or_below}
use Rattle.herm_model.specs.Types.{all_parts, variable_paths}
use Rattle.herm_model.specs.Labels.{label_at}
use Rattle.herm_model.specs.Values.{Name, Kind, has_value, size}
use Rattle.herm_journal.specs.Messages.{CellWant}
use Rattle.herm_journal.specs.PartTypes.{has_no_number}
use Rattle.herm_forms.specs.Frames.{Loop}
use Rattle.herm_forms.specs.Modules.{Module}
use Rattle.herm_system.specs.Machines.{Standing}
use Rattle.herm_system.specs.Systems.{Run, start, numbered_from_one}
use Rattle.herm_system.specs.Kinds.{typed_held}
use Rattle.herm_source.specs.Modules.{Program, Modules}
use Rattle.herm_source.specs.States.{State}
use Rattle.herm_source.specs.Local.{open_loans}
use Rattle.herm_source.specs.Instance.{source, code_at}
use Rattle.herm_source.specs.examples.RunExamples.{ready_program, limited}
use Rattle.herm_source.specs.examples.CountExamples.{behind_rounds}

-- the process has a value at a path exactly where the facts of its point say so, but for what an open call has lent
abbrev pub is_said : Module → State Name → Path → Bool
is_said c x p = label_at c.label x.point (init p) && not (any_pass (λ q. is_at_or_below q p) (open_loans c x))

abbrev pub as_said : Module → State Name → Bool
as_said c x = all_pass (λ p. cond (has_value x.frame.variables p) (is_said c x p) (not (is_said c x p))) (variable_paths all_parts c.types c.variables)

-- a process in the middle of a run: how it stands, whether it has values where its facts say, its ports and callmessages at
-- places with types, how many rows its loops have yet to visit, and what it wants
pub record Middle : Type 0 where
  pub standing : Standing
  pub as_said : Bool
  pub numbers : List (ℕ × Kind)
  pub rows : List ℕ
  pub want : Option (CellWant Name)

abbrev pub middle : Modules → State Name → Middle
middle modules x = record {
  standing = (source modules).ready 1000 x;
  as_said = any_pass (λ c. as_said c x) (list_of (λ c. c ∷ []) (code_at modules x));
  numbers = filter (λ (cell : ℕ × Kind). not (has_no_number cell.1)) (flat_map (typed_held modules.types) ((source modules).held x));
  rows = map (λ (l : Loop Name). size l.rows) x.frame.loops;
  want = (source modules).wanted x;
}

-- a process behind so many rounds
abbrev pub middle_of : (rounds process : ℕ) → Program → Option Middle
middle_of n p program =
    let modules = ready_program program
    in let machine = source modules
    in option_and_then (λ (r : Run (State Name)). option_map (middle modules) (numbered_from_one p r.system.processes)) (behind_rounds n machine (start machine (limited 1000 4 4) []))
