-- The source machine does the same without names.
use Rattle.std.proofs.Common.{◌≡◌, ℕ, [], ◌∷◌, find, Bool, Option, Some, None, option_map, option_and_then, slice_get, refl, ap, ◌∙◌}
use Rattle.std.specs.Prelude.{nat_eq}
use mathlib.Core.Path.{fun_ext}
use Rattle.herm_model.specs.Lists.{any_pass, list_of}
use Rattle.herm_model.specs.Paths.{Path}
use Rattle.herm_model.specs.Types.{type_at}
use Rattle.herm_model.specs.Nodes.{Node}
use Rattle.herm_model.specs.Values.{Name, Cell, read_at}
use Rattle.herm_model.specs.CellNames.{rename, forget}
use Rattle.herm_model.proofs.Renaming.{read_at-rename}
use Rattle.herm_journal.specs.Renaming.{rename_want, rename_action, forget_name}
use Rattle.herm_forms.specs.Frames.{Frame}
use Rattle.herm_forms.specs.Forms.{inport_number}
use Rattle.herm_forms.specs.Exchanges.{inport_at}
use Rattle.herm_forms.specs.Modules.{Module}
use Rattle.herm_forms.specs.Renaming.{rename_body}
use Rattle.herm_forms.proofs.renamed.RenamedForms.{inport_number-renamed}
use Rattle.herm_runs.specs.laws.ProcessLaws.{ForgetsNames}
use Rattle.herm_source.specs.Modules.{Modules}
use Rattle.herm_source.specs.States.{State, own_name, begin, Next, an_item, a_reply, a_statement, nothing, next_of, node_at, wanted, local_step, answered}
use Rattle.herm_source.specs.StepLimit.{ready_for}
use Rattle.herm_source.specs.Renaming.{forget_state}
use Rattle.herm_source.specs.SeenBySystem.{ports_of, looks_at, port_type, open_call}
use Rattle.herm_source.specs.Instance.{source, nameless, code_at, ready_if}
use Rattle.herm_source.proofs.renamed.RenamedSteps.{rename_next, next_of-renamed, begin-renamed, wanted-renamed, local_step-renamed, answered-renamed}

-- what is done with a module, where there is one
through : {X Y : Type 0} (g : X → Y) (next : Module → Option X) (next' : Module → Option Y) → ((c : Module) → next' c ≡ option_map g (next c)) → (o : Option Module) → option_and_then next' o ≡ option_map g (option_and_then next o)
through g next next' e None = refl
through g next next' e (Some c) = e c

mapped : {X Y : Type 0} (g : X → Y) (make : Module → X) (make' : Module → Y) → ((c : Module) → make' c ≡ g (make c)) → (o : Option Module) → option_map make' o ≡ option_map g (option_map make o)
mapped g make make' e None = refl
mapped g make make' e (Some c) = ap (λ y. Some y) (e c)

alike : {X : Type 0} (next next' : Module → Option X) → ((c : Module) → next' c ≡ next c) → (o : Option Module) → option_and_then next' o ≡ option_and_then next o
alike next next' e None = refl
alike next next' e (Some c) = e c

-- how it stands
ready-next : (c : Module) (limit : ℕ) (b : Frame Name) (next : Next Name) → ready_for c limit (rename_body forget_name b) (rename_next forget_name own_name next) ≡ ready_for c limit b next
ready-next c limit b nothing = refl
ready-next c limit b (an_item item work) = refl
ready-next c limit b (a_reply call n) = refl
ready-next c limit b (a_statement n) = refl

ready-forgets : (limit : ℕ) (x : State Name) (o : Option Module) → ready_if limit (forget_state x) o ≡ ready_if limit x o
ready-forgets limit x None = refl
ready-forgets limit x (Some c) = ap (ready_for c limit (rename_body forget_name x.frame)) (next_of-renamed forget_name own_name c x) ∙ ready-next c limit x.frame (next_of c x)

-- the port of an inport does not depend on names
number-forgets : (i : Path) (b : Frame Name) → inport_at i (rename_body forget_name b) ≡ inport_at i b
number-forgets i b = ap (option_and_then inport_number) (read_at-rename forget_name i b.variables) ∙ of_read (read_at i b.variables)
  where
    of_read : (o : Option (Cell Name)) → option_and_then inport_number (option_map (rename forget_name) o) ≡ option_and_then inport_number o
    of_read None = refl
    of_read (Some c) = inport_number-renamed forget_name c

looks-forget : (n : ℕ) (x : State Name) → looks_at n (forget_state x) ≡ looks_at n x
looks-forget n x = fun_ext (λ i. ap (λ o. any_pass (nat_eq n) (list_of (λ k. k ∷ []) o)) (number-forgets i x.frame))

port-forgets : (c : Module) (x : State Name) (n : ℕ) → port_type c (forget_state x) n ≡ port_type c x n
port-forgets c x n = ap (λ (test : Path → Bool). option_and_then (λ (node : Node). option_and_then (type_at c.types c.variables) (find test (ports_of node.form))) (node_at c x.point)) (looks-forget n x)

pub source-forgets-names : (modules : Modules) → ForgetsNames (source modules) (nameless modules) forget_state
source-forgets-names modules = record {
  types = refl;
  number = λ x. refl;
  begins = λ code number port. mapped forget_state (λ c. begin c code number port) (λ c. begin c code number (forget port)) (λ c. begin-renamed forget_name own_name c code number port) (slice_get modules.codes code);
  ready = λ limit x. ready-forgets limit x (code_at modules x);
  wants = λ x. through (rename_want forget_name) (λ c. wanted own_name c x) (λ c. wanted forget_name c (forget_state x)) (λ c. wanted-renamed forget_name own_name c x) (code_at modules x);
  local_steps = λ x. through forget_state (λ c. local_step own_name c x) (λ c. local_step forget_name c (forget_state x)) (λ c. local_step-renamed forget_name own_name c x) (code_at modules x);
  answers = λ x at a. through forget_state (λ c. answered own_name c x at a) (λ c. answered forget_name c (forget_state x) at (rename_action forget_name a)) (λ c. answered-renamed forget_name own_name c x at a) (code_at modules x);
  port_types = λ x port. alike (λ c. port_type c x port) (λ c. port_type c (forget_state x) port) (λ c. port-forgets c x port) (code_at modules x);
  open_calls = λ x. alike (λ c. open_call c x) (λ c. open_call c (forget_state x)) (λ c. refl) (code_at modules x);
}
