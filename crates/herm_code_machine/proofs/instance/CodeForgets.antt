-- The machine of code does the same without names.
use Rattle.std.proofs.Common.{◌≡◌, ℕ, [], ◌∷◌, find, Bool, Option, Some, None, option_map, option_and_then, slice_get, refl, ap, ◌∙◌}
use Rattle.std.specs.Prelude.{nat_eq}
use mathlib.Core.Path.{fun_ext}
use Rattle.herm_model.specs.Lists.{any_pass, list_of}
use Rattle.herm_model.specs.Paths.{Path}
use Rattle.herm_model.specs.Types.{type_at}
use Rattle.herm_model.specs.Values.{Name}
use Rattle.herm_model.specs.CellNames.{forget}
use Rattle.herm_journal.specs.Renaming.{rename_want, rename_action, forget_name}
use Rattle.herm_forms.specs.Frames.{Frame}
use Rattle.herm_forms.specs.Incoming.{leads_from}
use Rattle.herm_forms.specs.Renaming.{rename_body}
use Rattle.herm_forms.proofs.renamed.RenamedActions.{inport_at-renamed}
use Rattle.herm_runs.specs.laws.ProcessLaws.{ForgetsNames}
use Rattle.herm_code_machine.specs.ReadyCode.{ReadyCode, ReadyImage}
use Rattle.herm_code_machine.specs.CodeStates.{CodeState, code_begin}
use Rattle.herm_code_machine.specs.Pieces.{Met}
use Rattle.herm_code_machine.specs.CodeSteps.{CodeNext, an_item, a_reply, an_action, a_local_piece, nothing, code_next, ready_for, code_wanted, code_local_step, code_answered}
use Rattle.herm_code_machine.specs.CodeSeen.{ports_of, action_at, code_port_type}
use Rattle.herm_code_machine.specs.CodeRenaming.{forget_code}
use Rattle.herm_code_machine.specs.CodeInstance.{own_name, code_machine, nameless_code, code_at, ready_if}
use Rattle.herm_code_machine.proofs.renamed.CodeRenamed.{rename_next, code_next-renamed, code_begin-renamed, code_wanted-renamed, code_step-renamed, code_answered-renamed}

-- what is done with a code, where there is one
through : {X Y : Type 0} (g : X → Y) (next : ReadyCode → Option X) (next' : ReadyCode → Option Y) → ((c : ReadyCode) → next' c ≡ option_map g (next c)) → (o : Option ReadyCode) → option_and_then next' o ≡ option_map g (option_and_then next o)
through g next next' e None = refl
through g next next' e (Some c) = e c

alike : {X : Type 0} (next next' : ReadyCode → Option X) → ((c : ReadyCode) → next' c ≡ next c) → (o : Option ReadyCode) → option_and_then next' o ≡ option_and_then next o
alike next next' e None = refl
alike next next' e (Some c) = e c

-- how it stands
ready-next : (limit : ℕ) (b : Frame Name) (next : CodeNext Name) → ready_for limit (rename_body forget_name b) (rename_next forget_name own_name next) ≡ ready_for limit b next
ready-next limit b nothing = refl
ready-next limit b (an_item item work) = refl
ready-next limit b (a_reply call i instruction) = refl
ready-next limit b (an_action p m) = refl
ready-next limit b (a_local_piece p) = refl

ready-forgets : (limit : ℕ) (x : CodeState Name) (o : Option ReadyCode) → ready_if limit (forget_code x) o ≡ ready_if limit x o
ready-forgets limit x None = refl
ready-forgets limit x (Some c) = ap (ready_for limit (rename_body forget_name x.frame)) (code_next-renamed forget_name own_name c x) ∙ ready-next limit x.frame (code_next c x)

-- at which ports it looks
leads-forget : (n : ℕ) (b : Frame Name) → leads_from n (rename_body forget_name b) ≡ leads_from n b
leads-forget n b = fun_ext (λ i. ap (λ o. any_pass (nat_eq n) (list_of (λ k. k ∷ []) o)) (inport_at-renamed forget_name i b))

port-forgets : (c : ReadyCode) (x : CodeState Name) (n : ℕ) → code_port_type c (forget_code x) n ≡ code_port_type c x n
port-forgets c x n =
    ap (λ (test : Path → Bool). option_and_then (λ (m : Met). option_and_then (type_at c.scope.types c.scope.variables) (find test (ports_of m.instruction))) (action_at c x.position)) (leads-forget n x.frame)

pub code-forgets-names : (image : ReadyImage) → ForgetsNames (code_machine image) (nameless_code image) forget_code
code-forgets-names image = record {
  types = refl;
  number = λ x. refl;
  begins = λ code number port. through forget_code (λ c. code_begin own_name c code number port) (λ c. code_begin forget_name c code number (forget port)) (λ c. code_begin-renamed forget_name own_name c code number port) (slice_get image.codes code);
  ready = λ limit x. ready-forgets limit x (code_at image x);
  wants = λ x. through (rename_want forget_name) (λ c. code_wanted own_name c x) (λ c. code_wanted forget_name c (forget_code x)) (λ c. code_wanted-renamed forget_name own_name c x) (code_at image x);
  local_steps = λ x. through forget_code (λ c. code_local_step own_name c x) (λ c. code_local_step forget_name c (forget_code x)) (λ c. code_step-renamed forget_name own_name c x) (code_at image x);
  answers = λ x at a. through forget_code (λ c. code_answered own_name c x at a) (λ c. code_answered forget_name c (forget_code x) at (rename_action forget_name a)) (λ c. code_answered-renamed forget_name own_name c x at a) (code_at image x);
  port_types = λ x port. alike (λ c. code_port_type c x port) (λ c. code_port_type c (forget_code x) port) (λ c. port-forgets c x port) (code_at image x);
  open_calls = λ x. refl;
}
