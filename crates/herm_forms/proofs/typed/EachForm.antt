-- What typed forms keep, for any form; and that what is to be put does not depend on the counts of steps and actions.
use Rattle.std.proofs.Common.{◌≡◌, ℕ, List, Option, Some, None, option_map, option_and_then, refl, ap, ◌∙◌}
use Rattle.std.specs.Prelude.{map}
use Rattle.herm_model.specs.Paths.{Path}
use Rattle.herm_model.specs.Statements.{Form, Assign, Move, New, Discard, Unite, Dissolve, Reveal, Case, Wrap, Unwrap, Insert, Remove, Get, For, Connect, Send, Receive, Select, Arm, Call, Return, ReturnBy, Create, If, While, Raise, Leave, Process}
use Rattle.herm_model.specs.Values.{Cell, cell_at}
use Rattle.herm_model.proofs.Lists.{not_true}
use Rattle.herm_model.proofs.Options.{none-not_some, chain-some, map-some}
use Rattle.herm_journal.specs.Actions.{to_put, to_take, to_answer, values}
use Rattle.herm_journal.specs.Actions
use Rattle.herm_journal.specs.Messages.{CellWant, CellReply}
use Rattle.herm_forms.specs.Frames.{Name, Frame, Taken}
use Rattle.herm_forms.specs.Excess.{excess_over_declared}
use Rattle.herm_forms.specs.Modules.{Module}
use Rattle.herm_forms.specs.Exchanges.{outport_at, ports_at}
use Rattle.herm_forms.specs.Callmessages.{Composed}
use Rattle.herm_forms.specs.ReturnForms.{caller_of, return_wants}
use Rattle.herm_forms.specs.Acts.{composed, wants, given_back, given_at, given_by}
use Rattle.herm_forms.specs.laws.FormsSound.{LocalKeeps, AnswerKeeps}
use Rattle.herm_forms.proofs.Counting.{recount, recount_composed, recount-drop}
use Rattle.herm_forms.proofs.KeptBodies.{IsVisit}
use Rattle.herm_forms.proofs.KeptForms.{recount-composed}
use Rattle.herm_forms.proofs.forms.PlainForms.{never}
use Rattle.herm_forms.proofs.typed.FormsSound.{forms-sound}

module _ (exceptions : ℕ) (processes : List Process) (c : Module) where
  -- a typed form other than `for`; as a local step an action is stuck
  pub each-local : (form : Form) → (IsVisit form → ⊥) → LocalKeeps exceptions processes c form
  each-local (Assign x e) other = (forms-sound exceptions processes c).assign x e
  each-local (Move y x) other = (forms-sound exceptions processes c).move y x
  each-local (New x) other = (forms-sound exceptions processes c).new x
  each-local (Discard x) other = (forms-sound exceptions processes c).discard x
  each-local (Unite v k y) other = (forms-sound exceptions processes c).unite v k y
  each-local (Dissolve v k y) other = (forms-sound exceptions processes c).dissolve v k y
  each-local (Reveal v k) other = (forms-sound exceptions processes c).reveal v k
  each-local (Case v ks) other = (forms-sound exceptions processes c).choose v ks
  each-local (Wrap y p) other = (forms-sound exceptions processes c).wrap y p
  each-local (Unwrap p t y) other = (forms-sound exceptions processes c).unwrap p t y
  each-local (Insert r t) other = (forms-sound exceptions processes c).insert r t
  each-local (Remove r t keys) other = (forms-sound exceptions processes c).remove r t keys
  each-local (Get r t keys) other = (forms-sound exceptions processes c).get r t keys
  each-local (For r t) other = absurd (other tt)
  each-local (Connect o i) other = (forms-sound exceptions processes c).connect o i
  each-local (If e) other = (forms-sound exceptions processes c).if_test e
  each-local (While e) other = (forms-sound exceptions processes c).while_test e
  each-local (Raise e) other = (forms-sound exceptions processes c).raise e
  each-local Leave other = (forms-sound exceptions processes c).leave
  each-local form other = λ is name statement has b b' o sound needed at. never o b' at

  -- a typed form that is an action
  pub each-answer : (form : Form) → AnswerKeeps exceptions processes c form
  each-answer (New x) = (forms-sound exceptions processes c).new_inport x
  each-answer (Send x o) = (forms-sound exceptions processes c).send x o
  each-answer (Receive x i) = (forms-sound exceptions processes c).receive x i
  each-answer (Select arms) = (forms-sound exceptions processes c).select arms
  each-answer (Call o arguments) = (forms-sound exceptions processes c).call o arguments
  each-answer (Return m) = (forms-sound exceptions processes c).return m
  each-answer (ReturnBy m e) = (forms-sound exceptions processes c).return_by m e
  each-answer (Create o process) = (forms-sound exceptions processes c).create o process
  each-answer form = λ is acts. not_true acts

module _ (name : Name → Name) (c : Module) (steps actions : ℕ) (b : Frame Name) (n : ℕ) (m : Cell Name) where
  abbrev Puts : Form → Type 0
  Puts form = wants name c form b ≡ Some (to_put n m) → wants name c form (recount steps actions b) ≡ Some (to_put n m)

  returned-not : {A : Type 0} (reply : List (Cell Name) → CellReply Name) (taken : Option (Taken Name)) (x : Path) → return_wants reply taken x b ≡ Some (to_put n m) → A
  returned-not reply taken x e =
      let d = chain-some (λ c. option_map (λ (t : Taken Name). to_answer c.0 c.1 (reply t.cells)) taken) (option_and_then caller_of (cell_at x b.variables)) (to_put n m) e in
      let t = map-some (λ (t : Taken Name). to_answer (d.0).0 (d.0).1 (reply t.cells)) taken (to_put n m) d.2 in
      cc

  abbrev put-in : ℕ → Composed Name → CellWant Name
  put-in port x = to_put port x.message

  composed-same : (port : ℕ) (x : Option (Composed Name)) → option_map (put-in port) (option_map (recount_composed steps actions) x) ≡ option_map (put-in port) x
  composed-same port None = refl
  composed-same port (Some x) = refl

  called-same : (x : Option (Composed Name)) (o : Option ℕ) → option_and_then (λ port. option_map (put-in port) (option_map (recount_composed steps actions) x)) o
      ≡ option_and_then (λ port. option_map (put-in port) x) o
  called-same x None = refl
  called-same x (Some port) = composed-same port x

  -- what is to be put is the same whatever the counts
  pub puts-same : (form : Form) → Puts form
  puts-same (Send x o) e = ap (λ (d : Frame Name). option_and_then (λ port. option_map (to_put port) (cell_at x d.variables)) (outport_at o b)) (recount-drop steps actions (excess_over_declared c o x b) b) ∙ e
  puts-same (Call o arguments) e =
      ap (λ x. option_and_then (λ port. option_map (put-in port) x) (outport_at o b)) (recount-composed (λ _. 0) (λ _. 0) name (λ k h. refl) 0 0 steps actions c o arguments b)
      ∙ called-same (composed name c o arguments b) (outport_at o b) ∙ e
  puts-same (New x) e = e
  puts-same (Create o process) e = e
  puts-same (Receive x i) e = e
  puts-same (Select arms) e = let ports = map-some to_take (ports_at (map (λ (a : Arm). a.port) arms) b) (to_put n m) e in cc
  puts-same (Return x) e = returned-not values (given_back c (given_at c x) b) x e
  puts-same (ReturnBy x y) e = returned-not (Actions.raised y) (given_back c (given_by c x y) b) x e
  puts-same form e = none-not_some e
