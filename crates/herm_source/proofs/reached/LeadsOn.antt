-- A local step and an answer leave a process at its point, or lead along an exit of the node there; so it stays where control paths lead.
use Rattle.std.proofs.Common.{◌≡◌, find, ℕ, List, [], ◌∷◌, Bool, true, false, Option, Some, None, option_map, refl, ap, ◌∙◌, subst}
use Rattle.std.specs.Prelude.{slice_get, option_and_then, cond, ⊤}
use Rattle.herm_model.specs.Lists.{IsIn}
use Rattle.herm_model.specs.Paths.{init}
use Rattle.herm_model.specs.Types.{TypeTable}
use Rattle.herm_model.specs.Statements.{Process, IsWellFormedBlock}
use Rattle.herm_model.specs.Outcomes.{Outcome, same_outcome}
use Rattle.herm_model.specs.Nodes.{Node, process_nodes, entry_of}
use Rattle.herm_model.specs.Exits.{Exit, exits}
use Rattle.herm_model.specs.Targets.{Target, node, end, end_by}
use Rattle.herm_model.specs.ControlPaths.{flow_of, edge, point, held_at_start, IsReached}
use Rattle.herm_model.specs.Labels.{Labels}
use Rattle.herm_model.specs.laws.FlowLaws.{goes_on}
use Rattle.herm_model.specs.Values.{Cell}
use Rattle.herm_model.proofs.Lists.{in-map, found-in, slice_get-map}
use Rattle.herm_model.proofs.DifferentOutcomes.{process-EdgesDiffer}
use Rattle.herm_model.proofs.Reached.{reached-IsLedTo, reached-led}
use Rattle.herm_model.proofs.Options.{some-injective, none-not_some, chain-some, map-some}
use Rattle.herm_forms.specs.Frames.{Name, Completion, goes, stays, stuck, counted_step}
use Rattle.herm_journal.specs.Messages.{CellAction}
use Rattle.herm_forms.specs.EdgeFinalising.{arrive}
use Rattle.herm_forms.specs.Modules.{Module, module_of}
use Rattle.herm_source.specs.States.{own_name, State, Next, an_item, a_reply, a_statement, nothing, node_at, call_or_statement, item_or, next_of, state_after, step_next, settle_next, local_step, answered}
use Rattle.herm_forms.specs.Acts.{leads_to, is_action, act}

-- The point of a state stays, or an exit of its node leads from it to the next one.
pub data LeadsOn (c : Module) (from : Target) : Target → Type 0 where
  rests : LeadsOn c from from
  leaves : (n : Node) (e : Exit) → node_at c from ≡ Some n → IsIn e (exits c.types c.variables n) → LeadsOn c from e.target

-- what comes next at a node is at the point's node
abbrev IsAt : Module → Target → Next Name → Type 0
IsAt c t (an_item item work) = ⊤
IsAt c t (a_reply call n) = node_at c t ≡ Some n
IsAt c t (a_statement n) = node_at c t ≡ Some n
IsAt c t nothing = ⊤

called-at : (c : Module) (t : Target) (call : Option ℕ) (o : Option Node) → node_at c t ≡ o → IsAt c t (call_or_statement call o)
called-at c t None None at = tt
called-at c t (Some k) None at = tt
called-at c t None (Some n) at = at
called-at c t (Some k) (Some n) at = at

item-at : (c : Module) (t : Target) (work : List (Cell Name)) (next : Next Name) → IsAt c t next → IsAt c t (item_or work next)
item-at c t [] next at = at
item-at c t (item ∷ work) next at = tt

next-at : (c : Module) (s : State Name) → IsAt c s.point (next_of c s)
next-at c s = item-at c s.point s.frame.work (call_or_statement s.frame.call (node_at c s.point)) (called-at c s.point s.frame.call (node_at c s.point) refl)

-- where an outcome of a node leads
led-by : (c : Module) (from : Target) (n : Node) (o : Outcome) (t : Target) → node_at c from ≡ Some n → leads_to c n o ≡ Some t → LeadsOn c from t
led-by c from n o t at leads =
    let e = map-some (λ (e : Exit). e.target) (find (λ (e : Exit). same_outcome e.outcome o) (exits c.types c.variables n)) t leads in
    subst (LeadsOn c from) e.2 (leaves n e.0 at (found-in (λ (e : Exit). same_outcome e.outcome o) e.0 (exits c.types c.variables n) e.1).0)

behind-leads : (c : Module) (s t : State Name) (n : Option Node) (r : Completion Name) → ((m : Node) → n ≡ Some m → node_at c s.point ≡ Some m) → state_after c s n r ≡ Some t → LeadsOn c s.point t.point
behind-leads c s t n (goes o b) at is =
    let there = map-some (λ (t : Target). record { module_number = s.module_number; point = t; frame = arrive c t b }) (option_and_then (λ (n : Node). leads_to c n o) n) t is in
    let here = chain-some (λ (n : Node). leads_to c n o) n there.0 there.1 in
    subst (λ (x : State Name). LeadsOn c s.point x.point) there.2 (led-by c s.point here.0 o there.0 (at here.0 here.1) here.2)
behind-leads c s t n (stays b) at is = subst (λ (x : State Name). LeadsOn c s.point x.point) (some-injective is) rests
behind-leads c s t n stuck at is = none-not_some is

-- the point's node
at-node : (c : Module) (t : Target) (n : Node) → node_at c t ≡ Some n → (m : Node) → Some n ≡ Some m → node_at c t ≡ Some m
at-node c t n at m same = at ∙ same

at-none : (c : Module) (t : Target) (m : Node) → None ≡ Some m → node_at c t ≡ Some m
at-none c t m none = none-not_some none

step-leads : (c : Module) (s t : State Name) (next : Next Name) → IsAt c s.point next → step_next own_name c s next ≡ Some t → LeadsOn c s.point t.point
step-leads c s t (an_item item work) at is = none-not_some is
step-leads c s t (a_reply call n) at is = none-not_some is
step-leads c s t (a_statement n) at is = by_form (is_action c n.form) is
  where
    by_form : (b : Bool) → cond b None (state_after c s (Some n) (act own_name c n.number n.form (counted_step s.frame))) ≡ Some t → LeadsOn c s.point t.point
    by_form true is = none-not_some is
    by_form false is = behind-leads c s t (Some n) (act own_name c n.number n.form (counted_step s.frame)) (at-node c s.point n at) is
step-leads c s t nothing at is = none-not_some is

settle-leads : (c : Module) (s t : State Name) (place : ℕ) (a : CellAction Name) (next : Next Name) → IsAt c s.point next → settle_next own_name c s place a next ≡ Some t → LeadsOn c s.point t.point
settle-leads c s t place a (an_item item work) at is = behind-leads c s t None _ (at-none c s.point) is
settle-leads c s t place a (a_reply call n) at is = behind-leads c s t (Some n) _ (at-node c s.point n at) is
settle-leads c s t place a (a_statement n) at is = behind-leads c s t (Some n) _ (at-node c s.point n at) is
settle-leads c s t place a nothing at is = none-not_some is

pub local-leads : (c : Module) (s t : State Name) → local_step own_name c s ≡ Some t → LeadsOn c s.point t.point
local-leads c s t is = step-leads c s t (next_of c s) (next-at c s) is

pub answer-leads : (c : Module) (s t : State Name) (place : ℕ) (a : CellAction Name) → answered own_name c s place a ≡ Some t → LeadsOn c s.point t.point
answer-leads c s t place a is = settle-leads c s t place a (next_of c s) (next-at c s) is

-- control paths lead on along exits
exit-reached : (types : TypeTable) (p : Process) → IsWellFormedBlock p.body → (i : ℕ) (n : Node) (e : Exit) → slice_get (process_nodes p) i ≡ Some n → IsIn e (exits types p.variables n)
    → IsReached (flow_of types p) (node i) → IsReached (flow_of types p) e.target
exit-reached types p formed i n e at member reached =
    let here = slice_get-map (point types p.variables) (process_nodes p) i ∙ ap (option_map (point types p.variables)) at in
    (reached-led (flow_of types p) (process-EdgesDiffer types p formed) e.target).1
    (goes_on i (point types p.variables n) (edge types p.variables n.form e) (reached-IsLedTo (flow_of types p) (node i) reached) here
    (in-map (edge types p.variables n.form) e (exits types p.variables n) member))

node-reached : (types : TypeTable) (p : Process) (labels : Labels) → IsWellFormedBlock p.body → (t : Target) (n : Node) (e : Exit) → node_at (module_of types p labels) t ≡ Some n → IsIn e (exits types p.variables n)
    → IsReached (flow_of types p) t → IsReached (flow_of types p) e.target
node-reached types p labels formed (node i) n e at member reached = exit-reached types p formed i n e at member reached
node-reached types p labels formed end n e at member reached = none-not_some at
node-reached types p labels formed (end_by x) n e at member reached = none-not_some at

pub leads-reached : (types : TypeTable) (p : Process) (labels : Labels) → IsWellFormedBlock p.body → (from t : Target) → LeadsOn (module_of types p labels) from t → IsReached (flow_of types p) from → IsReached (flow_of types p) t
leads-reached types p labels formed from _ rests reached = reached
leads-reached types p labels formed from _ (leaves n e at member) reached = node-reached types p labels formed from n e at member reached

pub entry-reached : (types : TypeTable) (p : Process) → IsReached (flow_of types p) (entry_of p)
entry-reached types p = ([], held_at_start (init (0 ∷ [])), refl)
