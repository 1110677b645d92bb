-- Where the processes of accepted modules stand at reached points and are sound, every statement finds what it needs.
use Rattle.std.proofs.Common.{◌≡◌, ℕ, zero, suc, List, [], ◌∷◌, Option, Some, None, refl, sym, ap, ◌∙◌, subst}
use Rattle.std.specs.Prelude.{slice_get, option_map, IsTrue, IsFalse}
use Rattle.herm_model.specs.Lists.{IsIn, list_of, any_pass, numbered}
use Rattle.herm_model.specs.Paths.{Fact, init, case, path_of, is_at_or_below}
use Rattle.herm_model.specs.Types.{TypeTable}
use Rattle.herm_model.specs.Statements.{Process}
use Rattle.herm_model.specs.FactsOfStatements.{needs}
use Rattle.herm_model.specs.Nodes.{Node, process_nodes}
use Rattle.herm_model.specs.Targets.{Target, node, end, end_by}
use Rattle.herm_model.specs.ControlPaths.{flow_of, point, IsReached}
use Rattle.herm_model.specs.MissingFacts.{Demand, demands_at, demands, IsAccepted}
use Rattle.herm_model.specs.Labels.{Labels, AreExact}
use Rattle.herm_model.specs.Values.{Parts}
use Rattle.herm_model.specs.FactsOfValues.{satisfies, HasExactly}
use Rattle.herm_model.proofs.Lists.{in-map, in-flat_map, slice_get-map}
use Rattle.herm_model.proofs.FactTests.{at-numbered}
use Rattle.herm_model.proofs.Options.{none-not_some}
use Rattle.herm_model.proofs.DeterminedRefusals.{accepted-held}
use Rattle.herm_forms.specs.Frames.{Name}
use Rattle.herm_forms.specs.Modules.{Module, module_of}
use Rattle.herm_source.specs.States.{State, node_at}
use Rattle.herm_source.specs.Modules.{Program}
use Rattle.herm_source.specs.Local.{IsLabelled, open_loans, calling, HasFact}
use Rattle.herm_forms.specs.OpenCalls.{lent_paths}
use Rattle.herm_source.specs.AcceptedRuns.{IsCodeOf, AreCodesOf}
use Rattle.herm_source.specs.laws.NeedsLaws.{SoundStatesFindNeeds}

-- a module by its number is of the process of that number
pub module-of : (program : Program) (ps : List Process) (cs : List Module) → AreCodesOf program ps cs → (i : ℕ) (c : Module) → slice_get cs i ≡ Some c
    → (p : Process) × (slice_get ps i ≡ Some p) × IsCodeOf program p c
module-of program [] [] codes i c at = none-not_some at
module-of program [] (d ∷ cs) codes i c at = absurd codes
module-of program (p ∷ ps) [] codes i c at = absurd codes
module-of program (p ∷ ps) (d ∷ cs) codes zero c at = (p, refl, subst (IsCodeOf program p) (cc at) codes.0)
module-of program (p ∷ ps) (d ∷ cs) codes (suc i) c at = module-of program ps cs codes.1 i c at

-- values that have exactly these facts tell each of them
told-by : (ps : Parts Name) (facts : Fact → Type 0) → HasExactly ps facts → (f : Fact) → facts f → IsTrue (satisfies ps f)
told-by ps facts exact (init p) h = (exact.values p).1 h
told-by ps facts exact (case p c) h = exact.components p c h

-- what a node needs is a demand at its place
demanded : (types : TypeTable) (p : Process) (i : ℕ) (n : Node) (f : Fact) → slice_get (process_nodes p) i ≡ Some n → IsIn f (needs types p.variables n.form)
    → IsIn {X = Demand} (record { at = i; number = n.number; fact = f }) (demands (flow_of types p))
demanded types p i n f at need =
    let here = slice_get-map (point types p.variables) (process_nodes p) i ∙ ap (option_map (point types p.variables)) at in
    in-flat_map demands_at (i, point types p.variables n) (record { at = i; number = n.number; fact = f }) (numbered 0 (flow_of types p).points)
    (at-numbered (flow_of types p).points i (point types p.variables n) here)
    (in-map (λ (g : Fact). record { at = i; number = n.number; fact = g }) f (needs types p.variables n.form) need)

-- a reached node of an accepted process is labelled with what it needs
pub labelled : (types : TypeTable) (p : Process) (labels : Labels) → AreExact (flow_of types p) labels → IsAccepted types p → (t : Target) (n : Node) (f : Fact)
    → node_at (module_of types p labels) t ≡ Some n → IsReached (flow_of types p) t → IsIn f (needs types p.variables n.form) → IsLabelled (module_of types p labels) t f
labelled types p labels exact accepted (node i) n f at reached need =
    (exact i f reached).1 ((accepted-held types p).0 accepted (record { at = i; number = n.number; fact = f }) (demanded types p i n f at need))
labelled types p labels exact accepted end n f at reached need = none-not_some at
labelled types p labels exact accepted (end_by e) n f at reached need = none-not_some at

-- nothing is lent where no call is open
none-lent : (c : Module) (s : State Name) (f : Fact) → s.frame.call ≡ None → IsFalse (any_pass (λ p. is_at_or_below p (path_of f)) (open_loans c s))
none-lent c s f idle = ap (λ (o : Option ℕ). any_pass (λ p. is_at_or_below p (path_of f)) (list_of (λ call. list_of (lent_paths c) (calling c s)) o)) idle

pub sound-finds : SoundStatesFindNeeds
sound-finds program modules s accepted stands sound p state here c n f coded at idle need =
    let m = module-of program program.processes modules.codes accepted.codes state.module_number c coded in
    let reached = stands p state m.0 here m.1 in
    let local = sound p state here c coded in
    let label = m.2.0 in
    let has_label : IsLabelled c state.point f =
    subst (λ (d : Module). node_at d state.point ≡ Some n → IsIn f (needs d.types d.variables n.form) → IsLabelled d state.point f) (sym m.2.1)
    (λ at need. labelled program.types m.0 label m.2.2 m.2.3 state.point n f at reached need) at need in
    told-by state.frame.variables (HasFact c state) local.values f (has_label, none-lent c state f idle)
