-- The four programs are ready, and labels past a raise are free.
use Rattle.std.proofs.Common.{◌≡◌, ◌⊎◌, inl, inr, ℕ, zero, suc, [], ◌∷◌, Bool, true, false, Option, Some, None, slice_get, refl, sym, ap, subst, ◌∙◌, arith, true≢false}
use Rattle.herm_model.specs.ControlPaths.{Edge, Point, IsReached}
use Rattle.herm_model.specs.Labels.{Labels, AreExact}
use Rattle.herm_model.specs.Lists.{IsIn, list_of}
use Rattle.herm_model.specs.Outcomes.{overflow}
use Rattle.herm_model.specs.Statements.{Process, IsWellFormedBlock, block, no_blocks, no_statements}
use Rattle.herm_source.specs.examples.CheckedExamples.{choosing_process}
use Rattle.herm_source.specs.examples.RunExamples.{limited}
use Rattle.herm_model.specs.Targets.{Target, node, end_by}
use Rattle.herm_model.specs.Types.{fields, inport, outport, callmessage, by_inout}
use Rattle.herm_model.specs.laws.FlowLaws.{IsLedTo, begins, goes_on}
use Rattle.herm_model.proofs.HeldDecided.{exact-labels}
use Rattle.herm_model.proofs.Options.{some-injective, none-not_some}
use Rattle.herm_model.proofs.Reached.{reached-IsLedTo}
use Rattle.herm_source.specs.examples.CallPrograms.{busy, ask_types, kept_parameter, calls_both_ways}
use Rattle.herm_source.specs.examples.Programs.{two_senders}
use Rattle.herm_checked.specs.examples.RunningPrograms.{IsDescribedWithin, IsStuckBehind, choosing_program, raises_alone, IsReady, ring_types, ring_of_three, past_a_raise, IsFreeAt}
use Rattle.herm_checked.proofs.ReadyPrograms.{ready-checked, described-within, stuck-behind}

pub ring-ready : IsReady 7 ring_of_three
ring-ready = ready-checked 7 ring_types ring_of_three.processes 1 refl (refl, refl, (refl, refl, tt))

pub senders-ready : IsReady 7 (two_senders 3)
senders-ready = ready-checked 7 (fields (1 ∷ 1 ∷ []) ∷ inport 8 [] ∷ outport 9 ∷ fields (1 ∷ 10 ∷ []) ∷ inport 11 [] ∷ outport 12 ∷ []) (two_senders 3).processes 1 refl (refl, refl, (refl, refl, tt))

pub both-ready : IsReady 7 calls_both_ways
both-ready =
    ready-checked 7 (callmessage (record { mode = by_inout; content = 2 } ∷ []) [] ∷ inport 8 [] ∷ outport 9 ∷ fields (9 ∷ 10 ∷ []) ∷ inport 11 [] ∷ outport 12 ∷ []) calls_both_ways.processes 1 refl (refl, refl, (refl, refl, tt))

pub kept-ready : IsReady 8 kept_parameter
kept-ready = ready-checked 8 (ask_types (record { exception = busy; kept = 1 ∷ [] } ∷ [])) kept_parameter.processes 1 refl (refl, refl, (refl, refl, tt))

pub raises-ready : IsReady 7 raises_alone
raises-ready = ready-checked 7 [] raises_alone.processes 0 refl (refl, refl, tt)

pub raises-described : IsDescribedWithin raises_alone (limited 1000 4 4) 4 1 6
raises-described = described-within 7 raises_alone raises-ready (limited 1000 4 4) 4 1 6 (omega arith) refl

pub kept-described : IsDescribedWithin kept_parameter (limited 1000 4 4) 40 9 0
kept-described = described-within 8 kept_parameter kept-ready (limited 1000 4 4) 40 9 0 (omega arith) refl

-- the modules of a program with a missing arm are accepted, and its run is stuck
pub missing-stuck : IsStuckBehind (choosing_program (1 ∷ []) (block no_statements no_blocks)) (limited 1000 4 4) 2
missing-stuck =
    let program = choosing_program (1 ∷ []) (block no_statements no_blocks) in
    stuck-behind program (λ p m. formed p m) (refl, refl, tt) (limited 1000 4 4) 2 refl
  where
    first : IsWellFormedBlock (choosing_process (1 ∷ []) (block no_statements no_blocks)).body
    first = (refl, (refl, ((refl, ((λ h. h), tt), (tt, tt)), tt)))

    formed : (p : Process) → IsIn p (choosing_program (1 ∷ []) (block no_statements no_blocks)).processes → IsWellFormedBlock p.body
    formed p (inl is) = subst (λ (p : Process). IsWellFormedBlock p.body) (sym is) first
    formed p (inr h) = absurd h

-- the number of a node
abbrev node_number : Target → Option ℕ
node_number (node i) = Some i
node_number t = None

-- a process that raises at its first statement goes nowhere else
only-first : (t : Target) → IsLedTo past_a_raise t → (t ≡ node 0) ⊎ (t ≡ end_by overflow)
only-first t begins = inl refl
only-first t (goes_on i p e led at member) = by (only-first (node i) led)
  where
    one : IsIn e (list_of (λ (p : Point). p.edges) (slice_get past_a_raise.points 0)) → (e.target ≡ node 0) ⊎ (e.target ≡ end_by overflow)
    one (inl is) = inr (ap (λ (e : Edge). e.target) is)
    one (inr h) = absurd h

    by : (node i ≡ node 0) ⊎ (node i ≡ end_by overflow) → (e.target ≡ node 0) ⊎ (e.target ≡ end_by overflow)
    by (inl same) =
        let first : slice_get past_a_raise.points 0 ≡ Some p = ap (slice_get past_a_raise.points) (some-injective (ap node_number (sym same))) ∙ at in
        one (subst (λ o. IsIn e (list_of (λ (p : Point). p.edges) o)) (sym first) member)
    by (inr same) = none-not_some (sym (ap node_number same))

not-reached : (i : ℕ) → IsReached past_a_raise (node (suc i)) → ⊥
not-reached i reached = by (only-first (node (suc i)) (reached-IsLedTo past_a_raise (node (suc i)) reached))
  where
    is_first : Target → Bool
    is_first (node zero) = true
    is_first t = false

    by : (node (suc i) ≡ node 0) ⊎ (node (suc i) ≡ end_by overflow) → ⊥
    by (inl e) = true≢false (sym (ap is_first e))
    by (inr e) = none-not_some (sym (ap node_number e))

pub free-labels : IsFreeAt past_a_raise 1
free-labels b = (free, exact, λ f. refl)
  where
    free : Labels
    free zero f = (exact-labels past_a_raise).0 zero f
    free (suc i) f = b

    exact : AreExact past_a_raise free
    exact zero f reached = (exact-labels past_a_raise).1 zero f reached
    exact (suc i) f reached = absurd (not-reached i reached)
