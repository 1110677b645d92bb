-- The values that a process holds, one by one, weigh and are of the kinds of its variables, loops and work list together.
use Rattle.std.proofs.Common.{◌≡◌, ℕ, List, ◌++◌, flat_map, Option}
use Rattle.herm_model.specs.Lists.{total, list_of}
use Rattle.herm_model.specs.Types.{TypeTable}
use Rattle.herm_model.specs.Values.{Kind, Parts}
use Rattle.herm_journal.specs.Weights.{weigh}
use Rattle.herm_journal.specs.Kinds.{HaveKinds, AllKinds}
use Rattle.herm_forms.specs.Frames.{Loop}
use Rattle.herm_forms.specs.Weights.{weight_held}
use Rattle.herm_forms.specs.Modules.{Module}
use Rattle.herm_forms.proofs.known.KindsKept.{LoopKinds}
use Rattle.herm_system.specs.Machines.{Held}
use Rattle.herm_system.specs.Kinds.{kinds_of, kinds_in, each, all_of, typed_in, typed_held}
use Rattle.herm_runs.specs.laws.ProcessLaws.{HeldKinds}
pub use Rattle.herm_runs.proofs.HeldParts.{typed-variables}
use Rattle.herm_runs.proofs.HeldParts.{weigh-parts, parts-are, are-parts, kinds-parts, typed-parts}
use Rattle.herm_source.specs.States.{State}
use Rattle.herm_source.specs.Local.{row_type}
use Rattle.herm_source.specs.SeenBySystem.{values_held}

-- the type of a loop's rows, and the rows
abbrev row : {N : Type 0} → Module → Loop N → Option ℕ
row c l = row_type c l.statement

abbrev rows : {N : Type 0} → Loop N → Parts N
rows l = l.rows

pub weigh-values : {N : Type 0} (w : N → ℕ) (c : Module) (s : State N) → total (λ (h : Held N). weigh w h.value) (values_held c s) ≡ weight_held w s.frame
weigh-values w c s = weigh-parts w c.variables s.frame.variables (row c) rows s.frame.loops s.frame.work

pub values-are : {N : Type 0} (of : Kind → Type 0) (c : Module) (s : State N) → HaveKinds of s.frame.variables → LoopKinds of s.frame.loops → AllKinds of s.frame.work → HeldKinds of (values_held c s)
values-are of c s v l i = parts-are of c.variables s.frame.variables (row c) rows s.frame.loops s.frame.work v l i

pub are-values : {N : Type 0} (of : Kind → Type 0) (c : Module) (s : State N) → HeldKinds of (values_held c s) → HaveKinds of s.frame.variables × LoopKinds of s.frame.loops × AllKinds of s.frame.work
are-values of c s h = are-parts of c.variables s.frame.variables (row c) rows s.frame.loops s.frame.work h

pub kinds-values : {N : Type 0} (c : Module) (s : State N) → flat_map (λ (h : Held N). kinds_of h.value) (values_held c s)
    ≡ kinds_in s.frame.variables ++ flat_map (λ (l : Loop N). kinds_in l.rows) s.frame.loops ++ flat_map kinds_of s.frame.work
kinds-values c s = kinds-parts c.variables s.frame.variables (row c) rows s.frame.loops s.frame.work

pub typed-values : {N : Type 0} (types : TypeTable) (c : Module) (s : State N) → flat_map (typed_held types) (values_held c s)
    ≡ typed_in types (each c.variables) s.frame.variables ++ flat_map (λ (l : Loop N). list_of (λ t. typed_in types (all_of t) l.rows) (row_type c l.statement)) s.frame.loops
typed-values types c s = typed-parts types c.variables s.frame.variables (row c) rows s.frame.loops s.frame.work
