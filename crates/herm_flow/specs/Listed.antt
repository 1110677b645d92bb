-- Edges of a statement, by the lists of their point.
use Rattle.std.specs.Prelude.{◌≡◌, ◌<◌, ◌≤◌, ◌⊎◌, ℕ, List, ◌++◌, length, map, flat_map, Bool, true, nat_eq, slice_get, Vec}
use Rattle.std.specs.Global.{Global}
use Rattle.herm_model.specs.Lists.{IsIn, map_or, any_pass}
use Rattle.herm_model.specs.Outcomes as model
use Rattle.herm_model.specs.Targets.{node}
use Rattle.herm_model.specs.Exits.{Exit}
use Rattle.herm_types.specs.declared.fact.Path.{Path}
use Rattle.herm_types.specs.declared.fact.Fact.{Fact}
use Rattle.herm_typed.specs.declared.expressions.TypedPath.{TypedPath}
use Rattle.herm_typed.specs.declared.expressions.TypedAtom.{TypedAtom}
use Rattle.herm_typed.specs.declared.statements.TypedForm.{TypedForm, Call}
use Rattle.herm_typed.specs.declared.outcome_list.Outcome.{Outcome}
use Rattle.herm_typed.specs.View.{outcome_view}
use Rattle.herm_judge.specs.declared.frame.Frame.{Frame}
use Rattle.herm_judge.specs.View.{table_of, variables_of}
use Rattle.herm_effects.specs.Rows.{makes_at, kills_at, places_at}
use Rattle.herm_flow.specs.declared.onward.OnwardEdge.{OnwardEdge}
use Rattle.herm_flow.specs.declared.leads.Lead.{Lead}
use Rattle.herm_flow.specs.declared.lists.Listed.{Listed}
use Rattle.herm_flow.specs.Edges.{an_exit, edge_at}
use Rattle.herm_flow.specs.Onward.{is_node, IsSameEdge}
use Rattle.herm_flow.specs.Some.{AreSome}
use Rattle.herm_flow.specs.OnwardView.{facts_in, paths_in, onward_edge_view}

-- an exit to a statement
abbrev pub exits_on : Exit → Bool
exits_on x = is_node x.target

abbrev pub lead_view : Lead → Exit
lead_view l = an_exit (outcome_view l.outcome) (node l.to)

-- where an edge leads, by which outcome
abbrev pub lead_of : OnwardEdge → Lead
lead_of e = record { outcome = e.outcome; to = e.to }

-- Each of the edges is that of its outcome, as far as what is held behind it.
abbrev pub AreAsTabled : Frame → TypedForm → Listed → Type 0
AreAsTabled frame form l = (e : OnwardEdge) → IsIn e l.edges.items → IsSameEdge (onward_edge_view l.made.items l.gone.items e) (edge_at (table_of frame) (variables_of frame) form (lead_view (lead_of e)))

-- The edge leads where the outcome leads, and its own makes and takes away the same.
pub record IsAlike (frame : Frame) (form : TypedForm) (e : OnwardEdge) (x : Lead) : Type 0 where
  pub to : e.to ≡ x.to
  pub makes : makes_at frame form e.outcome ≡ makes_at frame form x.outcome
  pub kills : kills_at frame form e.outcome ≡ kills_at frame form x.outcome

-- Some of these outcomes have an edge, in their order; and there is an edge alike for each of them.
pub record AreLed (frame : Frame) (form : TypedForm) (es : List OnwardEdge) (leads : List Lead) : Type 0 where
  pub some : AreSome (map lead_of es) leads
  pub each : (x : Lead) → IsIn x leads → (e : OnwardEdge) × IsIn e es × IsAlike frame form e x

-- the number of no list
abbrev pub no_list : ℕ
no_list = 4294967295

-- The lists have, by these numbers, what an outcome makes and takes away, and stay so when there are more.
pub record AreNamed (frame : Frame) (form : TypedForm) (made : List (Vec Fact Global)) (gone : List (Vec Path Global)) (outcome : Outcome) (numbers : List ℕ) (number : ℕ) : Type 0 where
  pub makes : flat_map (facts_in made) numbers ≡ makes_at frame form outcome
  pub kills : paths_in gone number ≡ kills_at frame form outcome
  pub within : (i : ℕ) → IsIn i numbers → i < length made
  pub settled : (number < length gone) ⊎ (number ≡ no_list)

-- Each of the edges names what its outcome makes and takes away.
pub record AreListed (frame : Frame) (form : TypedForm) (l : Listed) : Type 0 where
  pub edges : (e : OnwardEdge) → IsIn e l.edges.items → AreNamed frame form l.made.items l.gone.items e.outcome e.makes.items e.kills
  pub few : length l.gone.items ≤ no_list

-- the second has the lists of the first, and maybe more behind them
abbrev pub Grows : {X : Type 0} → List X → List X → Type 0
Grows {X} old new = (more : List X) × (new ≡ old ++ more)

-- the form is a call at this path with these arguments
pub record IsCall (form : TypedForm) (o : TypedPath) (list : List TypedAtom) : Type 0 where
  pub arguments : Vec TypedAtom Global
  pub is : form ≡ Call o arguments
  pub items : arguments.items ≡ list

-- the number of what a call takes away at an outcome
abbrev pub call_kills : model.Outcome → ℕ
call_kills model.ok = 0
call_kills (model.raised e) = 0
call_kills _ = no_list

-- The edges of a call name its arguments by their places.
pub record IsCalled (frame : Frame) (o : TypedPath) (e : OnwardEdge) : Type 0 where
  pub makes : e.makes.items ≡ places_at frame o e.outcome
  pub kills : e.kills ≡ call_kills (outcome_view e.outcome)

abbrev pub AreCalled : Frame → TypedPath → List OnwardEdge → Type 0
AreCalled frame o es = (e : OnwardEdge) → IsIn e es → IsCalled frame o e

-- the number is marked, or lies beyond the marks
abbrev pub is_marked : List Bool → ℕ → Bool
is_marked marks i = map_or true (λ b. b) (slice_get marks i)

-- one of the edges names the list with this number for what it makes
abbrev pub is_named : List OnwardEdge → ℕ → Bool
is_named es i = any_pass (λ (e : OnwardEdge). any_pass (nat_eq i) e.makes.items) es
