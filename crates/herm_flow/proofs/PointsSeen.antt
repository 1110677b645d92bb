-- The points of a statement, as the model has them.
use Rattle.std.proofs.Common.{◌≡◌, ℕ, ◌+◌, suc, List, [], ◌∷◌, ◌++◌, map, Option, Some, None, refl, sym, ap, ◌∙◌}
use Rattle.herm_model.specs.Lists.{list_of}
use Rattle.herm_model.specs.Paths.{Fact}
use Rattle.herm_model.specs.Types.{TypeTable}
use Rattle.herm_model.specs.Statements as model
use Rattle.herm_model.specs.Statements.{Form, Leave, Case, Select, If, For, While, Arm, Block, Blocks, simple, choosing, repeating, leaving, branching_of, goes_on, numbers_of, numbers_of_block, numbers_of_blocks, numbers_of_handlers}
use Rattle.herm_model.specs.Outcomes.{Outcome, component, raised, arms_from, normal_outcomes, exceptions, outcomes}
use Rattle.herm_model.specs.Targets.{Target, node}
use Rattle.herm_model.specs.Handlers.{Catch, caught}
use Rattle.herm_model.specs.Nodes.{Surroundings, Node, starts, start_of_block, nodes, nodes_in, nodes_of_choices}
use Rattle.herm_model.specs.Exits.{Exit, paired}
use Rattle.herm_model.specs.ControlPaths.{Edge, Point, edge, point}
use Rattle.herm_model.specs.FactsOfStatements.{needs, makes, kills}
use Rattle.herm_typed.specs.declared.statements.TypedForm.{TypedForm}
use Rattle.herm_typed.specs.View.{typed_form_view, form_of_statement}
use Rattle.herm_flow.specs.Edges.{raised_in, an_exit, exit_of, left_of, exits_from, point_at}
use Rattle.herm_flow.specs.Around.{in_loop}

-- ---- exits

abbrev AreNormal : List Outcome → Type 0
AreNormal [] = Unit {0}
AreNormal (o ∷ os) = (raised_in o ≡ None) × AreNormal os

components_normal : (cs : List ℕ) → AreNormal (map component cs)
components_normal [] = tt
components_normal (c ∷ cs) = (refl, components_normal cs)

arms_normal : (n : ℕ) (arms : List Arm) → AreNormal (arms_from n arms)
arms_normal n [] = tt
arms_normal n (a ∷ arms) = (refl, arms_normal (suc n) arms)

are_normal : (f : Form) → AreNormal (normal_outcomes f)
are_normal (Case v cs) = components_normal cs
are_normal (Select arms) = arms_normal 0 arms
are_normal (For r t) = (refl, (refl, tt))
are_normal (If e) = (refl, (refl, tt))
are_normal (While e) = (refl, (refl, tt))
are_normal (model.Raise e) = tt
are_normal f = (refl, tt)

abbrev pub of_exceptions : List ℕ → List Catch → List Exit
of_exceptions es catches = map (λ e. an_exit (raised e) (caught catches e)) es

pub exits_raised : (es : List ℕ) (leads : List Target) (catches : List Catch) → exits_from (map raised es) leads catches ≡ of_exceptions es catches
exits_raised [] leads catches = refl
exits_raised (e ∷ es) leads catches = ap (an_exit (raised e) (caught catches e) ∷◌) (exits_raised es leads catches)

none_paired : (os : List Outcome) → paired os [] ≡ []
none_paired [] = refl
none_paired (o ∷ os) = refl

exits_joined : (os : List Outcome) (es : List ℕ) (leads : List Target) (catches : List Catch) → AreNormal os → exits_from (os ++ map raised es) leads catches ≡ paired os leads ++ of_exceptions es catches
exits_joined [] es leads catches h = exits_raised es leads catches
exits_joined (o ∷ os) es [] catches h =
    ap (λ r. exit_of o r [] catches ++ exits_from (os ++ map raised es) (left_of r []) catches) h.0
    ∙ (exits_joined os es [] catches h.1 ∙ ap (λ ps. ps ++ of_exceptions es catches) (none_paired os))
exits_joined (o ∷ os) es (t ∷ leads) catches h =
    ap (λ r. exit_of o r (t ∷ leads) catches ++ exits_from (os ++ map raised es) (left_of r (t ∷ leads)) catches) h.0
    ∙ ap (an_exit o t ∷◌) (exits_joined os es leads catches h.1)

-- a form that goes on in one way leads there
one_way : (f : Form) (t : Target) → branching_of f ≡ goes_on → paired (normal_outcomes f) (t ∷ []) ≡ paired (normal_outcomes f) (map (λ o. t) (normal_outcomes f))
one_way (Case v cs) t h = cc
one_way (Select arms) t h = cc
one_way (For r u) t h = cc
one_way (If e) t h = cc
one_way (While e) t h = cc
one_way f t h = refl

-- ---- points

abbrev a_node : ℕ → Form → List Target → List Catch → Node
a_node number f leads catches = record { number = number; form = f; leads = leads; catches = catches }

abbrev a_point : ℕ → List Fact → List Edge → Point
a_point number facts edges = record { number = number; needs = facts; edges = edges }

module _ (table : TypeTable) (variables : List ℕ) where
  abbrev edge_from : Option Form → Exit → Edge
  edge_from o e = record {
    outcome = e.outcome;
    makes = list_of (λ f. makes table variables f e.outcome) o;
    kills = list_of (λ f. kills table variables f e.outcome) o;
    target = e.target;
  }

  abbrev point_from : Option Form → ℕ → List Target → List Catch → Point
  point_from o number leads catches = a_point number (list_of (needs table variables) o) (map (edge_from o) (exits_from (list_of (outcomes table variables) o) leads catches))

  point_is : (form : TypedForm) (f : Form) (number : ℕ) (leads : List Target) (catches : List Catch) → form_of_statement (typed_form_view form) ≡ Some f → point_at table variables form number leads catches ≡ point table variables (a_node number f leads catches)
  point_is form f number leads catches e =
      ap (λ o. point_from o number leads catches) e
      ∙ ap (λ es. a_point number (needs table variables f) (map (edge table variables f) es)) (exits_joined (normal_outcomes f) (exceptions table variables f) leads catches (are_normal f))

  one_way_point : (f : Form) (number : ℕ) (t : Target) (catches : List Catch) → branching_of f ≡ goes_on → point table variables (a_node number f (t ∷ []) catches) ≡ point table variables (a_node number f (map (λ o. t) (normal_outcomes f)) catches)
  one_way_point f number t catches h = ap (λ ps. a_point number (needs table variables f) (map (edge table variables f) (ps ++ of_exceptions (exceptions table variables f) catches))) (one_way f t h)

  -- the points of a statement that is seen so
  abbrev points_of : TypedForm → (number from : ℕ) → Surroundings → List Point
  points_of form number from s = map (point table variables) (nodes (typed_form_view form) number from s)

  pub simple_points : (form : TypedForm) (f : Form) (number from : ℕ) (s : Surroundings) → typed_form_view form ≡ simple f → branching_of f ≡ goes_on → (point_at table variables form number (s.behind ∷ []) s.catches) ∷ [] ≡ points_of form number from s
  simple_points form f number from s e h =
      ap (λ p. p ∷ []) (point_is form f number (s.behind ∷ []) s.catches (ap form_of_statement e) ∙ one_way_point f number s.behind s.catches h)
      ∙ sym (ap (λ x. map (point table variables) (nodes x number from s)) e)

  pub choosing_points : (form : TypedForm) (f : Form) (bs : Blocks) (number from : ℕ) (s : Surroundings) → typed_form_view form ≡ choosing f bs → (point_at table variables form number (starts bs (from + 1) s.behind) s.catches) ∷ map (point table variables) (nodes_of_choices bs (number + 1) (from + 1) s) ≡ points_of form number from s
  choosing_points form f bs number from s e =
      ap (λ p. p ∷ map (point table variables) (nodes_of_choices bs (number + 1) (from + 1) s)) (point_is form f number (starts bs (from + 1) s.behind) s.catches (ap form_of_statement e))
      ∙ sym (ap (λ x. map (point table variables) (nodes x number from s)) e)

  pub repeating_points : (form : TypedForm) (f : Form) (b : Block) (number from : ℕ) (s : Surroundings) → typed_form_view form ≡ repeating f b → (point_at table variables form number (start_of_block b (from + 1) (node from) ∷ s.behind ∷ []) s.catches) ∷ map (point table variables) (nodes_in b (number + 1) (from + 1) (in_loop from s)) ≡ points_of form number from s
  repeating_points form f b number from s e =
      ap (λ p. p ∷ map (point table variables) (nodes_in b (number + 1) (from + 1) (in_loop from s))) (point_is form f number (start_of_block b (from + 1) (node from) ∷ s.behind ∷ []) s.catches (ap form_of_statement e))
      ∙ sym (ap (λ x. map (point table variables) (nodes x number from s)) e)

  pub leaving_points : (form : TypedForm) (number from : ℕ) (s : Surroundings) → typed_form_view form ≡ leaving → (point_at table variables form number (s.exit ∷ []) s.catches) ∷ [] ≡ points_of form number from s
  leaving_points form number from s e =
      ap (λ p. p ∷ []) (point_is form Leave number (s.exit ∷ []) s.catches (ap form_of_statement e))
      ∙ sym (ap (λ x. map (point table variables) (nodes x number from s)) e)
