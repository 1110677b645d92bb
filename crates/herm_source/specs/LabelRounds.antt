-- Labels in rounds, for computed examples: of each node's place the facts that are held on every control path to it.
use Rattle.std.specs.Prelude.{ℕ, zero, suc, List, [], ◌∷◌, ◌++◌, map, filter, Bool, not, Option, Some, None}
use Rattle.herm_model.specs.Lists.{any_pass, list_of}
use Rattle.herm_model.specs.Paths.{Fact, init, same_fact, path_of, is_at_or_below}
use Rattle.herm_model.specs.Types.{TypeTable}
use Rattle.herm_model.specs.Statements.{Process}
use Rattle.herm_model.specs.Targets.{Target, node, end, end_by}
use Rattle.herm_model.specs.ControlPaths.{Edge, Point, Flow, flow_of}
use Rattle.herm_forms.specs.Modules.{Module, module_of}

-- lists of facts by place; none where no path is known yet
abbrev pub LabelLists : Type 0
LabelLists = List (Option (List Fact))

-- the facts behind an edge
abbrev pub facts_behind : Edge → List Fact → List Fact
facts_behind e fs = e.makes ++ filter (λ f. not (any_pass (λ p. is_at_or_below p (path_of f)) e.kills)) fs

-- what two paths have in common
abbrev pub meet : Option (List Fact) → List Fact → Option (List Fact)
meet None gs = Some gs
meet (Some fs) gs = Some (filter (λ f. any_pass (same_fact f) gs) fs)

abbrev pub meet_at : ℕ → List Fact → LabelLists → LabelLists
meet_at i gs [] = []
meet_at zero gs (l ∷ ls) = meet l gs ∷ ls
meet_at (suc i) gs (l ∷ ls) = l ∷ meet_at i gs ls

abbrev pub meet_in : Target → List Fact → LabelLists → LabelLists
meet_in (node i) gs ls = meet_at i gs ls
meet_in end gs ls = ls
meet_in (end_by e) gs ls = ls

abbrev pub along_edges : List Edge → List Fact → LabelLists → LabelLists
along_edges [] fs ls = ls
along_edges (e ∷ es) fs ls = along_edges es fs (meet_in e.target (facts_behind e fs) ls)

abbrev pub from_point : Point → Option (List Fact) → LabelLists → LabelLists
from_point p None ls = ls
from_point p (Some fs) ls = along_edges p.edges fs ls

abbrev pub label_at : LabelLists → ℕ → Option (List Fact)
label_at [] i = None
label_at (l ∷ ls) zero = l
label_at (l ∷ ls) (suc i) = label_at ls i

-- from each point, whose places begin here, to those that its edges lead to
abbrev pub from_points : ℕ → List Point → LabelLists → LabelLists
from_points i [] ls = ls
from_points i (p ∷ ps) ls = from_points (suc i) ps (from_point p (label_at ls i) ls)

-- so many rounds over all points
abbrev pub rounds : ℕ → List Point → LabelLists → LabelLists
rounds zero ps ls = ls
rounds (suc n) ps ls = rounds n ps (from_points 0 ps ls)

-- where a process begins its port alone has a value
abbrev pub first_labels : Flow → LabelLists
first_labels flow = meet_in flow.entry (init (0 ∷ []) ∷ []) (map (λ p. None) flow.points)

-- the facts in a list of labels, as a test
abbrev pub has_label : LabelLists → ℕ → Fact → Bool
has_label ls i f = any_pass (any_pass (same_fact f)) (list_of (λ fs. fs ∷ []) (label_at ls i))

-- A process module made ready, with its labels after so many rounds. They are exact where one more round changes
-- nothing. Language reference, "Held".
abbrev pub ready : ℕ → TypeTable → Process → Module
ready n types p = module_of types p (has_label (rounds n (flow_of types p).points (first_labels (flow_of types p))))
