-- What is claimed of edges: behind an edge there is a value exactly where the facts of its target say so.
use Rattle.std.specs.Prelude.{◌≡◌, ℕ, List, ◌∷◌, Bool, not, ◌&&◌, ◌||◌, Some, slice_get, IsTrue}
use Rattle.herm_model.specs.Lists.{IsIn, any_pass}
use Rattle.herm_model.specs.Paths.{Path, Fact, path_of, same_fact, is_at_or_below}
use Rattle.herm_model.specs.Types.{TypeTable, type_at, is_within_depth, greatest_depth}
use Rattle.herm_model.specs.Facts.{IsClosed, full_facts}
use Rattle.herm_model.specs.Expressions.{Expression}
use Rattle.herm_model.specs.Statements.{Form, Send, Discard, If, While, Raise, Leave, Process, IsWellFormedBlock}
use Rattle.herm_model.specs.Targets.{Target, node, end}
use Rattle.herm_model.specs.Outcomes.{Outcome}
use Rattle.herm_model.specs.FactsOfStatements.{makes, kills}
use Rattle.herm_model.specs.ControlPaths.{Point, Edge, flow_of, held_after_edge, IsReached}
use Rattle.herm_model.specs.Labels.{Labels, label_at, AreExact}
use Rattle.herm_model.specs.Values.{Cell, Parts, has_place, put_at, clear_at}
use Rattle.herm_model.specs.FactsOfValues.{HasExactly}
use Rattle.herm_model.specs.Typed.{HaveTypes, IsFull}
use Rattle.herm_forms.specs.Frames.{Name, Frame, goes}
use Rattle.herm_journal.specs.Actions.{put}
use Rattle.herm_forms.specs.Exchanges.{send}
use Rattle.herm_forms.specs.EdgeFinalising.{arrive}
use Rattle.herm_forms.specs.Excess.{excess_over_declared}
use Rattle.herm_forms.specs.Modules.{Module, module_of}
use Rattle.herm_forms.specs.Acts.{act}

-- the types of the variables are within the limit of depth
abbrev pub AreDeep : Module → Type 0
AreDeep c = (t : ℕ) → IsIn t c.variables → IsTrue (is_within_depth greatest_depth c.types t)

-- The values are of their types and have exactly these facts.
pub record AreSound (c : Module) (has : Fact → Bool) (ps : Parts Name) : Type 0 where
  pub types : HaveTypes c.types c.variables ps
  pub facts : HasExactly ps (λ f. IsTrue (has f))

-- Where sound values have all facts of the edge's target, and those are closed, the edge leaves sound values with
-- exactly these facts. At an end there are none. Language reference, "Finalising".
abbrev pub EdgesAreExact : Type 0
EdgesAreExact = (c : Module) (t : Target) (b : Frame Name) (has : Fact → Bool) → AreDeep c → AreSound c has b.variables
    → ((f : Fact) → IsTrue (label_at c.label t f) → IsTrue (has f)) → IsClosed c.types c.variables (λ f. IsTrue (label_at c.label t f))
    → AreSound c (label_at c.label t) (arrive c t b).variables

-- Of a process made ready with exact labels: at a point that a control path reaches, where the values are sound with
-- what is held behind an edge, they are sound behind the edge with the facts of its target.
-- Language reference, "Sound states".
abbrev pub EdgesArrive : Type 0
EdgesArrive = (types : TypeTable) (p : Process) (labels : Labels) → IsWellFormedBlock p.body → AreExact (flow_of types p) labels → AreDeep (module_of types p labels)
    → (i : ℕ) (point : Point) (e : Edge) → IsReached (flow_of types p) (node i) → slice_get (flow_of types p).points i ≡ Some point → IsIn e point.edges
    → (b : Frame Name) → AreSound (module_of types p labels) (λ f. held_after_edge e f (labels i f)) b.variables
    → AreSound (module_of types p labels) (label_at labels e.target) (arrive (module_of types p labels) e.target b).variables

-- the facts without those at a path and below it
abbrev pub without : Path → (Fact → Bool) → Fact → Bool
without p has f = not (is_at_or_below p (path_of f)) && has f

-- the facts with a full value of a type at a path, in place of those at the path and below it
abbrev pub with_full : Module → ℕ → Path → (Fact → Bool) → Fact → Bool
with_full c t p has f = any_pass (same_fact f) (full_facts c.types t p) || without p has f

-- Where nothing is left at a path of sound values, they are sound without its facts. Language reference, "Sound states".
abbrev pub ClearingIsSound : Type 0
ClearingIsSound = (c : Module) (has : Fact → Bool) (i : ℕ) (q : List ℕ) (ps : Parts Name) → AreSound c has ps → AreSound c (without (i ∷ q) has) (clear_at (i ∷ q) ps)

-- Where sound values have a place at a path, and a full value of the path's type is set there, they are sound with its
-- full facts. Language reference, "Sound states".
abbrev pub SettingIsSound : Type 0
SettingIsSound = (c : Module) (has : Fact → Bool) (i : ℕ) (q : List ℕ) (t : ℕ) (value : Cell Name) (ps : Parts Name) → AreSound c has ps
    → IsTrue (has_place ps (i ∷ q)) → type_at c.types c.variables (i ∷ q) ≡ Some t → IsTrue (is_within_depth greatest_depth c.types t) → IsFull c.types t value
    → AreSound c (with_full c t (i ∷ q) has) (put_at (i ∷ q) value ps)

-- What is held behind an outcome of a form, from what is held before. Language reference, "Held".
abbrev pub held_after : TypeTable → List ℕ → Form → Outcome → (Fact → Bool) → Fact → Bool
held_after types variables form o has f = held_after_edge (record { outcome = o; makes = makes types variables form o; kills = kills types variables form o; target = end }) f (has f)

-- A form does what the statement table says of it: sound values stay sound, with what is held behind the outcome.
-- Language reference, "Sound states".
abbrev pub PreservesSoundness : Module → Form → Type 0
PreservesSoundness c form = (name : Name → Name) (statement : ℕ) (has : Fact → Bool) (b b' : Frame Name) (o : Outcome) → AreSound c has b.variables
    → act name c statement form b ≡ goes o b' → AreSound c (held_after c.types c.variables form o has) b'.variables

-- the forms that set no value
pub record PlainFormsAreSound (c : Module) : Type 0 where
  pub discard : (i : ℕ) (q : List ℕ) → PreservesSoundness c (Discard (i ∷ q))
  pub if_test : (e : Expression) → PreservesSoundness c (If e)
  pub while_test : (e : Expression) → PreservesSoundness c (While e)
  pub raise : (e : ℕ) → PreservesSoundness c (Raise e)
  pub leave : PreservesSoundness c Leave

-- A message that was placed is gone from where it was, with what it held beyond its facts.
-- Language reference, "Sound states".
abbrev pub SendsAreSound : Type 0
SendsAreSound = (c : Module) (x : ℕ) (q : List ℕ) (to : Path) (has : Fact → Bool) (b b' : Frame Name) (o : Outcome) (k : ℕ) (message : Cell Name)
    → AreSound c has b.variables → send (excess_over_declared c to (x ∷ q) b) (x ∷ q) (put (Some k) message) b ≡ goes o b'
    → AreSound c (held_after c.types c.variables (Send (x ∷ q) to) o has) b'.variables
