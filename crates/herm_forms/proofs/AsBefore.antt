-- Exceptions of local steps leave everything as it was.
use Rattle.std.proofs.Common.{◌≡◌, ℕ, List, ◌∷◌, Bool, true, false, cond, Option, Some, None, refl, subst}
use Rattle.std.specs.Prelude.{nat_lt}
use Rattle.herm_model.specs.Paths.{Path}
use Rattle.herm_model.specs.Types.{Shape, fields, rows, type_at}
use Rattle.herm_model.specs.Statements.{Form, Assign, Move, New, Discard, Unite, Dissolve, Reveal, Case, Wrap, Unwrap, Insert, Remove, Get, For, Connect, If, While, Raise, Leave}
use Rattle.herm_model.specs.Calls.{shape_at}
use Rattle.herm_model.specs.Outcomes.{ok, turn, raised}
use Rattle.herm_model.specs.Values.{Scalar, a_boolean, a_scalar, Cell, cell, Parts, no_parts, gap, part, part_at, parts_of, read_at, cell_at, polymorph_depth, Value, size, has_place}
use Rattle.herm_model.specs.FactsOfValues.{is_component}
use Rattle.herm_model.specs.Tables.{has_key, key_of, place_of_key}
use Rattle.herm_model.specs.Typed.{greatest_rows, greatest_polymorph}
use Rattle.herm_forms.specs.Evaluate.{Evaluated, gives, raises, no_value, evaluate, key_values}
use Rattle.herm_forms.specs.Frames.{Name, Frame, Completion, goes, stuck, if_there, cleared, putting, put, drop, reading, copying_parts}
use Rattle.herm_forms.specs.Forms
use Rattle.herm_forms.specs.RemoveAndGet
use Rattle.herm_forms.specs.Forms.{with_value, tested, content_of, component_in, component_of, inport_number, moving, moving_content, Opened}
use Rattle.herm_forms.specs.LoopForms.{rows_for, next_row, set_rows}
use Rattle.herm_forms.specs.InsertForm.{change_rows, add_row}
use Rattle.herm_forms.specs.Excess.{excess_over_full}
use Rattle.herm_forms.specs.Modules.{Module}
use Rattle.herm_forms.specs.Acts.{act, new_value, key_at}
use Rattle.herm_forms.specs.laws.ExceptionLaws.{ExceptionsLeaveAll}

-- at an exception the body is this one
abbrev AsBefore : Frame Name → Completion Name → Type 0
AsBefore b (goes (raised e) b') = b' ≡ b
AsBefore b _ = Unit {0}

before-if_there : {X : Type 0} (b : Frame Name) (next : X → Completion Name) (o : Option X) → ((x : X) → AsBefore b (next x)) → AsBefore b (if_there next o)
before-if_there b next None on = tt
before-if_there b next (Some x) on = on x

before-cond : (b : Frame Name) (t : Bool) (r s : Completion Name) → AsBefore b r → AsBefore b s → AsBefore b (cond t r s)
before-cond b true r s x y = x
before-cond b false r s x y = y

before-putting : (b : Frame Name) (p : Path) (c : Cell Name) (b' : Frame Name) → AsBefore b (putting p ok c b')
before-putting b p c b' = before-cond b (has_place b'.variables p) (goes ok (put p c b')) stuck tt tt

before-turn : (b : Frame Name) (p : Path) (c : Cell Name) (b' : Frame Name) → AsBefore b (putting p turn c b')
before-turn b p c b' = before-cond b (has_place b'.variables p) (goes turn (put p c b')) stuck tt tt

before-value : (b : Frame Name) (next : Value → Frame Name → Completion Name) (v : Evaluated) → ((v : Value) → AsBefore b (next v b)) → AsBefore b (with_value next v b)
before-value b next (gives v) on = on v
before-value b next (raises x) on = refl
before-value b next no_value on = tt

before-tested : (b : Frame Name) (v : Value) → AsBefore b (tested v b)
before-tested b (cell n (a_scalar (a_boolean true)) ps) = tt
before-tested b (cell n (a_scalar (a_boolean false)) ps) = tt
before-tested b v = tt

before-next_row : (b b' : Frame Name) (s : ℕ) (r : Path) (left : Parts Name) → AsBefore b (next_row s r left b')
before-next_row b b' s r no_parts = tt
before-next_row b b' s r (gap left) = tt
before-next_row b b' s r (part row left) = before-turn b r row (record b' { loops = set_rows s left b'.loops })

before-new : (name : Name → Name) (b : Frame Name) (s : Option Shape) (x : Path) → AsBefore b (new_value name s x b)
before-new name b (Some (fields ts)) x = before-putting b x _ _
before-new name b (Some (rows row key)) x = before-putting b x _ _
before-new name b (Some s) x = tt
before-new name b None x = tt

before-either : (b : Frame Name) (t : Bool) (x : ℕ) → AsBefore b (goes (cond t ok (raised x)) b)
before-either b true x = tt
before-either b false x = refl

before-content : (b b' : Frame Name) (y : Path) (o : Opened Name) → AsBefore b (moving_content y o b')
before-content b b' y o = before-putting b y o.content _

before-unwrapped : (b : Frame Name) (x : ℕ) (y p : Path) (o : Option (Opened Name)) → AsBefore b (elim o [ None ↦ goes (raised x) b | Some o ↦ moving_content y o (cleared p b) ])
before-unwrapped b x y p None = refl
before-unwrapped b x y p (Some o) = before-content b (cleared p b) y o

before-found : (b : Frame Name) (x : ℕ) (next : ℕ → Cell Name → Completion Name) (table : Cell Name) (o : Option ℕ) → ((i : ℕ) (row : Cell Name) → AsBefore b (next i row))
    → AsBefore b (elim o [ None ↦ goes (raised x) b | Some i ↦ if_there (next i) (part_at i (parts_of table)) ])
before-found b x next table None on = refl
before-found b x next table (Some i) on = before-if_there b (next i) (part_at i (parts_of table)) (on i)

before-finding : (b : Frame Name) (key : List ℕ) (v : List Scalar) (t : Path) (next : ℕ → Cell Name → Completion Name) → ((i : ℕ) (row : Cell Name) → AsBefore b (next i row)) → AsBefore b (RemoveAndGet.finding key v t next b)
before-finding b key v t next on = before-if_there b _ (read_at t b.variables) (λ table. before-found b _ next table (place_of_key key v (parts_of table)) on)

before-visited : (name : Name → Name) (b : Frame Name) (s : ℕ) (r t : Path) (o : Option (Parts Name))
    → AsBefore b (elim o [
      | None ↦ reading t (λ table. copying_parts name (parts_of table) (λ rows b. next_row s r rows (record b { loops = record { statement = s; rows = rows } ∷ b.loops })) b) b
      | Some left ↦ next_row s r left b
    ])
before-visited name b s r t None = before-if_there b _ (read_at t b.variables) (λ table. before-next_row b _ s r _)
before-visited name b s r t (Some left) = before-next_row b b s r left

before-act : (name : Name → Name) (c : Module) (s : ℕ) (form : Form) (b : Frame Name) → AsBefore b (act name c s form b)
before-act name c s (Assign x e) b = before-value b (Forms.assign name x) (evaluate b.variables e) (λ v. before-putting b x _ _)
before-act name c s (Move y x) b = before-if_there b _ (cell_at y (drop (excess_over_full c y b) b).variables) (λ d. before-putting b x d _)
before-act name c s (New x) b = before-new name b (shape_at c.types c.variables x) x
before-act name c s (Discard x) b = before-if_there b _ (cell_at x b.variables) (λ d. tt)
before-act name c s (Unite v k y) b = before-if_there b _ (cell_at y (drop (excess_over_full c y b) b).variables) (λ d. before-putting b v _ _)
before-act name c s (Dissolve v k y) b = before-if_there b _ (cell_at v b.variables) (λ d. before-if_there b _ (component_in k d) (λ o. before-content b _ y o))
before-act name c s (Reveal v k) b = before-if_there b _ (read_at v b.variables) (λ d. before-either b (is_component (Some d) k) _)
before-act name c s (Case v ks) b = before-if_there b _ (read_at v b.variables) (λ d. before-if_there b _ (component_of d) (λ k. tt))
before-act name c s (Wrap y p) b =
    before-if_there b _ (type_at c.types c.variables y) (λ t. before-if_there b _ (cell_at y (drop (excess_over_full c y b) b).variables)
    (λ d. before-cond b (nat_lt (polymorph_depth d) greatest_polymorph) _ _ (before-if_there b _ (cell_at y (drop (excess_over_full c y b) b).variables) (λ d. before-putting b p _ _)) refl))
before-act name c s (Unwrap p t y) b = before-if_there b _ (cell_at p b.variables) (λ d. before-unwrapped b _ y p (content_of t d))
before-act name c s (Insert r t) b =
    before-if_there b _ (cell_at r b.variables) (λ row. before-if_there b _ (read_at t b.variables)
    (λ table. before-cond b (has_key (key_at c t) (key_of (key_at c t) row) (parts_of table)) _ _ refl
    (before-cond b (nat_lt (size (parts_of table)) greatest_rows) _ _
    (before-if_there b _ (cell_at r (drop (excess_over_full c r b) b).variables) (λ d. before-if_there b _ (read_at t (cleared r (drop (excess_over_full c r b) b)).variables) (λ table. tt)))
    refl)))
before-act name c s (Remove r t keys) b = before-if_there b _ (key_values b.variables keys) (λ v. before-finding b (key_at c t) v t _ (λ i row. before-putting b r row _))
before-act name c s (Get r t keys) b = before-if_there b _ (key_values b.variables keys) (λ v. before-finding b (key_at c t) v t _ (λ i row. before-putting b r _ _))
before-act name c s (For r t) b = before-visited name b s r t (rows_for s b.loops)
before-act name c s (Connect o i) b = before-if_there b _ (read_at i b.variables) (λ d. before-if_there b _ (inport_number d) (λ n. before-putting b o _ _))
before-act name c s (If e) b = before-value b tested (evaluate b.variables e) (before-tested b)
before-act name c s (While e) b = before-value b tested (evaluate b.variables e) (before-tested b)
before-act name c s (Raise e) b = refl
before-act name c s Leave b = tt
before-act name c s _ b = tt

pub exceptions-leave-all : ExceptionsLeaveAll
exceptions-leave-all name c s form b b' e is = subst (AsBefore b) is (before-act name c s form b)
