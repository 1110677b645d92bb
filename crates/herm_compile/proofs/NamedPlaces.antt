-- The names of definitions and the marks of their shapes are those of the tokens, by what is seen of the trees.
use Rattle.std.proofs.Common.{◌≡◌, ℕ, true, ◌==◌, List, [], ◌∷◌, ◌++◌, Option, Some, None, map, refl, sym, ap, ◌∙◌, eqb-true}
use Rattle.herm_base.specs.declared.word.Span.{Span}
use Rattle.herm_base.specs.declared.word.Name.{Name}
use Rattle.herm_syntax.specs.declared.definitions.DFact.{DFact}
use Rattle.herm_syntax.specs.declared.definitions.DFact.TheVariants as facts
use Rattle.herm_syntax.specs.declared.definitions.DefForm.{DefForm}
use Rattle.herm_syntax.specs.declared.definitions.DefForm.TheVariants as items
use Rattle.herm_syntax.specs.declared.definitions.DefItem.{DefItem}
use Rattle.herm_syntax.specs.declared.definitions.Field.{Field as FieldForm}
use Rattle.herm_syntax.specs.declared.definitions.ModeForm.{ModeForm}
use Rattle.herm_syntax.specs.declared.definitions.ModeForm.TheVariants as modes
use Rattle.herm_syntax.specs.declared.definitions.ParamForm.{ParamForm}
use Rattle.herm_syntax.specs.declared.definitions.RaiseForm.{RaiseForm}
use Rattle.herm_syntax.specs.declared.definitions.ShapeForm.{ShapeForm}
use Rattle.herm_syntax.specs.declared.definitions.ShapeForm.TheVariants as shapes
use Rattle.herm_syntax.specs.declared.modules.Module.{Module as ModuleForm}
use Rattle.herm_syntax.specs.declared.statements.Stmt.{Stmt}
use Rattle.herm_syntax.specs.declared.modules.Module.TheVariants as modules
use Rattle.herm_syntax.specs.Trees.{Letters, Field, Mode, In, Inout, Out, Param, Raising, DeclaredFact, InitFact, FullFact, CaseFact, Shape, Names, Fields, Cases, Rows, Inport, Outport, CallMessage, Item, TypeItem, ExceptionItem, Module, Definitions, Process}
use Rattle.herm_syntax.specs.View.{name_view, field_view, mode_form_view, param_form_view, raise_form_view, dfact_view, shape_form_view, def_form_view, def_item_view, module_view, stmts_view}
use Rattle.herm_parser.specs.Along.{◌>>=◌, past_token, is_place, past_name, past_each, past_behind, past_list}
use Rattle.herm_parser.specs.AlongDefinitions.{past_enclosed, past_field, past_param, past_fact, past_facts, past_keep, past_kept, past_raising, past_raisings, past_shape, past_definition, past_item, past_variables, past_module}
use Rattle.herm_parser.specs.Walk.{walk_body}
use Rattle.herm_meaning.specs.Marks.{Mark, a_content, a_row, a_port, a_raised, in_turn, mark, part_marks, field_marks, key_marks, param_marks, kept_marks, raise_marks, shape_marks}
use Rattle.herm_compile.proofs.Told.{Known, first_known, then_known, both_known, known_so, both_true, taken_true}
use Rattle.herm_compile.proofs.Leads.{Tokens, tail, Leads, Goes, plain, moved, then_goes, stays, token_goes, name_goes, skip_each, skip_behind, skip_list, skip_name, each_goes, list_goes, skip_statements, body_goes, at_number}

-- ---- names

abbrev name_of : Letters → Span → Name
name_of text span = record { text = text; span = span }

abbrev span_of : ℕ → ℕ → Span
span_of start end = record { start = start; end = end }

abbrev pub name_at : Letters → Tokens → Name
name_at text [] = name_of text (span_of 0 0)
name_at text (t ∷ tokens) = name_of text t.span

place_same : (a b : Span) → is_place a b ≡ true → a ≡ b
place_same a b e =
    let h = both_true (a.start == b.start) (a.end == b.end) e in
    ap (λ s. span_of s a.end) (eqb-true a.start b.start h.0) ∙ ap (λ s. span_of b.start s) (eqb-true a.end b.end h.1)

name_is : (n : Name) (a b : Tokens) → past_name n a ≡ Some b → n ≡ name_at n.text a
name_is n [] b e = absurd (cc)
name_is n (t ∷ tokens) b e = ap (λ s. name_of n.text s) (place_same n.span t.span (taken_true (is_place n.span t.span) tokens b e))

pub name_known : (n : Name) → Known (past_name n) (λ t. n ≡ name_at n.text t)
name_known n = record { known = name_is n }

-- ---- lists

abbrev pub at_each : {Y Z : Type 0} → (Y → Tokens → Tokens) → (Y → Tokens → Z) → List Y → Tokens → List Z
at_each skip at [] tokens = []
at_each skip at (y ∷ ys) tokens = at y tokens ∷ at_each skip at ys (skip y tokens)

abbrev pub at_behind : {Y Z : Type 0} → (Y → Tokens → Z) → Y → Tokens → Z
at_behind at y tokens = at y (tail tokens)

abbrev pub at_list : {Y Z : Type 0} → (Y → Tokens → Tokens) → (Y → Tokens → Z) → List Y → Tokens → List Z
at_list skip at [] tokens = []
at_list skip at (y ∷ ys) tokens = at y tokens ∷ at_each (skip_behind skip) (at_behind at) ys (skip y tokens)

-- An element is along tokens what it is by its view.
pub record Reads {X Y Z : Type 0} (past : X → Tokens → Option Tokens) (view : X → Y) (core : X → Z) (skip : Y → Tokens → Tokens) (at : Y → Tokens → Z) : Type 0 where
  pub goes : (x : X) → Goes (past x) (skip (view x))
  pub is : (x : X) → Known (past x) (λ t. core x ≡ at (view x) t)

pub each_known : {X Y Z : Type 0} → {past : X → Tokens → Option Tokens} → {view : X → Y} → {core : X → Z} → {skip : Y → Tokens → Tokens} → {at : Y → Tokens → Z} →
    Reads past view core skip at → (xs : List X) → Known (past_each past xs) (λ t. map core xs ≡ at_each skip at (map view xs) t)
each_known r [] = record { known = λ a b e. refl }
each_known {X} {Y} {Z} {past} {view} {core} {skip} {at} r (x ∷ xs) =
    known_so (λ t h. ap (λ z. z ∷ map core xs) h.0 ∙ ap (λ zs. at (view x) t ∷ zs) h.1)
    (both_known (r.goes x) (r.is x) (each_known r xs))

behind_reads : {X Y Z : Type 0} → {past : X → Tokens → Option Tokens} → {view : X → Y} → {core : X → Z} → {skip : Y → Tokens → Tokens} → {at : Y → Tokens → Z} →
    Reads past view core skip at → Reads (past_behind past) view core (skip_behind skip) (at_behind at)
behind_reads r = record { goes = λ x. then_goes token_goes (r.goes x); is = λ x. then_known token_goes (r.is x) }

pub list_known : {X Y Z : Type 0} → {past : X → Tokens → Option Tokens} → {view : X → Y} → {core : X → Z} → {skip : Y → Tokens → Tokens} → {at : Y → Tokens → Z} →
    Reads past view core skip at → (xs : List X) → Known (past_list past xs) (λ t. map core xs ≡ at_list skip at (map view xs) t)
list_known r [] = record { known = λ a b e. refl }
list_known {X} {Y} {Z} {past} {view} {core} {skip} {at} r (x ∷ xs) =
    known_so (λ t h. ap (λ z. z ∷ map core xs) h.0 ∙ ap (λ zs. at (view x) t ∷ zs) h.1)
    (both_known (r.goes x) (r.is x) (each_known (behind_reads r) xs))

list_along : {X Y Z : Type 0} → {past : X → Tokens → Option Tokens} → {view : X → Y} → {core : X → Z} → {skip : Y → Tokens → Tokens} → {at : Y → Tokens → Z} →
    Reads past view core skip at → (xs : List X) → Goes (past_list past xs) (skip_list skip (map view xs))
list_along {X} {Y} {Z} {past} {view} {core} {skip} {at} r xs = list_goes past view skip r.goes xs

map_same : {X : Type 0} → (xs : List X) → map (λ x. x) xs ≡ xs
map_same [] = refl
map_same (x ∷ xs) = ap (λ ys. x ∷ ys) (map_same xs)

-- elements that are all that their views and tokens say
pub whole_known : {X Y : Type 0} → {past : X → Tokens → Option Tokens} → {view : X → Y} → {skip : Y → Tokens → Tokens} → {at : Y → Tokens → X} →
    Reads past view (λ x. x) skip at → (xs : List X) → Known (past_list past xs) (λ t. xs ≡ at_list skip at (map view xs) t)
whole_known r xs = known_so (λ t h. sym (map_same xs) ∙ h) (list_known r xs)

pub enclosed_goes : {inner : Tokens → Option Tokens} → {f : Tokens → Tokens} → Goes inner f → Goes (past_enclosed inner) (λ t. tail (f (tail t)))
enclosed_goes g = then_goes token_goes (then_goes g token_goes)

pub enclosed_known : {inner : Tokens → Option Tokens} → {P : Tokens → Type 0} → Known inner P → Known (past_enclosed inner) (λ t. P (tail t))
enclosed_known x = then_known token_goes (first_known past_token x)

-- ---- parts of shapes

name_reads : Reads past_name name_view (λ n. n) skip_name name_at
name_reads = record { goes = name_goes; is = name_known }

abbrev field_form : Name → Name → FieldForm
field_form name of_type = record { name = name; of = of_type }

abbrev pub field_at : Field → Tokens → FieldForm
field_at f tokens = field_form (name_at f.0 tokens) (name_at f.1 (tail (tail tokens)))

abbrev pub skip_field : Field → Tokens → Tokens
skip_field f tokens = tail (tail (tail tokens))

pub field_reads : Reads past_field field_view (λ f. f) skip_field field_at
field_reads = record {
  goes = λ f. then_goes (name_goes f.name) (then_goes token_goes (name_goes f.of));
  is = λ f. known_so (λ t h. ap (λ n. field_form n f.of) h.0 ∙ ap (λ n. field_form (name_at f.name.text t) n) h.1)
      (both_known (name_goes f.name) (name_known f.name) (then_known token_goes (name_known f.of)));
}

abbrev mode_form : Mode → ModeForm
mode_form In = modes.In
mode_form Inout = modes.Inout
mode_form Out = modes.Out

mode_same : (m : ModeForm) → m ≡ mode_form (mode_form_view m)
mode_same modes.In = refl
mode_same modes.Inout = refl
mode_same modes.Out = refl

abbrev param_form : ModeForm → FieldForm → ParamForm
param_form m f = record { mode = m; field = f }

abbrev param_at : Param → Tokens → ParamForm
param_at p tokens = param_form (mode_form p.0) (field_at p.1 (tail tokens))

abbrev skip_param : Param → Tokens → Tokens
skip_param p tokens = skip_field p.1 (tail tokens)

param_reads : Reads past_param param_form_view (λ p. p) skip_param param_at
param_reads = record {
  goes = λ p. then_goes token_goes (field_reads.goes p.field);
  is = λ p. known_so (λ t h. ap (λ m. param_form m p.field) (mode_same p.mode) ∙ ap (λ f. param_form (mode_form (mode_form_view p.mode)) f) h) (then_known token_goes (field_reads.is p.field));
}

abbrev keep_at : Letters → Tokens → Name
keep_at name tokens = name_at name (tail (tail tokens))

abbrev skip_keep : Letters → Tokens → Tokens
skip_keep name tokens = tail (tail (tail (tail tokens)))

keep_reads : Reads past_keep name_view (λ n. n) skip_keep keep_at
keep_reads = record {
  goes = λ n. then_goes token_goes (enclosed_goes (name_goes n));
  is = λ n. then_known token_goes (enclosed_known (name_known n));
}

abbrev kept_at : List Letters → Tokens → List Name
kept_at [] tokens = []
kept_at (n ∷ ns) tokens = at_list skip_keep keep_at (n ∷ ns) (tail tokens)

abbrev skip_kept : List Letters → Tokens → Tokens
skip_kept [] tokens = tokens
skip_kept (n ∷ ns) tokens = tail (skip_list skip_keep (n ∷ ns) (tail tokens))

kept_goes : (names : List Name) → Goes (past_kept names) (skip_kept (map name_view names))
kept_goes [] = stays
kept_goes (n ∷ ns) = enclosed_goes (list_along keep_reads (n ∷ ns))

kept_known : (names : List Name) → Known (past_kept names) (λ t. names ≡ kept_at (map name_view names) t)
kept_known [] = record { known = λ a b e. refl }
kept_known (n ∷ ns) = enclosed_known (whole_known keep_reads (n ∷ ns))

abbrev raising_core : RaiseForm → Name × List Name
raising_core r = (r.name, r.keeps.items)

abbrev raising_at : Raising → Tokens → Name × List Name
raising_at r tokens = (name_at r.0 tokens, kept_at r.1 (tail tokens))

abbrev skip_raising : Raising → Tokens → Tokens
skip_raising r tokens = skip_kept r.1 (tail tokens)

raising_reads : Reads past_raising raise_form_view raising_core skip_raising raising_at
raising_reads = record {
  goes = λ r. then_goes (name_goes r.name) (kept_goes r.keeps.items);
  is = λ r. known_so (λ t h. ap (λ n. (n, r.keeps.items)) h.0 ∙ ap (λ ns. (name_at r.name.text t, ns)) h.1) (both_known (name_goes r.name) (name_known r.name) (kept_known r.keeps.items));
}

abbrev raisings_at : List Raising → Tokens → List (Name × List Name)
raisings_at [] tokens = []
raisings_at (r ∷ rs) tokens = at_list skip_raising raising_at (r ∷ rs) (tail (tail tokens))

abbrev skip_raisings : List Raising → Tokens → Tokens
skip_raisings [] tokens = tokens
skip_raisings (r ∷ rs) tokens = tail (skip_list skip_raising (r ∷ rs) (tail (tail tokens)))

raisings_go : (list : List RaiseForm) → Goes (past_raisings list) (skip_raisings (map raise_form_view list))
raisings_go [] = stays
raisings_go (r ∷ rs) = then_goes token_goes (enclosed_goes (list_along raising_reads (r ∷ rs)))

raisings_known : (list : List RaiseForm) → Known (past_raisings list) (λ t. map raising_core list ≡ raisings_at (map raise_form_view list) t)
raisings_known [] = record { known = λ a b e. refl }
raisings_known (r ∷ rs) = then_known token_goes (enclosed_known (list_known raising_reads (r ∷ rs)))

abbrev skip_fact : DeclaredFact → Tokens → Tokens
skip_fact (InitFact p) tokens = tail (skip_list skip_name p (tail (tail tokens)))
skip_fact (FullFact p) tokens = tail (skip_list skip_name p (tail (tail tokens)))
skip_fact (CaseFact p c) tokens = tail (tail (tail (skip_list skip_name p (tail (tail tokens)))))

fact_goes : (f : DFact) → Goes (past_fact f) (skip_fact (dfact_view f))
fact_goes (facts.Init p) = then_goes token_goes (enclosed_goes (list_along name_reads p.items))
fact_goes (facts.Full p) = then_goes token_goes (enclosed_goes (list_along name_reads p.items))
fact_goes (facts.Case p component) = then_goes token_goes (enclosed_goes (then_goes (list_along name_reads p.items) (then_goes token_goes (name_goes component))))

abbrev skip_facts : List DeclaredFact → Tokens → Tokens
skip_facts [] tokens = tokens
skip_facts (f ∷ fs) tokens = tail (skip_list skip_fact (f ∷ fs) (tail tokens))

facts_go : (list : List DFact) → Goes (past_facts list) (skip_facts (map dfact_view list))
facts_go [] = stays
facts_go (f ∷ fs) = enclosed_goes (list_goes past_fact dfact_view skip_fact fact_goes (f ∷ fs))

-- ---- shapes

abbrev raised_marks : List Letters → Name × List Name → List Mark
raised_marks before r = mark r.0 (a_raised before) ++ in_turn (λ k. k.text) kept_marks [] r.1

turns_by : (before : List Letters) (list : List RaiseForm) → in_turn (λ r. r.name.text) raise_marks before list ≡ in_turn (λ r. r.0.text) raised_marks before (map raising_core list)
turns_by before [] = refl
turns_by before (r ∷ rs) = ap (λ ms. raise_marks before r ++ ms) (turns_by (before ++ r.name.text ∷ []) rs)

abbrev pub marks_at : Shape → Tokens → List Mark
marks_at (Names values) tokens = in_turn (λ n. n.text) part_marks [] (at_list skip_name name_at values (tail (tail tokens)))
marks_at (Fields fs) tokens = in_turn (λ f. f.name.text) field_marks [] (at_list skip_field field_at fs (tail (tail tokens)))
marks_at (Cases fs) tokens = in_turn (λ f. f.name.text) field_marks [] (at_list skip_field field_at fs (tail (tail tokens)))
marks_at (Rows row keys) tokens = mark (name_at row (tail (tail tokens))) a_row ++ in_turn (λ k. k.text) (key_marks row) [] (at_list skip_name name_at keys (tail (tail (tail (tail (tail tokens))))))
marks_at (Inport message fs) tokens = mark (name_at message (tail (tail tokens))) a_content
marks_at (Outport port) tokens = mark (name_at port (tail (tail tokens))) a_port
marks_at (CallMessage params raises) tokens =
    in_turn (λ p. p.field.name.text) param_marks [] (at_list skip_param param_at params (tail (tail tokens)))
    ++ in_turn (λ r. r.0.text) raised_marks [] (raisings_at raises (tail (skip_list skip_param params (tail (tail tokens)))))

abbrev pub skip_shape : Shape → Tokens → Tokens
skip_shape (Names values) tokens = tail (skip_list skip_name values (tail (tail tokens)))
skip_shape (Fields fs) tokens = tail (skip_list skip_field fs (tail (tail tokens)))
skip_shape (Cases fs) tokens = tail (skip_list skip_field fs (tail (tail tokens)))
skip_shape (Rows row keys) tokens = tail (skip_list skip_name keys (tail (tail (tail (tail (tail tokens))))))
skip_shape (Inport message fs) tokens = skip_facts fs (tail (tail (tail tokens)))
skip_shape (Outport port) tokens = tail (tail (tail tokens))
skip_shape (CallMessage params raises) tokens = skip_raisings raises (tail (skip_list skip_param params (tail (tail tokens))))

shape_goes : (s : ShapeForm) → Goes (past_shape s) (skip_shape (shape_form_view s))
shape_goes (shapes.Names names) = then_goes token_goes (enclosed_goes (list_along name_reads names.items))
shape_goes (shapes.Fields fs) = then_goes token_goes (enclosed_goes (list_along field_reads fs.items))
shape_goes (shapes.Cases fs) = then_goes token_goes (enclosed_goes (list_along field_reads fs.items))
shape_goes (shapes.Rows row keys) = then_goes token_goes (then_goes token_goes (then_goes (name_goes row) (then_goes token_goes (enclosed_goes (list_along name_reads keys.items)))))
shape_goes (shapes.Inport message fs) = then_goes token_goes (then_goes token_goes (then_goes (name_goes message) (facts_go fs.items)))
shape_goes (shapes.Outport port) = then_goes token_goes (then_goes token_goes (name_goes port))
shape_goes (shapes.CallMessage params raises) = then_goes token_goes (then_goes (enclosed_goes (list_along param_reads params.items)) (raisings_go raises.items))

shape_known : (s : ShapeForm) → Known (past_shape s) (λ t. shape_marks s ≡ marks_at (shape_form_view s) t)
shape_known (shapes.Names names) = known_so (λ t h. ap (λ ns. in_turn (λ n. n.text) part_marks [] ns) h) (then_known token_goes (enclosed_known (whole_known name_reads names.items)))
shape_known (shapes.Fields fs) = known_so (λ t h. ap (λ ns. in_turn (λ f. f.name.text) field_marks [] ns) h) (then_known token_goes (enclosed_known (whole_known field_reads fs.items)))
shape_known (shapes.Cases fs) = known_so (λ t h. ap (λ ns. in_turn (λ f. f.name.text) field_marks [] ns) h) (then_known token_goes (enclosed_known (whole_known field_reads fs.items)))
shape_known (shapes.Rows row keys) =
    known_so (λ t h. ap (λ n. mark n a_row ++ in_turn (λ k. k.text) (key_marks row.text) [] keys.items) h.0 ∙ ap (λ ns. mark (name_at row.text (tail (tail t))) a_row ++ in_turn (λ k. k.text) (key_marks row.text) [] ns) h.1)
    (then_known token_goes (then_known token_goes (both_known (name_goes row) (name_known row) (then_known token_goes (enclosed_known (whole_known name_reads keys.items))))))
shape_known (shapes.Inport message fs) = known_so (λ t h. ap (λ n. mark n a_content) h) (then_known token_goes (then_known token_goes (first_known (past_facts fs.items) (name_known message))))
shape_known (shapes.Outport port) = known_so (λ t h. ap (λ n. mark n a_port) h) (then_known token_goes (then_known token_goes (name_known port)))
shape_known (shapes.CallMessage params raises) =
    known_so (λ t h.
    ap (λ ps. in_turn (λ p. p.field.name.text) param_marks [] ps ++ in_turn (λ r. r.name.text) raise_marks [] raises.items) h.0
    ∙ ap (λ ms. in_turn (λ p. p.field.name.text) param_marks [] (at_list skip_param param_at (map param_form_view params.items) (tail (tail t))) ++ ms) (turns_by [] raises.items ∙ ap (λ rs. in_turn (λ r. r.0.text) raised_marks [] rs) h.1))
    (then_known token_goes (both_known (enclosed_goes (list_along param_reads params.items)) (enclosed_known (whole_known param_reads params.items)) (raisings_known raises.items)))

-- ---- items and modules

-- What places and types take from an item: its name and, of a type, its shape and that shape's marks.
abbrev pub Core : Type 0
Core = Name × Option (Shape × List Mark)

abbrev pub core_by : Name → DefForm → Core
core_by name (items.Shaped s) = (name, Some (shape_form_view s, shape_marks s))
core_by name items.Exception = (name, None)

abbrev pub core_of : DefItem → Core
core_of i = core_by i.name i.form

abbrev core_at : Item → Tokens → Core
core_at (TypeItem name s) tokens = (name_at name (tail tokens), Some (s, marks_at s (tail (tail (tail tokens)))))
core_at (ExceptionItem name) tokens = (name_at name (tail tokens), None)

abbrev skip_item : Item → Tokens → Tokens
skip_item (TypeItem name s) tokens = tail (skip_shape s (tail (tail (tail tokens))))
skip_item (ExceptionItem name) tokens = tail (tail (tail tokens))

definition_goes : (name : Name) (form : DefForm) → Goes (past_definition name form) (skip_item (def_form_view (name_view name) form))
definition_goes name (items.Shaped s) = then_goes token_goes (then_goes (name_goes name) (then_goes token_goes (then_goes (shape_goes s) token_goes)))
definition_goes name items.Exception = then_goes token_goes (then_goes (name_goes name) token_goes)

abbrev typed : Name → Shape → List Mark → Core
typed name s marks = (name, Some (s, marks))

abbrev untyped : Name → Core
untyped name = (name, None)

definition_known : (name : Name) (form : DefForm) → Known (past_definition name form) (λ t. core_by name form ≡ core_at (def_form_view (name_view name) form) t)
definition_known name (items.Shaped s) =
    known_so (λ t h. ap (λ n. typed n (shape_form_view s) (shape_marks s)) h.0 ∙ ap (λ ms. typed (name_at name.text (tail t)) (shape_form_view s) ms) h.1)
    (then_known token_goes (both_known (name_goes name) (name_known name) (then_known token_goes (first_known past_token (shape_known s)))))
definition_known name items.Exception = known_so (λ t h. ap untyped h) (then_known token_goes (first_known past_token (name_known name)))

item_reads : Reads past_item def_item_view core_of skip_item core_at
item_reads = record { goes = λ i. definition_goes i.name i.form; is = λ i. definition_known i.name i.form }

abbrev pub cores_of : ModuleForm → List Core
cores_of (modules.Definitions name list) = map core_of list.items
cores_of (modules.Process name port vars body) = []

abbrev pub cores_at : Module → Tokens → List Core
cores_at (Definitions name list) tokens = at_each skip_item core_at list (tail (tail (tail tokens)))
cores_at (Process name port vars body) tokens = []

abbrev pub skip_variables : List Field → Tokens → Tokens
skip_variables [] tokens = tokens
skip_variables (v ∷ vs) tokens = tail (skip_list skip_field (v ∷ vs) (tail tokens))

abbrev pub skip_module : Module → Tokens → Tokens
skip_module (Definitions name list) tokens = tail (skip_each skip_item list (tail (tail (tail tokens))))
skip_module (Process name port vars body) tokens = tail (skip_statements body (skip_variables vars (tail (tail (skip_field port (tail (tail (tail tokens))))))))

pub variables_go : (list : List FieldForm) → Goes (past_variables list) (skip_variables (map field_view list))
variables_go [] = stays
variables_go (v ∷ vs) = then_goes token_goes (then_goes (list_along field_reads (v ∷ vs)) token_goes)

left_of_walk : Leads moved plain (λ w. Some w.1) plain
left_of_walk = record { leads = λ w b e. let same : b ≡ w.1 = cc in same }

process_body_goes : (body : List Stmt) → Goes (λ t. walk_body body 1 t >>= λ w. Some w.1) (skip_statements (stmts_view body))
process_body_goes body = then_goes (at_number 1 (body_goes body)) left_of_walk

pub module_goes : (m : ModuleForm) → Goes (past_module m) (skip_module (module_view m))
module_goes (modules.Definitions name list) = then_goes token_goes (then_goes (name_goes name) (enclosed_goes (each_goes past_item def_item_view skip_item item_reads.goes list.items)))
module_goes (modules.Process name port vars body) =
    then_goes token_goes (then_goes (name_goes name) (then_goes (enclosed_goes (field_reads.goes port)) (enclosed_goes (then_goes (variables_go vars.items) (process_body_goes body.items)))))

module_known : (m : ModuleForm) → Known (past_module m) (λ t. cores_of m ≡ cores_at (module_view m) t)
module_known (modules.Definitions name list) = then_known token_goes (then_known (name_goes name) (enclosed_known (each_known item_reads list.items)))
module_known (modules.Process name port vars body) = record { known = λ a b e. refl }

pub module_reads : Reads past_module module_view cores_of skip_module cores_at
module_reads = record { goes = module_goes; is = module_known }

-- Modules that go along the same tokens and are seen alike are alike in what is read off their tokens and views.
pub read_alike : {Z : Type 0} → {core : ModuleForm → Z} → {at : Module → Tokens → Z} → Reads past_module module_view core skip_module at → (tokens rest left : Tokens) (a b : List ModuleForm) →
    map module_view a ≡ map module_view b → past_each past_module a tokens ≡ Some rest → past_each past_module b tokens ≡ Some left → map core a ≡ map core b
read_alike {Z} {core} {at} r tokens rest left a b same of_a of_b =
    (each_known r a).known tokens rest of_a ∙ (ap (λ ms. at_each skip_module at ms tokens) same ∙ sym ((each_known r b).known tokens left of_b))
