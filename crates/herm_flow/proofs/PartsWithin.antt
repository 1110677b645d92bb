-- The statements within a typed statement with blocks are those within its parts.
use Rattle.std.proofs.Common.{◌≡◌, ℕ, List, [], ◌∷◌, ◌++◌, flat_map, map, Option, Some, None, refl, sym, ap, ap₂, ◌∙◌, Vec, Global}
use mathlib.Core.Former.{Count}
use Rattle.herm_base.specs.declared.numbers.ExcNo.{ExcNo}
use Rattle.herm_typed.specs.declared.expressions.TypedPath.{TypedPath}
use Rattle.herm_typed.specs.declared.expressions.TypedExpr.{TypedExpr}
use Rattle.herm_typed.specs.declared.statements.TypedStmt.{TypedStmt}
use Rattle.herm_typed.specs.declared.statements.TypedForm.{TypedForm, Case, Select, For, If, While, Try}
use Rattle.herm_typed.specs.declared.statements.TypedForm.TheBlock as forms
use Rattle.herm_typed.specs.Within.{statements_within, statements_in, statements_in_arms, statements_in_port_arms, statements_otherwise, statements_in_handlers, all_statements}
use Rattle.herm_flow.specs.Parts.{else_list}

rows_within : {m : _} (others : forms.Row_of-TypedStmt m) → statements_in others ≡ all_statements (forms.items-the_row-TypedStmt m others)
rows_within forms.end_of-TypedStmt = refl
rows_within (forms.more_of-TypedStmt number span form others) = ap (λ (ts : List TypedStmt). record { no = number; span = span; form = form } ∷ statements_within form ++ ts) (rows_within others)

abbrev row_in : TypedForm → (m : Count) × forms.Row_of-TypedStmt m
row_in (forms.For' r t shape body) = (_, body)
row_in (forms.While' e shape body) = (_, body)
row_in (forms.If' e shape body other) = (_, body)
row_in (forms.Try' shape body others handled) = (_, body)
row_in form = (_, forms.end_of-TypedStmt)

for_within : (r t : TypedPath) (body : Vec TypedStmt Global) → statements_within (For r t body) ≡ all_statements body.items
for_within r t body = rows_within (row_in (For r t body)).1 ∙ ap all_statements (forms.items_hidden-the_row-TypedStmt-0 body)

while_within : (e : TypedExpr) (body : Vec TypedStmt Global) → statements_within (While e body) ≡ all_statements body.items
while_within e body = rows_within (row_in (While e body)).1 ∙ ap all_statements (forms.items_hidden-the_row-TypedStmt-0 body)

abbrev otherwise_in : TypedForm → forms.Held-TypedForm-If-2
otherwise_in (forms.If' e shape body other) = other
otherwise_in form = forms.None'

abbrev else_row : forms.Held-TypedForm-If-2 → (m : Count) × forms.Row_of-TypedStmt m
else_row (forms.Some' shape body) = (_, body)
else_row forms.None' = (_, forms.end_of-TypedStmt)

else_within : (e : TypedExpr) (body : Vec TypedStmt Global) (other : Option (Vec TypedStmt Global)) → statements_otherwise (otherwise_in (If e body other)) ≡ all_statements (else_list other)
else_within e body None = refl
else_within e body (Some x) = rows_within (else_row (otherwise_in (If e body (Some x)))).1 ∙ ap all_statements (forms.items_hidden-the_row-TypedStmt-0 x)

if_within : (e : TypedExpr) (body : Vec TypedStmt Global) (other : Option (Vec TypedStmt Global)) → statements_within (If e body other) ≡ all_statements body.items ++ all_statements (else_list other)
if_within e body other = ap₂ (λ xs ys. xs ++ ys) (rows_within (row_in (If e body other)).1 ∙ ap all_statements (forms.items_hidden-the_row-TypedStmt-0 body)) (else_within e body other)

-- ---- arms

abbrev arms_in : TypedForm → (m : Count) × forms.Row_of-TypedForm-Case-1-3 m
arms_in (forms.Case' v shape arms) = (_, arms)
arms_in form = (_, forms.end_of-TypedForm-Case-1-3)

arms_within : {m : _} (arms : forms.Row_of-TypedForm-Case-1-3 m) → statements_in_arms arms ≡ flat_map (λ a. all_statements a.1.items) (forms.items-the_row-TypedForm-Case-1-3 m arms)
arms_within forms.end_of-TypedForm-Case-1-3 = refl
arms_within (forms.more_of-TypedForm-Case-1-3 component shape body rest) = ap₂ (λ xs ys. xs ++ ys) (rows_within body ∙ ap all_statements (sym (forms.items_shown-the_row-TypedStmt-0 shape body))) (arms_within rest)

case_within : (v : TypedPath) (arms : Vec (ℕ × Vec TypedStmt Global) Global) → statements_within (Case v arms) ≡ flat_map (λ a. all_statements a.1.items) arms.items
case_within v arms = arms_within (arms_in (Case v arms)).1 ∙ ap (flat_map (λ a. all_statements a.1.items)) (forms.items_hidden-the_row-TypedForm-Case-1-3-1 arms)

abbrev ports_in : TypedForm → (m : Count) × forms.Row_of-TypedForm-Select-0-4 m
ports_in (forms.Select' shape arms) = (_, arms)
ports_in form = (_, forms.end_of-TypedForm-Select-0-4)

ports_within : {m : _} (arms : forms.Row_of-TypedForm-Select-0-4 m) → statements_in_port_arms arms ≡ flat_map (λ a. all_statements a.2.items) (forms.items-the_row-TypedForm-Select-0-4 m arms)
ports_within forms.end_of-TypedForm-Select-0-4 = refl
ports_within (forms.more_of-TypedForm-Select-0-4 port target shape body rest) = ap₂ (λ xs ys. xs ++ ys) (rows_within body ∙ ap all_statements (sym (forms.items_shown-the_row-TypedStmt-0 shape body))) (ports_within rest)

select_within : (arms : Vec (TypedPath × TypedPath × Vec TypedStmt Global) Global) → statements_within (Select arms) ≡ flat_map (λ a. all_statements a.2.items) arms.items
select_within arms = ports_within (ports_in (Select arms)).1 ∙ ap (flat_map (λ a. all_statements a.2.items)) (forms.items_hidden-the_row-TypedForm-Select-0-4-2 arms)

abbrev handlers_in : TypedForm → (m : Count) × forms.Row_of-TypedForm-Try-1-3 m
handlers_in (forms.Try' shape body others handled) = (_, handled)
handlers_in form = (_, forms.end_of-TypedForm-Try-1-3)

handlers_within : {m : _} (arms : forms.Row_of-TypedForm-Try-1-3 m) → statements_in_handlers arms ≡ flat_map (λ a. all_statements a.1.items) (forms.items-the_row-TypedForm-Try-1-3 m arms)
handlers_within forms.end_of-TypedForm-Try-1-3 = refl
handlers_within (forms.more_of-TypedForm-Try-1-3 exception shape body rest) = ap₂ (λ xs ys. xs ++ ys) (rows_within body ∙ ap all_statements (sym (forms.items_shown-the_row-TypedStmt-0 shape body))) (handlers_within rest)

try_within : (body : Vec TypedStmt Global) (handled : Vec (ExcNo × Vec TypedStmt Global) Global) → statements_within (Try body handled) ≡ all_statements body.items ++ flat_map (λ a. all_statements a.1.items) handled.items
try_within body handled =
    ap₂ (λ xs ys. xs ++ ys) (rows_within (row_in (Try body handled)).1 ∙ ap all_statements (forms.items_hidden-the_row-TypedStmt-0 body))
    (handlers_within (handlers_in (Try body handled)).1 ∙ ap (flat_map (λ a. all_statements a.1.items)) (forms.items_hidden-the_row-TypedForm-Try-1-3-3 handled))

-- ---- the parts

flat-map : {X Y Z : Type 0} (f : Y → List Z) (g : X → Y) (xs : List X) → flat_map (λ x. f (g x)) xs ≡ flat_map f (map g xs)
flat-map f g [] = refl
flat-map f g (x ∷ xs) = ap (λ ys. f (g x) ++ ys) (flat-map f g xs)

pub case_parts : (form : TypedForm) (v : TypedPath) (arms : Vec (ℕ × Vec TypedStmt Global) Global) (list : List (ℕ × Vec TypedStmt Global)) (bodies : List (List TypedStmt)) → form ≡ Case v arms → list ≡ arms.items → bodies ≡ map (λ a. a.1.items) list → statements_within form ≡ flat_map all_statements bodies
case_parts form v arms list bodies e f g = ap statements_within e ∙ (case_within v arms ∙ (flat-map all_statements (λ a. a.1.items) arms.items ∙ ap (flat_map all_statements) (sym (g ∙ ap (map (λ a. a.1.items)) f))))

pub select_parts : (form : TypedForm) (arms : Vec (TypedPath × TypedPath × Vec TypedStmt Global) Global) (list : List (TypedPath × TypedPath × Vec TypedStmt Global)) (bodies : List (List TypedStmt)) → form ≡ Select arms → list ≡ arms.items → bodies ≡ map (λ a. a.2.items) list → statements_within form ≡ flat_map all_statements bodies
select_parts form arms list bodies e f g = ap statements_within e ∙ (select_within arms ∙ (flat-map all_statements (λ a. a.2.items) arms.items ∙ ap (flat_map all_statements) (sym (g ∙ ap (map (λ a. a.2.items)) f))))

nothing-behind : {X : Type 0} (xs : List X) → xs ≡ xs ++ []
nothing-behind [] = refl
nothing-behind (x ∷ xs) = ap (x ∷◌) (nothing-behind xs)

pub if_parts : (form : TypedForm) (x : TypedExpr) (body : Vec TypedStmt Global) (other : Option (Vec TypedStmt Global)) (list : List TypedStmt) (bodies : List (List TypedStmt)) → form ≡ If x body other → list ≡ body.items → bodies ≡ list ∷ else_list other ∷ [] → statements_within form ≡ flat_map all_statements bodies
if_parts form x body other list bodies e f g =
    ap statements_within e
    ∙ (if_within x body other
    ∙ (ap (λ ts. all_statements body.items ++ ts) (nothing-behind (all_statements (else_list other)))
    ∙ ap (flat_map all_statements) (sym (g ∙ ap (λ b. b ∷ else_list other ∷ []) f))))

pub for_parts : (form : TypedForm) (r t : TypedPath) (body : Vec TypedStmt Global) (list : List TypedStmt) → form ≡ For r t body → list ≡ body.items → statements_within form ≡ all_statements list
for_parts form r t body list e f = ap statements_within e ∙ (for_within r t body ∙ ap all_statements (sym f))

pub while_parts : (form : TypedForm) (x : TypedExpr) (body : Vec TypedStmt Global) (list : List TypedStmt) → form ≡ While x body → list ≡ body.items → statements_within form ≡ all_statements list
while_parts form x body list e f = ap statements_within e ∙ (while_within x body ∙ ap all_statements (sym f))

pub try_parts : (form : TypedForm) (body : Vec TypedStmt Global) (handled : Vec (ExcNo × Vec TypedStmt Global) Global) (list : List TypedStmt) (handlers : List (ExcNo × Vec TypedStmt Global)) → form ≡ Try body handled → list ≡ body.items → handlers ≡ handled.items → statements_within form ≡ all_statements list ++ flat_map (λ h. all_statements h.1.items) handlers
try_parts form body handled list handlers e f g = ap statements_within e ∙ (try_within body handled ∙ ap₂ (λ b hs. all_statements b ++ flat_map (λ h. all_statements h.1.items) hs) (sym f) (sym g))
