-- A statement is seen as its parts say.
use Rattle.std.proofs.Common.{◌≡◌, ℕ, List, [], ◌∷◌, map, Option, Some, None, refl, sym, ap, ap₂, ◌∙◌, Vec, Global}
use Rattle.herm_base.specs.declared.numbers.ExcNo.{ExcNo}
use Rattle.herm_model.specs.Lists.{map_or}
use Rattle.herm_model.specs.Statements.{Form, Leave, Statement, choosing, repeating, trying, Block, Blocks, no_blocks, block}
use Rattle.herm_typed.specs.declared.expressions.TypedPath.{TypedPath}
use Rattle.herm_typed.specs.declared.expressions.TypedExpr.{TypedExpr}
use Rattle.herm_typed.specs.declared.statements.TypedStmt.{TypedStmt}
use Rattle.herm_typed.specs.declared.statements.TypedForm.{TypedForm, Case, Select, For, If, While, Try}
use Rattle.herm_typed.specs.View.{typed_form_view, typed_stmts_view, form_of_statement}
use Rattle.herm_typed.specs.Blocks.{case_blocks, select_blocks, else_block, handlers_list}
use Rattle.herm_typed.proofs.SeenBlocks.{case_view, select_view, if_view, for_view, while_view, try_view}
use Rattle.herm_flow.specs.Parts.{blocks_of, own_form, else_list}

said : (form : TypedForm) (s : Statement) → typed_form_view form ≡ s → map_or Leave (λ f. f) (form_of_statement s) ≡ own_form form
said form s e = ap (λ x. map_or Leave (λ f. f) (form_of_statement x)) (sym e)

choosing_own : (form : TypedForm) (f : Form) (bs cs : Blocks) → typed_form_view form ≡ choosing f bs → bs ≡ cs → typed_form_view form ≡ choosing (own_form form) cs
choosing_own form f bs cs e h = e ∙ ap₂ (λ g xs. choosing g xs) (said form (choosing f bs) e) h

repeating_own : (form : TypedForm) (f : Form) (b c : Block) → typed_form_view form ≡ repeating f b → b ≡ c → typed_form_view form ≡ repeating (own_form form) c
repeating_own form f b c e h = e ∙ ap₂ (λ g x. repeating g x) (said form (repeating f b) e) h

arm_blocks : (arms : List (ℕ × Vec TypedStmt Global)) → case_blocks arms ≡ blocks_of (map (λ a. a.1.items) arms)
arm_blocks [] = refl
arm_blocks (a ∷ arms) = ap (λ bs. block (typed_stmts_view a.1.items) bs) (arm_blocks arms)

port_blocks : (arms : List (TypedPath × TypedPath × Vec TypedStmt Global)) → select_blocks arms ≡ blocks_of (map (λ a. a.2.items) arms)
port_blocks [] = refl
port_blocks (a ∷ arms) = ap (λ bs. block (typed_stmts_view a.2.items) bs) (port_blocks arms)

else_seen : (other : Option (Vec TypedStmt Global)) → else_block other ≡ typed_stmts_view (else_list other)
else_seen None = refl
else_seen (Some body) = refl

pub case_seen : (form : TypedForm) (v : TypedPath) (arms : Vec (ℕ × Vec TypedStmt Global) Global) (list : List (ℕ × Vec TypedStmt Global)) (bodies : List (List TypedStmt)) → form ≡ Case v arms → list ≡ arms.items → bodies ≡ map (λ a. a.1.items) list → typed_form_view form ≡ choosing (own_form form) (blocks_of bodies)
case_seen form v arms list bodies e f g = choosing_own form _ _ _ (ap typed_form_view e ∙ case_view v arms) (arm_blocks arms.items ∙ ap blocks_of (sym (g ∙ ap (map (λ a. a.1.items)) f)))

pub select_seen : (form : TypedForm) (arms : Vec (TypedPath × TypedPath × Vec TypedStmt Global) Global) (list : List (TypedPath × TypedPath × Vec TypedStmt Global)) (bodies : List (List TypedStmt)) → form ≡ Select arms → list ≡ arms.items → bodies ≡ map (λ a. a.2.items) list → typed_form_view form ≡ choosing (own_form form) (blocks_of bodies)
select_seen form arms list bodies e f g = choosing_own form _ _ _ (ap typed_form_view e ∙ select_view arms) (port_blocks arms.items ∙ ap blocks_of (sym (g ∙ ap (map (λ a. a.2.items)) f)))

pub if_seen : (form : TypedForm) (x : TypedExpr) (body : Vec TypedStmt Global) (other : Option (Vec TypedStmt Global)) (list : List TypedStmt) (bodies : List (List TypedStmt)) → form ≡ If x body other → list ≡ body.items → bodies ≡ list ∷ else_list other ∷ [] → typed_form_view form ≡ choosing (own_form form) (blocks_of bodies)
if_seen form x body other list bodies e f g =
    choosing_own form _ _ _ (ap typed_form_view e ∙ if_view x body other)
    (ap (λ b. block (typed_stmts_view body.items) (block b no_blocks)) (else_seen other) ∙ ap blocks_of (sym (g ∙ ap (λ b. b ∷ else_list other ∷ []) f)))

pub for_seen : (form : TypedForm) (r t : TypedPath) (body : Vec TypedStmt Global) (list : List TypedStmt) → form ≡ For r t body → list ≡ body.items → typed_form_view form ≡ repeating (own_form form) (typed_stmts_view list)
for_seen form r t body list e f = repeating_own form _ _ _ (ap typed_form_view e ∙ for_view r t body) (ap typed_stmts_view (sym f))

pub while_seen : (form : TypedForm) (x : TypedExpr) (body : Vec TypedStmt Global) (list : List TypedStmt) → form ≡ While x body → list ≡ body.items → typed_form_view form ≡ repeating (own_form form) (typed_stmts_view list)
while_seen form x body list e f = repeating_own form _ _ _ (ap typed_form_view e ∙ while_view x body) (ap typed_stmts_view (sym f))

pub try_seen : (form : TypedForm) (body : Vec TypedStmt Global) (handled : Vec (ExcNo × Vec TypedStmt Global) Global) (list : List TypedStmt) (handlers : List (ExcNo × Vec TypedStmt Global)) → form ≡ Try body handled → list ≡ body.items → handlers ≡ handled.items → typed_form_view form ≡ trying (typed_stmts_view list) (handlers_list handlers)
try_seen form body handled list handlers e f g = ap typed_form_view e ∙ (try_view body handled ∙ ap₂ (λ b hs. trying (typed_stmts_view b) (handlers_list hs)) (sym f) (sym g))
