-- The steps of a walk over a body.
use Rattle.std.proofs.Common.{◌≡◌, ℕ, refl, sym, ap, ap₂, ◌∙◌}
use Rattle.herm_model.specs.Lists.{map_or}
use Rattle.herm_model.specs.Statements.{Form, Leave, Statement, choosing, repeating, trying, Block, Blocks, no_blocks, block, Handlers}
use Rattle.herm_typed.specs.declared.statements.TypedForm.{TypedForm}
use Rattle.herm_typed.specs.View.{typed_form_view, form_of_statement}
use Rattle.herm_fronts.specs.Forms.{form_seen}
use Rattle.herm_fronts.specs.Walked.{Nodes, counted, with_form, with_loop, walk_statement, walk_block, walk_blocks, walk_handlers}

form-is : (form : TypedForm) (s : Statement) → typed_form_view form ≡ s → form_seen form ≡ map_or Leave (λ f. f) (form_of_statement s)
form-is form s e = ap (λ t. map_or Leave (λ f. f) (form_of_statement t)) e

pub chosen : (form g : TypedForm) (f : Form) (blocks : Blocks) (old mid new : Nodes) → form ≡ g → typed_form_view g ≡ choosing f blocks → mid ≡ with_form (form_seen form) old → new ≡ walk_blocks blocks mid → new ≡ walk_statement (typed_form_view form) old
chosen form g f blocks old mid new is seen e h =
    let seen_form : typed_form_view form ≡ choosing f blocks = ap typed_form_view is ∙ seen in
    h ∙ (ap (walk_blocks blocks) (e ∙ ap (λ x. with_form x old) (form-is form (choosing f blocks) seen_form)) ∙ sym (ap (λ s. walk_statement s old) seen_form))

pub repeated : (form g : TypedForm) (f : Form) (body : Block) (old new : Nodes) → form ≡ g → typed_form_view g ≡ repeating f body → new ≡ with_loop old.next (walk_block body (with_form (form_seen form) old)) → new ≡ walk_statement (typed_form_view form) old
repeated form g f body old new is seen h =
    let seen_form : typed_form_view form ≡ repeating f body = ap typed_form_view is ∙ seen in
    h ∙ (ap (λ x. with_loop old.next (walk_block body (with_form x old))) (form-is form (repeating f body) seen_form) ∙ sym (ap (λ s. walk_statement s old) seen_form))

pub tried : (form g : TypedForm) (body : Block) (handlers : Handlers) (old mid late new : Nodes) → form ≡ g → typed_form_view g ≡ trying body handlers → mid ≡ counted old → late ≡ walk_block body mid → new ≡ walk_handlers handlers late → new ≡ walk_statement (typed_form_view form) old
tried form g body handlers old mid late new is seen e h k =
    let seen_form : typed_form_view form ≡ trying body handlers = ap typed_form_view is ∙ seen in
    k ∙ (ap (walk_handlers handlers) (h ∙ ap (walk_block body) e) ∙ sym (ap (λ s. walk_statement s old) seen_form))

pub chosen_twice : (form g : TypedForm) (f : Form) (b d : Block) (old mid late new : Nodes) → form ≡ g → typed_form_view g ≡ choosing f (block b (block d no_blocks)) → mid ≡ with_form (form_seen form) old → late ≡ walk_block b mid → new ≡ walk_block d late → new ≡ walk_statement (typed_form_view form) old
chosen_twice form g f b d old mid late new is seen e h k = chosen form g f (block b (block d no_blocks)) old mid new is seen e (k ∙ ap (walk_block d) h)
