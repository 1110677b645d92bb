-- A node whose form goes on by `ok` leads somewhere.
use Rattle.std.proofs.Common.{◌≡◌, ℕ, ◌+◌, List, [], ◌∷◌, ◌++◌, map, false, refl, sym, ap, ◌∙◌, true≢false}
use Rattle.std.specs.Bool.{⊤}
use Rattle.herm_model.proofs.Lists.{cons-head, cons-not_nil}
use Rattle.herm_model.specs.Statements.{Form, Statement, simple, choosing, repeating, leaving, trying, Block, no_statements, statement, Blocks, no_blocks, block, Handlers, no_handlers, handler, numbers_of, numbers_of_block, nodes_of, nodes_of_block, Arm}
use Rattle.herm_model.specs.Outcomes.{Outcome, ok, same_outcome, normal_outcomes, component, arms_from}
use Rattle.herm_model.specs.Targets.{Target}
use Rattle.herm_model.specs.Nodes.{Surroundings, Node, nodes, nodes_in, nodes_of_choices, nodes_of_catches, process_nodes}
use Rattle.herm_typed.specs.declared.statements.TypedStmt.{TypedStmt}
use Rattle.herm_typed.specs.declared.statements.TypedForm.{TypedForm}
use Rattle.herm_typed.specs.declared.statements.TypedForm.TheBlock as forms
use Rattle.herm_typed.specs.declared.statements.TypedProcess.{TypedProcess}
use Rattle.herm_typed.specs.View.{components_view, typed_arms_view, typed_form_view, typed_block_view, case_blocks_view, select_blocks_view, typed_otherwise_view, typed_handlers_view, typed_stmts_view, typed_process_view}

-- outcomes of which none is `ok`
abbrev pub AreOther : List Outcome → Type 0
AreOther [] = ⊤
AreOther (o ∷ os) = (same_outcome o ok ≡ false) × AreOther os

pub components-other : (cs : List ℕ) → AreOther (map component cs)
components-other [] = tt
components-other (c ∷ cs) = (refl, components-other cs)

pub arms-other : (n : ℕ) (arms : List Arm) → AreOther (arms_from n arms)
arms-other n [] = tt
arms-other n (a ∷ arms) = (refl, arms-other _ arms)

pub other-not : (os : List Outcome) → AreOther os → os ≡ ok ∷ [] → ⊥
other-not [] h e = cons-not_nil ok [] (sym e)
other-not (o ∷ os) h e = true≢false (sym (ap (λ p. same_outcome p ok) (cons-head e)) ∙ h.0)

-- where the form goes on by `ok`, it leads somewhere
abbrev pub LeadsOn : Form → List Target → Type 0
LeadsOn form leads = normal_outcomes form ≡ ok ∷ [] → (t : Target) × (ts : List Target) × (leads ≡ t ∷ ts)

abbrev pub LeadOn : List Node → Type 0
LeadOn [] = ⊤
LeadOn (n ∷ ns) = LeadsOn n.form n.leads × LeadOn ns

joined : (ms ns : List Node) → LeadOn ms → LeadOn ns → LeadOn (ms ++ ns)
joined [] ns h k = k
joined (m ∷ ms) ns h k = (h.0, joined ms ns h.1 k)

-- no form with blocks to choose from goes on by `ok`
abbrev mutual
  Chooses : Statement → Type 0
  Chooses (simple form) = ⊤
  Chooses (choosing form blocks) = AreOther (normal_outcomes form) × ChooseAll blocks
  Chooses (repeating form body) = ChooseIn body
  Chooses leaving = ⊤
  Chooses (trying body handlers) = ChooseIn body × ChooseHandled handlers

  ChooseIn : Block → Type 0
  ChooseIn no_statements = ⊤
  ChooseIn (statement s rest) = Chooses s × ChooseIn rest

  ChooseAll : Blocks → Type 0
  ChooseAll no_blocks = ⊤
  ChooseAll (block b rest) = ChooseIn b × ChooseAll rest

  ChooseHandled : Handlers → Type 0
  ChooseHandled no_handlers = ⊤
  ChooseHandled (handler e b rest) = ChooseIn b × ChooseHandled rest

mutual
  leads : (s : Statement) (number from : ℕ) (u : Surroundings) → Chooses s → LeadOn (nodes s number from u)
  leads (simple form) number from u h = (λ e. (u.behind, [], ap (map (λ (o : Outcome). u.behind)) e), tt)
  leads (choosing form blocks) number from u h = (λ e. absurd (other-not (normal_outcomes form) h.0 e), leads-choices blocks (number + 1) (from + 1) u h.1)
  leads (repeating form body) number from u h = (λ e. (_, _, refl), leads-in body (number + 1) (from + 1) _ h)
  leads leaving number from u h = (λ e. (u.exit, [], refl), tt)
  leads (trying body handlers) number from u h =
      joined (nodes_in body (number + 1) from _) (nodes_of_catches handlers (number + 1 + numbers_of_block body) (from + nodes_of_block body) u)
      (leads-in body (number + 1) from _ h.0) (leads-catches handlers (number + 1 + numbers_of_block body) (from + nodes_of_block body) u h.1)

  leads-in : (b : Block) (number from : ℕ) (u : Surroundings) → ChooseIn b → LeadOn (nodes_in b number from u)
  leads-in no_statements number from u h = tt
  leads-in (statement s rest) number from u h =
      joined (nodes s number from _) (nodes_in rest (number + numbers_of s) (from + nodes_of s) u) (leads s number from _ h.0) (leads-in rest (number + numbers_of s) (from + nodes_of s) u h.1)

  leads-choices : (bs : Blocks) (number from : ℕ) (u : Surroundings) → ChooseAll bs → LeadOn (nodes_of_choices bs number from u)
  leads-choices no_blocks number from u h = tt
  leads-choices (block b rest) number from u h =
      joined (nodes_in b number from u) (nodes_of_choices rest (number + numbers_of_block b) (from + nodes_of_block b) u) (leads-in b number from u h.0) (leads-choices rest _ _ u h.1)

  leads-catches : (hs : Handlers) (number from : ℕ) (u : Surroundings) → ChooseHandled hs → LeadOn (nodes_of_catches hs number from u)
  leads-catches no_handlers number from u h = tt
  leads-catches (handler e b rest) number from u h =
      joined (nodes_in b number from u) (nodes_of_catches rest (number + numbers_of_block b) (from + nodes_of_block b) u) (leads-in b number from u h.0) (leads-catches rest _ _ u h.1)

mutual
  form-chooses : (form : TypedForm) → Chooses (typed_form_view form)
  form-chooses (forms.Case' v shape arms) = (components-other (components_view arms), arms-choose arms)
  form-chooses (forms.For' r t shape body) = row-chooses body
  form-chooses (forms.Select' shape arms) = (arms-other 0 (typed_arms_view arms), ports-choose arms)
  form-chooses (forms.If' e shape body other) = ((refl, (refl, tt)), (row-chooses body, (otherwise-chooses other, tt)))
  form-chooses (forms.While' e shape body) = row-chooses body
  form-chooses (forms.Try' shape body others handled) = (row-chooses body, handlers-choose handled)
  form-chooses form = tt

  row-chooses : {m : _} (row : forms.Row_of-TypedStmt m) → ChooseIn (typed_block_view row)
  row-chooses forms.end_of-TypedStmt = tt
  row-chooses (forms.more_of-TypedStmt number span form rest) = (form-chooses form, row-chooses rest)

  arms-choose : {m : _} (arms : forms.Row_of-TypedForm-Case-1-3 m) → ChooseAll (case_blocks_view arms)
  arms-choose forms.end_of-TypedForm-Case-1-3 = tt
  arms-choose (forms.more_of-TypedForm-Case-1-3 c shape body rest) = (row-chooses body, arms-choose rest)

  ports-choose : {m : _} (arms : forms.Row_of-TypedForm-Select-0-4 m) → ChooseAll (select_blocks_view arms)
  ports-choose forms.end_of-TypedForm-Select-0-4 = tt
  ports-choose (forms.more_of-TypedForm-Select-0-4 port target shape body rest) = (row-chooses body, ports-choose rest)

  otherwise-chooses : (other : forms.Held-TypedForm-If-2) → ChooseIn (typed_otherwise_view other)
  otherwise-chooses forms.None' = tt
  otherwise-chooses (forms.Some' shape body) = row-chooses body

  handlers-choose : {m : _} (handled : forms.Row_of-TypedForm-Try-1-3 m) → ChooseHandled (typed_handlers_view handled)
  handlers-choose forms.end_of-TypedForm-Try-1-3 = tt
  handlers-choose (forms.more_of-TypedForm-Try-1-3 exception shape body rest) = (row-chooses body, handlers-choose rest)

list-chooses : (list : List TypedStmt) → ChooseIn (typed_stmts_view list)
list-chooses [] = tt
list-chooses (s ∷ rest) = (form-chooses s.form, list-chooses rest)

pub process-leads : (p : TypedProcess) → LeadOn (process_nodes (typed_process_view p))
process-leads p = leads-in (typed_stmts_view p.body.items) 1 0 _ (list-chooses p.body.items)
