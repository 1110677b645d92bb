-- What the pass over the text in code gives at a statement with blocks, from the lists that the code has.
use Rattle.std.proofs.Common.{◌≡◌, ℕ, zero, suc, ◌+◌, ◌<◌, ◌≤◌, List, [], ◌∷◌, ◌++◌, length, drop, get_or, set, Bool, true, false, not, ◌||◌, arith, subst, append_assoc, Option, Some, None, is_some, option_and_then, refl, sym, ap, ap₂, ◌∙◌, Vec, Global}
use Rattle.std.proofs.lemmas.List.{drop_more}
use Rattle.herm_base.specs.declared.numbers.ExcNo.{ExcNo}
use Rattle.herm_model.specs.Types.{TypeTable, Shape, inport}
use Rattle.herm_model.specs.Calls.{message_type}
use Rattle.herm_model.specs.Statements.{trying, numbers_of, numbers_of_block, numbers_of_blocks, numbers_of_handlers}
use Rattle.herm_model.specs.Outcomes.{listed_if, raised_by_new, depletion}
use Rattle.herm_typed.specs.declared.expressions.TypedPath.{TypedPath}
use Rattle.herm_typed.specs.declared.expressions.TypedExpr.{TypedExpr}
use Rattle.herm_typed.specs.declared.statements.TypedStmt.{TypedStmt}
use Rattle.herm_typed.specs.declared.statements.TypedForm.{TypedForm, Case, Select, For, If, While, Try}
use Rattle.herm_typed.specs.View.{typed_form_view, typed_stmts_view}
use Rattle.herm_typed.specs.Blocks.{case_blocks, select_blocks, else_block, handlers_list}
use Rattle.herm_typed.proofs.SeenBlocks.{case_view, select_view, if_view, for_view, while_view, try_view}
use Rattle.herm_resolve.specs.ControlInOnePass.{Control, beside, behind, raise_one, raise_all, members, control, control_of_block, control_of_blocks, control_of_handlers, raises_here, two_blocks}

pub refused_raises : (o : Option Shape) → raised_by_new o ≡ listed_if (is_some (option_and_then message_type o)) depletion
refused_raises None = refl
refused_raises (Some (inport message declared)) = refl
refused_raises (Some s) = refl

pub all_joined : (bs : List Bool) (xs ys : List ℕ) → raise_all bs (xs ++ ys) ≡ raise_all (raise_all bs xs) ys
all_joined bs [] ys = refl
all_joined bs (x ∷ xs) ys = all_joined (raise_one bs x) xs ys

pub members_joined : (bs inner : List Bool) (b : Bool) (from : ℕ) → raise_all bs (members from (b ∷ inner)) ≡ raise_all (raise_all bs (listed_if b from)) (members (suc from) inner)
members_joined bs inner b from = all_joined bs (listed_if b from) (members (suc from) inner)

pub one_grown : (bs : List Bool) (e : ℕ) → length bs ≤ e → raise_one (bs ++ (false ∷ [])) e ≡ raise_one bs e
one_grown [] zero h = refl
one_grown [] (suc e) h = refl
one_grown (b ∷ bs) zero h = absurd (let n : ⊥ = omega (arith, h) in n)
one_grown (b ∷ bs) (suc e) h = ap (b ∷◌) (one_grown bs e (omega (arith, h)))

pub one_set : (bs : List Bool) (e : ℕ) → e < length bs → raise_one bs e ≡ set bs e true
one_set [] e h = absurd (let n : ⊥ = omega (arith, h) in n)
one_set (b ∷ bs) zero h = refl
one_set (b ∷ bs) (suc e) h = ap (b ∷◌) (one_set bs e (omega (arith, h)))

or_step : (a b c s w : Bool) → s ≡ (a || b) → a || (b || c) ≡ w → s || c ≡ w
or_step a b c s w e h = ap (λ x. x || c) e ∙ by a h
  where
    by : (a : Bool) → a || (b || c) ≡ w → (a || b) || c ≡ w
    by true h = h
    by false h = h

raise_step : (old mid w : List Bool) (first rest : List ℕ) → mid ≡ raise_all old first → raise_all old (first ++ rest) ≡ w → raise_all mid rest ≡ w
raise_step old mid w first rest e h = ap (λ bs. raise_all bs rest) e ∙ (sym (all_joined old first rest) ∙ h)

mark_step : (old mid w first rest : List Bool) → mid ≡ old ++ first → old ++ (first ++ rest) ≡ w → mid ++ rest ≡ w
mark_step old mid w first rest e h = ap (λ ms. ms ++ rest) e ∙ (append_assoc old first rest ∙ h)

-- what is known so far, joined with what control does in what is left, is this
pub record IsJoined (goes leaves : Bool) (es ms : List Bool) (left : Control) (is_on is_out : Bool) (is_raised is_marks : List Bool) : Type 0 where
  pub on : goes || left.on ≡ is_on
  pub out : leaves || left.out ≡ is_out
  pub raised : raise_all es left.raised ≡ is_raised
  pub marks : ms ++ left.marks ≡ is_marks

-- one part more, beside what is left
pub beside_next : (on out new_on new_out is_on is_out : Bool) (raised marks new_raised new_marks is_raised is_marks : List Bool) (first rest left : Control)
    → left ≡ beside first rest → new_on ≡ (on || first.on) → new_out ≡ (out || first.out) → new_raised ≡ raise_all raised first.raised → new_marks ≡ marks ++ first.marks
    → IsJoined on out raised marks left is_on is_out is_raised is_marks → IsJoined new_on new_out new_raised new_marks rest is_on is_out is_raised is_marks
beside_next on out new_on new_out is_on is_out raised marks new_raised new_marks is_raised is_marks first rest left e a b c d h =
    let k : IsJoined on out raised marks (beside first rest) is_on is_out is_raised is_marks = subst (λ x. IsJoined on out raised marks x is_on is_out is_raised is_marks) e h in
    record {
      on = or_step on first.on rest.on new_on is_on a k.on;
      out = or_step out first.out rest.out new_out is_out b k.out;
      raised = raise_step raised new_raised is_raised first.raised rest.raised c k.raised;
      marks = mark_step marks new_marks is_marks first.marks rest.marks d k.marks;
    }

pub record IsFollowed (leaves : Bool) (es ms : List Bool) (left : Control) (is_on is_out : Bool) (is_raised is_marks : List Bool) : Type 0 where
  pub on : left.on ≡ is_on
  pub out : leaves || left.out ≡ is_out
  pub raised : raise_all es left.raised ≡ is_raised
  pub marks : ms ++ left.marks ≡ is_marks

-- one part more, before what is left
pub behind_next : (out new_out is_on is_out : Bool) (raised marks new_raised new_marks is_raised is_marks : List Bool) (first rest left : Control)
    → left ≡ behind first rest → new_out ≡ (out || first.out) → new_raised ≡ raise_all raised first.raised → new_marks ≡ marks ++ first.marks
    → IsFollowed out raised marks left is_on is_out is_raised is_marks → IsFollowed new_out new_raised new_marks rest is_on is_out is_raised is_marks
behind_next out new_out is_on is_out raised marks new_raised new_marks is_raised is_marks first rest left e b c d h =
    let k : IsFollowed out raised marks (behind first rest) is_on is_out is_raised is_marks = subst (λ x. IsFollowed out raised marks x is_on is_out is_raised is_marks) e h in
    record {
      on = k.on;
      out = or_step out first.out rest.out new_out is_out b k.out;
      raised = raise_step raised new_raised is_raised first.raised rest.raised c k.raised;
      marks = mark_step marks new_marks is_marks first.marks rest.marks d k.marks;
    }

left-is : {X : Type 0} (xs : List X) (i : ℕ) (x : X) → i < length xs → x ≡ get_or xs i x → drop i xs ≡ x ∷ drop (i + 1) xs
left-is xs i x h e = drop_more xs i x h ∙ ap (λ y. y ∷ drop (i + 1) xs) (sym e)

module _ (types : TypeTable) (variables : List ℕ) where
  pub arms_left : (arms : List (ℕ × Vec TypedStmt Global)) (i : ℕ) (a : ℕ × Vec TypedStmt Global) (list : List TypedStmt) (here : Bool) → i < length arms → a ≡ get_or arms i a → list ≡ a.1.items
      → control_of_blocks types variables (case_blocks (drop i arms)) here ≡ beside (control_of_block types variables (typed_stmts_view list) here) (control_of_blocks types variables (case_blocks (drop (i + 1) arms)) here)
  arms_left arms i a list here h e f =
      ap (λ xs. control_of_blocks types variables (case_blocks xs) here) (left-is arms i a h e)
      ∙ ap (λ body. beside (control_of_block types variables (typed_stmts_view body) here) (control_of_blocks types variables (case_blocks (drop (i + 1) arms)) here)) (sym f)

  pub ports_left : (arms : List (TypedPath × TypedPath × Vec TypedStmt Global)) (i : ℕ) (a : TypedPath × TypedPath × Vec TypedStmt Global) (list : List TypedStmt) (here : Bool) → i < length arms → a ≡ get_or arms i a → list ≡ a.2.items
      → control_of_blocks types variables (select_blocks (drop i arms)) here ≡ beside (control_of_block types variables (typed_stmts_view list) here) (control_of_blocks types variables (select_blocks (drop (i + 1) arms)) here)
  ports_left arms i a list here h e f =
      ap (λ xs. control_of_blocks types variables (select_blocks xs) here) (left-is arms i a h e)
      ∙ ap (λ body. beside (control_of_block types variables (typed_stmts_view body) here) (control_of_blocks types variables (select_blocks (drop (i + 1) arms)) here)) (sym f)

  pub handlers_left : (handled : List (ExcNo × Vec TypedStmt Global)) (i : ℕ) (a : ExcNo × Vec TypedStmt Global) (list : List TypedStmt) (inner others : List Bool) (here : Bool) → i < length handled → a ≡ get_or handled i a → list ≡ a.1.items
      → here ≡ get_or inner a.0.0 false → others ≡ set inner a.0.0 false
      → control_of_handlers types variables (handlers_list (drop i handled)) inner ≡ beside (control_of_block types variables (typed_stmts_view list) here) (control_of_handlers types variables (handlers_list (drop (i + 1) handled)) others)
  handlers_left handled i a list inner others here h e f g k =
      ap (λ xs. control_of_handlers types variables (handlers_list xs) inner) (left-is handled i a h e)
      ∙ (ap (λ body. beside (control_of_block types variables (typed_stmts_view body) (get_or inner a.0.0 false)) (control_of_handlers types variables (handlers_list (drop (i + 1) handled)) (set inner a.0.0 false))) (sym f)
      ∙ ap₂ (λ b bs. beside (control_of_block types variables (typed_stmts_view list) b) (control_of_handlers types variables (handlers_list (drop (i + 1) handled)) bs)) (sym g) (sym k))

  pub statements_left : (list : List TypedStmt) (i : ℕ) (s : TypedStmt) (here on : Bool) → i < length list → s ≡ get_or list i s → on ≡ (control types variables (typed_form_view s.form) here).on
      → control_of_block types variables (typed_stmts_view (drop i list)) here ≡ behind (control types variables (typed_form_view s.form) here) (control_of_block types variables (typed_stmts_view (drop (i + 1) list)) on)
  statements_left list i s here on h e f =
      ap (λ xs. control_of_block types variables (typed_stmts_view xs) here) (left-is list i s h e)
      ∙ ap (λ b. behind (control types variables (typed_form_view s.form) here) (control_of_block types variables (typed_stmts_view (drop (i + 1) list)) b)) (sym f)

-- what control does at a statement that raises this by itself, and in its blocks
abbrev pub choice : List ℕ → (here : Bool) → Control → Control
choice raises here c = record { on = c.on; out = c.out; raised = raises ++ c.raised; marks = not here ∷ c.marks }

abbrev pub loop : List ℕ → (here : Bool) → Control → Control
loop raises here c = record { on = here; out = false; raised = raises ++ c.raised; marks = not here ∷ c.marks }

module _ (types : TypeTable) (variables : List ℕ) (form : TypedForm) (here : Bool) where
  pub case_control : (v : TypedPath) (arms : Vec (ℕ × Vec TypedStmt Global) Global) (list : List (ℕ × Vec TypedStmt Global)) → form ≡ Case v arms → list ≡ arms.items → control types variables (typed_form_view form) here ≡ choice (raises_here types variables form here) here (control_of_blocks types variables (case_blocks list) here)
  case_control v arms list e h0 = ap (λ f. control types variables (typed_form_view f) here) e ∙ (ap (λ s. control types variables s here) (case_view v arms) ∙ ap₂ (λ f list. choice (raises_here types variables f here) here (control_of_blocks types variables (case_blocks list) here)) (sym e) (sym h0))

  pub select_control : (arms : Vec (TypedPath × TypedPath × Vec TypedStmt Global) Global) (list : List (TypedPath × TypedPath × Vec TypedStmt Global)) → form ≡ Select arms → list ≡ arms.items → control types variables (typed_form_view form) here ≡ choice (raises_here types variables form here) here (control_of_blocks types variables (select_blocks list) here)
  select_control arms list e h0 = ap (λ f. control types variables (typed_form_view f) here) e ∙ (ap (λ s. control types variables s here) (select_view arms) ∙ ap₂ (λ f list. choice (raises_here types variables f here) here (control_of_blocks types variables (select_blocks list) here)) (sym e) (sym h0))

  pub if_control : (x : TypedExpr) (body : Vec TypedStmt Global) (other : Option (Vec TypedStmt Global)) (list : List TypedStmt) → form ≡ If x body other → list ≡ body.items → control types variables (typed_form_view form) here ≡ choice (raises_here types variables form here) here (control_of_blocks types variables (two_blocks (typed_stmts_view list) (else_block other)) here)
  if_control x body other list e h0 = ap (λ f. control types variables (typed_form_view f) here) e ∙ (ap (λ s. control types variables s here) (if_view x body other) ∙ ap₂ (λ f list. choice (raises_here types variables f here) here (control_of_blocks types variables (two_blocks (typed_stmts_view list) (else_block other)) here)) (sym e) (sym h0))

  pub for_control : (r : TypedPath) (t : TypedPath) (body : Vec TypedStmt Global) (list : List TypedStmt) → form ≡ For r t body → list ≡ body.items → control types variables (typed_form_view form) here ≡ loop (raises_here types variables form here) here (control_of_block types variables (typed_stmts_view list) here)
  for_control r t body list e h0 = ap (λ f. control types variables (typed_form_view f) here) e ∙ (ap (λ s. control types variables s here) (for_view r t body) ∙ ap₂ (λ f list. loop (raises_here types variables f here) here (control_of_block types variables (typed_stmts_view list) here)) (sym e) (sym h0))

  pub while_control : (x : TypedExpr) (body : Vec TypedStmt Global) (list : List TypedStmt) → form ≡ While x body → list ≡ body.items → control types variables (typed_form_view form) here ≡ loop (raises_here types variables form here) here (control_of_block types variables (typed_stmts_view list) here)
  while_control x body list e h0 = ap (λ f. control types variables (typed_form_view f) here) e ∙ (ap (λ s. control types variables s here) (while_view x body) ∙ ap₂ (λ f list. loop (raises_here types variables f here) here (control_of_block types variables (typed_stmts_view list) here)) (sym e) (sym h0))

  pub try_control : (body : Vec TypedStmt Global) (handled : Vec (ExcNo × Vec TypedStmt Global) Global) (list : List TypedStmt) (handlers : List (ExcNo × Vec TypedStmt Global)) → form ≡ Try body handled → list ≡ body.items → handlers ≡ handled.items → control types variables (typed_form_view form) here ≡ control types variables (trying (typed_stmts_view list) (handlers_list handlers)) here
  try_control body handled list handlers e h0 h1 = ap (λ f. control types variables (typed_form_view f) here) e ∙ (ap (λ s. control types variables s here) (try_view body handled) ∙ ap₂ (λ list handlers. control types variables (trying (typed_stmts_view list) (handlers_list handlers)) here) (sym h0) (sym h1))

-- how many statements stand within
module _ (form : TypedForm) where
  pub case_number : (v : TypedPath) (arms : Vec (ℕ × Vec TypedStmt Global) Global) (list : List (ℕ × Vec TypedStmt Global)) → form ≡ Case v arms → list ≡ arms.items → numbers_of (typed_form_view form) ≡ 1 + numbers_of_blocks (case_blocks list)
  case_number v arms list e h0 = ap (λ f. numbers_of (typed_form_view f)) e ∙ (ap numbers_of (case_view v arms) ∙ ap (λ list. 1 + numbers_of_blocks (case_blocks list)) (sym h0))

  pub select_number : (arms : Vec (TypedPath × TypedPath × Vec TypedStmt Global) Global) (list : List (TypedPath × TypedPath × Vec TypedStmt Global)) → form ≡ Select arms → list ≡ arms.items → numbers_of (typed_form_view form) ≡ 1 + numbers_of_blocks (select_blocks list)
  select_number arms list e h0 = ap (λ f. numbers_of (typed_form_view f)) e ∙ (ap numbers_of (select_view arms) ∙ ap (λ list. 1 + numbers_of_blocks (select_blocks list)) (sym h0))

  pub if_number : (x : TypedExpr) (body : Vec TypedStmt Global) (other : Option (Vec TypedStmt Global)) (list : List TypedStmt) → form ≡ If x body other → list ≡ body.items → numbers_of (typed_form_view form) ≡ 1 + (numbers_of_block (typed_stmts_view list) + (numbers_of_block (else_block other) + 0))
  if_number x body other list e h0 = ap (λ f. numbers_of (typed_form_view f)) e ∙ (ap numbers_of (if_view x body other) ∙ ap (λ list. 1 + (numbers_of_block (typed_stmts_view list) + (numbers_of_block (else_block other) + 0))) (sym h0))

  pub for_number : (r : TypedPath) (t : TypedPath) (body : Vec TypedStmt Global) (list : List TypedStmt) → form ≡ For r t body → list ≡ body.items → numbers_of (typed_form_view form) ≡ 1 + numbers_of_block (typed_stmts_view list)
  for_number r t body list e h0 = ap (λ f. numbers_of (typed_form_view f)) e ∙ (ap numbers_of (for_view r t body) ∙ ap (λ list. 1 + numbers_of_block (typed_stmts_view list)) (sym h0))

  pub while_number : (x : TypedExpr) (body : Vec TypedStmt Global) (list : List TypedStmt) → form ≡ While x body → list ≡ body.items → numbers_of (typed_form_view form) ≡ 1 + numbers_of_block (typed_stmts_view list)
  while_number x body list e h0 = ap (λ f. numbers_of (typed_form_view f)) e ∙ (ap numbers_of (while_view x body) ∙ ap (λ list. 1 + numbers_of_block (typed_stmts_view list)) (sym h0))

  pub try_number : (body : Vec TypedStmt Global) (handled : Vec (ExcNo × Vec TypedStmt Global) Global) (list : List TypedStmt) (handlers : List (ExcNo × Vec TypedStmt Global)) → form ≡ Try body handled → list ≡ body.items → handlers ≡ handled.items → numbers_of (typed_form_view form) ≡ 1 + (numbers_of_block (typed_stmts_view list) + numbers_of_handlers (handlers_list handlers))
  try_number body handled list handlers e h0 h1 = ap (λ f. numbers_of (typed_form_view f)) e ∙ (ap numbers_of (try_view body handled) ∙ ap₂ (λ list handlers. 1 + (numbers_of_block (typed_stmts_view list) + numbers_of_handlers (handlers_list handlers))) (sym h0) (sym h1))
