-- Equal views have equally many statements, so numbers in the order of the text are equal.
use Rattle.std.proofs.Common.{◌≡◌, ℕ, zero, suc, ◌+◌, List, [], ◌∷◌, ◌++◌, map, length, refl, sym, ap, ◌∙◌, arith, length-append}
use Rattle.std.specs.List.{AllByRecursion}
use Rattle.herm_syntax.specs.declared.modules.Module.{Module as ModuleForm}
use Rattle.herm_syntax.specs.declared.modules.Module.TheVariants as modules
use Rattle.herm_syntax.specs.declared.statements.Stmt.{Stmt}
use Rattle.herm_syntax.specs.declared.statements.StmtForm.{StmtForm}
use Rattle.herm_syntax.specs.declared.statements.StmtForm.TheBlock as forms
use Rattle.herm_syntax.specs.Trees.{Statement, Assign, Move, Unite, Dissolve, Wrap, Insert, Connect, Send, Receive, New, Discard, Reveal, Remove, Get, Unwrap, Call, Return, ReturnBy, Create, Raise, Leave, Case, For, Select, If, While, Try, Statements, NoStatement, Further, Arms, NoArm, Arm, PortArms, NoPortArm, PortArm, Otherwise, NoElse, Else, Module, Definitions, Process}
use Rattle.herm_syntax.specs.View.{stmt_form_view, stmt_rows_view, arms_view, port_arms_view, otherwise_view, stmts_view, module_view}
use Rattle.herm_syntax.specs.StatementNumbers.{numbers_within, numbers, arms_numbers, port_arms_numbers, otherwise_numbers, body_numbers, module_numbers}
use Rattle.herm_syntax.specs.laws.GrammarLaws.{counting, IsNumbered, HasOneProgram}
use Rattle.herm_syntax.proofs.Uniqueness.{one_file}

-- How many statements stand within one, and in a list.
abbrev mutual
  count_within : Statement → ℕ
  count_within (Assign x e) = 0
  count_within (Move y x) = 0
  count_within (Unite v y) = 0
  count_within (Dissolve v y) = 0
  count_within (Wrap y p) = 0
  count_within (Insert r t) = 0
  count_within (Connect o i) = 0
  count_within (Send x o) = 0
  count_within (Receive x i) = 0
  count_within (New x) = 0
  count_within (Discard x) = 0
  count_within (Reveal v) = 0
  count_within (Remove r t keys) = 0
  count_within (Get r t keys) = 0
  count_within (Unwrap p name y) = 0
  count_within (Call o arguments) = 0
  count_within (Return m) = 0
  count_within (ReturnBy m name) = 0
  count_within (Create o name) = 0
  count_within (Raise name) = 0
  count_within Leave = 0
  count_within (Case v arms) = count_arms arms
  count_within (For r t body) = count body
  count_within (Select arms) = count_port_arms arms
  count_within (If e body other) = count body + count_otherwise other
  count_within (While e body) = count body
  count_within (Try body handled) = count body + count_arms handled

  count : Statements → ℕ
  count NoStatement = 0
  count (Further s others) = suc (count_within s + count others)

  count_arms : Arms → ℕ
  count_arms NoArm = 0
  count_arms (Arm name body others) = count body + count_arms others

  count_port_arms : PortArms → ℕ
  count_port_arms NoPortArm = 0
  count_port_arms (PortArm port target body others) = count body + count_port_arms others

  count_otherwise : Otherwise → ℕ
  count_otherwise NoElse = 0
  count_otherwise (Else body) = count body

joined : (a b : List ℕ) (m n : ℕ) → length a ≡ m → length b ≡ n → length (a ++ b) ≡ m + n
joined a b m n e f = omega (arith, length-append a b, e, f)

one_more : (x : ℕ) (a b : List ℕ) (m n : ℕ) → length a ≡ m → length b ≡ n → length (x ∷ a ++ b) ≡ suc (m + n)
one_more x a b m n e f = ap suc (joined a b m n e f)

mutual
  counted_within : (form : StmtForm) → length (numbers_within form) ≡ count_within (stmt_form_view form)
  counted_within (forms.Assign x e) = refl
  counted_within (forms.Move y x) = refl
  counted_within (forms.New x) = refl
  counted_within (forms.Discard x) = refl
  counted_within (forms.Unite v y) = refl
  counted_within (forms.Dissolve v y) = refl
  counted_within (forms.Reveal v) = refl
  counted_within (forms.Wrap y p) = refl
  counted_within (forms.Unwrap p name y) = refl
  counted_within (forms.Insert r t) = refl
  counted_within (forms.Remove r t keys) = refl
  counted_within (forms.Get r t keys) = refl
  counted_within (forms.Connect o i) = refl
  counted_within (forms.Send x o) = refl
  counted_within (forms.Receive x i) = refl
  counted_within (forms.Call o arguments) = refl
  counted_within (forms.Return m) = refl
  counted_within (forms.ReturnBy m name) = refl
  counted_within (forms.Create o name) = refl
  counted_within (forms.Raise name) = refl
  counted_within forms.Leave = refl
  counted_within (forms.Case' v shape arms) = counted_arms arms
  counted_within (forms.For' r t shape body) = counted body
  counted_within (forms.Select' shape arms) = counted_port_arms arms
  counted_within (forms.If' e shape body other) = joined (numbers body) (otherwise_numbers other) (count (stmt_rows_view body)) (count_otherwise (otherwise_view other)) (counted body) (counted_otherwise other)
  counted_within (forms.While' e shape body) = counted body
  counted_within (forms.Try' shape body shape_of_handlers handled) = joined (numbers body) (arms_numbers handled) (count (stmt_rows_view body)) (count_arms (arms_view handled)) (counted body) (counted_arms handled)

  counted : {m : _} (body : forms.Row_of-Stmt m) → length (numbers body) ≡ count (stmt_rows_view body)
  counted forms.end_of-Stmt = refl
  counted (forms.more_of-Stmt number span form rest) =
      one_more number.0 (numbers_within form) (numbers rest) (count_within (stmt_form_view form)) (count (stmt_rows_view rest)) (counted_within form) (counted rest)

  counted_arms : {m : _} (arms : forms.Row_of-StmtForm-Case-1-3 m) → length (arms_numbers arms) ≡ count_arms (arms_view arms)
  counted_arms forms.end_of-StmtForm-Case-1-3 = refl
  counted_arms (forms.more_of-StmtForm-Case-1-3 name shape body rest) = joined (numbers body) (arms_numbers rest) (count (stmt_rows_view body)) (count_arms (arms_view rest)) (counted body) (counted_arms rest)

  counted_port_arms : {m : _} (arms : forms.Row_of-StmtForm-Select-0-4 m) → length (port_arms_numbers arms) ≡ count_port_arms (port_arms_view arms)
  counted_port_arms forms.end_of-StmtForm-Select-0-4 = refl
  counted_port_arms (forms.more_of-StmtForm-Select-0-4 port target shape body rest) =
      joined (numbers body) (port_arms_numbers rest) (count (stmt_rows_view body)) (count_port_arms (port_arms_view rest)) (counted body) (counted_port_arms rest)

  counted_otherwise : (other : forms.Held-StmtForm-If-2) → length (otherwise_numbers other) ≡ count_otherwise (otherwise_view other)
  counted_otherwise forms.None' = refl
  counted_otherwise (forms.Some' shape body) = counted body

counted_body : (body : List Stmt) → length (body_numbers body) ≡ count (stmts_view body)
counted_body [] = refl
counted_body (s ∷ rest) = one_more (s.no).0 (numbers_within s.form) (body_numbers rest) (count_within (stmt_form_view s.form)) (count (stmts_view rest)) (counted_within s.form) (counted_body rest)

abbrev count_module : Module → ℕ
count_module (Definitions name items) = 0
count_module (Process name port vars body) = count body

counted_module : (m : ModuleForm) → length (module_numbers m) ≡ count_module (module_view m)
counted_module (modules.Definitions name list) = refl
counted_module (modules.Process name port vars body) = counted_body body.items

length-counting : (first n : ℕ) → length (counting first n) ≡ n
length-counting first zero = refl
length-counting first (suc n) = ap suc (length-counting (suc first) n)

same_numbers : (a b : ModuleForm) → IsNumbered a → IsNumbered b → module_view a ≡ module_view b → module_numbers a ≡ module_numbers b
same_numbers a b of_a of_b e =
    let count_a : of_a.0 ≡ count_module (module_view a) = sym (length-counting 1 of_a.0) ∙ (ap length (sym of_a.1) ∙ counted_module a) in
    let count_b : of_b.0 ≡ count_module (module_view b) = sym (length-counting 1 of_b.0) ∙ (ap length (sym of_b.1) ∙ counted_module b) in
    of_a.1 ∙ (ap (counting 1) (count_a ∙ (ap count_module e ∙ sym count_b)) ∙ sym of_b.1)

all_numbers : (a b : List ModuleForm) → AllByRecursion IsNumbered a → AllByRecursion IsNumbered b → map module_view a ≡ map module_view b → map module_numbers a ≡ map module_numbers b
all_numbers [] [] of_a of_b e = refl
all_numbers [] (y ∷ b) of_a of_b e = absurd (cc)
all_numbers (x ∷ a) [] of_a of_b e = absurd (cc)
all_numbers (x ∷ a) (y ∷ b) of_a of_b e =
    let heads : module_view x ≡ module_view y = cc in
    let tails : map module_view a ≡ map module_view b = cc in
    let here : module_numbers x ≡ module_numbers y = same_numbers x y of_a.0 of_b.0 heads in
    let there : map module_numbers a ≡ map module_numbers b = all_numbers a b of_a.1 of_b.1 tails in
    ap (λ t. t ∷ map module_numbers a) here ∙ ap (λ t. module_numbers y ∷ t) there

pub one_program : HasOneProgram
one_program a b is_a is_b e =
    let views = one_file (map module_view a) (map module_view b) is_a.fits is_b.fits e in
    (views, all_numbers a b is_a.numbered is_b.numbered views)
