-- How far trees go along tokens depends on what is seen of them alone: the tokens behind a tree, by its view.
use Rattle.std.proofs.Common.{◌≡◌, ℕ, suc, Bool, true, false, ◌==◌, ◌&&◌, if◌then◌else◌, List, [], ◌∷◌, Option, Some, None, map, refl, ap, ◌∙◌}
use Rattle.std.specs.Prelude.{option_map}
use Rattle.herm_base.specs.declared.numbers.StmtNo.{StmtNo}
use Rattle.herm_base.specs.declared.word.Span.{Span}
use Rattle.herm_base.specs.declared.word.Name.{Name}
use Rattle.herm_alphabet.specs.declared.token.Token.{Token}
use Rattle.herm_syntax.specs.declared.expressions.Atom.{Atom as AtomForm}
use Rattle.herm_syntax.specs.declared.expressions.Atom.TheVariants as atoms
use Rattle.herm_syntax.specs.declared.expressions.Comp.{Comp}
use Rattle.herm_syntax.specs.declared.expressions.Conj.{Conj}
use Rattle.herm_syntax.specs.declared.expressions.Expr.{Expr}
use Rattle.herm_syntax.specs.declared.expressions.Literal.{Literal as LiteralForm}
use Rattle.herm_syntax.specs.declared.expressions.Literal.TheVariants as literals
use Rattle.herm_syntax.specs.declared.expressions.PathForm.{PathForm}
use Rattle.herm_syntax.specs.declared.expressions.Primary.{Primary as PrimaryForm}
use Rattle.herm_syntax.specs.declared.expressions.Primary.TheBlock as expressions
use Rattle.herm_syntax.specs.declared.expressions.Prod.{Prod}
use Rattle.herm_syntax.specs.declared.expressions.Sum.{Sum}
use Rattle.herm_syntax.specs.declared.expressions.UnaryOp.{UnaryOp}
use Rattle.herm_syntax.specs.declared.statements.Stmt.{Stmt}
use Rattle.herm_syntax.specs.declared.statements.StmtForm.{StmtForm}
use Rattle.herm_syntax.specs.declared.statements.StmtForm.TheBlock as forms
use Rattle.herm_syntax.specs.View.{name_view, path_form_view, literal_view, atom_view, unary_op_view, expr_view, conjs_view, conj_view, comps_view, comp_view, compared_view, sum_view, prods_view, prod_view, unaries_view, primary_view, stmt_form_view, stmt_rows_view, arms_view, port_arms_view, otherwise_view, stmts_view}
use Rattle.herm_syntax.specs.Trees.{Letters, Path, Literal, Integer, Text, Boolean, Tag, Atom, Constant, Place, Expression, Chain, Compare, Unary, Operands, NoOperand, Operand, Comparison, NoComparison, With, Primary, Simple, Size, Paren, TextOf, LengthOf, Move, Unite, Dissolve, Wrap, Insert, Connect, Send, Receive, New, Discard, Reveal, Remove, Get, Statement, Assign, Unwrap, Call, Return, ReturnBy, Create, Raise, Leave, Case, For, Select, If, While, Try, Statements, NoStatement, Further, Arms, NoArm, Arm, PortArms, NoPortArm, PortArm, Otherwise, NoElse, Else}
use Rattle.herm_parser.specs.Along.{◌>>=◌, past_token, is_place, past_name, past_each, past_behind, past_list, past_path, past_literal, past_atom, past_sign, past_expression, past_conjunctions, past_conjunction, past_comparisons, past_comparison, past_compared, past_sum, past_products, past_product, past_unaries, past_primary}
use Rattle.herm_parser.specs.Walk.{Walked, Moved, past_end, ended, past_pair, past_path_name, past_atoms, past_keyed, begins, stated, blocked, walk_form, walk_statements, walk_arms, walk_port_arms, walk_otherwise, walk_body}

abbrev pub Tokens : Type 0
Tokens = List Token

-- the tokens behind one
abbrev pub tail : Tokens → Tokens
tail [] = []
tail (t ∷ tokens) = tokens

-- Where a step leads on, it leads to these tokens.
pub record Leads {A B : Type 0} (before : A → Tokens) (behind : B → Tokens) (past : A → Option B) (skip : Tokens → Tokens) : Type 0 where
  pub leads : (a : A) (b : B) → past a ≡ Some b → behind b ≡ skip (before a)

abbrev pub plain : Tokens → Tokens
plain tokens = tokens

abbrev pub Goes : (Tokens → Option Tokens) → (Tokens → Tokens) → Type 0
Goes past skip = Leads plain plain past skip

-- the tokens left in a walk
abbrev pub moved : ℕ × Tokens → Tokens
moved w = w.1

abbrev pub walked : ℕ × (ℕ × Tokens) → Tokens
walked w = w.1.1

both : {B C : Type 0} → (middle : B → Tokens) (behind : C → Tokens) (first : Option B) (q : B → Option C) (g : Tokens → Tokens) (tokens : Tokens) →
    ((b : B) → first ≡ Some b → middle b ≡ tokens) → ((b : B) (c : C) → q b ≡ Some c → behind c ≡ g (middle b)) → (c : C) → (first >>= q) ≡ Some c → behind c ≡ g tokens
both middle behind None q g tokens x y c e = absurd (cc)
both middle behind (Some b) q g tokens x y c e = y b c e ∙ ap g (x b refl)

pub then_goes : {A B C : Type 0} → {before : A → Tokens} → {middle : B → Tokens} → {behind : C → Tokens} → {p : A → Option B} → {q : B → Option C} → {f g : Tokens → Tokens} →
    Leads before middle p f → Leads middle behind q g → Leads before behind (λ a. p a >>= q) (λ t. g (f t))
then_goes {A} {B} {C} {before} {middle} {behind} {p} {q} {f} {g} x y = record { leads = λ a c e. both middle behind (p a) q g (f (before a)) (λ b h. x.leads a b h) (λ b d h. y.leads b d h) c e }

pub stays : Goes (λ t. Some t) (λ t. t)
stays = record { leads = λ a b e. let same : b ≡ a = cc in same }

token_leads : (a b : Tokens) → past_token a ≡ Some b → b ≡ tail a
token_leads [] b e = absurd (cc)
token_leads (t ∷ tokens) b e = cc

pub token_goes : Goes past_token tail
token_goes = record { leads = token_leads }

name_passed : (same : Bool) (tokens b : Tokens) → (if same then Some tokens else None) ≡ Some b → b ≡ tokens
name_passed true tokens b e = cc
name_passed false tokens b e = absurd (cc)

name_leads : (name : Name) (a b : Tokens) → past_name name a ≡ Some b → b ≡ tail a
name_leads name [] b e = absurd (cc)
name_leads name (t ∷ tokens) b e = name_passed (is_place name.span t.span) tokens b e

pub name_goes : (name : Name) → Goes (past_name name) tail
name_goes name = record { leads = name_leads name }

-- ---- lists

abbrev pub skip_each : {Y : Type 0} → (Y → Tokens → Tokens) → List Y → Tokens → Tokens
skip_each skip [] tokens = tokens
skip_each skip (y ∷ ys) tokens = skip_each skip ys (skip y tokens)

abbrev pub skip_behind : {Y : Type 0} → (Y → Tokens → Tokens) → Y → Tokens → Tokens
skip_behind skip y tokens = skip y (tail tokens)

abbrev pub skip_list : {Y : Type 0} → (Y → Tokens → Tokens) → List Y → Tokens → Tokens
skip_list skip [] tokens = tokens
skip_list skip (y ∷ ys) tokens = skip_each (skip_behind skip) ys (skip y tokens)

abbrev pub skip_name : Letters → Tokens → Tokens
skip_name name tokens = tail tokens

module _ {X Y : Type 0} (past : X → Tokens → Option Tokens) (view : X → Y) (skip : Y → Tokens → Tokens) where
  pub each_goes : ((x : X) → Goes (past x) (skip (view x))) → (xs : List X) → Goes (past_each past xs) (skip_each skip (map view xs))
  each_goes one [] = stays
  each_goes one (x ∷ xs) = then_goes (one x) (each_goes one xs)

  behind_goes : ((x : X) → Goes (past x) (skip (view x))) → (x : X) → Goes (past_behind past x) (skip_behind skip (view x))
  behind_goes one x = then_goes token_goes (one x)

pub list_goes : {X Y : Type 0} → (past : X → Tokens → Option Tokens) (view : X → Y) (skip : Y → Tokens → Tokens) → ((x : X) → Goes (past x) (skip (view x))) → (xs : List X) → Goes (past_list past xs) (skip_list skip (map view xs))
list_goes past view skip one [] = stays
list_goes past view skip one (x ∷ xs) = then_goes (one x) (each_goes (past_behind past) view (skip_behind skip) (behind_goes past view skip one) xs)

-- ---- paths and literals

abbrev pub skip_path : Path → Tokens → Tokens
skip_path p tokens = skip_list skip_name p tokens

pub path_goes : (p : PathForm) → Goes (past_path p) (skip_path (path_form_view p))
path_goes p = list_goes past_name name_view skip_name name_goes p.parts.items

abbrev pub skip_literal : Literal → Tokens → Tokens
skip_literal (Integer n) tokens = tail tokens
skip_literal (Text t) tokens = tail tokens
skip_literal (Boolean b) tokens = tail tokens
skip_literal (Tag name value) tokens = tail (tail (tail tokens))

literal_goes : (l : LiteralForm) → Goes (past_literal l) (skip_literal (literal_view l))
literal_goes (literals.Int n) = token_goes
literal_goes (literals.Text t) = token_goes
literal_goes (literals.Bool b) = token_goes
literal_goes (literals.Tag name value) = then_goes (name_goes name) (then_goes token_goes (name_goes value))

abbrev pub skip_atom : Atom → Tokens → Tokens
skip_atom (Constant l) tokens = skip_literal l tokens
skip_atom (Place p) tokens = skip_path p tokens

atom_goes : (a : AtomForm) → Goes (past_atom a) (skip_atom (atom_view a))
atom_goes (atoms.Literal l) = literal_goes l
atom_goes (atoms.Path p) = path_goes p

-- ---- expressions

abbrev mutual
  pub skip_expression : Expression → Tokens → Tokens
  skip_expression (Chain first others) tokens = skip_operands others (skip_expression first tokens)
  skip_expression (Compare left right) tokens = skip_comparison right (skip_expression left tokens)
  skip_expression (Unary None p) tokens = skip_primary p tokens
  skip_expression (Unary (Some operator) p) tokens = skip_primary p (tail tokens)

  pub skip_operands : Operands → Tokens → Tokens
  skip_operands NoOperand tokens = tokens
  skip_operands (Operand operator e others) tokens = skip_operands others (skip_expression e (tail tokens))

  pub skip_comparison : Comparison → Tokens → Tokens
  skip_comparison NoComparison tokens = tokens
  skip_comparison (With operator e) tokens = skip_expression e (tail tokens)

  pub skip_primary : Primary → Tokens → Tokens
  skip_primary (Simple a) tokens = skip_atom a tokens
  skip_primary (Size p) tokens = tail (skip_path p (tail (tail tokens)))
  skip_primary (Paren e) tokens = tail (skip_expression e (tail tokens))
  skip_primary (TextOf e) tokens = tail (skip_expression e (tail (tail tokens)))
  skip_primary (LengthOf e) tokens = tail (skip_expression e (tail (tail tokens)))

signed_goes : (s : Option UnaryOp) (p : PrimaryForm) → Goes (past_primary p) (skip_primary (primary_view p)) → Goes (λ t. past_sign s t >>= past_primary p) (skip_expression (Unary (option_map unary_op_view s) (primary_view p)))
signed_goes None p inner = inner
signed_goes (Some operator) p inner = then_goes token_goes inner

mutual
  pub expression_goes : (e : Expr) → Goes (past_expression e) (skip_expression (expr_view e))
  expression_goes (expressions.struct-Expr first shape others) = then_goes (conjunction_goes first) (conjunctions_go others)

  conjunctions_go : {m : _} (others : expressions.Row_of-Conj m) → Goes (past_conjunctions others) (skip_operands (conjs_view others))
  conjunctions_go expressions.end_of-Conj = stays
  conjunctions_go (expressions.more_of-Conj c others) = then_goes (then_goes token_goes (conjunction_goes c)) (conjunctions_go others)

  conjunction_goes : (c : Conj) → Goes (past_conjunction c) (skip_expression (conj_view c))
  conjunction_goes (expressions.struct-Conj first shape others) = then_goes (comparison_goes first) (comparisons_go others)

  comparisons_go : {m : _} (others : expressions.Row_of-Comp m) → Goes (past_comparisons others) (skip_operands (comps_view others))
  comparisons_go expressions.end_of-Comp = stays
  comparisons_go (expressions.more_of-Comp c others) = then_goes (then_goes token_goes (comparison_goes c)) (comparisons_go others)

  comparison_goes : (c : Comp) → Goes (past_comparison c) (skip_expression (comp_view c))
  comparison_goes (expressions.struct-Comp left right) = then_goes (sum_goes left) (compared_goes right)

  compared_goes : (right : expressions.Held-Comp-right) → Goes (past_compared right) (skip_comparison (compared_view right))
  compared_goes expressions.None' = stays
  compared_goes (expressions.Some' operator pointer right) = then_goes token_goes (sum_goes right)

  sum_goes : (s : Sum) → Goes (past_sum s) (skip_expression (sum_view s))
  sum_goes (expressions.struct-Sum first shape others) = then_goes (product_goes first) (products_go others)

  products_go : {m : _} (others : expressions.Row_of-Sum-rest-2 m) → Goes (past_products others) (skip_operands (prods_view others))
  products_go expressions.end_of-Sum-rest-2 = stays
  products_go (expressions.more_of-Sum-rest-2 operator p others) = then_goes (then_goes token_goes (product_goes p)) (products_go others)

  product_goes : (p : Prod) → Goes (past_product p) (skip_expression (prod_view p))
  product_goes (expressions.struct-Prod operator p shape others) = then_goes (signed_goes operator p (primary_goes p)) (unaries_go others)

  unaries_go : {m : _} (others : expressions.Row_of-Prod-rest-2 m) → Goes (past_unaries others) (skip_operands (unaries_view others))
  unaries_go expressions.end_of-Prod-rest-2 = stays
  unaries_go (expressions.more_of-Prod-rest-2 operator s p others) = then_goes (then_goes token_goes (signed_goes s p (primary_goes p))) (unaries_go others)

  primary_goes : (p : PrimaryForm) → Goes (past_primary p) (skip_primary (primary_view p))
  primary_goes (expressions.Literal l) = literal_goes l
  primary_goes (expressions.Path p) = path_goes p
  primary_goes (expressions.Paren' pointer e) = then_goes token_goes (then_goes (expression_goes e) token_goes)
  primary_goes (expressions.Size p) = then_goes token_goes (then_goes token_goes (then_goes (path_goes p) token_goes))
  primary_goes (expressions.Text' pointer e) = then_goes token_goes (then_goes token_goes (then_goes (expression_goes e) token_goes))
  primary_goes (expressions.Length' pointer e) = then_goes token_goes (then_goes token_goes (then_goes (expression_goes e) token_goes))

-- ---- statements

abbrev pub skip_pair : Path → Path → Tokens → Tokens
skip_pair y x tokens = skip_path x (tail (skip_path y tokens))

abbrev pub skip_atoms : List Atom → Tokens → Tokens
skip_atoms list tokens = tail (skip_list skip_atom list (tail tokens))

abbrev mutual
  pub skip_statement : Statement → Tokens → Tokens
  skip_statement (Assign x e) tokens = tail (skip_expression e (tail (skip_path x tokens)))
  skip_statement (Move y x) tokens = tail (skip_pair y x (tail tokens))
  skip_statement (Unite y x) tokens = tail (skip_pair y x (tail tokens))
  skip_statement (Dissolve y x) tokens = tail (skip_pair y x (tail tokens))
  skip_statement (Wrap y x) tokens = tail (skip_pair y x (tail tokens))
  skip_statement (Insert y x) tokens = tail (skip_pair y x (tail tokens))
  skip_statement (Connect y x) tokens = tail (skip_pair y x (tail tokens))
  skip_statement (Send y x) tokens = tail (skip_pair y x (tail tokens))
  skip_statement (Receive y x) tokens = tail (skip_pair y x (tail tokens))
  skip_statement (New x) tokens = tail (skip_path x (tail tokens))
  skip_statement (Discard x) tokens = tail (skip_path x (tail tokens))
  skip_statement (Reveal x) tokens = tail (skip_path x (tail tokens))
  skip_statement (Remove r t keys) tokens = tail (skip_atoms keys (skip_pair r t (tail tokens)))
  skip_statement (Get r t keys) tokens = tail (skip_atoms keys (skip_pair r t (tail tokens)))
  skip_statement (Unwrap p name y) tokens = tail (skip_path y (tail (tail (tail (skip_path p (tail tokens))))))
  skip_statement (Call o arguments) tokens = tail (skip_atoms arguments (skip_path o (tail tokens)))
  skip_statement (Return m) tokens = tail (skip_path m (tail tokens))
  skip_statement (ReturnBy m name) tokens = tail (tail (tail (skip_path m (tail tokens))))
  skip_statement (Create m name) tokens = tail (tail (tail (skip_path m (tail tokens))))
  skip_statement (Raise name) tokens = tail (tail (tail tokens))
  skip_statement Leave tokens = tail (tail tokens)
  skip_statement (Case v arms) tokens = tail (skip_arms arms (tail (skip_path v (tail tokens))))
  skip_statement (For r t body) tokens = tail (skip_statements body (tail (skip_pair r t (tail tokens))))
  skip_statement (Select arms) tokens = tail (skip_port_arms arms (tail (tail tokens)))
  skip_statement (If e body other) tokens = skip_otherwise other (tail (skip_statements body (tail (skip_expression e (tail tokens)))))
  skip_statement (While e body) tokens = tail (skip_statements body (tail (skip_expression e (tail tokens))))
  skip_statement (Try body handled) tokens = skip_arms handled (tail (skip_statements body (tail (tail tokens))))

  pub skip_statements : Statements → Tokens → Tokens
  skip_statements NoStatement tokens = tokens
  skip_statements (Further s others) tokens = skip_statements others (skip_statement s tokens)

  pub skip_arms : Arms → Tokens → Tokens
  skip_arms NoArm tokens = tokens
  skip_arms (Arm name body others) tokens = skip_arms others (tail (skip_statements body (tail (tail (tail tokens)))))

  pub skip_port_arms : PortArms → Tokens → Tokens
  skip_port_arms NoPortArm tokens = tokens
  skip_port_arms (PortArm port target body others) tokens = skip_port_arms others (tail (skip_statements body (tail (skip_pair port target (tail tokens)))))

  pub skip_otherwise : Otherwise → Tokens → Tokens
  skip_otherwise NoElse tokens = tokens
  skip_otherwise (Else body) tokens = tail (skip_statements body (tail (tail tokens)))

end_leads : (n : ℕ) (a : Tokens) (w : ℕ × (ℕ × Tokens)) → past_end n a ≡ Some w → walked w ≡ tail a
end_leads n [] w e = absurd (cc)
end_leads n (t ∷ tokens) w e =
    let here : w ≡ (n, (t.span.end, tokens)) = cc in
    ap (λ (v : ℕ × (ℕ × Tokens)). v.1.1) here

end_goes : (n : ℕ) → Leads plain walked (past_end n) tail
end_goes n = record { leads = end_leads n }

moved_end : Leads moved walked (λ w. past_end w.0 w.1) tail
moved_end = record { leads = λ w v e. end_leads w.0 w.1 v e }

walked_end : Leads walked walked (λ w. past_end w.0 w.1.1) tail
walked_end = record { leads = λ w v e. end_leads w.0 w.1.1 v e }

ended_leads : (n : ℕ) (past : Option Tokens) (w : ℕ × (ℕ × Tokens)) → ended n past ≡ Some w → (b : Tokens) × (past ≡ Some b) × (past_end n b ≡ Some w)
ended_leads n None w e = absurd (cc)
ended_leads n (Some b) w e = (b, refl, e)

ended_goes : (n : ℕ) → {past : Tokens → Option Tokens} → {skip : Tokens → Tokens} → Goes past skip → Leads plain walked (λ t. ended n (past t)) (λ t. tail (skip t))
ended_goes n {past} {skip} one = record {
  leads = λ a w e.
      let l = ended_leads n (past a) w e in
      end_leads n l.0 w l.2 ∙ ap tail (one.leads a l.0 l.1);
}

pub pair_goes : (y x : PathForm) → Goes (past_pair y x) (skip_pair (path_form_view y) (path_form_view x))
pair_goes y x = then_goes (path_goes y) (then_goes token_goes (path_goes x))

path_name_goes : (x : PathForm) (name : Name) → Goes (past_path_name x name) (λ t. tail (tail (skip_path (path_form_view x) t)))
path_name_goes x name = then_goes (path_goes x) (then_goes token_goes (name_goes name))

atoms_goes : (list : List AtomForm) → Goes (past_atoms list) (skip_atoms (map atom_view list))
atoms_goes list = then_goes token_goes (then_goes (list_goes past_atom atom_view skip_atom atom_goes list) token_goes)

keyed_goes : (row table : PathForm) (keys : List AtomForm) → Goes (past_keyed row table keys) (λ t. skip_atoms (map atom_view keys) (skip_pair (path_form_view row) (path_form_view table) t))
keyed_goes row table keys = then_goes (pair_goes row table) (atoms_goes keys)

stated_by : (holds : Bool) (v : ℕ × (ℕ × Tokens)) (w : ℕ × Tokens) → (if holds then Some (v.0, v.1.1) else None) ≡ Some w → moved w ≡ walked v
stated_by true v w e =
    let here : w ≡ (v.0, v.1.1) = cc in
    ap (λ (u : ℕ × Tokens). u.1) here
stated_by false v w e = absurd (cc)

stated_leads : (number : StmtNo) (span : Span) (n : ℕ) (tokens after : Tokens) (first : Walked) → ((v : ℕ × (ℕ × Tokens)) → first ≡ Some v → walked v ≡ after) →
    (w : ℕ × Tokens) → stated number span n tokens first ≡ Some w → moved w ≡ after
stated_leads number span n tokens after None known w e = absurd (cc)
stated_leads number span n tokens after (Some v) known w e = stated_by (number.0 == n && (begins span tokens && span.end == v.1.0)) v w e ∙ known v refl

-- a walk that knows the next number, and one from there on
pub at_number : (n : ℕ) → {past : ℕ × Tokens → Moved} → {skip : Tokens → Tokens} → Leads moved moved past skip → Leads plain moved (λ t. past (n, t)) skip
at_number n one = record { leads = λ t w e. one.leads (n, t) w e }

at_walk : (n : ℕ) → {past : ℕ × (ℕ × Tokens) → Walked} → {skip : Tokens → Tokens} → Leads walked walked past skip → Leads plain walked (λ t. past (n, (0, t))) skip
at_walk n one = record { leads = λ t w e. one.leads (n, (0, t)) w e }

of_walk : {past : ℕ → Tokens → Walked} → {skip : Tokens → Tokens} → ((n : ℕ) → Leads plain walked (past n) skip) → Leads walked walked (λ w. past w.0 w.1.1) skip
of_walk one = record { leads = λ w v e. (one w.0).leads w.1.1 v e }

pub block_goes : (inner : ℕ → Tokens → Moved) (skip : Tokens → Tokens) → Leads moved moved (λ w. inner w.0 w.1) skip → (n : ℕ) → Leads plain walked (blocked inner n) (λ t. tail (skip (tail t)))
block_goes inner skip one n = then_goes token_goes (then_goes (at_number n one) moved_end)

pub stated_goes : (number : StmtNo) (span : Span) → {past : ℕ → Tokens → Walked} → {skip : Tokens → Tokens} → ((n : ℕ) → Leads plain walked (past n) skip) → Leads moved moved (λ w. stated number span w.0 w.1 (past (suc w.0) w.1)) skip
stated_goes number span {past} {skip} one = record { leads = λ w v e. stated_leads number span w.0 w.1 (skip w.1) (past (suc w.0) w.1) (λ u h. (one (suc w.0)).leads w.1 u h) v e }

pub arm_goes : (name : Name) (inner : ℕ → Tokens → Moved) (skip : Tokens → Tokens) → Leads moved moved (λ w. inner w.0 w.1) skip →
    Leads walked walked (λ w. past_token w.1.1 >>= λ a. past_name name a >>= λ b. blocked inner w.0 b) (λ t. tail (skip (tail (tail (tail t)))))
arm_goes name inner skip one = of_walk (λ n. then_goes token_goes (then_goes (name_goes name) (block_goes inner skip one n)))

pub port_arm_goes : (port target : PathForm) (inner : ℕ → Tokens → Moved) (skip : Tokens → Tokens) → Leads moved moved (λ w. inner w.0 w.1) skip →
    Leads walked walked (λ w. past_token w.1.1 >>= λ a. past_pair port target a >>= λ b. blocked inner w.0 b) (λ t. tail (skip (tail (skip_pair (path_form_view port) (path_form_view target) (tail t)))))
port_arm_goes port target inner skip one = of_walk (λ n. then_goes token_goes (then_goes (pair_goes port target) (block_goes inner skip one n)))

no_move : Leads moved moved (λ w. Some (w.0, w.1)) plain
no_move = record { leads = λ w v e. let here : v ≡ (w.0, w.1) = cc in ap (λ (u : ℕ × Tokens). u.1) here }

no_walk : Leads walked walked (λ w. Some w) plain
no_walk = record { leads = λ w v e. let here : v ≡ w = cc in ap (λ (u : ℕ × (ℕ × Tokens)). u.1.1) here }

mutual
  pub form_goes : (form : StmtForm) (n : ℕ) → Leads plain walked (walk_form form n) (skip_statement (stmt_form_view form))
  form_goes (forms.Assign x e) n = ended_goes n (then_goes (path_goes x) (then_goes token_goes (expression_goes e)))
  form_goes (forms.Move y x) n = ended_goes n (then_goes token_goes (pair_goes y x))
  form_goes (forms.New x) n = ended_goes n (then_goes token_goes (path_goes x))
  form_goes (forms.Discard x) n = ended_goes n (then_goes token_goes (path_goes x))
  form_goes (forms.Unite v y) n = ended_goes n (then_goes token_goes (pair_goes v y))
  form_goes (forms.Dissolve v y) n = ended_goes n (then_goes token_goes (pair_goes v y))
  form_goes (forms.Reveal v) n = ended_goes n (then_goes token_goes (path_goes v))
  form_goes (forms.Wrap y p) n = ended_goes n (then_goes token_goes (pair_goes y p))
  form_goes (forms.Unwrap p name y) n = ended_goes n (then_goes token_goes (then_goes (path_name_goes p name) (then_goes token_goes (path_goes y))))
  form_goes (forms.Insert r t) n = ended_goes n (then_goes token_goes (pair_goes r t))
  form_goes (forms.Remove r t keys) n = ended_goes n (then_goes token_goes (keyed_goes r t keys.items))
  form_goes (forms.Get r t keys) n = ended_goes n (then_goes token_goes (keyed_goes r t keys.items))
  form_goes (forms.Connect o i) n = ended_goes n (then_goes token_goes (pair_goes o i))
  form_goes (forms.Send x o) n = ended_goes n (then_goes token_goes (pair_goes x o))
  form_goes (forms.Receive x i) n = ended_goes n (then_goes token_goes (pair_goes x i))
  form_goes (forms.Call o arguments) n = ended_goes n (then_goes token_goes (then_goes (path_goes o) (atoms_goes arguments.items)))
  form_goes (forms.Return m) n = ended_goes n (then_goes token_goes (path_goes m))
  form_goes (forms.ReturnBy m name) n = ended_goes n (then_goes token_goes (path_name_goes m name))
  form_goes (forms.Create o name) n = ended_goes n (then_goes token_goes (path_name_goes o name))
  form_goes (forms.Raise name) n = ended_goes n (then_goes token_goes (name_goes name))
  form_goes forms.Leave n = ended_goes n token_goes
  form_goes (forms.Case' v shape arms) n = then_goes token_goes (then_goes (path_goes v) (then_goes token_goes (then_goes (at_walk n (arms_go arms)) walked_end)))
  form_goes (forms.Select' shape arms) n = then_goes token_goes (then_goes token_goes (then_goes (at_walk n (port_arms_go arms)) walked_end))
  form_goes (forms.For' r t shape body) n = then_goes token_goes (then_goes (pair_goes r t) (block_goes (λ m c. walk_statements body m c) (skip_statements (stmt_rows_view body)) (statements_go body) n))
  form_goes (forms.While' e shape body) n = then_goes token_goes (then_goes (expression_goes e) (block_goes (λ m c. walk_statements body m c) (skip_statements (stmt_rows_view body)) (statements_go body) n))
  form_goes (forms.If' e shape body other) n =
      then_goes token_goes (then_goes (expression_goes e) (then_goes (block_goes (λ m c. walk_statements body m c) (skip_statements (stmt_rows_view body)) (statements_go body) n) (otherwise_goes other)))
  form_goes (forms.Try' shape body shape_of_handlers handled) n =
      then_goes token_goes (then_goes (block_goes (λ m c. walk_statements body m c) (skip_statements (stmt_rows_view body)) (statements_go body) n) (arms_go handled))

  pub statements_go : {m : _} (body : forms.Row_of-Stmt m) → Leads moved moved (λ w. walk_statements body w.0 w.1) (skip_statements (stmt_rows_view body))
  statements_go forms.end_of-Stmt = no_move
  statements_go (forms.more_of-Stmt number span form others) = then_goes {middle = moved} (stated_goes number span (λ n. form_goes form n)) (statements_go others)

  pub arms_go : {m : _} (arms : forms.Row_of-StmtForm-Case-1-3 m) → Leads walked walked (walk_arms arms) (skip_arms (arms_view arms))
  arms_go forms.end_of-StmtForm-Case-1-3 = no_walk
  arms_go (forms.more_of-StmtForm-Case-1-3 name shape body others) =
      then_goes (arm_goes name (λ m c. walk_statements body m c) (skip_statements (stmt_rows_view body)) (statements_go body)) (arms_go others)

  pub port_arms_go : {m : _} (arms : forms.Row_of-StmtForm-Select-0-4 m) → Leads walked walked (walk_port_arms arms) (skip_port_arms (port_arms_view arms))
  port_arms_go forms.end_of-StmtForm-Select-0-4 = no_walk
  port_arms_go (forms.more_of-StmtForm-Select-0-4 port target shape body others) =
      then_goes (port_arm_goes port target (λ m c. walk_statements body m c) (skip_statements (stmt_rows_view body)) (statements_go body)) (port_arms_go others)

  pub otherwise_goes : (other : forms.Held-StmtForm-If-2) → Leads walked walked (walk_otherwise other) (skip_otherwise (otherwise_view other))
  otherwise_goes forms.None' = no_walk
  otherwise_goes (forms.Some' shape body) =
      of_walk (λ n. then_goes token_goes (block_goes (λ m c. walk_statements body m c) (skip_statements (stmt_rows_view body)) (statements_go body) n))

pub body_goes : (body : List Stmt) → Leads moved moved (λ w. walk_body body w.0 w.1) (skip_statements (stmts_view body))
body_goes [] = no_move
body_goes (s ∷ others) = then_goes {middle = moved} (stated_goes s.no s.span (λ n. form_goes s.form n)) (body_goes others)
