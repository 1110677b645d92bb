-- What fits within some levels fits within more.
use Rattle.std.proofs.Common.{◌≡◌, ℕ, zero, suc, ◌≤◌, Bool, true, not, ◌&&◌, List, [], ◌∷◌, nat_eq, refl, arith}
use Rattle.std.proofs.lemmas.Bool.{and_parts, and_from}
use Rattle.herm_readers.specs.Combinators.{many_fits}
use Rattle.herm_syntax.specs.Symbols.{is_operator}
use Rattle.herm_syntax.specs.Trees.{Expression, Chain, Compare, Unary, Operands, NoOperand, Operand, Comparison, NoComparison, With, Primary, Simple, Size, Paren, TextOf, LengthOf, Statement, Assign, Move, Unite, Dissolve, Wrap, Insert, Connect, Send, Receive, New, Discard, Reveal, Remove, Get, Unwrap, Call, Return, ReturnBy, Create, Raise, Leave, Case, For, Select, If, While, Try, Statements, NoStatement, Further, Arms, NoArm, Arm, PortArms, NoPortArm, PortArm, Otherwise, NoElse, Else, Module, Definitions, Process}
use Rattle.herm_syntax.specs.Fitting.{is_name, path_fits, sign_fits, expression_fits, operands_fit, comparison_fits, primary_fits, has_arm, has_port_arm, statement_fits, statements_fit, case_arms_fit, port_arms_fit, handlers_fit, otherwise_fits, field_fits, module_fits, file_fits}

pub both_kept : (a b c d : Bool) → (a ≡ true → c ≡ true) → (b ≡ true → d ≡ true) → (a && b) ≡ true → (c && d) ≡ true
both_kept a b c d first second f = let parts = and_parts a b f in and_from c d (first parts.0) (second parts.1)

pub second_kept : (a b d : Bool) → (b ≡ true → d ≡ true) → (a && b) ≡ true → (a && d) ≡ true
second_kept a b d second f = both_kept a b a d (λ h. h) second f

mutual
  pub expression_deeper : (e : Expression) (n d m : ℕ) → d ≤ m → expression_fits e n d ≡ true → expression_fits e n m ≡ true
  expression_deeper (Chain first rest) zero d m l f = absurd (cc)
  expression_deeper (Chain first rest) (suc n) d m l f =
      second_kept (not (nat_eq n 2)) (expression_fits first n d && operands_fit rest n d) (expression_fits first n m && operands_fit rest n m)
      (both_kept (expression_fits first n d) (operands_fit rest n d) (expression_fits first n m) (operands_fit rest n m) (expression_deeper first n d m l) (operands_deeper rest n d m l)) f
  expression_deeper (Compare left right) zero d m l f = absurd (cc)
  expression_deeper (Compare left right) (suc n) d m l f =
      second_kept (nat_eq n 2) (expression_fits left n d && comparison_fits right n d) (expression_fits left n m && comparison_fits right n m)
      (both_kept (expression_fits left n d) (comparison_fits right n d) (expression_fits left n m) (comparison_fits right n m) (expression_deeper left n d m l) (comparison_deeper right n d m l)) f
  expression_deeper (Unary operator p) zero d m l f = second_kept (sign_fits operator) (primary_fits p d) (primary_fits p m) (primary_deeper p d m l) f
  expression_deeper (Unary operator p) (suc n) d m l f = absurd (cc)

  pub operands_deeper : (rest : Operands) (n d m : ℕ) → d ≤ m → operands_fit rest n d ≡ true → operands_fit rest n m ≡ true
  operands_deeper NoOperand n d m l f = refl
  operands_deeper (Operand operator e rest) n d m l f =
      both_kept (is_operator (suc n) operator && expression_fits e n d) (operands_fit rest n d) (is_operator (suc n) operator && expression_fits e n m) (operands_fit rest n m)
      (second_kept (is_operator (suc n) operator) (expression_fits e n d) (expression_fits e n m) (expression_deeper e n d m l)) (operands_deeper rest n d m l) f

  pub comparison_deeper : (right : Comparison) (n d m : ℕ) → d ≤ m → comparison_fits right n d ≡ true → comparison_fits right n m ≡ true
  comparison_deeper NoComparison n d m l f = refl
  comparison_deeper (With operator e) n d m l f = second_kept (is_operator (suc n) operator) (expression_fits e n d) (expression_fits e n m) (expression_deeper e n d m l) f

  pub primary_deeper : (p : Primary) (d m : ℕ) → d ≤ m → primary_fits p d ≡ true → primary_fits p m ≡ true
  primary_deeper (Simple a) d m l f = f
  primary_deeper (Size p) d m l f = f
  primary_deeper (Paren e) zero m l f = absurd (cc)
  primary_deeper (Paren e) (suc d) zero l f = absurd (omega (arith, l))
  primary_deeper (Paren e) (suc d) (suc m) l f = expression_deeper e 5 d m (omega (arith, l)) f
  primary_deeper (TextOf e) zero m l f = absurd (cc)
  primary_deeper (TextOf e) (suc d) zero l f = absurd (omega (arith, l))
  primary_deeper (TextOf e) (suc d) (suc m) l f = expression_deeper e 5 d m (omega (arith, l)) f
  primary_deeper (LengthOf e) zero m l f = absurd (cc)
  primary_deeper (LengthOf e) (suc d) zero l f = absurd (omega (arith, l))
  primary_deeper (LengthOf e) (suc d) (suc m) l f = expression_deeper e 5 d m (omega (arith, l)) f

mutual
  pub statement_deeper : (s : Statement) (d m : ℕ) → d ≤ m → statement_fits s d ≡ true → statement_fits s m ≡ true
  statement_deeper (Assign x e) d m l f = second_kept (path_fits x) (expression_fits e 5 d) (expression_fits e 5 m) (expression_deeper e 5 d m l) f
  statement_deeper (Move y x) d m l f = f
  statement_deeper (Unite v y) d m l f = f
  statement_deeper (Dissolve v y) d m l f = f
  statement_deeper (Wrap y p) d m l f = f
  statement_deeper (Insert r t) d m l f = f
  statement_deeper (Connect o i) d m l f = f
  statement_deeper (Send x o) d m l f = f
  statement_deeper (Receive x i) d m l f = f
  statement_deeper (New x) d m l f = f
  statement_deeper (Discard x) d m l f = f
  statement_deeper (Reveal v) d m l f = f
  statement_deeper (Remove r t keys) d m l f = f
  statement_deeper (Get r t keys) d m l f = f
  statement_deeper (Unwrap p name y) d m l f = f
  statement_deeper (Call o arguments) d m l f = f
  statement_deeper (Return x) d m l f = f
  statement_deeper (ReturnBy x name) d m l f = f
  statement_deeper (Create o name) d m l f = f
  statement_deeper (Raise name) d m l f = f
  statement_deeper Leave d m l f = f
  statement_deeper (Case v arms) d m l f =
      second_kept (path_fits v) (has_arm arms && case_arms_fit arms d) (has_arm arms && case_arms_fit arms m) (second_kept (has_arm arms) (case_arms_fit arms d) (case_arms_fit arms m) (case_arms_deeper arms d m l)) f
  statement_deeper (For r t body) d m l f =
      second_kept (path_fits r) (path_fits t && statements_fit body d) (path_fits t && statements_fit body m) (second_kept (path_fits t) (statements_fit body d) (statements_fit body m) (statements_deeper body d m l)) f
  statement_deeper (Select arms) d m l f = second_kept (has_port_arm arms) (port_arms_fit arms d) (port_arms_fit arms m) (port_arms_deeper arms d m l) f
  statement_deeper (If e body other) d m l f =
      both_kept (expression_fits e 5 d) (statements_fit body d && otherwise_fits other d) (expression_fits e 5 m) (statements_fit body m && otherwise_fits other m) (expression_deeper e 5 d m l)
      (both_kept (statements_fit body d) (otherwise_fits other d) (statements_fit body m) (otherwise_fits other m) (statements_deeper body d m l) (otherwise_deeper other d m l)) f
  statement_deeper (While e body) d m l f = both_kept (expression_fits e 5 d) (statements_fit body d) (expression_fits e 5 m) (statements_fit body m) (expression_deeper e 5 d m l) (statements_deeper body d m l) f
  statement_deeper (Try body handled) d m l f =
      both_kept (statements_fit body d) (has_arm handled && handlers_fit handled d) (statements_fit body m) (has_arm handled && handlers_fit handled m) (statements_deeper body d m l)
      (second_kept (has_arm handled) (handlers_fit handled d) (handlers_fit handled m) (handlers_deeper handled d m l)) f

  pub statements_deeper : (body : Statements) (d m : ℕ) → d ≤ m → statements_fit body d ≡ true → statements_fit body m ≡ true
  statements_deeper NoStatement d m l f = refl
  statements_deeper (Further s others) zero m l f = absurd (cc)
  statements_deeper (Further s others) (suc d) zero l f = absurd (omega (arith, l))
  statements_deeper (Further s others) (suc d) (suc m) l f =
      both_kept (statement_fits s d) (statements_fit others (suc d)) (statement_fits s m) (statements_fit others (suc m)) (statement_deeper s d m (omega (arith, l))) (statements_deeper others (suc d) (suc m) l) f

  pub case_arms_deeper : (arms : Arms) (d m : ℕ) → d ≤ m → case_arms_fit arms d ≡ true → case_arms_fit arms m ≡ true
  case_arms_deeper NoArm d m l f = refl
  case_arms_deeper (Arm component body others) d m l f = both_kept (statements_fit body d) (case_arms_fit others d) (statements_fit body m) (case_arms_fit others m) (statements_deeper body d m l) (case_arms_deeper others d m l) f

  pub port_arms_deeper : (arms : PortArms) (d m : ℕ) → d ≤ m → port_arms_fit arms d ≡ true → port_arms_fit arms m ≡ true
  port_arms_deeper NoPortArm d m l f = refl
  port_arms_deeper (PortArm port target body others) d m l f =
      both_kept (path_fits port && (path_fits target && statements_fit body d)) (port_arms_fit others d) (path_fits port && (path_fits target && statements_fit body m)) (port_arms_fit others m)
      (second_kept (path_fits port) (path_fits target && statements_fit body d) (path_fits target && statements_fit body m) (second_kept (path_fits target) (statements_fit body d) (statements_fit body m) (statements_deeper body d m l)))
      (port_arms_deeper others d m l) f

  pub handlers_deeper : (arms : Arms) (d m : ℕ) → d ≤ m → handlers_fit arms d ≡ true → handlers_fit arms m ≡ true
  handlers_deeper NoArm d m l f = refl
  handlers_deeper (Arm name body others) d m l f =
      both_kept (is_name name && statements_fit body d) (handlers_fit others d) (is_name name && statements_fit body m) (handlers_fit others m)
      (second_kept (is_name name) (statements_fit body d) (statements_fit body m) (statements_deeper body d m l)) (handlers_deeper others d m l) f

  pub otherwise_deeper : (other : Otherwise) (d m : ℕ) → d ≤ m → otherwise_fits other d ≡ true → otherwise_fits other m ≡ true
  otherwise_deeper NoElse d m l f = refl
  otherwise_deeper (Else body) d m l f = statements_deeper body d m l f

pub module_deeper : (x : Module) (d m : ℕ) → d ≤ m → module_fits d x ≡ true → module_fits m x ≡ true
module_deeper (Definitions name items) d m l f = f
module_deeper (Process name port vars body) d m l f =
    second_kept (is_name name) (field_fits port && (many_fits field_fits vars && statements_fit body d)) (field_fits port && (many_fits field_fits vars && statements_fit body m))
    (second_kept (field_fits port) (many_fits field_fits vars && statements_fit body d) (many_fits field_fits vars && statements_fit body m)
    (second_kept (many_fits field_fits vars) (statements_fit body d) (statements_fit body m) (statements_deeper body d m l))) f

pub file_deeper : (modules : List Module) (d m : ℕ) → d ≤ m → file_fits d modules ≡ true → file_fits m modules ≡ true
file_deeper [] d m l f = refl
file_deeper (x ∷ modules) d m l f = both_kept (module_fits d x) (file_fits d modules) (module_fits m x) (file_fits m modules) (module_deeper x d m l) (file_deeper modules d m l) f
