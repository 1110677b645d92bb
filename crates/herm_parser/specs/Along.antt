-- Trees go along tokens: each name has its token's place in the text, and each statement begins at its first token
-- and ends at its last (language reference, "Places of names and statements"). A function `past_x` gives the tokens behind those of an x that has their places.
use Rattle.std.specs.Prelude.{Bool, ◌==◌, ◌&&◌, if◌then◌else◌, List, [], ◌∷◌, Option, Some, None}
use Rattle.herm_base.specs.declared.word.Span.{Span}
use Rattle.herm_base.specs.declared.word.Name.{Name}
use Rattle.herm_alphabet.specs.declared.token.Token.{Token}
use Rattle.herm_syntax.specs.declared.expressions.Atom.{Atom}
use Rattle.herm_syntax.specs.declared.expressions.Atom.TheVariants as atoms
use Rattle.herm_syntax.specs.declared.expressions.Comp.{Comp}
use Rattle.herm_syntax.specs.declared.expressions.Conj.{Conj}
use Rattle.herm_syntax.specs.declared.expressions.Expr.{Expr}
use Rattle.herm_syntax.specs.declared.expressions.Literal.{Literal}
use Rattle.herm_syntax.specs.declared.expressions.Literal.TheVariants as literals
use Rattle.herm_syntax.specs.declared.expressions.PathForm.{PathForm}
use Rattle.herm_syntax.specs.declared.expressions.Primary.{Primary}
use Rattle.herm_syntax.specs.declared.expressions.Primary.TheBlock as expressions
use Rattle.herm_syntax.specs.declared.expressions.Prod.{Prod}
use Rattle.herm_syntax.specs.declared.expressions.Sum.{Sum}
use Rattle.herm_syntax.specs.declared.expressions.Unary.{Unary as UnaryForm}
use Rattle.herm_syntax.specs.declared.expressions.UnaryOp.{UnaryOp}

infixl 10 ◌>>=◌
abbrev pub ◌>>=◌ : {A B : Type 0} → Option A → (A → Option B) → Option B
None >>= f = None
(Some x) >>= f = f x

-- A keyword, a sign or a literal has no place in the tree.
abbrev pub past_token : List Token → Option (List Token)
past_token [] = None
past_token (t ∷ tokens) = Some tokens

abbrev pub is_place : Span → Span → Bool
is_place a b = a.start == b.start && a.end == b.end

abbrev pub past_name : Name → List Token → Option (List Token)
past_name name [] = None
past_name name (t ∷ tokens) = if is_place name.span t.span then Some tokens else None

-- One after the other.
abbrev pub past_each : {X : Type 0} → (X → List Token → Option (List Token)) → List X → List Token → Option (List Token)
past_each past [] tokens = Some tokens
past_each past (x ∷ xs) tokens = past x tokens >>= λ rest. past_each past xs rest

-- Behind a sign.
abbrev pub past_behind : {X : Type 0} → (X → List Token → Option (List Token)) → X → List Token → Option (List Token)
past_behind past x tokens = past_token tokens >>= past x

-- With a sign between two.
abbrev pub past_list : {X : Type 0} → (X → List Token → Option (List Token)) → List X → List Token → Option (List Token)
past_list past [] tokens = Some tokens
past_list past (x ∷ xs) tokens = past x tokens >>= λ rest. past_each (past_behind past) xs rest

-- ---- names, paths and literals

abbrev pub past_path : PathForm → List Token → Option (List Token)
past_path p tokens = past_list past_name p.parts.items tokens

abbrev pub past_literal : Literal → List Token → Option (List Token)
past_literal (literals.Int n) tokens = past_token tokens
past_literal (literals.Text t) tokens = past_token tokens
past_literal (literals.Bool b) tokens = past_token tokens
past_literal (literals.Tag name value) tokens = past_name name tokens >>= past_behind past_name value

abbrev pub past_atom : Atom → List Token → Option (List Token)
past_atom (atoms.Literal l) tokens = past_literal l tokens
past_atom (atoms.Path p) tokens = past_path p tokens

-- ---- expressions

abbrev pub past_sign : Option UnaryOp → List Token → Option (List Token)
past_sign None tokens = Some tokens
past_sign (Some operator) tokens = past_token tokens

abbrev pub past_parens : (List Token → Option (List Token)) → List Token → Option (List Token)
past_parens inner tokens = past_token tokens >>= λ rest. inner rest >>= past_token

abbrev mutual
  pub past_expression : Expr → List Token → Option (List Token)
  past_expression (expressions.struct-Expr first shape others) tokens = past_conjunction first tokens >>= λ rest. past_conjunctions others rest

  pub past_conjunctions : {m : _} → expressions.Row_of-Conj m → List Token → Option (List Token)
  past_conjunctions expressions.end_of-Conj tokens = Some tokens
  past_conjunctions (expressions.more_of-Conj c others) tokens = (past_token tokens >>= λ rest. past_conjunction c rest) >>= λ rest. past_conjunctions others rest

  pub past_conjunction : Conj → List Token → Option (List Token)
  past_conjunction (expressions.struct-Conj first shape others) tokens = past_comparison first tokens >>= λ rest. past_comparisons others rest

  pub past_comparisons : {m : _} → expressions.Row_of-Comp m → List Token → Option (List Token)
  past_comparisons expressions.end_of-Comp tokens = Some tokens
  past_comparisons (expressions.more_of-Comp c others) tokens = (past_token tokens >>= λ rest. past_comparison c rest) >>= λ rest. past_comparisons others rest

  pub past_comparison : Comp → List Token → Option (List Token)
  past_comparison (expressions.struct-Comp left right) tokens = past_sum left tokens >>= λ rest. past_compared right rest

  pub past_compared : expressions.Held-Comp-right → List Token → Option (List Token)
  past_compared expressions.None' tokens = Some tokens
  past_compared (expressions.Some' operator pointer right) tokens = past_token tokens >>= λ rest. past_sum right rest

  pub past_sum : Sum → List Token → Option (List Token)
  past_sum (expressions.struct-Sum first shape others) tokens = past_product first tokens >>= λ rest. past_products others rest

  pub past_products : {m : _} → expressions.Row_of-Sum-rest-2 m → List Token → Option (List Token)
  past_products expressions.end_of-Sum-rest-2 tokens = Some tokens
  past_products (expressions.more_of-Sum-rest-2 operator p others) tokens = (past_token tokens >>= λ rest. past_product p rest) >>= λ rest. past_products others rest

  pub past_product : Prod → List Token → Option (List Token)
  past_product (expressions.struct-Prod operator p shape others) tokens = (past_sign operator tokens >>= λ rest. past_primary p rest) >>= λ rest. past_unaries others rest

  pub past_unaries : {m : _} → expressions.Row_of-Prod-rest-2 m → List Token → Option (List Token)
  past_unaries expressions.end_of-Prod-rest-2 tokens = Some tokens
  past_unaries (expressions.more_of-Prod-rest-2 operator s p others) tokens =
      (past_token tokens >>= λ rest. past_sign s rest >>= λ behind. past_primary p behind) >>= λ rest. past_unaries others rest

  pub past_primary : Primary → List Token → Option (List Token)
  past_primary (expressions.Literal l) tokens = past_literal l tokens
  past_primary (expressions.Path p) tokens = past_path p tokens
  past_primary (expressions.Paren' pointer e) tokens = past_token tokens >>= λ rest. past_expression e rest >>= past_token
  past_primary (expressions.Size p) tokens = past_token tokens >>= past_parens (past_path p)
  past_primary (expressions.Text' pointer e) tokens = past_token tokens >>= λ opening. past_token opening >>= λ rest. past_expression e rest >>= past_token
  past_primary (expressions.Length' pointer e) tokens = past_token tokens >>= λ opening. past_token opening >>= λ rest. past_expression e rest >>= past_token

-- An operand with its sign.
abbrev pub past_unary : UnaryForm → List Token → Option (List Token)
past_unary u tokens = past_sign u.op tokens >>= λ rest. past_primary u.primary rest
