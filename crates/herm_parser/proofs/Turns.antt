-- Lists of arms and of statements go on one by one.
use Rattle.std.proofs.Common.{◌≡◌, ℕ, List, [], ◌∷◌, ◌++◌, Option, Some, None, refl, ap, ◌∙◌, subst}
use Rattle.herm_readers.specs.Reader.{Reader}
use Rattle.herm_alphabet.specs.declared.token.Token.{Token}
use Rattle.herm_syntax.specs.declared.statements.Stmt.{Stmt}
use Rattle.herm_syntax.specs.Symbols.{Symbol, is}
use Rattle.herm_syntax.specs.KeywordSymbols.{kw_when, kw_on}
use Rattle.herm_syntax.specs.Trees.{Statement}
use Rattle.herm_syntax.specs.ReadExpressions.{read_expression}
use Rattle.herm_syntax.specs.ReadStatements.{inside, statement_rule, read_statement, read_statements, read_case_arm, read_handler, read_port_arm}
use Rattle.herm_syntax.proofs.Firsts.{statement_written}
use Rattle.herm_syntax.proofs.Levels.{expression_reads}
use Rattle.herm_syntax.proofs.Blocks.{case_arm_r, handler_r, port_arm_r, case_arm_written, handler_written, port_arm_written, statement_reads, statements_reads}
use Rattle.herm_parser.specs.Along.{◌>>=◌}
use Rattle.herm_parser.specs.Walk.{Walked, Moved, walk_each, walk_body, walk_statement}
use Rattle.herm_parser.specs.Blocks.{body_at, case_arm_at, handler_at, port_arm_at, statement_at}
use Rattle.herm_parser.proofs.Loops.{Goes, goes_by}
use Rattle.herm_parser.proofs.Bodies.{statement_is}

pub case_arm_goes : (depth : ℕ) → Goes (is kw_when) (case_arm_at depth)
unfolding case_arm_at body_at
case_arm_goes depth =
    let arm = case_arm_r depth (read_expression depth) (read_statements depth) (expression_reads depth) (statements_reads depth) in
    goes_by (is kw_when) arm.rule (read_case_arm (read_statements depth)) (case_arm_written depth (read_expression depth) (read_statements depth) (expression_reads depth) (statements_reads depth)) arm.reads

pub handler_goes : (depth : ℕ) → Goes (is kw_on) (handler_at depth)
unfolding handler_at body_at
handler_goes depth =
    let arm = handler_r depth (read_expression depth) (read_statements depth) (expression_reads depth) (statements_reads depth) in
    goes_by (is kw_on) arm.rule (read_handler (read_statements depth)) (handler_written depth (read_expression depth) (read_statements depth) (expression_reads depth) (statements_reads depth)) arm.reads

pub port_arm_goes : (depth : ℕ) → Goes (is kw_when) (port_arm_at depth)
unfolding port_arm_at body_at
port_arm_goes depth =
    let arm = port_arm_r depth (read_expression depth) (read_statements depth) (expression_reads depth) (statements_reads depth) in
    goes_by (is kw_when) arm.rule (read_port_arm (read_statements depth)) (port_arm_written depth (read_expression depth) (read_statements depth) (expression_reads depth) (statements_reads depth)) arm.reads

pub statement_goes : (depth : ℕ) → Goes inside (statement_at depth)
statement_goes depth = subst (λ (read : Reader Symbol Statement). Goes inside read) (statement_is depth)
    (goes_by inside (statement_rule depth) (read_statement (read_expression depth) (read_statements depth)) (λ s f. statement_written s depth f)
    (statement_reads depth (read_expression depth) (read_statements depth) (expression_reads depth) (statements_reads depth)))

chained : {A : Type 0} → (first : Option A) (f g h : A → Option A) → ((a : A) → f a ≡ (g a >>= h)) → (first >>= f) ≡ ((first >>= g) >>= h)
chained None f g h same = refl
chained (Some a) f g h same = same a

module _ {X : Type 0} (walk : X → ℕ × (ℕ × List Token) → Walked) where
  each_joined : (list : List X) (x : X) (w : ℕ × (ℕ × List Token)) → walk_each walk (list ++ x ∷ []) w ≡ (walk_each walk list w >>= walk_each walk (x ∷ []))
  each_joined [] x w = refl
  each_joined (y ∷ list) x w = chained (walk y w) (walk_each walk (list ++ x ∷ [])) (walk_each walk list) (walk_each walk (x ∷ [])) (each_joined list x)

  pub each_next : (xs ys : List X) (x : X) (w v u : ℕ × (ℕ × List Token)) → ys ≡ xs ++ x ∷ [] → walk_each walk xs w ≡ Some v → walk x v ≡ Some u → walk_each walk ys w ≡ Some u
  each_next xs ys x w v u pushed went goes =
      ap (λ (list : List X). walk_each walk list w) pushed ∙ (each_joined xs x w ∙ (ap (λ t. t >>= walk_each walk (x ∷ [])) went ∙ ap (λ t. t >>= λ s. Some s) goes))

  pub each_start : (xs : List X) (w : ℕ × (ℕ × List Token)) → xs ≡ [] → walk_each walk xs w ≡ Some w
  each_start xs w e = ap (λ (list : List X). walk_each walk list w) e

abbrev walk_from : List Stmt → ℕ × List Token → Moved
walk_from list w = walk_body list w.0 w.1

body_joined : (list : List Stmt) (x : Stmt) (w : ℕ × List Token) → walk_from (list ++ x ∷ []) w ≡ (walk_from list w >>= walk_from (x ∷ []))
body_joined [] x w = refl
body_joined (y ∷ list) x w = chained (walk_statement y w.0 w.1) (walk_from (list ++ x ∷ [])) (walk_from list) (walk_from (x ∷ [])) (body_joined list x)

pub body_next : (xs ys : List Stmt) (x : Stmt) (n m k : ℕ) (tokens rest behind : List Token) → ys ≡ xs ++ x ∷ [] → walk_body xs n tokens ≡ Some (m, rest) → walk_statement x m rest ≡ Some (k, behind) → walk_body ys n tokens ≡ Some (k, behind)
body_next xs ys x n m k tokens rest behind pushed went goes =
    ap (λ (list : List Stmt). walk_body list n tokens) pushed ∙ (body_joined xs x (n, tokens) ∙ (ap (λ t. t >>= walk_from (x ∷ [])) went ∙ ap (λ t. t >>= λ s. Some s) goes))

pub body_start : (xs : List Stmt) (n : ℕ) (tokens : List Token) → xs ≡ [] → walk_body xs n tokens ≡ Some (n, tokens)
body_start xs n tokens e = ap (λ (list : List Stmt). walk_body list n tokens) e
