-- A process by what is known of the program: its scope, its statements and its codes.
use Rattle.std.proofs.Common.{◌≡◌, ℕ, suc, List, [], ◌∷◌, ◌++◌, map, take, length, Bool, true, false, cond, ◌||◌, nat_lt, Option, Some, None, refl, sym, ap, ap₂, ◌∙◌, Vec, Global}
use Rattle.std.proofs.lemmas.List.{map-append, length-map}
use Rattle.herm_base.specs.declared.word.Name.{Name}
use Rattle.herm_base.specs.declared.word.Span.{Span}
use Rattle.herm_model.specs.Types.{all_parts, variable_paths}
use Rattle.herm_model.specs.Statements.{Process, numbers_of_block, Block}
use Rattle.herm_syntax.specs.Trees.{Letters, Statement}
use Rattle.herm_syntax.specs.View.{name_view, field_view, stmt_form_view, stmts_view}
use Rattle.herm_syntax.specs.declared.definitions.Field.{Field}
use Rattle.herm_syntax.specs.declared.statements.Stmt.{Stmt}
use Rattle.herm_meaning.specs.Names.{NamedTable}
use Rattle.herm_naming.specs.Numbers.{Scope, type_number}
use Rattle.herm_naming.specs.Meaning.{block_number}
use Rattle.herm_naming.specs.StatementFaults.{Code, twice, too_many, is_among, name_code, declaration_code, variable_codes, statement_code, statement_codes, within, in_body}
use Rattle.herm_naming.specs.RefusalsOfNames.{Places}
use Rattle.herm_naming.proofs.Bodies.{body-count}
use Rattle.herm_typed.specs.View.{typed_stmts_view, typed_process_view}
use Rattle.herm_typed.specs.declared.statements.TypedStmt.{TypedStmt}
use Rattle.herm_numbers.specs.Faults.{Place, codes_found, spans_found, body_spans}
use Rattle.herm_numbers.specs.Statements.{meant, written, body_codes, codes_of}
use Rattle.herm_numbers.specs.View.{scope_view}
use Rattle.herm_numbers.specs.declared.fault.Judged.{Judged}
use Rattle.herm_numbers.specs.declared.known.Known.{Known}
use Rattle.herm_numbers.specs.declared.scope.Scope as code
use Rattle.herm_resolve.specs.Judged.{scope_within, process_within, codes_within, found_codes, found_places}
use Rattle.herm_resolve.specs.Refused.{places_of}
use Rattle.herm_resolve.proofs.Meant.{body_meaning}

codes-same : (s : Scope) (l : Bool) (xs : List Stmt) → body_codes s l xs ≡ codes_of s (in_body l (stmts_view xs))
codes-same s l [] = refl
codes-same s l (x ∷ xs) =
    ap (statement_code s l (stmt_form_view x.form) ∷◌)
    (ap (λ cs. codes_of s (within l (stmt_form_view x.form)) ++ cs) (codes-same s l xs)
    ∙ sym (map-append (λ (y : Bool × Statement). statement_code s y.0 y.1) (within l (stmt_form_view x.form)) (in_body l (stmts_view xs))))

abbrev scope-by : NamedTable → List Letters → List ℕ → List Letters → List ℕ → Scope
scope-by known vs ts ps ms = record { known = known; variables = vs; types = ts; processes = ps; ports = ms }

scopes-same : (a b : NamedTable) (vs ws : List Letters) (ts us : List ℕ) (ps qs : List Letters) (ms ns : List ℕ) → a ≡ b → vs ≡ ws → ts ≡ us → ps ≡ qs → ms ≡ ns → scope-by a vs ts ps ms ≡ scope-by b ws us qs ns
scopes-same a b vs ws ts us ps qs ms ns c d e f g =
    ap₂ (λ (x : NamedTable) (y : List Letters). scope-by x y ts ps ms) c d ∙ (ap₂ (λ (x : List ℕ) (y : List Letters). scope-by b ws x y ms) e f ∙ ap (scope-by b ws us qs) g)

-- the scope of the code is what is known within the process
pub scope_same : (k : Known) (port : Field) (vars : List Field) (s : code.Scope) → s.types.now ≡ k.types.now → s.variables ≡ name_view port.name ∷ map (λ d. name_view d.name) vars
    → map (λ t. t.0) s.of.items ≡ type_number k.types.now (name_view port.of) ∷ map (λ d. type_number k.types.now (name_view d.of)) vars
    → s.processes.now ≡ k.processes → s.ports.now ≡ k.ports.items → scope_view s ≡ scope_within k port vars
scope_same k port vars s a b c d e = scopes-same _ _ _ _ _ _ _ _ _ _ a b c d (ap (map (λ t. t.0)) e)

module _ (k : Known) (port : Field) (vars : List Field) (body : List Stmt) (s : Scope) (same : s ≡ scope_within k port vars) where
  pub body_same : (typed : List TypedStmt) → meant typed ≡ written s body → typed_stmts_view typed ≡ (process_within k port vars body).body
  body_same typed e = body_meaning s typed body e ∙ ap (λ s. block_number s (stmts_view body)) same

  codes-within : (found : List Judged) → codes_found found ≡ body_codes s false body → codes_found found ≡ statement_codes (scope_within k port vars) (stmts_view body)
  codes-within found e = e ∙ (codes-same s false body ∙ ap (λ s. statement_codes s (stmts_view body)) same)

  -- as many are found as there are statements
  pub found_count : (found : List Judged) → codes_found found ≡ body_codes s false body → length found ≡ numbers_of_block (process_within k port vars body).body
  found_count found e =
      sym (length-map found _) ∙ (ap length (codes-within found e)
      ∙ (length-map (in_body false (stmts_view body)) _ ∙ body-count (scope_within k port vars) (stmts_view body)))

  pub codes_same : (number : ℕ) (name : Name) (of : List ℕ) (found : List Judged) → codes_found found ≡ body_codes s false body → of ≡ (process_within k port vars body).variables
      → found_codes k of number name port vars found ≡ codes_within k number name port vars body
  codes_same number name of found e f =
      ap₂ (λ (n : ℕ) (ts : List ℕ). cond (is_among (name_view name) (take number k.processes)) (Some twice) (cond (nat_lt 1024 n || nat_lt 4096 (length (variable_paths all_parts k.types.now.shapes ts))) (Some too_many) None)
      ∷ declaration_code k.types.now true [] (field_view port)
      ∷ (variable_codes k.types.now (name_view port.name ∷ []) (map field_view vars) ++ codes_found found)) (found_count found e) f
      ∙ ap (λ (cs : List (Option Code)). name_code k.types.now (take number k.processes) (name_view name) (process_within k port vars body)
      ∷ declaration_code k.types.now true [] (field_view port)
      ∷ (variable_codes k.types.now (name_view port.name ∷ []) (map field_view vars) ++ cs)) (codes-within found e)

abbrev places-by : ℕ → Name → Field → List Field → List Span → Places Place
places-by m name port vars spans = record { name = (m, name.span); declared = (m, port.name.span) ∷ map (λ d. (m, d.name.span)) vars; statements = map (λ s. (m, s)) spans }

pub places_same : (m : ℕ) (name : Name) (port : Field) (vars : List Field) (body : List Stmt) (found : List Judged) → spans_found found ≡ body_spans body → found_places m name port vars found ≡ places_of m name port vars body
places_same m name port vars body found e = ap (places-by m name port vars) e

pub span_count : (found : List Judged) (spans : List Span) → spans_found found ≡ spans → length spans ≡ length found
span_count found spans e = ap length (sym e) ∙ length-map found (λ j. j.span)

abbrev process-by : List ℕ → Block → Process
process-by ts b = record { variables = ts; body = b }

pub view_same : (ts us : List ℕ) (b d : Block) → ts ≡ us → b ≡ d → process-by ts b ≡ process-by us d
view_same ts us b d e f = ap₂ process-by e f
