-- Readings of the statements with statements in them, of all statements, and of blocks.
use Rattle.std.proofs.Common.{◌≡◌, ℕ, zero, suc, Bool, true, false, not, ◌&&◌, ◌⊎◌, inl, inr, List, [], ◌∷◌, ◌++◌, Option, Some, None, refl, sym, ap, ◌∙◌}
use Rattle.std.proofs.lemmas.Bool.{and_parts}
use Rattle.std.proofs.Math.Bool.{and-true}
use Rattle.std.specs.Cmp.Derive.{both_true}
use Rattle.herm_readers.specs.Reader.{Reader, Rule, Reads, ahead}
use Rattle.herm_readers.specs.Combinators.{passes, nothing, nothing_rule, many, many_fits, many_spelling, many_ends, many_rule, separated_fits, separated_ends}
use Rattle.herm_readers.specs.laws.ReaderLaws.{IsWritten}
use Rattle.herm_readers.proofs.Simple.{nothing_reads, changed_reads}
use Rattle.herm_readers.proofs.Lists.{many_reads}
use Rattle.herm_readers.proofs.Readings.{Reading, nothing_more, turned, both, either_of, separated_end}
use Rattle.herm_alphabet.specs.declared.keyword.Keyword.TheVariants.{KwCase, KwElse, KwFor, KwIf, KwIn, KwOn, KwReceive, KwSelect, KwTry, KwWhen, KwWhile}
use Rattle.herm_alphabet.specs.declared.sign.Mark.TheVariants.{ParenClose, BraceOpen, BraceClose, Comma, Semicolon, Becomes}
use Rattle.herm_syntax.specs.Symbols.{Symbol, Key, is, paren_open, paren_close, brace_open, bracket_open, bracket_close, comma, semicolon, becomes}
use Rattle.herm_syntax.specs.KeywordSymbols.{kw_as, kw_exception, kw_from, kw_in, kw_into, kw_of, kw_receive, kw_to}
use Rattle.herm_syntax.specs.Trees.{Letters, Path, Integer, Text, Boolean, Tag, Atom, Constant, Place, Expression, Move, Unite, Dissolve, Wrap, Insert, Connect, Send, Receive, New, Discard, Reveal, Remove, Get, Statement, Assign, Unwrap, Call, Return, ReturnBy, Create, Raise, Leave, Case, For, Select, If, While, Try, Statements, NoStatement, Further, Arms, NoArm, Arm, PortArms, NoPortArm, PortArm, Otherwise, NoElse, Else}
use Rattle.herm_syntax.specs.Words.{Moving, Uniting, Dissolving, Wrapping, Inserting, Connecting, Sending, Receiving, Making, Discarding, Revealing, Removing, Getting}
use Rattle.herm_syntax.specs.Spelling.{atom, statement, statements, case_arms, port_arms, handlers, otherwise}
use Rattle.herm_syntax.specs.Fitting.{is_name, path_fits, atom_fits, expression_fits, has_arm, has_port_arm, statement_fits, statements_fit, case_arms_fit, port_arms_fit, handlers_fit, otherwise_fits}
use Rattle.herm_syntax.specs.ReadExpressions.{path_ends, expression_rule, atom_rule, read_expression}
use Rattle.herm_syntax.specs.ReadStatements.{arms_of, port_arms_of, otherwise_of, PlainStatement, CompoundStatement, plain_of, compound_of, statement_of, is_plain, inside, statements_of, no_statement, read_statement, read_statements, if_ends, statement_ends, further_end, statement_rule, statements_rule}
use Rattle.herm_syntax.proofs.Names.{sign_test}
use Rattle.herm_syntax.proofs.Paths.{path_stops, component_path_stops, atom_stops}
use Rattle.herm_syntax.proofs.Stops.{expression_stops}
use Rattle.herm_syntax.proofs.Levels.{expression_reads}
use Rattle.herm_syntax.proofs.Plain.{keyword_then, sign_then, then_sign, in_braces_r, name_r, part_r, path_r, atom_r, plain_r, listed_ends, listed_end}
use Rattle.herm_syntax.proofs.Firsts.{statement_written, statements_stop}
use Rattle.herm_syntax.proofs.Arms.{some_r}

-- What is read in front of a bracket or a comma.
pub skip : {a b : Bool} → a ≡ true → (a && b) ≡ b
skip {a} {b} e = ap (λ c. c && b) e

pub atoms_stop : (keys : List Atom) → separated_fits atom_fits keys ≡ true → separated_ends comma (is comma) atom_rule keys (Some bracket_close) ≡ true
atoms_stop keys f = separated_end comma (is comma) (sign_test Comma) atom_rule (Some bracket_close) refl (λ a g. atom_stops a (Some comma) refl refl) (λ a g. atom_stops a (Some bracket_close) refl refl) keys f

pub atom_leads : (a : Atom) (more : List Symbol) (beyond : Option Symbol) → atom_fits a ≡ true → passes (is paren_close) (ahead (atom a ++ more) beyond) ≡ false
atom_leads (Constant (Integer n)) more beyond f = refl
atom_leads (Constant (Text letters)) more beyond f = refl
atom_leads (Constant (Boolean true)) more beyond f = refl
atom_leads (Constant (Boolean false)) more beyond f = refl
atom_leads (Constant (Tag name value)) more beyond f = refl
atom_leads (Place []) more beyond f = absurd (cc)
atom_leads (Place (variable ∷ parts)) more beyond f = refl

pub arguments_stop : (arguments : List Atom) → many_fits atom_fits arguments ≡ true → listed_ends ParenClose atom_r arguments (Some paren_close) ≡ true
arguments_stop arguments f = listed_end ParenClose atom_r refl atom_leads (λ a g. atom_stops a (Some comma) refl refl) (λ a g. atom_stops a (Some paren_close) refl refl) arguments f

-- A plain statement.
pub plain_fits : (levels : ℕ) (x : PlainStatement) → plain_r.rule.fits x ≡ true → statement_fits (plain_of x) levels ≡ true
plain_fits levels (inl (Moving, x)) f = f
plain_fits levels (inl (Uniting, x)) f = f
plain_fits levels (inl (Dissolving, x)) f = f
plain_fits levels (inl (Wrapping, x)) f = f
plain_fits levels (inl (Inserting, x)) f = f
plain_fits levels (inl (Connecting, x)) f = f
plain_fits levels (inl (Sending, x)) f = f
plain_fits levels (inl (Receiving, x)) f = f
plain_fits levels (inr (inl (Making, x))) f = f
plain_fits levels (inr (inl (Discarding, x))) f = f
plain_fits levels (inr (inl (Revealing, x))) f = f
plain_fits levels (inr (inr (inl (Removing, x)))) f = ap (λ b. path_fits x.0 && (path_fits x.1.0 && b)) (sym (and-true (separated_fits atom_fits x.1.1.0))) ∙ f
plain_fits levels (inr (inr (inl (Getting, x)))) f = ap (λ b. path_fits x.0 && (path_fits x.1.0 && b)) (sym (and-true (separated_fits atom_fits x.1.1.0))) ∙ f
plain_fits levels (inr (inr (inr (inl x)))) f = f
plain_fits levels (inr (inr (inr (inr (inl x))))) f = ap (λ b. path_fits x.0 && b) (sym (and-true (many_fits atom_fits x.1.0))) ∙ f
plain_fits levels (inr (inr (inr (inr (inr (inl (m, inl name))))))) f = f
plain_fits levels (inr (inr (inr (inr (inr (inl (m, inr none))))))) f = sym (and-true (path_fits m)) ∙ f
plain_fits levels (inr (inr (inr (inr (inr (inr (inl x))))))) f = f
plain_fits levels (inr (inr (inr (inr (inr (inr (inr (inl name)))))))) f = f
plain_fits levels (inr (inr (inr (inr (inr (inr (inr (inr none)))))))) f = refl

pub plain_spelled : (x : PlainStatement) → statement (plain_of x) ≡ plain_r.rule.spelling x
plain_spelled (inl (Moving, x)) = refl
plain_spelled (inl (Uniting, x)) = refl
plain_spelled (inl (Dissolving, x)) = refl
plain_spelled (inl (Wrapping, x)) = refl
plain_spelled (inl (Inserting, x)) = refl
plain_spelled (inl (Connecting, x)) = refl
plain_spelled (inl (Sending, x)) = refl
plain_spelled (inl (Receiving, x)) = refl
plain_spelled (inr (inl (Making, x))) = refl
plain_spelled (inr (inl (Discarding, x))) = refl
plain_spelled (inr (inl (Revealing, x))) = refl
plain_spelled (inr (inr (inl (Removing, x)))) = refl
plain_spelled (inr (inr (inl (Getting, x)))) = refl
plain_spelled (inr (inr (inr (inl x)))) = refl
plain_spelled (inr (inr (inr (inr (inl x))))) = refl
plain_spelled (inr (inr (inr (inr (inr (inl (m, inl name))))))) = refl
plain_spelled (inr (inr (inr (inr (inr (inl (m, inr none))))))) = refl
plain_spelled (inr (inr (inr (inr (inr (inr (inl x))))))) = refl
plain_spelled (inr (inr (inr (inr (inr (inr (inr (inl name)))))))) = refl
plain_spelled (inr (inr (inr (inr (inr (inr (inr (inr none)))))))) = refl

keyed_stop : (r t : Path) (keys : List Atom) → (path_fits r && (path_fits t && (separated_fits atom_fits keys && true))) ≡ true →
    (path_ends r (Some kw_from) && (path_ends t (Some bracket_open) && (separated_ends comma (is comma) atom_rule keys (Some bracket_close) && true))) ≡ true
keyed_stop r t keys f =
    let fit = and_parts (path_fits r) (path_fits t && (separated_fits atom_fits keys && true)) f in
    let fit_keys = and_parts (separated_fits atom_fits keys) true (and_parts (path_fits t) (separated_fits atom_fits keys && true) fit.1).1 in
    both_true (path_stops r (Some kw_from) refl) (both_true (path_stops t (Some bracket_open) refl) (both_true (atoms_stop keys fit_keys.0) refl))

pub plain_ended : (x : PlainStatement) (beyond : Option Symbol) → plain_r.rule.fits x ≡ true → statement_ends (plain_of x) beyond ≡ (passes is_plain (ahead (plain_r.rule.spelling x) beyond) && plain_r.rule.ends x beyond)
plain_ended (inl (Moving, (p, q))) beyond f = sym (both_true (path_stops p (Some kw_to) refl) (path_stops q (Some semicolon) refl))
plain_ended (inl (Uniting, (p, q))) beyond f = sym (both_true (component_path_stops p (Some kw_from) refl) (path_stops q (Some semicolon) refl))
plain_ended (inl (Dissolving, (p, q))) beyond f = sym (both_true (component_path_stops p (Some kw_into) refl) (path_stops q (Some semicolon) refl))
plain_ended (inl (Wrapping, (p, q))) beyond f = sym (both_true (path_stops p (Some kw_as) refl) (path_stops q (Some semicolon) refl))
plain_ended (inl (Inserting, (p, q))) beyond f = sym (both_true (path_stops p (Some kw_into) refl) (path_stops q (Some semicolon) refl))
plain_ended (inl (Connecting, (p, q))) beyond f = sym (both_true (path_stops p (Some kw_to) refl) (path_stops q (Some semicolon) refl))
plain_ended (inl (Sending, (p, q))) beyond f = sym (both_true (path_stops p (Some kw_to) refl) (path_stops q (Some semicolon) refl))
plain_ended (inl (Receiving, (p, q))) beyond f = sym (both_true (path_stops p (Some kw_from) refl) (path_stops q (Some semicolon) refl))
plain_ended (inr (inl (Making, p))) beyond f = sym (path_stops p (Some semicolon) refl)
plain_ended (inr (inl (Discarding, p))) beyond f = sym (path_stops p (Some semicolon) refl)
plain_ended (inr (inl (Revealing, p))) beyond f = sym (component_path_stops p (Some semicolon) refl)
plain_ended (inr (inr (inl (Removing, (r, (t, (keys, none))))))) beyond f = sym (keyed_stop r t keys f)
plain_ended (inr (inr (inl (Getting, (r, (t, (keys, none))))))) beyond f = sym (keyed_stop r t keys f)
plain_ended (inr (inr (inr (inl (p, (name, y)))))) beyond f = sym (both_true (path_stops p (Some kw_as) refl) (path_stops y (Some semicolon) refl))
plain_ended (inr (inr (inr (inr (inl (o, (arguments, none))))))) beyond f =
    let fit = and_parts (path_fits o) (many_fits atom_fits arguments && true) f in
    let fit_arguments = and_parts (many_fits atom_fits arguments) true fit.1 in
    sym (both_true (path_stops o (Some paren_open) refl) (both_true (arguments_stop arguments fit_arguments.0) refl))
plain_ended (inr (inr (inr (inr (inr (inl (m, inl name))))))) beyond f = sym (both_true (path_stops m (Some kw_exception) refl) refl)
plain_ended (inr (inr (inr (inr (inr (inl (m, inr none))))))) beyond f = sym (both_true (path_stops m (Some semicolon) refl) refl)
plain_ended (inr (inr (inr (inr (inr (inr (inl (o, name)))))))) beyond f = sym (both_true (path_stops o (Some kw_of) refl) refl)
plain_ended (inr (inr (inr (inr (inr (inr (inr (inl name)))))))) beyond f = refl
plain_ended (inr (inr (inr (inr (inr (inr (inr (inr none)))))))) beyond f = refl

-- Statements over the expressions and the blocks in them.
module _ (levels : ℕ) (read_e : Reader Symbol Expression) (read_s : Reader Symbol Statements) (reads_e : Reads (expression_rule 5 levels) read_e) (reads_s : Reads (statements_rule levels) read_s) where
  abbrev pub expression_r : Reading Symbol Expression
  expression_r = record { rule = expression_rule 5 levels; read = read_e; reads = reads_e }

  abbrev pub body_r : Reading Symbol Statements
  body_r = record { rule = statements_rule levels; read = read_s; reads = reads_s }

  abbrev pub case_arm_r : Reading Symbol (Letters × Statements)
  case_arm_r = keyword_then KwWhen (both part_r (in_braces_r body_r))

  abbrev pub handler_r : Reading Symbol (Letters × Statements)
  handler_r = keyword_then KwOn (both name_r (in_braces_r body_r))

  abbrev pub port_arm_r : Reading Symbol (Path × (Path × Statements))
  port_arm_r = keyword_then KwWhen (both path_r (keyword_then KwReceive (both path_r (in_braces_r body_r))))

  pub case_arms_fits_of : (list : List (Letters × Statements)) → case_arms_fit (arms_of list) levels ≡ many_fits case_arm_r.rule.fits list
  case_arms_fits_of [] = refl
  case_arms_fits_of (x ∷ list) = ap (λ b. statements_fit x.1 levels && b) (case_arms_fits_of list)

  pub case_arms_spelled : (list : List (Letters × Statements)) → case_arms (arms_of list) ≡ many_spelling case_arm_r.rule.spelling list
  case_arms_spelled [] = refl
  case_arms_spelled (x ∷ list) = ap (λ t. case_arm_r.rule.spelling x ++ t) (case_arms_spelled list)

  pub handlers_fits_of : (list : List (Letters × Statements)) → handlers_fit (arms_of list) levels ≡ many_fits handler_r.rule.fits list
  handlers_fits_of [] = refl
  handlers_fits_of (x ∷ list) = ap (λ b. (is_name x.0 && statements_fit x.1 levels) && b) (handlers_fits_of list)

  pub handlers_spelled : (list : List (Letters × Statements)) → handlers (arms_of list) ≡ many_spelling handler_r.rule.spelling list
  handlers_spelled [] = refl
  handlers_spelled (x ∷ list) = ap (λ t. handler_r.rule.spelling x ++ t) (handlers_spelled list)

  pub port_arms_fits_of : (list : List (Path × (Path × Statements))) → port_arms_fit (port_arms_of list) levels ≡ many_fits port_arm_r.rule.fits list
  port_arms_fits_of [] = refl
  port_arms_fits_of (x ∷ list) = ap (λ b. port_arm_r.rule.fits x && b) (port_arms_fits_of list)

  pub port_arms_spelled : (list : List (Path × (Path × Statements))) → port_arms (port_arms_of list) ≡ many_spelling port_arm_r.rule.spelling list
  port_arms_spelled [] = refl
  port_arms_spelled (x ∷ list) = ap (λ t. port_arm_r.rule.spelling x ++ t) (port_arms_spelled list)

  abbrev pub arms_list : Arms → List (Letters × Statements)
  arms_list NoArm = []
  arms_list (Arm name body others) = (name, body) ∷ arms_list others

  pub arms_list_back : (arms : Arms) → arms_of (arms_list arms) ≡ arms
  arms_list_back NoArm = refl
  arms_list_back (Arm name body others) = ap (Arm name body) (arms_list_back others)

  pub arms_back : (arms : Arms) → has_arm arms ≡ true → (a : Letters × Statements) × (list : List (Letters × Statements)) × (arms_of (a ∷ list) ≡ arms)
  arms_back NoArm h = absurd (cc)
  arms_back (Arm name body others) h = ((name, body), arms_list others, ap (Arm name body) (arms_list_back others))

  abbrev pub port_arms_list : PortArms → List (Path × (Path × Statements))
  port_arms_list NoPortArm = []
  port_arms_list (PortArm port target body others) = (port, (target, body)) ∷ port_arms_list others

  pub port_arms_list_back : (arms : PortArms) → port_arms_of (port_arms_list arms) ≡ arms
  port_arms_list_back NoPortArm = refl
  port_arms_list_back (PortArm port target body others) = ap (PortArm port target body) (port_arms_list_back others)

  pub port_arms_back : (arms : PortArms) → has_port_arm arms ≡ true → (a : Path × (Path × Statements)) × (list : List (Path × (Path × Statements))) × (port_arms_of (a ∷ list) ≡ arms)
  port_arms_back NoPortArm h = absurd (cc)
  port_arms_back (PortArm port target body others) h = ((port, (target, body)), port_arms_list others, ap (PortArm port target body) (port_arms_list_back others))

  pub case_arm_ends : (a : Letters × Statements) (h : Option Symbol) → case_arm_r.rule.fits a ≡ true → case_arm_r.rule.ends a h ≡ true
  case_arm_ends a h f = statements_stop a.1 levels f

  pub handler_ends : (a : Letters × Statements) (h : Option Symbol) → handler_r.rule.fits a ≡ true → handler_r.rule.ends a h ≡ true
  handler_ends a h f = statements_stop a.1 levels (and_parts (is_name a.0) (statements_fit a.1 levels) f).1

  pub port_arm_ends : (a : Path × (Path × Statements)) (h : Option Symbol) → port_arm_r.rule.fits a ≡ true → port_arm_r.rule.ends a h ≡ true
  port_arm_ends a h f =
      let fit = and_parts (path_fits a.0) (path_fits a.1.0 && statements_fit a.1.1 levels) f in
      both_true (path_stops a.0 (Some kw_receive) refl) (both_true (path_stops a.1.0 (Some brace_open) refl) (statements_stop a.1.1 levels (and_parts (path_fits a.1.0) (statements_fit a.1.1 levels) fit.1).1))

  pub case_arm_written : IsWritten case_arm_r.rule
  case_arm_written a f e = cc

  pub handler_written : IsWritten handler_r.rule
  handler_written a f e = cc

  pub port_arm_written : IsWritten port_arm_r.rule
  port_arm_written a f e = cc

  abbrev pub case_arms_r : Reading Symbol Arms
  case_arms_r = some_r (is (Key KwWhen)) case_arm_r arms_of (λ t. case_arms_fit t levels) has_arm case_arms (λ a f. refl) case_arm_ends case_arm_written case_arms_fits_of case_arms_spelled (λ a list. refl) arms_back

  abbrev pub handlers_r : Reading Symbol Arms
  handlers_r = some_r (is (Key KwOn)) handler_r arms_of (λ t. handlers_fit t levels) has_arm handlers (λ a f. refl) handler_ends handler_written handlers_fits_of handlers_spelled (λ a list. refl) arms_back

  abbrev pub port_arms_r : Reading Symbol PortArms
  port_arms_r = some_r (is (Key KwWhen)) port_arm_r port_arms_of (λ t. port_arms_fit t levels) has_port_arm port_arms (λ a f. refl) port_arm_ends port_arm_written port_arms_fits_of port_arms_spelled (λ a list. refl) port_arms_back

  abbrev pub otherwise_rule : Rule Symbol Otherwise
  otherwise_rule = record { fits = λ other. otherwise_fits other levels; spelling = otherwise; ends = if_ends }

  abbrev pub otherwise_parts : Reading Symbol (Statements ⊎ Unit {0})
  otherwise_parts = either_of (is (Key KwElse)) (keyword_then KwElse (in_braces_r body_r)) nothing_more

  pub otherwise_fits_of : (found : Statements ⊎ Unit {0}) → otherwise_parts.rule.fits found ≡ true → otherwise_fits (otherwise_of found) levels ≡ true
  otherwise_fits_of (inl body) f = f
  otherwise_fits_of (inr none) f = refl

  pub otherwise_spelled : (found : Statements ⊎ Unit {0}) → otherwise_parts.rule.fits found ≡ true → otherwise (otherwise_of found) ≡ otherwise_parts.rule.spelling found
  otherwise_spelled (inl body) f = refl
  otherwise_spelled (inr none) f = refl

  pub otherwise_ended : (found : Statements ⊎ Unit {0}) (beyond : Option Symbol) → otherwise_parts.rule.fits found ≡ true → if_ends (otherwise_of found) beyond ≡ otherwise_parts.rule.ends found beyond
  otherwise_ended (inl body) beyond f = sym (statements_stop body levels f)
  otherwise_ended (inr none) beyond f = sym (and-true (not (passes (is (Key KwElse)) beyond)))

  pub otherwise_back : (other : Otherwise) → otherwise_fits other levels ≡ true → (found : Statements ⊎ Unit {0}) × (otherwise_parts.rule.fits found ≡ true) × (otherwise_of found ≡ other)
  otherwise_back NoElse f = (inr tt, refl, refl)
  otherwise_back (Else body) f = (inl body, f, refl)

  abbrev pub otherwise_r : Reading Symbol Otherwise
  otherwise_r = turned otherwise_of otherwise_rule otherwise_parts (record { fits = otherwise_fits_of; spelling = otherwise_spelled; ends = otherwise_ended; back = otherwise_back })

  abbrev pub case_r : Reading Symbol (Path × Arms)
  case_r = keyword_then KwCase (both path_r (in_braces_r case_arms_r))

  abbrev pub for_r : Reading Symbol (Path × (Path × Statements))
  for_r = keyword_then KwFor (both path_r (keyword_then KwIn (both path_r (in_braces_r body_r))))

  abbrev pub select_r : Reading Symbol PortArms
  select_r = keyword_then KwSelect (in_braces_r port_arms_r)

  abbrev pub if_r : Reading Symbol (Expression × (Statements × Otherwise))
  if_r = keyword_then KwIf (both expression_r (sign_then BraceOpen (both body_r (sign_then BraceClose otherwise_r))))

  abbrev pub while_r : Reading Symbol (Expression × Statements)
  while_r = keyword_then KwWhile (both expression_r (in_braces_r body_r))

  abbrev pub try_r : Reading Symbol (Statements × Arms)
  try_r = keyword_then KwTry (sign_then BraceOpen (both body_r (sign_then BraceClose handlers_r)))

  abbrev pub assign_r : Reading Symbol (Path × Expression)
  assign_r = both path_r (sign_then Becomes (then_sign Semicolon expression_r))

  abbrev pub compound_r : Reading Symbol CompoundStatement
  compound_r = either_of (is (Key KwCase)) case_r (either_of (is (Key KwFor)) for_r (either_of (is (Key KwSelect)) select_r
      (either_of (is (Key KwIf)) if_r (either_of (is (Key KwWhile)) while_r (either_of (is (Key KwTry)) try_r assign_r)))))

  abbrev pub statement_parts : Reading Symbol (PlainStatement ⊎ CompoundStatement)
  statement_parts = either_of is_plain plain_r compound_r

  pub compound_fits : (x : CompoundStatement) → compound_r.rule.fits x ≡ true → statement_fits (compound_of x) levels ≡ true
  compound_fits (inl x) f = f
  compound_fits (inr (inl x)) f = f
  compound_fits (inr (inr (inl x))) f = f
  compound_fits (inr (inr (inr (inl x)))) f = f
  compound_fits (inr (inr (inr (inr (inl x))))) f = f
  compound_fits (inr (inr (inr (inr (inr (inl x)))))) f = f
  compound_fits (inr (inr (inr (inr (inr (inr x)))))) f = f

  pub compound_spelled : (x : CompoundStatement) → statement (compound_of x) ≡ compound_r.rule.spelling x
  compound_spelled (inl x) = refl
  compound_spelled (inr (inl x)) = refl
  compound_spelled (inr (inr (inl x))) = refl
  compound_spelled (inr (inr (inr (inl x)))) = refl
  compound_spelled (inr (inr (inr (inr (inl x))))) = refl
  compound_spelled (inr (inr (inr (inr (inr (inl x)))))) = refl
  compound_spelled (inr (inr (inr (inr (inr (inr x)))))) = refl

  pub compound_ended : (x : CompoundStatement) (beyond : Option Symbol) → compound_r.rule.fits x ≡ true → statement_ends (compound_of x) beyond ≡ (not (passes is_plain (ahead (compound_r.rule.spelling x) beyond)) && compound_r.rule.ends x beyond)
  compound_ended (inl (v, arms)) beyond f = sym (both_true (path_stops v (Some brace_open) refl) refl)
  compound_ended (inr (inl (r, (t, body)))) beyond f =
      let fit = and_parts (path_fits r) (path_fits t && statements_fit body levels) f in
      sym (both_true (path_stops r (Some kw_in) refl) (both_true (path_stops t (Some brace_open) refl) (statements_stop body levels (and_parts (path_fits t) (statements_fit body levels) fit.1).1)))
  compound_ended (inr (inr (inl arms))) beyond f = refl
  compound_ended (inr (inr (inr (inl (e, (body, other)))))) beyond f =
      let fit = and_parts (expression_fits e 5 levels) (statements_fit body levels && otherwise_fits other levels) f in
      let fit_body = and_parts (statements_fit body levels) (otherwise_fits other levels) fit.1 in
      sym (skip (expression_stops e 5 levels (Some brace_open) fit.0 refl) ∙ skip (statements_stop body levels fit_body.0))
  compound_ended (inr (inr (inr (inr (inl (e, body)))))) beyond f =
      let fit = and_parts (expression_fits e 5 levels) (statements_fit body levels) f in
      sym (both_true (expression_stops e 5 levels (Some brace_open) fit.0 refl) (statements_stop body levels fit.1))
  compound_ended (inr (inr (inr (inr (inr (inl (body, handled))))))) beyond f =
      let fit = and_parts (statements_fit body levels) (has_arm handled && handlers_fit handled levels) f in
      sym (skip (statements_stop body levels fit.0))
  compound_ended (inr (inr (inr (inr (inr (inr ([], e))))))) beyond f = absurd (cc)
  compound_ended (inr (inr (inr (inr (inr (inr (variable ∷ parts, e))))))) beyond f =
      let fit = and_parts (path_fits (variable ∷ parts)) (expression_fits e 5 levels) f in
      sym (both_true (path_stops (variable ∷ parts) (Some becomes) refl) (expression_stops e 5 levels (Some semicolon) fit.1 refl))

  pub statement_fits_of : (found : PlainStatement ⊎ CompoundStatement) → statement_parts.rule.fits found ≡ true → statement_fits (statement_of found) levels ≡ true
  statement_fits_of (inl x) f = plain_fits levels x f
  statement_fits_of (inr x) f = compound_fits x f

  pub statement_spelled : (found : PlainStatement ⊎ CompoundStatement) → statement_parts.rule.fits found ≡ true → statement (statement_of found) ≡ statement_parts.rule.spelling found
  statement_spelled (inl x) f = plain_spelled x
  statement_spelled (inr x) f = compound_spelled x

  pub statement_ended : (found : PlainStatement ⊎ CompoundStatement) (beyond : Option Symbol) → statement_parts.rule.fits found ≡ true → statement_ends (statement_of found) beyond ≡ statement_parts.rule.ends found beyond
  statement_ended (inl x) beyond f = plain_ended x beyond f
  statement_ended (inr x) beyond f = compound_ended x beyond f

  pub statement_back : (s : Statement) → statement_fits s levels ≡ true → (found : PlainStatement ⊎ CompoundStatement) × (statement_parts.rule.fits found ≡ true) × (statement_of found ≡ s)
  statement_back (Assign x e) f = (inr (inr (inr (inr (inr (inr (inr (x, e))))))), f, refl)
  statement_back (Move y x) f = (inl (inl (Moving, (y, x))), f, refl)
  statement_back (Unite v y) f = (inl (inl (Uniting, (v, y))), f, refl)
  statement_back (Dissolve v y) f = (inl (inl (Dissolving, (v, y))), f, refl)
  statement_back (Wrap y p) f = (inl (inl (Wrapping, (y, p))), f, refl)
  statement_back (Insert r t) f = (inl (inl (Inserting, (r, t))), f, refl)
  statement_back (Connect o i) f = (inl (inl (Connecting, (o, i))), f, refl)
  statement_back (Send x o) f = (inl (inl (Sending, (x, o))), f, refl)
  statement_back (Receive x i) f = (inl (inl (Receiving, (x, i))), f, refl)
  statement_back (New x) f = (inl (inr (inl (Making, x))), f, refl)
  statement_back (Discard x) f = (inl (inr (inl (Discarding, x))), f, refl)
  statement_back (Reveal v) f = (inl (inr (inl (Revealing, v))), f, refl)
  statement_back (Remove r t keys) f = (inl (inr (inr (inl (Removing, (r, (t, (keys, tt))))))), ap (λ b. path_fits r && (path_fits t && b)) (and-true (separated_fits atom_fits keys)) ∙ f, refl)
  statement_back (Get r t keys) f = (inl (inr (inr (inl (Getting, (r, (t, (keys, tt))))))), ap (λ b. path_fits r && (path_fits t && b)) (and-true (separated_fits atom_fits keys)) ∙ f, refl)
  statement_back (Unwrap p name y) f = (inl (inr (inr (inr (inl (p, (name, y)))))), f, refl)
  statement_back (Call o arguments) f = (inl (inr (inr (inr (inr (inl (o, (arguments, tt))))))), ap (λ b. path_fits o && b) (and-true (many_fits atom_fits arguments)) ∙ f, refl)
  statement_back (Return m) f = (inl (inr (inr (inr (inr (inr (inl (m, inr tt))))))), and-true (path_fits m) ∙ f, refl)
  statement_back (ReturnBy m name) f = (inl (inr (inr (inr (inr (inr (inl (m, inl name))))))), f, refl)
  statement_back (Create o name) f = (inl (inr (inr (inr (inr (inr (inr (inl (o, name)))))))), f, refl)
  statement_back (Raise name) f = (inl (inr (inr (inr (inr (inr (inr (inr (inl name)))))))), f, refl)
  statement_back Leave f = (inl (inr (inr (inr (inr (inr (inr (inr (inr tt)))))))), refl, refl)
  statement_back (Case v arms) f = (inr (inl (v, arms)), f, refl)
  statement_back (For r t body) f = (inr (inr (inl (r, (t, body)))), f, refl)
  statement_back (Select arms) f = (inr (inr (inr (inl arms))), f, refl)
  statement_back (If e body other) f = (inr (inr (inr (inr (inl (e, (body, other)))))), f, refl)
  statement_back (While e body) f = (inr (inr (inr (inr (inr (inl (e, body)))))), f, refl)
  statement_back (Try body handled) f = (inr (inr (inr (inr (inr (inr (inl (body, handled))))))), f, refl)

  pub statement_reads : Reads (statement_rule levels) (read_statement read_e read_s)
  statement_reads = changed_reads statement_of statement_parts.rule (statement_rule levels) statement_parts.read (record { fits = statement_fits_of; spelling = statement_spelled; ends = statement_ended; back = statement_back }) statement_parts.reads

-- Blocks.
pub no_statement_back : (body : Statements) → statements_fit body 0 ≡ true → (found : Unit {0}) × (true ≡ true) × (no_statement found ≡ body)
no_statement_back NoStatement f = (tt, refl, refl)
no_statement_back (Further s others) f = absurd (cc)

pub statements_fits_of : (levels : ℕ) (list : List Statement) → statements_fit (statements_of list) (suc levels) ≡ many_fits (statement_rule levels).fits list
statements_fits_of levels [] = refl
statements_fits_of levels (s ∷ list) = ap (λ b. statement_fits s levels && b) (statements_fits_of levels list)

pub statements_spelled : (list : List Statement) → statements (statements_of list) ≡ many_spelling statement list
statements_spelled [] = refl
statements_spelled (s ∷ list) = ap (λ t. statement s ++ t) (statements_spelled list)

pub statements_ended : (levels : ℕ) (list : List Statement) (beyond : Option Symbol) → further_end (statements_of list) beyond ≡ many_ends inside (statement_rule levels) list beyond
statements_ended levels [] beyond = refl
statements_ended levels (s ∷ list) beyond =
    ap (λ t. passes inside (ahead (statement s) None) && (statement_ends s (ahead t beyond) && further_end (statements_of list) beyond)) (statements_spelled list)
    ∙ ap (λ b. passes inside (ahead (statement s) None) && (statement_ends s (ahead (many_spelling statement list) beyond) && b)) (statements_ended levels list beyond)

abbrev pub statements_list : Statements → List Statement
statements_list NoStatement = []
statements_list (Further s others) = s ∷ statements_list others

pub statements_list_back : (body : Statements) → statements_of (statements_list body) ≡ body
statements_list_back NoStatement = refl
statements_list_back (Further s others) = ap (Further s) (statements_list_back others)

pub statements_reads_more : (levels : ℕ) → Reads (statements_rule levels) (read_statements levels) → Reads (statements_rule (suc levels)) (read_statements (suc levels))
statements_reads_more levels reads =
    let one_statement = statement_reads levels (read_expression levels) (read_statements levels) (expression_reads levels) reads in
    changed_reads statements_of (many_rule inside (statement_rule levels)) (statements_rule (suc levels)) (many inside (read_statement (read_expression levels) (read_statements levels)))
    (record {
      fits = λ list f. statements_fits_of levels list ∙ f;
      spelling = λ list f. statements_spelled list;
      ends = λ list beyond f. statements_ended levels list beyond;
      back = λ body f. (statements_list body, sym (statements_fits_of levels (statements_list body)) ∙ (ap (λ b. statements_fit b (suc levels)) (statements_list_back body) ∙ f), statements_list_back body);
    })
    (many_reads inside (statement_rule levels) (read_statement (read_expression levels) (read_statements levels)) (λ s f. statement_written s levels f) one_statement)

pub statements_reads : (levels : ℕ) → Reads (statements_rule levels) (read_statements levels)
statements_reads zero = changed_reads no_statement nothing_rule (statements_rule 0) nothing (record { fits = λ found f. refl; spelling = λ found f. refl; ends = λ found beyond f. refl; back = no_statement_back }) (nothing_reads Symbol)
statements_reads (suc levels) = statements_reads_more levels (statements_reads levels)
