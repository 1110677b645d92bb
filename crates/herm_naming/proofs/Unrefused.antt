-- Modules without a refusal mean a typed program.
use Rattle.std.proofs.Common.{◌≡◌, ℕ, zero, suc, ◌+◌, ◌<◌, ◌≤◌, List, [], ◌∷◌, ◌++◌, map, length, Bool, true, false, not, cond, ◌&&◌, ◌||◌, ◌⊎◌, inl, inr, nat_lt, Option, Some, None, is_some, slice_get, option_and_then, option_map, length-append, IsTrue, IsFalse, refl, sym, ap, ap₂, subst, ◌∙◌, arith, true≢false}
use Rattle.std.specs.Str.{bytes_eq}
use Rattle.std.proofs.lemmas.Slice.Eq.{bytes_eq-Decides}
use Rattle.herm_model.specs.Lists.{IsIn, any_pass, map_or}
use Rattle.herm_model.specs.Types.{TypeTable, Shape, inport, all_parts, variable_paths}
use Rattle.herm_model.specs.Paths.{Fact}
use Rattle.herm_model.specs.Statements as model
use Rattle.herm_model.specs.Statements.{Differ, numbers_of_block}
use Rattle.herm_model.specs.laws.FlowLaws.{forms_of, forms_of_block, forms_of_blocks, forms_of_handlers}
use Rattle.herm_model.specs.Nodes.{Node, process_nodes}
use Rattle.herm_model.specs.Targets.{node}
use Rattle.herm_model.specs.ControlPaths.{flow_of, IsReached}
use Rattle.herm_model.specs.TypedExpressions.{HasShape}
use Rattle.herm_model.specs.WellFormedTables.{IsType}
use Rattle.herm_model.specs.TypedStatements.{port_type, IsTypedForm}
use Rattle.herm_model.specs.TypedPrograms.{greatest_statements, greatest_variable_paths, main_start, HasArms, HasHandlers, HasDifferentHandlers, HandlesKnown, LeavesLoop, Placed, placed, placed_in, placed_in_blocks, placed_in_handlers, OfEachStatement, IsTypedProcess, IsTypedProgram}
use Rattle.herm_model.proofs.Lists.{not_true, cons-not_nil, and-both, or-either, every-in, in-every, in-map, in-map_from, in-append_left, in-append_right, in-append_cases, slice_get-map, length-map}
use Rattle.herm_model.proofs.FactTests.{got-IsIn}
use Rattle.herm_model.proofs.Deciding.{numbers-decide, below-decides, member-decides}
use Rattle.herm_model.proofs.NodeNumbers.{process_numbers-range, process_forms}
use Rattle.std.proofs.Common.{◌-◌}
use Rattle.herm_model.proofs.DecidedTables.{below-type}
use Rattle.herm_alphabet.specs.KeywordLetters.{keyword_of}
use Rattle.herm_syntax.specs.Trees.{Letters, Field, Statement, Module}
use Rattle.herm_meaning.specs.Names.{NamedTable, IsWellNamed}
use Rattle.herm_naming.specs.Numbers.{place_of, Scope, type_number}
use Rattle.herm_naming.specs.Meaning.{ProcessText, processes_in, declarations, scope_of, process_meaning, meaning, main_name, main_number, statement_number, block_number}
use Rattle.herm_naming.specs.UnknownNames.{is_type}
use Rattle.herm_naming.specs.Fits.{may_be}
use Rattle.herm_naming.specs.StatementFaults.{Code, twice, unreachable, no_main, too_many, first_code, statement_code, in_body, statement_codes, is_among, is_inport_shape, declaration_code, variable_codes, is_too_large, name_code, process_codes}
use Rattle.herm_naming.specs.UnreachedStatements.{MarksUnreached}
use Rattle.herm_naming.specs.RefusalsOfNames.{at_places, Places, all_places, are_none, RefusesBy, RefusesProcess, RefusesProcesses, is_main, main_refusals, AreRefusals, IsPlaced, ArePlaced}
use Rattle.herm_naming.proofs.Settled.{has-some}
use Rattle.herm_naming.proofs.Bodies.{placed_number, body-placed, body-count}
use Rattle.herm_naming.proofs.KeptRules.{IsSettled, IsFaultless, faultless, OfForm, statement-right, keeps-arms, keeps-handlers, keeps-known, keeps-leaves, keeps-different, well-body}

-- what holds of the form of each placed statement holds of each form
module _ (P : model.Form → Type 0) where
  abbrev pub Each : List Placed → Type 0
  Each ys = (y : Placed) → IsIn y ys → OfForm P y.statement

  two : (xs ys : List model.Form) (f : model.Form) → IsIn f (xs ++ ys) → (IsIn f xs → P f) → (IsIn f ys → P f) → P f
  two xs ys f i g h = by (in-append_cases f xs ys i)
    where
      by : IsIn f xs ⊎ IsIn f ys → P f
      by (inl j) = g j
      by (inr j) = h j

  mutual
    forms-each : (l : Bool) (y : model.Statement) → Each (placed l y) → (f : model.Form) → IsIn f (forms_of y) → P f
    forms-each l (model.simple g) h f (inl e) = subst P (sym e) (h _ (inl refl))
    forms-each l (model.simple g) h f (inr i) = absurd i
    forms-each l (model.choosing g bs) h f (inl e) = subst P (sym e) (h _ (inl refl))
    forms-each l (model.choosing g bs) h f (inr i) = blocks-each l bs (λ y j. h y (inr j)) f i
    forms-each l (model.repeating g b) h f (inl e) = subst P (sym e) (h _ (inl refl))
    forms-each l (model.repeating g b) h f (inr i) = block-each true b (λ y j. h y (inr j)) f i
    forms-each l model.leaving h f (inl e) = subst P (sym e) (h _ (inl refl))
    forms-each l model.leaving h f (inr i) = absurd i
    forms-each l (model.trying b hs) h f i =
        two (forms_of_block b) (forms_of_handlers hs) f i
        (block-each l b (λ y j. h y (inr (in-append_left y (placed_in l b) (placed_in_handlers l hs) j))) f)
        (handlers-each l hs (λ y j. h y (inr (in-append_right y (placed_in l b) (placed_in_handlers l hs) j))) f)

    pub block-each : (l : Bool) (b : model.Block) → Each (placed_in l b) → (f : model.Form) → IsIn f (forms_of_block b) → P f
    block-each l model.no_statements h f i = absurd i
    block-each l (model.statement y rest) h f i =
        two (forms_of y) (forms_of_block rest) f i
        (forms-each l y (λ z j. h z (in-append_left z (placed l y) (placed_in l rest) j)) f)
        (block-each l rest (λ z j. h z (in-append_right z (placed l y) (placed_in l rest) j)) f)

    blocks-each : (l : Bool) (bs : model.Blocks) → Each (placed_in_blocks l bs) → (f : model.Form) → IsIn f (forms_of_blocks bs) → P f
    blocks-each l model.no_blocks h f i = absurd i
    blocks-each l (model.block b rest) h f i =
        two (forms_of_block b) (forms_of_blocks rest) f i
        (block-each l b (λ z j. h z (in-append_left z (placed_in l b) (placed_in_blocks l rest) j)) f)
        (blocks-each l rest (λ z j. h z (in-append_right z (placed_in l b) (placed_in_blocks l rest) j)) f)

    handlers-each : (l : Bool) (hs : model.Handlers) → Each (placed_in_handlers l hs) → (f : model.Form) → IsIn f (forms_of_handlers hs) → P f
    handlers-each l model.no_handlers h f i = absurd i
    handlers-each l (model.handler e b rest) h f i =
        two (forms_of_block b) (forms_of_handlers rest) f i
        (block-each l b (λ z j. h z (in-append_left z (placed_in l b) (placed_in_handlers l rest) j)) f)
        (handlers-each l rest (λ z j. h z (in-append_right z (placed_in l b) (placed_in_handlers l rest) j)) f)

-- no refusal is no code
none-at : {P : Type 0} (places : List P) (codes : List (Option Code)) → length places ≡ length codes → at_places places codes ≡ [] → IsTrue (are_none codes)
none-at [] [] l e = refl
none-at [] (c ∷ codes) l e = absurd (omega arith)
none-at (p ∷ places) [] l e = absurd (omega arith)
none-at (p ∷ places) (None ∷ codes) l e = none-at places codes (omega arith) e
none-at (p ∷ places) (Some c ∷ codes) l e = cons-not_nil _ _ e

none-in : (codes : List (Option Code)) → IsTrue (are_none codes) → (c : Option Code) → IsIn c codes → c ≡ None
none-in codes h c i = by c (every-in (λ (c : Option Code). not (is_some c)) c codes h i)
  where
    by : (c : Option Code) → IsTrue (not (is_some c)) → c ≡ None
    by None h = refl
    by (Some x) h = not_true h

none-both : {X : Type 0} (xs ys : List X) → [] ≡ xs ++ ys → (xs ≡ []) × (ys ≡ [])
none-both [] ys e = (refl, sym e)
none-both (x ∷ xs) ys e = cons-not_nil _ _ (sym e)

-- no marks are set
unmarked : {P : Type 0} (places : List P) (marks : List Bool) → length places ≡ length marks → at_places places (map (λ m. cond m (Some unreachable) None) marks) ≡ [] → (i : ℕ) → i < length marks → slice_get marks i ≡ Some false
unmarked [] [] l e i h = absurd (omega arith)
unmarked [] (m ∷ marks) l e i h = absurd (omega arith)
unmarked (p ∷ places) [] l e i h = absurd (omega arith)
unmarked (p ∷ places) (true ∷ marks) l e i h = cons-not_nil _ _ e
unmarked (p ∷ places) (false ∷ marks) l e zero h = refl
unmarked (p ∷ places) (false ∷ marks) l e (suc i) h = unmarked places marks (omega arith) e i (omega arith)

first-none : (a b c d : Bool) → first_code a b c d ≡ None → IsFalse a × IsFalse b × IsFalse c
first-none true b c d h = let k : ⊥ = cc h in absurd k
first-none false true c d h = let k : ⊥ = cc h in absurd k
first-none false false true d h = let k : ⊥ = cc h in absurd k
first-none false false false d h = (refl, refl, refl)

not-not : (b : Bool) → IsFalse (not b) → IsTrue b
not-not true h = refl
not-not false h = absurd (true≢false h)

not-either : (a b : Bool) → IsFalse (a || b) → IsFalse a × IsFalse b
not-either true b h = absurd (true≢false h)
not-either false b h = (refl, h)

not-both : (a b : Bool) → IsFalse (a && b) → IsTrue a → IsFalse b
not-both true b h k = h
not-both false b h k = not_true k

count-codes : (known : NamedTable) (before : List Letters) (ds : List Field) → length (variable_codes known before ds) ≡ length ds
count-codes known before [] = refl
count-codes known before (d ∷ ds) = let e = count-codes known (before ++ (d.0 ∷ [])) ds in omega (arith, e)

declaration-none : (known : NamedTable) (is_port : Bool) (before : List Letters) (d : Field) → declaration_code known is_port before d ≡ None
    → IsType known.shapes (type_number known d.1) × IsFalse (is_some (keyword_of d.0) || (is_port && not (may_be known.shapes is_inport_shape (Some (type_number known d.1)))))
declaration-none known is_port before d e =
    let c = first-none (not (is_type known.shapes (type_number known d.1))) (is_among d.0 before) (is_some (keyword_of d.0) || (is_port && not (may_be known.shapes is_inport_shape (Some (type_number known d.1))))) false e in
    (not-not _ c.0, c.2)

-- each declaration without a fault is of a type that is there
variables-known : (known : NamedTable) (before : List Letters) (ds : List Field) → IsTrue (are_none (variable_codes known before ds)) → (t : ℕ) → IsIn t (map (λ (d : Field). type_number known d.1) ds) → IsType known.shapes t
variables-known known before [] h t i = absurd i
variables-known known before (d ∷ ds) h t (inl e) =
    let c = none-in (variable_codes known before (d ∷ ds)) h (declaration_code known false before d) (inl refl) in
    subst (IsType known.shapes) (sym e) (declaration-none known false before d c).0
variables-known known before (d ∷ ds) h t (inr i) = variables-known known (before ++ (d.0 ∷ [])) ds (and-both (not (is_some (declaration_code known false before d))) _ h).1 t i

inport-is : (s : Shape) → IsTrue (is_inport_shape s) → (message : ℕ) × (declared : List Fact) × (s ≡ inport message declared)
inport-is (inport message declared) h = (message, declared, refl)
inport-is s h = not_true h

at_most-of : (a b : ℕ) → IsFalse (nat_lt a b) → b ≤ a
at_most-of a b h =
    let k : a < b → ⊥ = λ l. true≢false (sym ((below-decides a b).1 l) ∙ h) in
    omega (arith, k)

name-none : (known : NamedTable) (before : List Letters) (name : Letters) (p : model.Process) → name_code known before name p ≡ None → IsFalse (is_among name before) × IsFalse (is_too_large known p)
name-none known before name p e = by (is_among name before) (is_too_large known p) e
  where
    by : (a b : Bool) → cond a (Some twice) (cond b (Some too_many) None) ≡ None → IsFalse a × IsFalse b
    by true b e = let k : ⊥ = cc e in absurd k
    by false true e = let k : ⊥ = cc e in absurd k
    by false false e = (refl, refl)

-- what an empty list of refusals says of a process
pub record IsAccepted (known : NamedTable) (all : List ProcessText) (p : ProcessText) : Type 0 where
  pub before : List Letters
  pub none : IsTrue (are_none (process_codes known all before p))
  pub reached : (place : ℕ) → place < length (process_nodes (process_meaning known all p)) → IsReached (flow_of known.shapes (process_meaning known all p)) (node place)

module _ (known : NamedTable) (all : List ProcessText) where
  count-statements : (p : ProcessText) → length (statement_codes (scope_of known all p) p.body) ≡ length (in_body false p.body)
  count-statements p = length-map _ (in_body false p.body)

  -- all nodes are reached where no mark is set
  all-reached : {P : Type 0} (p : model.Process) (places : List P) (marks : List Bool) → length places ≡ numbers_of_block p.body → MarksUnreached known.shapes p marks
      → at_places places (map (λ m. cond m (Some unreachable) None) marks) ≡ [] → (place : ℕ) → place < length (process_nodes p) → IsReached (flow_of known.shapes p) (node place)
  all-reached p places marks l m e place h =
      let n = has-some (slice_get (process_nodes p) place) (below-type (process_nodes p) place h) in
      let r = process_numbers-range p n.0 (got-IsIn (process_nodes p) place n.0 n.1) in
      let low : 1 ≤ n.0.number = r.0 in
      let high : n.0.number ≤ numbers_of_block p.body = r.1 in
      let c : length marks ≡ numbers_of_block p.body = m.each in
      let d : n.0.number ≡ suc (n.0.number - 1) = omega arith in
      m.others (n.0.number - 1) place n.0 (unmarked places marks (omega arith) e (n.0.number - 1) (omega arith)) n.1 d

  accepted-by : {P : Type 0} (before : List Letters) (p : ProcessText) (places : Places P) → length (all_places places) ≡ length (process_codes known all before p) → length places.statements ≡ numbers_of_block (process_meaning known all p).body
      → RefusesProcess known all before p places [] → IsAccepted known all p
  accepted-by before p places l m h = by (are_none (process_codes known all before p)) refl h
    where
      by : (b : Bool) → are_none (process_codes known all before p) ≡ b → RefusesBy b known.shapes (process_meaning known all p) (process_codes known all before p) places [] → IsAccepted known all p
      by true e r = record { before = before; none = e; reached = all-reached (process_meaning known all p) places.statements r.0 m r.1 (sym r.2) }
      by false e r = absurd (true≢false (sym (none-at (all_places places) (process_codes known all before p) l (sym r)) ∙ e))

  -- the places are as many as the codes
  places-count : {P : Type 0} (before : List Letters) (p : ProcessText) (places : Places P) → IsPlaced known all p places → length (all_places places) ≡ length (process_codes known all before p)
  places-count before p places h =
      let a : length (places.declared ++ places.statements) ≡ length places.declared + length places.statements = length-append places.declared places.statements in
      let b : length (variable_codes known (p.port.0 ∷ []) p.variables ++ statement_codes (scope_of known all p) p.body) ≡ length (variable_codes known (p.port.0 ∷ []) p.variables) + length (statement_codes (scope_of known all p) p.body) =
      length-append (variable_codes known (p.port.0 ∷ []) p.variables) (statement_codes (scope_of known all p) p.body) in
      let c : length (variable_codes known (p.port.0 ∷ []) p.variables) ≡ length p.variables = count-codes known (p.port.0 ∷ []) p.variables in
      let d : length (statement_codes (scope_of known all p) p.body) ≡ numbers_of_block (process_meaning known all p).body = count-statements p ∙ body-count (scope_of known all p) p.body in
      let e : length places.declared ≡ suc (length p.variables) = h.0 in
      let f : length places.statements ≡ numbers_of_block (process_meaning known all p).body = h.1 in
      omega arith

  -- every process is accepted, and no two have one name
  each-accepted : {P : Type 0} (before : List Letters) (ps : List ProcessText) (places : List (Places P)) → ArePlaced known all ps places → RefusesProcesses known all before ps places []
      → (p : ProcessText) → IsIn p ps → IsAccepted known all p
  each-accepted before [] places l h p i = absurd i
  each-accepted before (q ∷ ps) [] l h p i = absurd h
  each-accepted before (q ∷ ps) (x ∷ places) l h p (inl e) =
      let n = none-both h.0 h.1 h.4 in
      subst (IsAccepted known all) (sym e) (accepted-by before q x (places-count before q x l.0) l.0.1 (subst (λ rs. RefusesProcess known all before q x rs) n.0 h.2))
  each-accepted before (q ∷ ps) (x ∷ places) l h p (inr j) =
      let n = none-both h.0 h.1 h.4 in
      each-accepted (before ++ (q.name ∷ [])) ps places l.1 (subst (λ rs. RefusesProcesses known all (before ++ (q.name ∷ [])) ps places rs) n.1 h.3) p j

  name-fresh : (before : List Letters) (p : ProcessText) → IsTrue (are_none (process_codes known all before p)) → IsFalse (is_among p.name before)
  name-fresh before p h = (name-none known before p.name (process_meaning known all p) (none-in (process_codes known all before p) h (name_code known before p.name (process_meaning known all p)) (inl refl))).0

  -- names that are none of those before, and differ
  each-fresh : {P : Type 0} (before : List Letters) (ps : List ProcessText) (places : List (Places P)) → ArePlaced known all ps places → RefusesProcesses known all before ps places []
      → Differ (map (λ (q : ProcessText). q.name) ps) × ((n : Letters) → IsIn n (map (λ (q : ProcessText). q.name) ps) → IsIn n before → ⊥)
  each-fresh before [] places l h = (tt, λ n i j. absurd i)
  each-fresh before (q ∷ ps) [] l h = absurd h
  each-fresh before (q ∷ ps) (x ∷ places) l h =
      let n = none-both h.0 h.1 h.4 in
      let r = each-fresh (before ++ (q.name ∷ [])) ps places l.1 (subst (λ rs. RefusesProcesses known all (before ++ (q.name ∷ [])) ps places rs) n.1 h.3) in
      let c = none-codes before q x (places-count before q x l.0) (subst (λ rs. RefusesProcess known all before q x rs) n.0 h.2) in (
        (λ i. r.1 q.name i (in-append_right q.name before (q.name ∷ []) (inl refl)), r.0),
        λ m i j. later before q ps m c (r.1 m) i j,
      )
    where
      none-codes : {P : Type 0} (before : List Letters) (p : ProcessText) (places : Places P) → length (all_places places) ≡ length (process_codes known all before p) → RefusesProcess known all before p places [] → IsTrue (are_none (process_codes known all before p))
      none-codes before p places l h = by (are_none (process_codes known all before p)) refl h
        where
          by : (b : Bool) → are_none (process_codes known all before p) ≡ b → RefusesBy b known.shapes (process_meaning known all p) (process_codes known all before p) places [] → IsTrue (are_none (process_codes known all before p))
          by true e r = e
          by false e r = none-at (all_places places) (process_codes known all before p) l (sym r)

      later : (before : List Letters) (q : ProcessText) (ps : List ProcessText) (m : Letters) → IsTrue (are_none (process_codes known all before q)) → (IsIn m (map (λ (q : ProcessText). q.name) ps) → IsIn m (before ++ (q.name ∷ [])) → ⊥)
          → IsIn m (q.name ∷ map (λ (q : ProcessText). q.name) ps) → IsIn m before → ⊥
      later before q ps m c r (inl e) j = true≢false (sym ((member-decides bytes_eq bytes_eq-Decides q.name before).1 (subst (λ n. IsIn n before) e j)) ∙ name-fresh before q c)
      later before q ps m c r (inr i) j = r i (in-append_left m before (q.name ∷ []) j)

  -- the port of an accepted process
  port-known : (p : ProcessText) → IsAccepted known all p → IsType known.shapes (type_number known p.port.1) × ((message : ℕ) × (declared : List Fact) × HasShape known.shapes (type_number known p.port.1) (inport message declared))
  port-known p a =
      let c = declaration-none known true [] p.port (none-in (process_codes known all a.before p) a.none (declaration_code known true [] p.port) (inr (inl refl))) in
      let m = not-twice-false _ (not-either (is_some (keyword_of p.port.0)) _ c.1).1 in
      (c.0, by (slice_get known.shapes (type_number known p.port.1)) refl c.0 m)
    where
      not-twice-false : (b : Bool) → IsFalse (not b) → IsTrue b
      not-twice-false true h = refl
      not-twice-false false h = absurd (true≢false h)

      by : (o : Option Shape) → slice_get known.shapes (type_number known p.port.1) ≡ o → IsTrue (is_some o) → IsTrue (map_or true is_inport_shape o) → (message : ℕ) × (declared : List Fact) × HasShape known.shapes (type_number known p.port.1) (inport message declared)
      by None e h m = not_true h
      by (Some s) e h m = let k = inport-is s m in (k.0, k.1, e ∙ ap Some k.2)

  module _ (well : IsWellNamed known) (accepted : (p : ProcessText) → IsIn p all → IsAccepted known all p) where
    port-of : (n : ℕ) → port_type (map (process_meaning known all) all) n ≡ slice_get (map (λ (q : ProcessText). type_number known q.port.1) all) n
    port-of n =
        ap (option_and_then (λ (p : model.Process). slice_get p.variables 0)) (slice_get-map (process_meaning known all) all n)
        ∙ (by (slice_get all n) ∙ sym (slice_get-map (λ (q : ProcessText). type_number known q.port.1) all n))
      where
        by : (o : Option ProcessText) → option_and_then (λ (p : model.Process). slice_get p.variables 0) (option_map (process_meaning known all) o) ≡ option_map (λ (q : ProcessText). type_number known q.port.1) o
        by None = refl
        by (Some p) = refl

    settled : (p : ProcessText) → IsAccepted known all p → IsSettled (scope_of known all p) (map (process_meaning known all) all)
    settled p a = record {
      well = well;
      same = length-map (λ (d : Field). d.0) (declarations p) ∙ sym (length-map (λ (d : Field). type_number known d.1) (declarations p));
      known = declared;
      ports_are = port-of;
      ports_known = λ t i. let h = in-map_from (λ (q : ProcessText). type_number known q.port.1) t all i in subst (IsType known.shapes) (sym h.2) (port-known h.0 (accepted h.0 h.1)).0;
      each_port = length-map (λ (q : ProcessText). q.name) all ∙ sym (length-map (λ (q : ProcessText). type_number known q.port.1) all);
    }
      where
        codes : IsTrue (are_none (variable_codes known (p.port.0 ∷ []) p.variables))
        codes = in-every (λ (c : Option Code). not (is_some c)) (variable_codes known (p.port.0 ∷ []) p.variables)
            (λ c i. every-in (λ (c : Option Code). not (is_some c)) c (process_codes known all a.before p) a.none (inr (inr (in-append_left c (variable_codes known (p.port.0 ∷ []) p.variables) (statement_codes (scope_of known all p) p.body) i))))

        declared : (t : ℕ) → IsIn t (map (λ (d : Field). type_number known d.1) (declarations p)) → IsType known.shapes t
        declared t (inl e) = subst (IsType known.shapes) (sym e) (port-known p a).0
        declared t (inr i) = variables-known known (p.port.0 ∷ []) p.variables codes t i

    -- each statement of an accepted process is without a fault
    each-faultless : (p : ProcessText) → IsAccepted known all p → (x : Bool × Statement) → IsIn x (in_body false p.body) → IsFaultless (scope_of known all p) x.0 x.1
    each-faultless p a x i =
        faultless (scope_of known all p) x.0 x.1
        (none-in (process_codes known all a.before p) a.none _
        (inr (inr (in-append_right (statement_code (scope_of known all p) x.0 x.1) (variable_codes known (p.port.0 ∷ []) p.variables) (statement_codes (scope_of known all p) p.body)
        (in-map (λ (x : Bool × Statement). statement_code (scope_of known all p) x.0 x.1) x (in_body false p.body) i)))))

    -- what holds of the statements by their names holds of those by their numbers
    of-each : (p : ProcessText) → (Q : Bool → model.Statement → Type 0) → ((x : Bool × Statement) → IsIn x (in_body false p.body) → Q x.0 (statement_number (scope_of known all p) x.1)) → OfEachStatement (process_meaning known all p) Q
    of-each p Q h y i =
        let r = in-map_from (placed_number (scope_of known all p)) y (in_body false p.body) (subst (λ ys. IsIn y ys) (body-placed (scope_of known all p) false p.body) i) in
        subst (λ (z : Placed). Q z.in_loop z.statement) (sym r.2) (h r.0 r.1)

    process-typed : (p : ProcessText) → IsAccepted known all p → IsTypedProcess (length known.exceptions) known.shapes (map (process_meaning known all) all) (process_meaning known all p)
    process-typed p a = record {
      port = let h = port-known p a in (type_number known p.port.1, h.1.0, h.1.1, refl, h.1.2);
      variables_known = (settled p a).known;
      few_paths = at_most-of _ _ large.1;
      few_statements = at_most-of _ _ large.0;
      blocks = well-body s ps ok false p.body (each-faultless p a);
      arms = of-each p (λ l y. HasArms y) (λ x i. keeps-arms s ps ok x.0 (statement_number s x.1) (each-faultless p a x i).fits);
      handlers = of-each p (λ l y. HasHandlers y) (λ x i. keeps-handlers s ps ok x.0 (statement_number s x.1) (each-faultless p a x i).fits);
      handlers_differ = of-each p (λ l y. HasDifferentHandlers y) (λ x i. keeps-different s ps ok x.0 x.1 (each-faultless p a x i));
      handlers_known = of-each p (λ l y. HandlesKnown (length known.exceptions) y) (λ x i. keeps-known s ps ok x.0 (statement_number s x.1) (each-faultless p a x i).there);
      leaves = of-each p LeavesLoop (λ x i. keeps-leaves s ps ok x.0 (statement_number s x.1) (each-faultless p a x i).there);
      typed = λ n i. block-each right false (block_number s p.body) (of-each p (λ l y. OfForm right y) (λ x j. statement-right s ps ok x.0 x.1 (each-faultless p a x j))) n.form
          (subst (λ fs. IsIn n.form fs) (process_forms (process_meaning known all p)) (in-map (λ (n : Node). n.form) n (process_nodes (process_meaning known all p)) i));
      reached = a.reached;
    }
      where
        s : Scope
        s = scope_of known all p

        ps : List model.Process
        ps = map (process_meaning known all) all

        ok : IsSettled s ps
        ok = settled p a

        right : model.Form → Type 0
        right f = IsTypedForm known.shapes s.types (length known.exceptions) ps f

        large : IsFalse (nat_lt greatest_statements (numbers_of_block (process_meaning known all p).body)) × IsFalse (nat_lt greatest_variable_paths (length (variable_paths all_parts known.shapes (process_meaning known all p).variables)))
        large = not-either _ _ (name-none known a.before p.name (process_meaning known all p) (none-in (process_codes known all a.before p) a.none (name_code known a.before p.name (process_meaning known all p)) (inl refl))).1

-- where names differ, the process `main` is the one with its name
main-at : (known : NamedTable) (ps : List ProcessText) → Differ (map (λ (q : ProcessText). q.name) ps) → IsTrue (any_pass (is_main known) ps)
    → slice_get (map (λ (q : ProcessText). type_number known q.port.1) ps) (place_of main_name (map (λ (q : ProcessText). q.name) ps)) ≡ Some main_start
main-at known [] d h = not_true h
main-at known (q ∷ ps) d h = by (bytes_eq main_name q.name) refl (or-either (is_main known q) (any_pass (is_main known) ps) h) (λ k. main-at known ps d.1 k)
  where
    -- a later main would have the first one's name
    named-main : (ps : List ProcessText) → IsTrue (any_pass (is_main known) ps) → IsIn main_name (map (λ (q : ProcessText). q.name) ps)
    named-main [] h = not_true h
    named-main (r ∷ ps) h = either (or-either (is_main known r) (any_pass (is_main known) ps) h) (λ k. named-main ps k)
      where
        either : IsTrue (is_main known r) ⊎ IsTrue (any_pass (is_main known) ps) → (IsTrue (any_pass (is_main known) ps) → IsIn main_name (map (λ (q : ProcessText). q.name) ps)) → IsIn main_name (map (λ (q : ProcessText). q.name) (r ∷ ps))
        either (inl k) again = inl (sym ((bytes_eq-Decides r.name main_name).0 (and-both (bytes_eq r.name main_name) _ k).0))
        either (inr k) again = inr (again k)

    by : (b : Bool) → bytes_eq main_name q.name ≡ b → IsTrue (is_main known q) ⊎ IsTrue (any_pass (is_main known) ps)
        → (IsTrue (any_pass (is_main known) ps) → slice_get (map (λ (q : ProcessText). type_number known q.port.1) ps) (place_of main_name (map (λ (q : ProcessText). q.name) ps)) ≡ Some main_start)
        → slice_get (map (λ (q : ProcessText). type_number known q.port.1) (q ∷ ps)) (cond b 0 (suc (place_of main_name (map (λ (q : ProcessText). q.name) ps)))) ≡ Some main_start
    by true e (inl k) again = ap Some ((numbers-decide (type_number known q.port.1) main_start).0 (and-both (bytes_eq q.name main_name) _ k).1)
    by true e (inr k) again = absurd (d.0 (subst (λ n. IsIn n (map (λ (q : ProcessText). q.name) ps)) ((bytes_eq-Decides main_name q.name).0 e) (named-main ps k)))
    by false e (inl k) again = absurd (true≢false (sym ((bytes_eq-Decides main_name q.name).1 (sym ((bytes_eq-Decides q.name main_name).0 (and-both (bytes_eq q.name main_name) _ k).0))) ∙ e))
    by false e (inr k) again = again k

main-there : {P : Type 0} (known : NamedTable) (all : List ProcessText) (nowhere : P) → main_refusals known all nowhere ≡ [] → IsTrue (any_pass (is_main known) all)
main-there {P} known all nowhere e = by (any_pass (is_main known) all) e
  where
    by : (b : Bool) → cond {A = List (Code × P)} b [] ((no_main, nowhere) ∷ []) ≡ [] → IsTrue b
    by true e = refl
    by false e = cons-not_nil _ _ e

pub unrefused-typed : {P : Type 0} (known : NamedTable) (modules : List Module) (places : List (Places P)) (nowhere : P) → IsWellNamed known → ArePlaced known (processes_in modules) (processes_in modules) places
    → AreRefusals known modules places nowhere [] → IsTypedProgram (length known.exceptions) known.shapes (meaning known modules) (main_number modules)
unrefused-typed {P} known modules places nowhere well placed h =
    record {
      types = well.well_formed;
      modules = λ p i. let r = in-map_from (process_meaning known all) p all i in subst (IsTypedProcess (length known.exceptions) known.shapes (meaning known modules)) (sym r.2) (process-typed known all well accepted r.0 (accepted r.0 r.1));
      begins = port-of known all well accepted (main_number modules) ∙ main-at known all (each-fresh known all [] all places placed found).0 (main-there known all nowhere split.1);
    }
  where
    all : List ProcessText
    all = processes_in modules

    split : (h.0 ≡ []) × (main_refusals known all nowhere ≡ [])
    split = none-both h.0 (main_refusals known all nowhere) h.2

    found : RefusesProcesses known all [] all places []
    found = subst (λ rs. RefusesProcesses known all [] all places rs) split.0 h.1

    accepted : (p : ProcessText) → IsIn p all → IsAccepted known all p
    accepted = each-accepted known all [] all places placed found

-- the marks of a process are one list
marks-equal : (xs ys : List Bool) → length xs ≡ length ys → ((i : ℕ) → slice_get xs i ≡ Some true → slice_get ys i ≡ Some false → ⊥) → ((i : ℕ) → slice_get xs i ≡ Some false → slice_get ys i ≡ Some true → ⊥) → xs ≡ ys
marks-equal [] [] l f g = refl
marks-equal [] (y ∷ ys) l f g = absurd (omega arith)
marks-equal (x ∷ xs) [] l f g = absurd (omega arith)
marks-equal (true ∷ xs) (true ∷ ys) l f g = ap (true ∷◌) (marks-equal xs ys (omega arith) (λ i. f (suc i)) (λ i. g (suc i)))
marks-equal (true ∷ xs) (false ∷ ys) l f g = absurd (f 0 refl refl)
marks-equal (false ∷ xs) (true ∷ ys) l f g = absurd (g 0 refl refl)
marks-equal (false ∷ xs) (false ∷ ys) l f g = ap (false ∷◌) (marks-equal xs ys (omega arith) (λ i. f (suc i)) (λ i. g (suc i)))

pub marks-one : (table : TypeTable) (p : model.Process) (xs ys : List Bool) → MarksUnreached table p xs → MarksUnreached table p ys → xs ≡ ys
marks-one table p xs ys m n = marks-equal xs ys (m.each ∙ sym n.each) (λ i e f. clash xs ys m n i e f) (λ i e f. clash ys xs n m i f e)
  where
    clash : (xs ys : List Bool) → MarksUnreached table p xs → MarksUnreached table p ys → (i : ℕ) → slice_get xs i ≡ Some true → slice_get ys i ≡ Some false → ⊥
    clash xs ys m n i e f = let u = m.marked i e in u.lacks (n.others i u.place u.stands.0 f u.stands.1 u.stands.2)

by-one : {P : Type 0} (b : Bool) (table : TypeTable) (p : model.Process) (codes : List (Option Code)) (places : Places P) (rs ss : List (Code × P)) → RefusesBy b table p codes places rs → RefusesBy b table p codes places ss → rs ≡ ss
by-one true table p codes places rs ss h k =
    h.2 ∙ (ap (λ marks. at_places places.statements (map (λ m. cond m (Some unreachable) None) marks)) (marks-one table p h.0 k.0 h.1 k.1) ∙ sym k.2)
by-one false table p codes places rs ss h k = h ∙ sym k

processes-one : {P : Type 0} (known : NamedTable) (all : List ProcessText) (before : List Letters) (ps : List ProcessText) (places : List (Places P)) (rs ss : List (Code × P))
    → RefusesProcesses known all before ps places rs → RefusesProcesses known all before ps places ss → rs ≡ ss
processes-one known all before [] places rs ss h k = h ∙ sym k
processes-one known all before (p ∷ ps) [] rs ss h k = absurd h
processes-one known all before (p ∷ ps) (x ∷ places) rs ss h k =
    h.4 ∙ (ap₂ (λ a b. a ++ b) (by-one (are_none (process_codes known all before p)) known.shapes (process_meaning known all p) (process_codes known all before p) x h.0 k.0 h.2 k.2)
    (processes-one known all (before ++ (p.name ∷ [])) ps places h.1 k.1 h.3 k.3) ∙ sym k.4)

pub refusals-one : {P : Type 0} (known : NamedTable) (modules : List Module) (places : List (Places P)) (nowhere : P) (rs ss : List (Code × P)) → AreRefusals known modules places nowhere rs → AreRefusals known modules places nowhere ss → rs ≡ ss
refusals-one known modules places nowhere rs ss h k =
    h.2 ∙ (ap (λ found. found ++ main_refusals known (processes_in modules) nowhere) (processes-one known (processes_in modules) [] (processes_in modules) places h.0 k.0 h.1 k.1) ∙ sym k.2)
