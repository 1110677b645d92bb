-- Modules one by one: their processes, places and refusals.
use Rattle.std.proofs.Common.{◌≡◌, ℕ, zero, suc, ◌+◌, ◌<◌, ◌≤◌, ◌^◌, List, [], ◌∷◌, ◌++◌, map, take, drop, get_or, length, Bool, true, false, cond, ◌||◌, ◌&&◌, ◌⊎◌, inl, inr, nat_eq, Option, Some, None, Vec, Global, length-append, refl, sym, ap, ap₂, subst, ◌∙◌, arith, append_assoc}
use Rattle.std.specs.Str.{bytes_eq}
use Rattle.std.proofs.lemmas.List.{map-append, length-map}
use Rattle.herm_base.specs.declared.word.Name.{Name}
use Rattle.herm_model.specs.Lists.{IsIn, any_pass}
use Rattle.herm_model.proofs.Lists.{in-append_cases}
use Rattle.herm_model.specs.Statements.{Process as model, numbers_of_block}
use Rattle.herm_model.specs.TypedPrograms.{main_start, IsTypedProgram}
use Rattle.herm_syntax.specs.Trees.{Letters}
use Rattle.herm_syntax.specs.View.{name_view, field_view, stmts_view, module_view}
use Rattle.herm_syntax.specs.declared.definitions.DefItem.{DefItem}
use Rattle.herm_syntax.specs.declared.definitions.Field.{Field}
use Rattle.herm_syntax.specs.declared.modules.Module.{Module}
use Rattle.herm_syntax.specs.declared.modules.Module.TheVariants.{Definitions, Process}
use Rattle.herm_syntax.specs.declared.statements.Stmt.{Stmt}
use Rattle.herm_meaning.specs.Names.{NamedTable, part_count, IsWellNamed}
use Rattle.herm_naming.specs.Numbers.{Scope, type_number}
use Rattle.herm_naming.specs.Meaning.{block_number, ProcessText, processes_in, process_in, scope_of, process_meaning, meaning, main_name, main_number}
use Rattle.herm_naming.specs.StatementFaults.{Code, no_main, name_code, declaration_code, variable_codes, statement_codes, process_codes}
use Rattle.herm_naming.specs.RefusalsOfNames.{Places, are_none, is_main, RefusesBy, RefusesProcess, RefusesProcesses, IsPlaced, ArePlaced}
use Rattle.herm_typed.specs.View.{typed_process_view}
use Rattle.herm_typed.specs.declared.statements.TypedProcess.{TypedProcess}
use Rattle.herm_numbers.specs.Faults.{Place, name_fault_view, body_spans}
use Rattle.herm_numbers.specs.declared.fault.NameFault.{NameFault}
use Rattle.herm_numbers.specs.declared.known.Known.{Known}
use Rattle.herm_types.specs.Table as kept
use Rattle.herm_numbers.specs.Counts.{IsCounted}
use Rattle.herm_numbers.specs.View.{IsSized}
use Rattle.herm_resolve.specs.Judged.{IsReady, IsKnownOf, AreJudged, AddsRefusals, scope_within, process_within, codes_within, is_main_among}
use Rattle.herm_typed.specs.Beside.{KnowsTypes, KnowTypes}
use Rattle.herm_resolve.specs.Kept.{of_processes, names_of, names_written, numbers_of, numbers_written}
use Rattle.herm_resolve.proofs.Refusing.{empty}
use Rattle.herm_resolve.specs.Refused.{places_of, places_from, nowhere, AreRefusalsOf}

append-nil : {X : Type 0} (xs : List X) → xs ++ [] ≡ xs
append-nil [] = refl
append-nil (x ∷ xs) = ap (x ∷◌) (append-nil xs)

take-next : {X : Type 0} (xs : List X) (i : ℕ) (d : X) → i < length xs → take (i + 1) xs ≡ take i xs ++ (get_or xs i d ∷ [])
take-next [] i d h = absurd (omega (arith, h))
take-next (x ∷ xs) zero d h = refl
take-next (x ∷ xs) (suc i) d h =
    let e : suc i + 1 ≡ suc (i + 1) = omega arith in
    ap (λ n. take n (x ∷ xs)) e ∙ ap (x ∷◌) (take-next xs i d (omega (arith, h)))

take-length : {X : Type 0} (xs : List X) (i : ℕ) → i ≤ length xs → length (take i xs) ≡ i
take-length xs zero h = refl
take-length [] (suc i) h = absurd (omega (arith, h))
take-length (x ∷ xs) (suc i) h = let e = take-length xs i (omega (arith, h)) in omega (arith, e)

take-all : {X : Type 0} (xs : List X) → take (length xs) xs ≡ xs
take-all [] = refl
take-all (x ∷ xs) = ap (x ∷◌) (take-all xs)

take-drop : {X : Type 0} (xs : List X) (i : ℕ) → take i xs ++ drop i xs ≡ xs
take-drop xs zero = refl
take-drop [] (suc i) = refl
take-drop (x ∷ xs) (suc i) = ap (x ∷◌) (take-drop xs i)

take-front : {X : Type 0} (xs ys : List X) → take (length xs) (xs ++ ys) ≡ xs
take-front [] ys = refl
take-front (x ∷ xs) ys = ap (x ∷◌) (take-front xs ys)

-- the processes of modules and their places, in two parts
texts-append : (xs ys : List Module) → processes_in (map module_view (xs ++ ys)) ≡ processes_in (map module_view xs) ++ processes_in (map module_view ys)
texts-append [] ys = refl
texts-append (Definitions name items ∷ xs) ys = texts-append xs ys
texts-append (Process name port vars body ∷ xs) ys = ap (λ ps. process_in (module_view (Process name port vars body)) ++ ps) (texts-append xs ys)

places-append : (n : ℕ) (xs ys : List Module) → places_from n (xs ++ ys) ≡ places_from n xs ++ places_from (n + length xs) ys
places-append n [] ys = ap (λ k. places_from k ys) (let e : n ≡ n + 0 = omega arith in e)
places-append n (Definitions name items ∷ xs) ys = places-append (suc n) xs ys ∙ ap (λ k. places_from (suc n) xs ++ places_from k ys) (let e : suc n + length xs ≡ n + suc (length xs) = omega arith in e)
places-append n (Process name port vars body ∷ xs) ys =
    ap (places_of n name port vars.items body.items ∷◌) (places-append (suc n) xs ys ∙ ap (λ k. places_from (suc n) xs ++ places_from k ys) (let e : suc n + length xs ≡ n + suc (length xs) = omega arith in e))

kept-append : {X : Type 0} (f : Name → Field → List Field → List Stmt → X) (xs ys : List Module) → of_processes f (xs ++ ys) ≡ of_processes f xs ++ of_processes f ys
kept-append f [] ys = refl
kept-append f (Definitions name items ∷ xs) ys = kept-append f xs ys
kept-append f (Process name port vars body ∷ xs) ys = ap (f name port vars.items body.items ∷◌) (kept-append f xs ys)

pub few_texts : (xs : List Module) → length (processes_in (map module_view xs)) ≤ length xs
few_texts [] = omega arith
few_texts (Definitions name items ∷ xs) = let e = few_texts xs in omega (arith, e)
few_texts (Process name port vars body ∷ xs) = let e = few_texts xs in omega (arith, e)

-- no fault behind is none before
none-before : (before after : List NameFault) (own : List (Code × Place)) → map name_fault_view after ≡ map name_fault_view before ++ own → after ≡ [] → before ≡ []
none-before before after own e none =
    let a = ap length (ap (map name_fault_view) none) in
    let b = length-map before name_fault_view in
    let c = ap length e in
    let d = length-append (map name_fault_view before) own in
    empty before (omega (arith, a, b, c, d))

-- one process more
placed-more : (T : NamedTable) (all ps : List ProcessText) (places : List (Places Place)) (q : ProcessText) (x : Places Place) → ArePlaced T all ps places → IsPlaced T all q x → ArePlaced T all (ps ++ (q ∷ [])) (places ++ (x ∷ []))
placed-more T all [] [] q x h k = (k, tt)
placed-more T all [] (y ∷ places) q x h k = absurd h
placed-more T all (p ∷ ps) [] q x h k = absurd h
placed-more T all (p ∷ ps) (y ∷ places) q x h k = (h.0, placed-more T all ps places q x h.1 k)

refuses-more : (T : NamedTable) (all : List ProcessText) (before : List Letters) (ps : List ProcessText) (places : List (Places Place)) (q : ProcessText) (x : Places Place) (rs own : List (Code × Place))
    → ArePlaced T all ps places → RefusesProcesses T all before ps places rs → RefusesProcess T all (before ++ map (λ (p : ProcessText). p.name) ps) q x own
    → RefusesProcesses T all before (ps ++ (q ∷ [])) (places ++ (x ∷ [])) (rs ++ own)
refuses-more T all before [] [] q x rs own l h k =
    (own, [], subst (λ names. RefusesProcess T all names q x own) (append-nil before) k, refl, ap (λ xs. xs ++ own) h ∙ sym (append-nil own))
refuses-more T all before [] (y ∷ places) q x rs own l h k = absurd l
refuses-more T all before (p ∷ ps) [] q x rs own l h k = absurd l
refuses-more T all before (p ∷ ps) (y ∷ places) q x rs own l h k = (
  h.0,
  h.1 ++ own,
  h.2,
  refuses-more T all (before ++ (p.name ∷ [])) ps places q x h.1 own l.1 h.3 (subst (λ names. RefusesProcess T all names q x own) (sym (append_assoc before (p.name ∷ []) (map (λ (p : ProcessText). p.name) ps))) k),
  ap (λ xs. xs ++ own) h.4 ∙ append_assoc h.0 h.1 own,
)

-- a process as it is written
abbrev text_of : Name → Field → List Field → List Stmt → ProcessText
text_of name port vars body = record { name = name_view name; port = field_view port; variables = map field_view vars; body = stmts_view body }

names-map : (vars : List Field) → map (λ d. name_view d.name) vars ≡ map (λ (d : Letters × Letters). d.0) (map field_view vars)
names-map [] = refl
names-map (v ∷ vars) = ap (name_view v.name ∷◌) (names-map vars)

types-map : (T : NamedTable) (vars : List Field) → map (λ d. type_number T (name_view d.of)) vars ≡ map (λ (d : Letters × Letters). type_number T d.1) (map field_view vars)
types-map T [] = refl
types-map T (v ∷ vars) = ap (type_number T (name_view v.of) ∷◌) (types-map T vars)

abbrev scope-by : NamedTable → List Letters → List ℕ → List Letters → List ℕ → Scope
scope-by known vs ts ps ms = record { known = known; variables = vs; types = ts; processes = ps; ports = ms }

scopes-same : (T : NamedTable) (vs ws : List Letters) (ts us : List ℕ) (ps qs : List Letters) (ms ns : List ℕ) → vs ≡ ws → ts ≡ us → ps ≡ qs → ms ≡ ns → scope-by T vs ts ps ms ≡ scope-by T ws us qs ns
scopes-same T vs ws ts us ps qs ms ns c d e f = ap₂ (λ (x : List Letters) (y : List ℕ). scope-by T x y ps ms) c d ∙ ap₂ (scope-by T ws us) e f

abbrev texts : List Module → List ProcessText
texts ms = processes_in (map module_view ms)

abbrev process-by : Scope → List Stmt → model
process-by s body = record { variables = s.types; body = block_number s (stmts_view body) }

abbrev codes-by : NamedTable → Scope → List Letters → Name → Field → List Field → List Stmt → List (Option Code)
codes-by T s before name port vars body =
    name_code T before (name_view name) (process-by s body)
    ∷ declaration_code T true [] (field_view port)
    ∷ (variable_codes T (name_view port.name ∷ []) (map field_view vars) ++ statement_codes s (stmts_view body))

module _ (k : Known) (modules : List Module) (of : IsKnownOf k modules) where
  scope-same : (name : Name) (port : Field) (vars : List Field) (body : List Stmt) → scope_within k port vars ≡ scope_of k.types.now (texts modules) (text_of name port vars body)
  scope-same name port vars body = scopes-same k.types.now _ _ _ _ _ _ _ _ (ap (name_view port.name ∷◌) (names-map vars)) (ap (type_number k.types.now (name_view port.of) ∷◌) (types-map k.types.now vars)) of.names of.ports

  meaning-same : (name : Name) (port : Field) (vars : List Field) (body : List Stmt) → process_within k port vars body ≡ process_meaning k.types.now (texts modules) (text_of name port vars body)
  meaning-same name port vars body = ap (λ s. process-by s body) (scope-same name port vars body)

  codes-same : (number : ℕ) (before : List Letters) (name : Name) (port : Field) (vars : List Field) (body : List Stmt) → take number k.processes ≡ before
      → codes_within k number name port vars body ≡ process_codes k.types.now (texts modules) before (text_of name port vars body)
  codes-same number before name port vars body e =
      ap (λ b. codes-by k.types.now (scope_within k port vars) b name port vars body) e
      ∙ ap (λ s. codes-by k.types.now s before name port vars body) (scope-same name port vars body)

  -- the names of the processes that are found
  names-done : (i : ℕ) (found : List TypedProcess) → map typed_process_view found ≡ map (process_meaning k.types.now (texts modules)) (texts (take i modules)) → take (length found) k.processes ≡ map (λ (q : ProcessText). q.name) (texts (take i modules))
  names-done i found e =
      let n : length found ≡ length (map (λ (q : ProcessText). q.name) (texts (take i modules))) = sym (length-map found typed_process_view) ∙ (ap length e ∙ (length-map (texts (take i modules)) (process_meaning k.types.now (texts modules)) ∙ sym (length-map (texts (take i modules)) (λ (q : ProcessText). q.name)))) in
      let s : (texts modules) ≡ texts (take i modules) ++ processes_in (map module_view (drop i modules)) = ap (λ ms. processes_in (map module_view ms)) (sym (take-drop modules i)) ∙ texts-append (take i modules) (drop i modules) in
      ap₂ (λ (m : ℕ) (names : List Letters). take m names) n (of.names ∙ (ap (map (λ (q : ProcessText). q.name)) s ∙ map-append (λ (q : ProcessText). q.name) (texts (take i modules)) (processes_in (map module_view (drop i modules)))))
      ∙ take-front (map (λ (q : ProcessText). q.name) (texts (take i modules))) _

  pub none_judged : AreJudged k modules 0 [] []
  none_judged = record { named = refl; numbered = refl; of = λ none p i. absurd i; processes = refl; placed = tt; refusals = refl }

  -- fewer are found than there are processes
  pub number_within : (i : ℕ) (found : List TypedProcess) (faults : List NameFault) → AreJudged k modules i found faults → length found ≤ length k.processes
  number_within i found faults j =
      let n = sym (length-map found typed_process_view) ∙ (ap length j.processes ∙ length-map (texts (take i modules)) (process_meaning k.types.now (texts modules))) in
      let s = ap length (ap (λ ms. processes_in (map module_view ms)) (sym (take-drop modules i)) ∙ texts-append (take i modules) (drop i modules)) in
      let a = length-append (texts (take i modules)) (processes_in (map module_view (drop i modules))) in
      let c = ap length of.names ∙ length-map (texts modules) (λ (q : ProcessText). q.name) in
      omega (arith, n, s, a, c)

  -- one module more
  module _ (i : ℕ) (h : i < length modules) (found : List TypedProcess) (faults : List NameFault) (j : AreJudged k modules i found faults) where
    next : (m d : Module) → get_or modules i d ≡ m → take (i + 1) modules ≡ take i modules ++ (m ∷ [])
    next m d e = take-next modules i d h ∙ ap (λ m. take i modules ++ (m ∷ [])) e

    texts-next : (m d : Module) → get_or modules i d ≡ m → texts (take (i + 1) modules) ≡ texts (take i modules) ++ processes_in (map module_view (m ∷ []))
    texts-next m d e = ap (λ ms. processes_in (map module_view ms)) (next m d e) ∙ texts-append (take i modules) (m ∷ [])

    places-next : (m d : Module) → get_or modules i d ≡ m → places_from 0 (take (i + 1) modules) ≡ places_from 0 (take i modules) ++ places_from i (m ∷ [])
    places-next m d e =
        ap (places_from 0) (next m d e) ∙ (places-append 0 (take i modules) (m ∷ [])
        ∙ ap (λ n. places_from 0 (take i modules) ++ places_from n (m ∷ [])) (let l = take-length modules i (omega (arith, h)) in let e : 0 + length (take i modules) ≡ i = omega (arith, l) in e))

    kept-next : {X : Type 0} (f : Name → Field → List Field → List Stmt → X) (m d : Module) → get_or modules i d ≡ m → of_processes f (take (i + 1) modules) ≡ of_processes f (take i modules) ++ of_processes f (m ∷ [])
    kept-next f m d e = ap (of_processes f) (next m d e) ∙ kept-append f (take i modules) (m ∷ [])

    pub definitions_judged : (name : Name) (items : Vec DefItem Global) (d : Module) → get_or modules i d ≡ Definitions name items → AreJudged k modules (i + 1) found faults
    definitions_judged name items d e = record {
      named = j.named ∙ sym (kept names_written);
      numbered = j.numbered ∙ sym (kept numbers_written);
      of = j.of;
      processes = j.processes ∙ ap (map (process_meaning k.types.now (texts modules))) (sym ts);
      placed = subst (λ ps. ArePlaced k.types.now (texts modules) ps (places_from 0 (take (i + 1) modules))) (sym ts) (subst (λ xs. ArePlaced k.types.now (texts modules) (texts (take i modules)) xs) (sym xs) j.placed);
      refusals = subst (λ ps. RefusesProcesses k.types.now (texts modules) [] ps (places_from 0 (take (i + 1) modules)) (map name_fault_view faults)) (sym ts) (subst (λ xs. RefusesProcesses k.types.now (texts modules) [] (texts (take i modules)) xs (map name_fault_view faults)) (sym xs) j.refusals);
    }
      where
        ts : texts (take (i + 1) modules) ≡ texts (take i modules)
        ts = texts-next (Definitions name items) d e ∙ append-nil (texts (take i modules))

        xs : places_from 0 (take (i + 1) modules) ≡ places_from 0 (take i modules)
        xs = places-next (Definitions name items) d e ∙ append-nil (places_from 0 (take i modules))

        kept : {X : Type 0} (f : Name → Field → List Field → List Stmt → X) → of_processes f (take (i + 1) modules) ≡ of_processes f (take i modules)
        kept f = kept-next f (Definitions name items) d e ∙ append-nil (of_processes f (take i modules))

    pub process_judged : (name : Name) (port : Field) (vars : Vec Field Global) (body : Vec Stmt Global) (d : Module) → get_or modules i d ≡ Process name port vars body
        → (t : TypedProcess) (after : List NameFault) → names_of t ≡ names_written name port vars.items body.items → numbers_of t ≡ numbers_written name port vars.items body.items → (after ≡ [] → KnowsTypes k.types.now.shapes t)
        → typed_process_view t ≡ process_within k port vars.items body.items
        → AddsRefusals (map name_fault_view faults) (map name_fault_view after) k.types.now.shapes (process_within k port vars.items body.items) (codes_within k (length found) name port vars.items body.items) (places_of i name port vars.items body.items)
        → length (body_spans body.items) ≡ numbers_of_block (process_within k port vars.items body.items).body
        → AreJudged k modules (i + 1) (found ++ (t ∷ [])) after
    process_judged name port vars body d e t after ns us of v r l = record {
      named = map-append names_of found (t ∷ []) ∙ (ap₂ (λ a b. a ++ (b ∷ [])) j.named ns ∙ sym (kept-next names_written (Process name port vars body) d e));
      numbered = map-append numbers_of found (t ∷ []) ∙ (ap₂ (λ a b. a ++ (b ∷ [])) j.numbered us ∙ sym (kept-next numbers_written (Process name port vars body) d e));
      of = λ none p h. each p (none-before faults after r.own r.behind none) (of none) (in-append_cases p found (t ∷ []) h);
      processes = map-append typed_process_view found (t ∷ []) ∙ (ap₂ (λ a b. a ++ (b ∷ [])) j.processes (v ∙ m) ∙ (sym (map-append (process_meaning k.types.now (texts modules)) (texts (take i modules)) (q ∷ [])) ∙ ap (map (process_meaning k.types.now (texts modules))) (sym ts)));
      placed = subst (λ ps. ArePlaced k.types.now (texts modules) ps (places_from 0 (take (i + 1) modules))) (sym ts) (subst (λ xs. ArePlaced k.types.now (texts modules) (texts (take i modules) ++ (q ∷ [])) xs) (sym xs) (placed-more k.types.now (texts modules) (texts (take i modules)) (places_from 0 (take i modules)) q x j.placed placed));
      refusals = subst (λ ps. RefusesProcesses k.types.now (texts modules) [] ps (places_from 0 (take (i + 1) modules)) (map name_fault_view after)) (sym ts) (subst (λ xs. RefusesProcesses k.types.now (texts modules) [] (texts (take i modules) ++ (q ∷ [])) xs (map name_fault_view after)) (sym xs)
          (subst (λ rs. RefusesProcesses k.types.now (texts modules) [] (texts (take i modules) ++ (q ∷ [])) (places_from 0 (take i modules) ++ (x ∷ [])) rs) (sym r.behind)
          (refuses-more k.types.now (texts modules) [] (texts (take i modules)) (places_from 0 (take i modules)) q x (map name_fault_view faults) r.own j.placed j.refusals own)));
    }
      where
        each : (p : TypedProcess) → faults ≡ [] → KnowsTypes k.types.now.shapes t → IsIn p found ⊎ IsIn p (t ∷ []) → KnowsTypes k.types.now.shapes p
        each p none here (inl h) = j.of none p h
        each p none here (inr (inl h)) = subst (KnowsTypes k.types.now.shapes) (sym h) here
        each p none here (inr (inr h)) = absurd h

        q : ProcessText
        q = text_of name port vars.items body.items

        x : Places Place
        x = places_of i name port vars.items body.items

        ts : texts (take (i + 1) modules) ≡ texts (take i modules) ++ (q ∷ [])
        ts = texts-next (Process name port vars body) d e

        xs : places_from 0 (take (i + 1) modules) ≡ places_from 0 (take i modules) ++ (x ∷ [])
        xs = places-next (Process name port vars body) d e

        m : process_within k port vars.items body.items ≡ process_meaning k.types.now (texts modules) q
        m = meaning-same name port vars.items body.items

        placed : IsPlaced k.types.now (texts modules) q x
        placed = (ap suc (length-map vars.items _ ∙ sym (length-map vars.items field_view)), length-map (body_spans body.items) _ ∙ (l ∙ ap (λ (p : model). numbers_of_block p.body) m))

        own : RefusesProcess k.types.now (texts modules) (map (λ (p : ProcessText). p.name) (texts (take i modules))) q x r.own
        own =
            let cs = codes-same (length found) (map (λ (p : ProcessText). p.name) (texts (take i modules))) name port vars.items body.items (names-done i found j.processes) in
            subst (λ cs. RefusesBy (are_none cs) k.types.now.shapes (process_meaning k.types.now (texts modules) q) cs x r.own) cs
            (subst (λ p. RefusesBy (are_none (codes_within k (length found) name port vars.items body.items)) k.types.now.shapes p (codes_within k (length found) name port vars.items body.items) x r.own) m r.refused)

    -- the same for slices of the declarations and the body
    pub process_next : (name : Name) (port : Field) (vars : Vec Field Global) (body : Vec Stmt Global) (d : Module) → get_or modules i d ≡ Process name port vars body
        → (t : TypedProcess) (after : List NameFault) (number : ℕ) (vs : List Field) (bs : List Stmt) (news : List TypedProcess) → number ≡ length found → vs ≡ vars.items → bs ≡ body.items → news ≡ found ++ (t ∷ [])
        → names_of t ≡ names_written name port vs bs → numbers_of t ≡ numbers_written name port vs bs → (after ≡ [] → KnowsTypes k.types.now.shapes t)
        → typed_process_view t ≡ process_within k port vs bs
        → AddsRefusals (map name_fault_view faults) (map name_fault_view after) k.types.now.shapes (process_within k port vs bs) (codes_within k number name port vs bs) (places_of i name port vs bs)
        → length (body_spans bs) ≡ numbers_of_block (process_within k port vs bs).body
        → AreJudged k modules (i + 1) news after
    process_next name port vars body d e t after number vs bs news en ev eb es ns us of v r l =
        let adds : ℕ → List Field → List Stmt → Type 0 = λ n vs bs. AddsRefusals (map name_fault_view faults) (map name_fault_view after) k.types.now.shapes (process_within k port vs bs) (codes_within k n name port vs bs) (places_of i name port vs bs) in
        let r' : adds (length found) vars.items body.items = subst (adds (length found) vars.items) eb (subst (λ vs. adds (length found) vs bs) ev (subst (λ n. adds n vs bs) en r)) in
        subst (λ f. AreJudged k modules (i + 1) f after) (sym es)
        (process_judged name port vars body d e t after (ns ∙ ap₂ (names_written name port) ev eb) (us ∙ ap (numbers_written name port vs) eb) of (v ∙ ap₂ (process_within k port) ev eb) r' (ap (λ bs. length (body_spans bs)) (sym eb) ∙ (l ∙ ap₂ (λ vs bs. numbers_of_block (process_within k port vs bs).body) ev eb)))

  -- all modules
  module _ (found : List TypedProcess) (faults : List NameFault) (j : AreJudged k modules (length modules) found faults) where
    pub all_meant : map typed_process_view found ≡ meaning k.types.now (map module_view modules)
    all_meant = j.processes ∙ ap (λ ms. map (process_meaning k.types.now (texts modules)) (processes_in (map module_view ms))) (take-all modules)

    pub all_named : map names_of found ≡ of_processes names_written modules
    all_named = j.named ∙ ap (of_processes names_written) (take-all modules)

    pub all_numbered : map numbers_of found ≡ of_processes numbers_written modules
    all_numbered = j.numbered ∙ ap (of_processes numbers_written) (take-all modules)

    pub all_known : (after : List NameFault) (own : List (Code × Place)) → map name_fault_view after ≡ map name_fault_view faults ++ own → after ≡ [] → KnowTypes k.types.now.shapes found
    all_known after own e none = j.of (none-before faults after own e none)

    pub all_placed : ArePlaced k.types.now (texts modules) (texts modules) (places_from 0 modules)
    all_placed = subst (λ ms. ArePlaced k.types.now (texts modules) (processes_in (map module_view ms)) (places_from 0 ms)) (take-all modules) j.placed

    pub all_refused : (after : List NameFault) → map name_fault_view after ≡ map name_fault_view faults ++ cond (is_main_among k.processes (map (λ t. t.0) k.ports.items)) [] ((no_main, nowhere) ∷ []) → AreRefusalsOf k.types.now modules (map name_fault_view after)
    all_refused after e = (
      map name_fault_view faults,
      subst (λ ms. RefusesProcesses k.types.now (texts modules) [] (processes_in (map module_view ms)) (places_from 0 ms) (map name_fault_view faults)) (take-all modules) j.refusals,
      e ∙ ap (λ b. map name_fault_view faults ++ cond {A = List (Code × Place)} b [] ((no_main, nowhere) ∷ [])) (ap₂ is_main_among of.names of.ports ∙ among (texts modules)),
    )
      where
        among : (ps : List ProcessText) → is_main_among (map (λ (q : ProcessText). q.name) ps) (map (λ (q : ProcessText). type_number k.types.now q.port.1) ps) ≡ any_pass (is_main k.types.now) ps
        among [] = refl
        among (p ∷ ps) = ap (λ b. (bytes_eq p.name main_name && nat_eq (type_number k.types.now p.port.1) main_start) || b) (among ps)

-- what is known of modules over a table that keeps the rules
sized : (T : NamedTable) → IsWellNamed T → kept.IsSized T → length T.exceptions < 2 ^ 32 → IsSized T
sized T well h few = record {
  named = well.name_each;
  each = sym (length-map T.parts length) ∙ (ap length well.part_each ∙ length-map T.shapes part_count);
  few = h.few;
  few_exceptions = few;
  few_parts = h.few_parts;
}

pub is_ready : (k : Known) (T : NamedTable) (modules : List Module) → k.types.now ≡ T → IsWellNamed T → kept.IsSized T → length T.exceptions < 2 ^ 32 → length modules < 2 ^ 32 → k.exceptions ≡ T.exceptions
    → k.processes ≡ map (λ (q : ProcessText). q.name) (processes_in (map module_view modules)) → map (λ t. t.0) k.ports.items ≡ map (λ (q : ProcessText). type_number T q.port.1) (processes_in (map module_view modules)) → IsCounted T.shapes k.counts.items
    → IsReady k
is_ready k T modules e well h few small exceptions names ports counts = record {
  sized = subst IsSized (sym e) (sized T well h few);
  well = subst IsWellNamed (sym e) well;
  exceptions = exceptions ∙ ap (λ (t : NamedTable). t.exceptions) (sym e);
  processes = let a = few_texts modules in let b = ap length names ∙ length-map (texts modules) (λ (q : ProcessText). q.name) in omega (arith, a, b, small);
  alike = ap length names ∙ (length-map (texts modules) (λ (q : ProcessText). q.name) ∙ (sym (length-map (texts modules) (λ (q : ProcessText). type_number T q.port.1)) ∙ (ap length (sym ports) ∙ length-map k.ports.items (λ t. t.0))));
  counted = subst (λ (t : NamedTable). IsCounted t.shapes k.counts.items) (sym e) counts;
}
