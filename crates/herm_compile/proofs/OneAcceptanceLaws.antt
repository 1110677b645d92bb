-- Files have one answer of the fourth phase.
use Rattle.std.proofs.Common.{◌≡◌, inl, inr, ℕ, suc, List, [], ◌∷◌, ◌++◌, map, get_or, Option, Some, None, refl, sym, ap, subst, ◌∙◌}
use Rattle.herm_base.specs.declared.numbers.StmtNo.{StmtNo}
use Rattle.herm_base.specs.declared.word.Span.{Span}
use Rattle.herm_model.specs.Lists.{IsIn}
use Rattle.herm_model.specs.Statements.{Process}
use Rattle.herm_model.specs.ControlPaths.{Flow, flow_of}
use Rattle.herm_model.specs.MissingFacts.{Refusal, demands, AreRefusals, IsAccepted}
use Rattle.herm_model.specs.laws.FlowLaws.{Said, said}
use Rattle.herm_model.proofs.DeterminedRefusals.{refusals-determined}
use Rattle.herm_syntax.specs.declared.modules.Module.{Module}
use Rattle.herm_syntax.specs.declared.modules.Module.TheVariants as modules
use Rattle.herm_syntax.specs.declared.statements.Stmt.{Stmt}
use Rattle.herm_meaning.specs.Names.{NamedTable}
use Rattle.herm_naming.specs.RefusalsOfNames.{Places}
use Rattle.herm_typed.specs.declared.statements.TypedStmt.{TypedStmt}
use Rattle.herm_typed.specs.declared.statements.TypedProcess.{TypedProcess}
use Rattle.herm_typed.specs.View.{typed_process_view}
use Rattle.herm_typed.specs.Within.{all_statements}
use Rattle.herm_numbers.specs.Faults.{body_spans}
use Rattle.herm_numbers.specs.Within.{all_written}
use Rattle.herm_resolve.specs.Kept.{of_processes, numbers_of, numbers_written}
use Rattle.herm_accept.specs.Lacking.{Lacking, lacking, AreLacking}
use Rattle.herm_accept.proofs.Begins.{begin_of, begins, begin_at, start_begins}
use Rattle.herm_compile.specs.View.{fault_view}
use Rattle.herm_compile.specs.Places.{line_number_at, column_at}
use Rattle.herm_compile.specs.Spots.{owner_of, bytes_of}
use Rattle.herm_compile.specs.ThirdPhase.{HaveProgram}
use Rattle.herm_compile.specs.FourthPhase.{missing_fault, process_modules, AreUnaccepted}
use Rattle.herm_compile.specs.OneDefinition.{PlacedFact, placed_fact, told_of, FactsAreOneList, AcceptedOrFaults, AcceptedOrRefused}
use Rattle.herm_refusals.specs.declared.fault.Fault.{Fault}
use Rattle.herm_compile.proofs.FilesAlike.{same_read, same_owners}
use Rattle.herm_compile.proofs.StatementPlaces.{start_of}
use Rattle.herm_compile.proofs.OneNamingLaws.{module_starts, starts_read, program_or_faults}
use Rattle.herm_compile.proofs.WrittenPlaces.{body_placed}
use Rattle.herm_compile.proofs.OneAnswerLaws.{one_program, types_or_faults}
use Rattle.herm_compile.proofs.PhaseLaws.{no_first_faults}

-- ---- what is told of a process

-- the number of the process, the place in bytes, the statement and the fact
abbrev Spot : Type 0
Spot = ℕ × (ℕ × Said)

abbrev spot_of : Lacking → Spot
spot_of l = (l.process, (l.start, (l.refusal.number, l.refusal.fact)))

abbrev spot_at : ℕ → List ℕ → Said → Spot
spot_at number list s = (number, (begin_at list s.0, s))

facts_append : (xs ys : List Lacking) → map spot_of (xs ++ ys) ≡ map spot_of xs ++ map spot_of ys
facts_append [] ys = refl
facts_append (x ∷ xs) ys = ap (spot_of x ∷◌) (facts_append xs ys)

facts_said : (types : NamedTable) (number : ℕ) (p : TypedProcess) (rs : List Refusal) → map spot_of (map (lacking types number p) rs) ≡ map (spot_at number (begins p)) (said rs)
facts_said types number p [] = refl
facts_said types number p (r ∷ rs) =
    ap (λ (n : ℕ). (number, (n, (r.number, r.fact))) ∷ map spot_of (map (lacking types number p) rs)) (start_begins p r.number)
    ∙ ap (spot_at number (begins p) (r.number, r.fact) ∷◌) (facts_said types number p rs)

abbrev flow_by : NamedTable → Process → Flow
flow_by types p = flow_of types.shapes p

same_said : (types : NamedTable) (p q : Process) (rs others : List Refusal) → p ≡ q → AreRefusals (flow_by types p) (demands (flow_by types p)) rs → AreRefusals (flow_by types q) (demands (flow_by types q)) others → said rs ≡ said others
same_said types p q rs others e are more =
    refusals-determined (flow_by types p) (demands (flow_by types p)) rs others are (subst (λ (x : Process). AreRefusals (flow_by types x) (demands (flow_by types x)) others) (sym e) more)

head_same : {X : Type 0} (x y : X) (xs ys : List X) → x ∷ xs ≡ y ∷ ys → x ≡ y
head_same x y xs ys e = cc

tail_same : {X : Type 0} (x y : X) (xs ys : List X) → x ∷ xs ≡ y ∷ ys → xs ≡ ys
tail_same x y xs ys e = cc

one_list : (types : NamedTable) (number : ℕ) (ps qs : List TypedProcess) (all others : List Lacking) → map typed_process_view ps ≡ map typed_process_view qs → map begins ps ≡ map begins qs
    → AreLacking types number ps all → AreLacking types number qs others → map spot_of all ≡ map spot_of others
one_list types number [] [] all others e d a b = ap (map spot_of) (a ∙ sym b)
one_list types number [] (q ∷ qs) all others e d a b = cc
one_list types number (p ∷ ps) [] all others e d a b = cc
one_list types number (p ∷ ps) (q ∷ qs) all others e d (rs, are, more, is, rest) (ss, are_too, left, is_too, rest_too) =
    let same = same_said types (typed_process_view p) (typed_process_view q) rs ss (head_same _ _ _ _ e) are.refusals are_too.refusals in
    let placed = ap (λ (b : List ℕ). map (spot_at number b) (said rs)) (head_same _ _ _ _ d) ∙ ap (map (spot_at number (begins q))) same in
    let behind = one_list types (suc number) ps qs more left (tail_same _ _ _ _ e) (tail_same _ _ _ _ d) rest rest_too in
    ap (map spot_of) is ∙ (facts_append (map (lacking types number p) rs) more
    ∙ (ap (λ (xs : List Spot). xs ++ map spot_of more) (facts_said types number p rs ∙ (placed ∙ sym (facts_said types number q ss)))
    ∙ (ap (λ (xs : List Spot). map spot_of (map (lacking types number q) ss) ++ xs) behind
    ∙ (sym (facts_append (map (lacking types number q) ss) left) ∙ ap (map spot_of) (sym is_too)))))

program_of : (files : List (List ℕ)) (faults : List Fault) (u : AreUnaccepted files faults) → HaveProgram files u.table (map typed_process_view u.program.processes.items) u.program.main
program_of files faults u = record {
  modules = u.modules;
  owners = u.owners;
  read = u.read;
  types = u.meant.defined;
  right = u.meant.right;
  meant = u.meant.means.processes;
  main_is = u.meant.means.main;
  typed = u.meant.typed;
}

-- ---- where the statements of modules begin

maps_joined : {A B C : Type 0} (g : B → C) (f : A → B) (h : A → C) → ((x : A) → g (f x) ≡ h x) → (xs : List A) → map g (map f xs) ≡ map h xs
maps_joined g f h same [] = refl
maps_joined g f h same (x ∷ xs) = ap (λ y. y ∷ map g (map f xs)) (same x) ∙ ap (h x ∷◌) (maps_joined g f h same xs)

abbrev numbered_begin : StmtNo × Span → ℕ
numbered_begin x = x.1.start

abbrev numbered_begins : List (StmtNo × Span) → List ℕ
numbered_begins list = map numbered_begin list

begins_numbered : (p : TypedProcess) → numbered_begins (numbers_of p) ≡ begins p
begins_numbered p = maps_joined numbered_begin (λ (t : TypedStmt). (t.no, t.span)) begin_of (λ t. refl) (all_statements p.body.items)

begins_written : (body : List Stmt) → numbered_begins (map (λ (x : Stmt). (x.no, x.span)) (all_written body)) ≡ map start_of (body_spans body)
begins_written body =
    maps_joined numbered_begin (λ (x : Stmt). (x.no, x.span)) (λ (x : Stmt). x.span.start) (λ x. refl) (all_written body)
    ∙ (sym (maps_joined start_of (λ (x : Stmt). x.span) (λ (x : Stmt). x.span.start) (λ x. refl) (all_written body)) ∙ ap (map start_of) (body_placed body))

abbrev statements_begin : List (Option (Places ℕ)) → List (List ℕ)
statements_begin [] = []
statements_begin (None ∷ found) = statements_begin found
statements_begin (Some x ∷ found) = x.statements ∷ statements_begin found

modules_begin : (list : List Module) → map numbered_begins (of_processes numbers_written list) ≡ statements_begin (map module_starts list)
modules_begin [] = refl
modules_begin (modules.Definitions name items ∷ list) = modules_begin list
modules_begin (modules.Process name port vars body ∷ list) =
    ap (λ (b : List ℕ). b ∷ map numbered_begins (of_processes numbers_written list)) (begins_written body.items) ∙ ap (map start_of (body_spans body.items) ∷◌) (modules_begin list)

processes_begin : (ps : List TypedProcess) (list : List Module) → map numbers_of ps ≡ of_processes numbers_written list → map begins ps ≡ statements_begin (map module_starts list)
processes_begin ps list e = sym (maps_joined numbered_begins numbers_of begins begins_numbered ps) ∙ (ap (map numbered_begins) e ∙ modules_begin list)

abbrev blocks_by : ℕ → List (Option (Places ℕ)) → List ℕ
blocks_by number [] = []
blocks_by number (None ∷ found) = blocks_by (suc number) found
blocks_by number (Some x ∷ found) = number ∷ blocks_by (suc number) found

blocks_are : (number : ℕ) (list : List Module) → process_modules number list ≡ blocks_by number (map module_starts list)
blocks_are number [] = refl
blocks_are number (modules.Definitions name items ∷ list) = blocks_are (suc number) list
blocks_are number (modules.Process name port vars body ∷ list) = ap (number ∷◌) (blocks_are (suc number) list)

-- ---- the laws

abbrev told_at : List (List ℕ) → (owners blocks : List ℕ) → Spot → PlacedFact
told_at files owners blocks s = record {
  file = owner_of owners (get_or blocks s.0 0);
  line = line_number_at (bytes_of files (owner_of owners (get_or blocks s.0 0))) s.1.0;
  column = column_at (bytes_of files (owner_of owners (get_or blocks s.0 0))) s.1.0;
  code = 13;
  said = Some s.1.1;
}

told_all : (files : List (List ℕ)) (owners blocks : List ℕ) (faults : List Fault) (list : List Lacking) → map fault_view faults ≡ map (missing_fault files owners blocks) list → map told_of faults ≡ map (told_at files owners blocks) (map spot_of list)
told_all files owners blocks [] [] e = refl
told_all files owners blocks [] (l ∷ ls) e = cc
told_all files owners blocks (f ∷ fs) [] e = cc
told_all files owners blocks (f ∷ fs) (l ∷ ls) e =
    let first = ap placed_fact (head_same (fault_view f) (missing_fault files owners blocks l) _ _ e) in
    ap (λ (x : PlacedFact). x ∷ map told_of fs) first ∙ ap (told_at files owners blocks (spot_of l) ∷◌) (told_all files owners blocks fs ls (tail_same _ _ _ _ e))

pub facts_are_one_list : FactsAreOneList
facts_are_one_list files faults others u v =
    let one = one_program files u.table v.table _ _ _ _ (program_of files faults u) (program_of files others v) in
    let other = subst (λ (t : NamedTable). AreLacking t 0 v.program.processes.items v.list) (sym one.0) v.are in
    let owners = same_owners 0 files u.modules v.modules u.owners v.owners u.read v.read in
    let starts = same_read starts_read 0 files u.modules v.modules u.owners v.owners u.read v.read in
    let blocks = blocks_are 0 u.modules ∙ (ap (blocks_by 0) starts ∙ sym (blocks_are 0 v.modules)) in
    let begun = processes_begin u.program.processes.items u.modules u.meant.means.numbered ∙ (ap statements_begin starts ∙ sym (processes_begin v.program.processes.items v.modules v.meant.means.numbered)) in
    told_all files u.owners (process_modules 0 u.modules) faults u.list u.each
    ∙ (ap (map (told_at files u.owners (process_modules 0 u.modules))) (one_list u.table 0 u.program.processes.items v.program.processes.items u.list v.list one.1 begun u.are other)
    ∙ (ap (λ (os : List ℕ). map (told_at files os (process_modules 0 u.modules)) (map spot_of v.list)) owners
    ∙ (ap (λ (bs : List ℕ). map (told_at files v.owners bs) (map spot_of v.list)) blocks ∙ sym (told_all files v.owners (process_modules 0 v.modules) others v.list v.each))))

-- nothing is lacking where each process is accepted
none_lacking : (types : NamedTable) (number : ℕ) (ps : List TypedProcess) (all : List Lacking) → ((p : Process) → IsIn p (map typed_process_view ps) → IsAccepted types.shapes p) → AreLacking types number ps all → all ≡ []
none_lacking types number [] all accepted are = are
none_lacking types number (p ∷ ps) all accepted (rs, are, more, is, rest) =
    let none = nothing_said rs (sym (same_said types (typed_process_view p) (typed_process_view p) [] rs refl (accepted (typed_process_view p) (inl refl)) are.refusals)) in
    let behind = none_lacking types (suc number) ps more (λ q member. accepted q (inr member)) rest in
    is ∙ (ap (λ (xs : List Refusal). map (lacking types number p) xs ++ more) none ∙ behind)
  where
    nothing_said : (rs : List Refusal) → said rs ≡ [] → rs ≡ []
    nothing_said [] e = refl
    nothing_said (r ∷ rs) e = cc

pub accepted_or_faults : AcceptedOrFaults
accepted_or_faults files table processes main faults program accepted u =
    let one = one_program files table u.table _ _ _ _ program (program_of files faults u) in
    let all = subst (λ (t : NamedTable). (p : Process) → IsIn p processes → IsAccepted t.shapes p) one.0 accepted in
    let theirs = subst (λ (ps : List Process). (p : Process) → IsIn p ps → IsAccepted u.table.shapes p) one.1 all in
    u.some (none_lacking u.table 0 u.program.processes.items u.list theirs u.are)

-- ---- no phase has a fault

no_faults : (faults : List Fault) → map fault_view faults ≡ [] → faults ≡ []
no_faults [] e = refl
no_faults (f ∷ faults) e = absurd (cc)

pub accepted_or_refused : AcceptedOrRefused
accepted_or_refused files table processes main faults program accepted (inl unread) =
    unread.some (no_faults faults (no_first_faults 0 files program.modules program.owners (map fault_view faults) program.read unread.each))
accepted_or_refused files table processes main faults program accepted (inr (inl misdefined)) =
    types_or_faults files table faults (record { modules = program.modules; owners = program.owners; read = program.read; are = program.types }) misdefined
accepted_or_refused files table processes main faults program accepted (inr (inr (inl misnamed))) = program_or_faults files table processes main faults program misnamed
accepted_or_refused files table processes main faults program accepted (inr (inr (inr lacking))) = accepted_or_faults files table processes main faults program accepted lacking
