-- Files have one list of refusals in the third phase, and none where they mean a program.
use Rattle.std.proofs.Common.{◌≡◌, ℕ, suc, List, [], ◌∷◌, map, Option, Some, None, refl, sym, ap, ◌∙◌, subst}
use Rattle.herm_base.specs.declared.word.Name.{Name}
use Rattle.herm_syntax.specs.declared.definitions.Field.{Field as FieldForm}
use Rattle.herm_syntax.specs.declared.modules.Module.{Module as ModuleForm}
use Rattle.herm_syntax.specs.declared.modules.Module.TheVariants as modules
use Rattle.herm_syntax.specs.Trees.{Field, Module, Definitions, Process}
use Rattle.herm_syntax.specs.View.{field_view, module_view}
use Rattle.herm_parser.specs.AlongDefinitions.{past_variables, past_module}
use Rattle.herm_parser.specs.Along.{past_token}
use Rattle.herm_meaning.specs.Names.{NamedTable}
use Rattle.herm_naming.specs.StatementFaults.{Code, unknown, twice, wrong_type, not_copyable, unreachable, no_main, too_many}
use Rattle.herm_naming.specs.RefusalsOfNames.{Places, AreRefusals}
use Rattle.herm_naming.proofs.Unrefused.{refusals-one}
use Rattle.herm_numbers.specs.Faults.{Place, body_spans}
use Rattle.herm_resolve.specs.Refused.{places_of, places_from, nowhere, AreRefusalsOf}
use Rattle.herm_compile.specs.View.{Seen}
use Rattle.herm_compile.specs.Spots.{spot_fault}
use Rattle.herm_compile.specs.RefusalWords.{name_words}
use Rattle.herm_compile.specs.ThirdPhase.{name_rank, main_fault, name_fault}
use Rattle.herm_compile.specs.OneDefinition.{NameFaultsAreOneList, ProgramOrFaults}
use Rattle.herm_compile.proofs.Leads.{Tokens, tail, token_goes, name_goes}
use Rattle.herm_compile.proofs.Told.{Known, first_known, then_known, both_known, known_so}
use Rattle.herm_compile.proofs.NamedPlaces.{Reads, name_at, name_known, at_list, whole_known, enclosed_goes, enclosed_known, field_at, skip_field, field_reads, skip_variables, variables_go, skip_module, module_goes}
use Rattle.herm_compile.proofs.StatementPlaces.{start_of, statement_starts, process_begins}
use Rattle.herm_compile.proofs.SeenRefusals.{seen, seen_places, refusals_seen}
use Rattle.herm_compile.proofs.FilesAlike.{same_views, same_read, same_owners}
use Rattle.herm_compile.proofs.OneAnswerLaws.{tables_alike}

-- ---- where what is refused of a module begins

abbrev starts_by : Name → FieldForm → List FieldForm → List ℕ → Places ℕ
starts_by name port vars statements = record { name = name.span.start; declared = port.name.span.start ∷ map (λ d. d.name.span.start) vars; statements = statements }

-- of a process: its name, its declarations, its statements
abbrev pub module_starts : ModuleForm → Option (Places ℕ)
module_starts (modules.Definitions name list) = None
module_starts (modules.Process name port vars body) = Some (starts_by name port vars.items (map start_of (body_spans body.items)))

abbrev variables_at : List Field → Tokens → List FieldForm
variables_at [] tokens = []
variables_at (v ∷ vs) tokens = at_list skip_field field_at (v ∷ vs) (tail tokens)

-- the tokens of a process behind its port and a brace
abbrev behind_port : Field → Tokens → Tokens
behind_port port tokens = tail (tail (skip_field port (tail (tail (tail tokens)))))

abbrev starts_at : Module → Tokens → Option (Places ℕ)
starts_at (Definitions name list) tokens = None
starts_at (Process name port vars body) tokens =
    let block = behind_port port tokens in
    Some (starts_by (name_at name (tail tokens)) (field_at port (tail (tail (tail tokens)))) (variables_at vars block) (statement_starts body (skip_variables vars block)))

variables_known : (list : List FieldForm) → Known (past_variables list) (λ t. list ≡ variables_at (map field_view list) t)
variables_known [] = record { known = λ a b e. refl }
variables_known (v ∷ vs) = then_known token_goes (first_known past_token (whole_known field_reads (v ∷ vs)))

same_starts_by : {name other : Name} → {port gate : FieldForm} → {vars more : List FieldForm} → {ms ns : List ℕ} → name ≡ other → port ≡ gate → vars ≡ more → ms ≡ ns → Some (starts_by name port vars ms) ≡ Some (starts_by other gate more ns)
same_starts_by {name} {other} {port} {gate} {vars} {more} {ms} {ns} a b c d =
    ap (λ x. Some (starts_by x port vars ms)) a ∙ (ap (λ x. Some (starts_by other x vars ms)) b ∙ (ap (λ x. Some (starts_by other gate x ms)) c ∙ ap (λ x. Some (starts_by other gate more x)) d))

starts_known : (m : ModuleForm) → Known (past_module m) (λ t. module_starts m ≡ starts_at (module_view m) t)
starts_known (modules.Definitions name list) = record { known = λ a b e. refl }
starts_known (modules.Process name port vars body) =
    known_so (λ t h. same_starts_by h.0 h.1.0 h.1.1.0 h.1.1.1)
    (then_known token_goes (both_known (name_goes name) (name_known name)
    (both_known (enclosed_goes (field_reads.goes port)) (enclosed_known (field_reads.is port)) (enclosed_known (both_known (variables_go vars.items) (variables_known vars.items) (process_begins body.items))))))

pub starts_read : Reads past_module module_view module_starts skip_module starts_at
starts_read = record { goes = module_goes; is = starts_known }

-- ---- the places of refusals, by where they begin

abbrev place_start : Place → ℕ × ℕ
place_start p = (p.0, p.1.start)

abbrev starts_from : ℕ → List (Option (Places ℕ)) → List (Places (ℕ × ℕ))
starts_from m [] = []
starts_from m (None ∷ found) = starts_from (suc m) found
starts_from m (Some x ∷ found) = seen_places (λ n. (m, n)) x ∷ starts_from (suc m) found

maps_alike : {A B C D : Type 0} (g : B → D) (f : A → B) (h : C → D) (k : A → C) → ((x : A) → g (f x) ≡ h (k x)) → (xs : List A) → map g (map f xs) ≡ map h (map k xs)
maps_alike g f h k same [] = refl
maps_alike g f h k same (x ∷ xs) = ap (λ y. y ∷ map g (map f xs)) (same x) ∙ ap (λ ys. h (k x) ∷ ys) (maps_alike g f h k same xs)

abbrev places_by : ℕ × ℕ → List (ℕ × ℕ) → List (ℕ × ℕ) → Places (ℕ × ℕ)
places_by name declared statements = record { name = name; declared = declared; statements = statements }

process_start : (m : ℕ) (name : Name) (port : FieldForm) (vars : List FieldForm) (body : _) →
    seen_places place_start (places_of m name port vars body) ≡ seen_places (λ n. (m, n)) (starts_by name port vars (map start_of (body_spans body)))
process_start m name port vars body =
    let declared = maps_alike place_start (λ d. (m, d.name.span)) (λ n. (m, n)) (λ d. d.name.span.start) (λ d. refl) vars in
    let statements = maps_alike place_start (λ s. (m, s)) (λ n. (m, n)) start_of (λ s. refl) (body_spans body) in
    ap (λ ds. places_by (m, name.span.start) ((m, port.name.span.start) ∷ ds) (map place_start (map (λ s. (m, s)) (body_spans body)))) declared
    ∙ ap (λ ss. places_by (m, name.span.start) ((m, port.name.span.start) ∷ map (λ n. (m, n)) (map (λ d. d.name.span.start) vars)) ss) statements

places_start : (m : ℕ) (list : List ModuleForm) → map (seen_places place_start) (places_from m list) ≡ starts_from m (map module_starts list)
places_start m [] = refl
places_start m (modules.Definitions name items ∷ list) = places_start (suc m) list
places_start m (modules.Process name port vars body ∷ list) =
    ap (λ x. x ∷ map (seen_places place_start) (places_from (suc m) list)) (process_start m name port vars.items body.items)
    ∙ ap (λ xs. seen_places (λ n. (m, n)) (starts_by name port vars.items (map start_of (body_spans body.items))) ∷ xs) (places_start (suc m) list)

-- ---- refusals by where they begin

abbrev Begun : NamedTable → List Module → List (Option (Places ℕ)) → List (Code × (ℕ × ℕ)) → Type 0
Begun table trees starts refusals = AreRefusals table trees (starts_from 0 starts) (0, 0) refusals

begun : (table : NamedTable) (list : List ModuleForm) (rs : List (Code × Place)) → AreRefusalsOf table list rs → Begun table (map module_view list) (map module_starts list) (map (seen place_start) rs)
begun table list rs h =
    subst (λ (ps : List (Places (ℕ × ℕ))). AreRefusals table (map module_view list) ps (0, 0) (map (seen place_start) rs)) (places_start 0 list)
    (refusals_seen place_start table (map module_view list) (places_from 0 list) nowhere rs h)

begun_alike : (table other : NamedTable) (a b : List ModuleForm) (rs ss : List (Code × Place)) → table ≡ other → map module_view a ≡ map module_view b → map module_starts a ≡ map module_starts b →
    AreRefusalsOf table a rs → AreRefusalsOf other b ss → map (seen place_start) rs ≡ map (seen place_start) ss
begun_alike table other a b rs ss tables views starts x y =
    let here = subst (λ (t : NamedTable). Begun t (map module_view a) (map module_starts a) (map (seen place_start) rs)) tables (begun table a rs x) in
    let there = subst (λ (ts : List Module). Begun other ts (map module_starts a) (map (seen place_start) rs)) views here in
    let last = subst (λ (ss : List (Option (Places ℕ))). Begun other (map module_view b) ss (map (seen place_start) rs)) starts there in
    refusals-one other (map module_view b) (starts_from 0 (map module_starts b)) (0, 0) (map (seen place_start) rs) (map (seen place_start) ss) last (begun other b ss y)

-- what is seen of a fault depends on where it begins
abbrev start_fault : List (List ℕ) → (owners : List ℕ) → Code × (ℕ × ℕ) → Seen
start_fault files owners (unknown, at) = spot_fault files owners at.0 at.1 (name_rank unknown) (name_words unknown)
start_fault files owners (twice, at) = spot_fault files owners at.0 at.1 (name_rank twice) (name_words twice)
start_fault files owners (wrong_type, at) = spot_fault files owners at.0 at.1 (name_rank wrong_type) (name_words wrong_type)
start_fault files owners (not_copyable, at) = spot_fault files owners at.0 at.1 (name_rank not_copyable) (name_words not_copyable)
start_fault files owners (unreachable, at) = spot_fault files owners at.0 at.1 (name_rank unreachable) (name_words unreachable)
start_fault files owners (too_many, at) = spot_fault files owners at.0 at.1 (name_rank too_many) (name_words too_many)
start_fault files owners (no_main, at) = main_fault

fault_seen : (files : List (List ℕ)) (owners : List ℕ) (r : Code × Place) → name_fault files owners r ≡ start_fault files owners (seen place_start r)
fault_seen files owners (unknown, place) = refl
fault_seen files owners (twice, place) = refl
fault_seen files owners (wrong_type, place) = refl
fault_seen files owners (not_copyable, place) = refl
fault_seen files owners (unreachable, place) = refl
fault_seen files owners (too_many, place) = refl
fault_seen files owners (no_main, place) = refl

faults_seen : (files : List (List ℕ)) (owners : List ℕ) (rs : List (Code × Place)) → map (name_fault files owners) rs ≡ map (start_fault files owners) (map (seen place_start) rs)
faults_seen files owners [] = refl
faults_seen files owners (r ∷ rs) = ap (λ f. f ∷ map (name_fault files owners) rs) (fault_seen files owners r) ∙ ap (λ fs. start_fault files owners (seen place_start r) ∷ fs) (faults_seen files owners rs)

-- ---- the laws

pub one_list_of_names : NameFaultsAreOneList
one_list_of_names files faults others a b =
    let owners = same_owners 0 files a.modules b.modules a.owners b.owners a.read b.read in
    let lists = begun_alike a.table b.table a.modules b.modules a.list b.list
    (tables_alike files a.modules b.modules a.owners b.owners a.read b.read a.table b.table a.types b.types)
    (same_views 0 files a.modules b.modules a.owners b.owners a.read b.read) (same_read starts_read 0 files a.modules b.modules a.owners b.owners a.read b.read) a.are.all b.are.all in
    a.each ∙ (faults_seen files a.owners a.list
    ∙ (ap (λ os. map (start_fault files os) (map (seen place_start) a.list)) owners ∙ (ap (λ l. map (start_fault files b.owners) l) lists ∙ (sym (faults_seen files b.owners b.list) ∙ sym b.each))))

none_seen : (rs : List (Code × Place)) → [] ≡ map (seen place_start) rs → rs ≡ []
none_seen [] e = refl
none_seen (r ∷ rs) e = absurd (cc)

pub program_or_faults : ProgramOrFaults
program_or_faults files table processes main faults a b =
    b.are.some (none_seen b.list (begun_alike table b.table a.modules b.modules [] b.list
    (tables_alike files a.modules b.modules a.owners b.owners a.read b.read table b.table a.types b.types)
    (same_views 0 files a.modules b.modules a.owners b.owners a.read b.read) (same_read starts_read 0 files a.modules b.modules a.owners b.owners a.read b.read) a.right b.are.all))
