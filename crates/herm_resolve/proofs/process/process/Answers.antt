use Rattle.std.proofs.Common.{◌≡◌, ◌∙◌, ◌++◌, [], map, length, sym, ap, ap₂, subst, false, IsTrue}
use Rattle.herm_model.specs.Statements.{Process, numbers_of_block, IsWellFormedBlock}
use Rattle.herm_syntax.specs.View.{stmts_view}
use Rattle.herm_naming.specs.RefusalsOfNames.{are_none}
use Rattle.herm_typed.specs.View.{typed_stmts_view}
use Rattle.herm_numbers.specs.View.{scope_view}
use Rattle.herm_numbers.specs.Faults.{name_fault_view, codes_found, spans_found, body_spans}
use Rattle.herm_numbers.specs.Statements.{body_codes}
use Rattle.herm_resolve.specs.Judged.{scope_within, process_within, codes_within, found_codes, found_places}
use Rattle.herm_resolve.specs.Refused.{places_of}
use Rattle.herm_resolve.proofs.Refusing.{adds_same, adds_none, found_length}
use Rattle.herm_resolve.proofs.Within.{scope_same, body_same, found_count, codes_same, places_same, span_count, view_same}
use Rattle.herm_resolve.proofs.WellFormed.{blocks_formed}
use Rattle.herm_typed.specs.Within.{all_statements}
use Rattle.herm_numbers.specs.Within.{all_written}
use Rattle.herm_resolve.specs.Entries.{Entry, typed_entry, written_entry}
use Rattle.herm_resolve.proofs.Entries.{map-twice, body_entries}
use Rattle.herm_resolve.proofs.WellFormed.{kept_types}
use Rattle.herm_resolve.proofs.process.process.Goals as goal

pub add_faults-requires-clause-count : goal.add_faults-requires-clause-count
add_faults-requires-clause-count c =
    let k = c.args.known.now in
    let port = c.args.port.now in
    let vars = c.args.vars.now in
    let body = c.args.body.now in
    let found = c.block.new.found.items in
    let e = c.in_ok-scope.ensures in
    let same = scope_same k port vars c.in_ok-scope.scope e.types e.variables e.of e.processes e.ports in
    let codes : codes_found found ≡ body_codes (scope_view c.in_ok-scope.scope) false body = c.in_ok-typed.ensures.codes ∙ ap (λ js. codes_found js ++ body_codes (scope_view c.in_ok-scope.scope) false body) c.new-found.ensures.items in
    let typed = body_same k port vars body (scope_view c.in_ok-scope.scope) same c.in_ok-typed.typed.items c.in_ok-typed.ensures.meaning in
    ap length c.as_slice-2.ensures.value ∙ (found_count k port vars body (scope_view c.in_ok-scope.scope) same found codes ∙ (ap numbers_of_block (sym typed) ∙ ap (λ ts. numbers_of_block (typed_stmts_view ts)) (sym c.as_slice.ensures.value)))

pub add_faults-requires-clause-formed : goal.add_faults-requires-clause-formed
add_faults-requires-clause-formed c none =
    let k = c.args.known.now in
    let port = c.args.port.now in
    let vars = c.args.vars.now in
    let body = c.args.body.now in
    let found = c.block.new.found.items in
    let e = c.in_ok-scope.ensures in
    let same = scope_same k port vars c.in_ok-scope.scope e.types e.variables e.of e.processes e.ports in
    let codes : codes_found found ≡ body_codes (scope_view c.in_ok-scope.scope) false body = c.in_ok-typed.ensures.codes ∙ ap (λ js. codes_found js ++ body_codes (scope_view c.in_ok-scope.scope) false body) c.new-found.ensures.items in
    let typed = body_same k port vars body (scope_view c.in_ok-scope.scope) same c.in_ok-typed.typed.items c.in_ok-typed.ensures.meaning in
    let of = map (λ t. t.0) c.in_ok-scope.scope.of.items in
    let cs : found_codes k of c.args.number c.args.name.now port vars c.as_slice-2.result.now ≡ codes_within k c.args.number c.args.name.now port vars body =
    ap (found_codes k of c.args.number c.args.name.now port vars) c.as_slice-2.ensures.value ∙ codes_same k port vars body (scope_view c.in_ok-scope.scope) same c.args.number c.args.name.now of found codes e.of in
    subst IsWellFormedBlock (sym (ap typed_stmts_view c.as_slice.ensures.value ∙ typed))
    (blocks_formed k c.requires.ready.well c.args.number c.args.name.now port vars body (subst (λ cs. IsTrue (are_none cs)) cs none))

pub returns-clause-meaning : goal.returns-clause-meaning
returns-clause-meaning c =
    let k = c.args.known.now in
    let port = c.args.port.now in
    let vars = c.args.vars.now in
    let body = c.args.body.now in
    let e = c.in_ok-scope.ensures in
    let same = scope_same k port vars c.in_ok-scope.scope e.types e.variables e.of e.processes e.ports in
    let typed = body_same k port vars body (scope_view c.in_ok-scope.scope) same c.in_ok-typed.typed.items c.in_ok-typed.ensures.meaning in
    view_same _ _ _ _ c.in_ok-vars.ensures.of typed

pub returns-clause-refused : goal.returns-clause-refused
returns-clause-refused c =
    let k = c.args.known.now in
    let port = c.args.port.now in
    let vars = c.args.vars.now in
    let body = c.args.body.now in
    let found = c.block.new.found.items in
    let e = c.in_ok-scope.ensures in
    let same = scope_same k port vars c.in_ok-scope.scope e.types e.variables e.of e.processes e.ports in
    let codes : codes_found found ≡ body_codes (scope_view c.in_ok-scope.scope) false body = c.in_ok-typed.ensures.codes ∙ ap (λ js. codes_found js ++ body_codes (scope_view c.in_ok-scope.scope) false body) c.new-found.ensures.items in
    let spans : spans_found found ≡ body_spans body = c.in_ok-typed.ensures.spans ∙ ap (λ js. spans_found js ++ body_spans body) c.new-found.ensures.items in
    let typed = body_same k port vars body (scope_view c.in_ok-scope.scope) same c.in_ok-typed.typed.items c.in_ok-typed.ensures.meaning in
    let of = map (λ t. t.0) c.in_ok-scope.scope.of.items in
    let cs : found_codes k of c.args.number c.args.name.now port vars c.as_slice-2.result.now ≡ codes_within k c.args.number c.args.name.now port vars body =
    ap (found_codes k of c.args.number c.args.name.now port vars) c.as_slice-2.ensures.value ∙ codes_same k port vars body (scope_view c.in_ok-scope.scope) same c.args.number c.args.name.now of found codes e.of in
    let xs : found_places c.args.module_number c.args.name.now port vars c.as_slice-2.result.now ≡ places_of c.args.module_number c.args.name.now port vars body =
    ap (found_places c.args.module_number c.args.name.now port vars) c.as_slice-2.ensures.value ∙ places_same c.args.module_number c.args.name.now port vars body found spans in
    adds_same (map name_fault_view c.args.faults.now.items) (map name_fault_view c.add_faults.new.faults.items) _ k.types.now.shapes _ _ _ _ _ _ (ap (λ t. t.shapes) e.types) (view_same of _ (typed_stmts_view c.as_slice.result.now) _ e.of (ap typed_stmts_view c.as_slice.ensures.value ∙ typed)) cs xs c.in_ok-add_faults.ensures.refused

pub returns-clause-placed : goal.returns-clause-placed
returns-clause-placed c =
    let k = c.args.known.now in
    let port = c.args.port.now in
    let vars = c.args.vars.now in
    let body = c.args.body.now in
    let found = c.block.new.found.items in
    let e = c.in_ok-scope.ensures in
    let same = scope_same k port vars c.in_ok-scope.scope e.types e.variables e.of e.processes e.ports in
    let codes : codes_found found ≡ body_codes (scope_view c.in_ok-scope.scope) false body = c.in_ok-typed.ensures.codes ∙ ap (λ js. codes_found js ++ body_codes (scope_view c.in_ok-scope.scope) false body) c.new-found.ensures.items in
    let spans : spans_found found ≡ body_spans body = c.in_ok-typed.ensures.spans ∙ ap (λ js. spans_found js ++ body_spans body) c.new-found.ensures.items in
    span_count found (body_spans body) spans ∙ found_count k port vars body (scope_view c.in_ok-scope.scope) same found codes

pub returns-clause-numbered : goal.returns-clause-numbered
returns-clause-numbered c =
    let entries = body_entries (scope_view c.in_ok-scope.scope) c.in_ok-typed.typed.items c.args.body.now c.in_ok-typed.ensures.entries in
    sym (map-twice (λ (a : Entry). (a.0, a.1.0)) typed_entry (all_statements c.in_ok-typed.typed.items))
    ∙ (ap (map (λ (a : Entry). (a.0, a.1.0))) entries ∙ map-twice (λ (a : Entry). (a.0, a.1.0)) (written_entry (scope_view c.in_ok-scope.scope)) (all_written c.args.body.now))

pub returns-clause-of : goal.returns-clause-of
returns-clause-of c none =
    let k = c.args.known.now in
    let port = c.args.port.now in
    let vars = c.args.vars.now in
    let body = c.args.body.now in
    let found = c.block.new.found.items in
    let e = c.in_ok-scope.ensures in
    let same = scope_same k port vars c.in_ok-scope.scope e.types e.variables e.of e.processes e.ports in
    let codes : codes_found found ≡ body_codes (scope_view c.in_ok-scope.scope) false body = c.in_ok-typed.ensures.codes ∙ ap (λ js. codes_found js ++ body_codes (scope_view c.in_ok-scope.scope) false body) c.new-found.ensures.items in
    let of = map (λ t. t.0) c.in_ok-scope.scope.of.items in
    let cs : found_codes k of c.args.number c.args.name.now port vars c.as_slice-2.result.now ≡ codes_within k c.args.number c.args.name.now port vars body =
    ap (found_codes k of c.args.number c.args.name.now port vars) c.as_slice-2.ensures.value ∙ codes_same k port vars body (scope_view c.in_ok-scope.scope) same c.args.number c.args.name.now of found codes e.of in
    let entries = body_entries (scope_view c.in_ok-scope.scope) c.in_ok-typed.typed.items body c.in_ok-typed.ensures.entries in
    let empty = adds_none _ _ _ _ _ _ (found_length k of c.args.module_number c.args.number c.args.name.now port vars c.as_slice-2.result.now) c.in_ok-add_faults.ensures.refused (ap (map name_fault_view) none) in
    kept_types k c.requires.ready.well c.args.number c.args.name.now port vars body (subst (λ cs. IsTrue (are_none cs)) cs empty) (scope_view c.in_ok-scope.scope) same c.in_ok-typed.typed.items entries
    (map (λ v. v.of.0) c.in_ok-vars.vars.items) c.in_ok-vars.ensures.of
