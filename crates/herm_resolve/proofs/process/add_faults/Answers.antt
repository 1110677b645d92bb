use Rattle.std.proofs.Common.{◌≡◌, ◌++◌, ◌∙◌, map, length, cond, Some, None, ap, arith}
use Rattle.herm_naming.specs.StatementFaults.{unreachable}
use Rattle.herm_naming.specs.RefusalsOfNames.{at_places}
use Rattle.herm_numbers.specs.Faults.{name_fault_view, spans_found}
use Rattle.herm_typed.specs.View.{typed_stmts_view}
use Rattle.herm_resolve.specs.Judged.{found_codes, found_places}
use Rattle.herm_resolve.proofs.Refusing.{found_length, none_where, unreached_added, faults_added}
use Rattle.herm_resolve.proofs.process.add_faults.Goals as goal

pub unreached-requires : goal.unreached-requires
unreached-requires c =
    let of = map (λ t. t.0) c.args.scope.now.of.items in
    let n : length c.add_codes.new.faults.items ≡ length c.args.faults.now.items = omega (arith, c.len.ensures, c.len-before.ensures, c.if-len-before.true) in
    record {
      formed = c.requires.formed (none_where c.args.scope.now.types.now.shapes (record { variables = of; body = typed_stmts_view c.args.body.now })
          (found_codes c.args.known.now of c.args.number c.args.name.now c.args.port.now c.args.vars.now c.args.found.now) (found_places c.args.module_number c.args.name.now c.args.port.now c.args.vars.now c.args.found.now)
          (found_length c.args.known.now of c.args.module_number c.args.number c.args.name.now c.args.port.now c.args.vars.now c.args.found.now) c.args.faults.now.items c.add_codes.new.faults.items n c.in_ok-add_codes.ensures.added);
    }

pub returns-then-len-before : goal.returns-then-len-before
returns-then-len-before c =
    let of = map (λ t. t.0) c.args.scope.now.of.items in
    let n : length c.add_codes.new.faults.items ≡ length c.args.faults.now.items = omega (arith, c.len.ensures, c.len-before.ensures, c.if-len-before.true) in
    record {
      refused = unreached_added c.args.scope.now.types.now.shapes (record { variables = of; body = typed_stmts_view c.args.body.now })
          (found_codes c.args.known.now of c.args.number c.args.name.now c.args.port.now c.args.vars.now c.args.found.now) (found_places c.args.module_number c.args.name.now c.args.port.now c.args.vars.now c.args.found.now)
          (found_length c.args.known.now of c.args.module_number c.args.number c.args.name.now c.args.port.now c.args.vars.now c.args.found.now) c.args.faults.now.items c.add_codes.new.faults.items c.add_unreached.new.faults.items
          c.in_ok-marks.marks.items n c.in_ok-add_codes.ensures.added c.in_ok-marks.ensures.marks
          (c.in_ok-add_unreached.ensures.added ∙ ap (λ ms. map name_fault_view c.add_codes.new.faults.items ++ at_places (map (λ s. (c.args.module_number, s)) (spans_found c.args.found.now)) (map (λ m. cond m (Some unreachable) None) ms)) c.as_slice.ensures.value);
    }

pub returns : goal.returns
returns c =
    let of = map (λ t. t.0) c.args.scope.now.of.items in
    record {
      refused = faults_added c.args.scope.now.types.now.shapes (record { variables = of; body = typed_stmts_view c.args.body.now })
          (found_codes c.args.known.now of c.args.number c.args.name.now c.args.port.now c.args.vars.now c.args.found.now) (found_places c.args.module_number c.args.name.now c.args.port.now c.args.vars.now c.args.found.now)
          (found_length c.args.known.now of c.args.module_number c.args.number c.args.name.now c.args.port.now c.args.vars.now c.args.found.now) c.args.faults.now.items c.add_codes.new.faults.items
          (λ n. c.if-len-before.false (omega (arith, c.len.ensures, c.len-before.ensures, n))) c.in_ok-add_codes.ensures.added;
    }
