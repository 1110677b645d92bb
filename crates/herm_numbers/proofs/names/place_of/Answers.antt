use Rattle.std.proofs.Common.{sym, ap, ◌∙◌, arith}
use Rattle.std.specs.Str.{bytes_eq}
use Rattle.herm_numbers.proofs.Passed.{found_name, passed_name}
use Rattle.herm_numbers.proofs.names.place_of.Goals as goal

pub returns-then-eq : goal.returns-then-eq
returns-then-eq c =
    found_name c.args.name.now c.args.names.now c.loop-place.place c.index-names-place.result (omega arith) c.index-names-place.is
    (ap (bytes_eq c.args.name.now) (sym c.bytes.ensures.bytes) ∙ (sym c.eq.ensures ∙ c.if-eq.true)) c.loop-place.invariant

pub loop-place-preserved : goal.loop-place-preserved
loop-place-preserved c =
    passed_name c.args.name.now c.args.names.now c.loop-place.place c.index-names-place.result (omega arith) c.index-names-place.is
    (ap (bytes_eq c.args.name.now) (sym c.bytes.ensures.bytes) ∙ (sym c.eq.ensures ∙ c.if-eq.false)) c.loop-place.invariant
