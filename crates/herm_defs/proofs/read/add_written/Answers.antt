use Rattle.std.proofs.Common.{map, flat_map, sym, ap, subst, ◌∙◌}
use Rattle.herm_syntax.specs.View.{dfact_view}
use Rattle.herm_meaning.specs.Meaning.{fact_meant}
use Rattle.herm_defs.specs.Distinct.{number_key, AreDistinct}
use Rattle.herm_defs.proofs.DistinctLaws.{not-false, written-same, keys-more, meant-more}
use Rattle.herm_defs.proofs.read.add_written.Goals as goal

pub returns-then-not-branch : goal.returns-then-not-branch
returns-then-not-branch c = λ ds h.
    let meant = fact_meant c.args.table.now c.args.message.0 in
    let d = dfact_view c.args.fact.now in
    let found = not-false _ (sym c.in_ok-insert.ensures.added ∙ c.if-not-branch.true) in
    let same = written-same c.args.written.now.keys ds d c.in_ok-key.key h.known c.in_ok-key.ensures meant found in
    record {
      meant = record { listed = h.meant.listed ∙ sym same; keys = h.meant.keys ∙ ap (map number_key) (sym same) };
      known = keys-more c.args.written.now.keys ds d c.in_ok-key.key h.known c.in_ok-key.ensures _ _ c.in_ok-insert.ensures.keys;
    }

pub returns : goal.returns
returns c = λ ds h.
    let meant = fact_meant c.args.table.now c.args.message.0 in
    let d = dfact_view c.args.fact.now in
    record {
      meant = subst (λ fs. AreDistinct fs c.append.new.self) (meant-more meant ds d _ c.in_ok-meant.ensures) (c.in_ok-append.ensures (flat_map meant ds) h.meant);
      known = keys-more c.args.written.now.keys ds d c.in_ok-key.key h.known c.in_ok-key.ensures _ _ c.in_ok-insert.ensures.keys;
    }
