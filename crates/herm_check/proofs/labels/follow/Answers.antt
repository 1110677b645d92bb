use Rattle.std.proofs.Common.{◌≡◌, false, length, sym, ◌∙◌, ap, refl}
use Rattle.std.proofs.lemmas.Option.{slice_get_read}
use Rattle.herm_model.specs.Lists.{map_or}
use Rattle.herm_model.specs.ControlPaths.{held_after_edge}
use Rattle.herm_check.specs.declared.label.Label.{Label}
use Rattle.herm_check.specs.View.{edge_in}
use Rattle.herm_check.specs.Numberings.{in_set}
use Rattle.herm_check.specs.Followed.{joins}
use Rattle.herm_check.proofs.InSets.{in-joined, in-same, known-joined}
use Rattle.herm_check.proofs.ListedFacts.{facts-behind, known-behind}
use Rattle.herm_check.proofs.labels.follow.Goals as goal

pub returns : goal.returns
returns c ns p apart lists numbers known =
    let ls = c.args.labels.now.items in
    let e = c.args.edge.now in
    let t = e.to in
    let l = c.index_mut-label.result.now in
    let held = c.index.result.now.held in
    let after = c.in_ok-after.after in
    let old = slice_get_read ls (length ls) t l refl c.requires.there c.index_mut-label.ensures.value in
    let here = slice_get_read ls (length ls) c.args.i c.index.result.now refl c.requires.within c.index.ensures in
    joins ls t l c.join.new.label (in_set ns after) refl
    (λ f. facts-behind ns apart p c.args.lists.now lists e held after c.in_ok-after.ensures numbers f ∙ ap (held_after_edge (edge_in p e) f) (sym (ap (map_or false (λ (k : Label). in_set ns k.held f)) here)))
    (record {
      old = old;
      within = c.requires.there;
      reached = c.join.ensures.reached;
      facts = in-joined ns c.join.new.label.held l.held after l.reached c.join.ensures.held;
      still = λ n. let still = c.join.ensures.still n in (still.0, still.1, in-same ns c.join.new.label.held l.held still.2);
      known = known-joined ns c.join.new.label.held l.held after l.reached c.join.ensures.held (known-behind ns apart p c.args.lists.now lists e held after c.in_ok-after.ensures (known c.args.i c.index.result.now here));
      less = λ all only. c.join.ensures.less ns all (known t l old) only;
    })
