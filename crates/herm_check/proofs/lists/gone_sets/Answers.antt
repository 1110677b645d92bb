use Rattle.std.proofs.Common.{◌≡◌, ℕ, length, map, Option, Some, true, true≢false, refl, sym, subst, arith}
use Rattle.std.proofs.lemmas.Option.{slice_get_read}
use Rattle.std.specs.declared.vec.Vec.{Vec}
use Rattle.std.specs.declared.alloc.Global.{Global}
use Rattle.herm_model.specs.Lists.{IsIn, any_pass, list_of}
use Rattle.herm_model.specs.Paths.{Fact as FactOf, path_of, is_at_or_below}
use Rattle.herm_types.specs.declared.fact.Path.{Path}
use Rattle.herm_types.specs.View.{path_view}
use Rattle.herm_facts.specs.declared.sparse_set.SparseSet.{SparseSet}
use Rattle.herm_facts.specs.FactNumbers.{number_of}
use Rattle.herm_facts.specs.SparseSets.{has_sparse}
use Rattle.herm_check.specs.Lists.{HasBelow}
use Rattle.herm_check.proofs.ListedFacts.{at-each}
use Rattle.herm_check.proofs.Making.{each-more}
use Rattle.herm_check.proofs.lists.gone_sets.Goals as goal

pub loop-paths-preserved : goal.loop-paths-preserved
loop-paths-preserved c =
    let lists = c.args.gone.now in
    let i = c.loop-paths.paths-index in
    let v = c.paths-item.result in
    let set = c.in_ok-set_below.field-0 in
    each-more (λ (w : Vec Path Global) (s : SparseSet). HasBelow c.args.numbers.now (map path_view w.items) (has_sparse s)) lists c.loop-paths.sets.items c.push.new.self.items i v set c.loop-paths.invariant
    (slice_get_read lists (length lists) i v refl c.loop-paths-test.true c.paths-item.is)
    (subst (λ xs. HasBelow c.args.numbers.now (map path_view xs) (has_sparse set)) c.as_slice.ensures.value c.in_ok-set_below.ensures)
    c.in_ok-push.ensures.items

pub returns : goal.returns
returns c = at-each (λ (o : Option (Vec Path Global)) (n : ℕ). (f : FactOf) × (number_of c.args.numbers.now f ≡ Some n) × (any_pass (λ p. is_at_or_below p (path_of f)) (list_of (λ (v : Vec Path Global). map path_view v.items) o) ≡ true)) c.args.gone.now c.loop-paths.sets.items (omega (arith, c.loop-paths.invariant.0, c.loop-paths-test.false)) (λ n d. true≢false (sym d.2)) c.loop-paths.invariant.1
