use Rattle.std.proofs.Common.{◌≡◌, ℕ, length, map, Option, Some, true, true≢false, refl, sym, subst, arith}
use Rattle.std.proofs.lemmas.Option.{slice_get_read}
use Rattle.std.specs.declared.vec.Vec.{Vec}
use Rattle.std.specs.declared.alloc.Global.{Global}
use Rattle.herm_model.specs.Lists.{IsIn, any_pass, list_of}
use Rattle.herm_model.specs.Paths.{Fact as FactOf, path_of, is_at_or_below}
use Rattle.herm_types.specs.declared.fact.Fact.{Fact}
use Rattle.herm_types.specs.View.{fact_view}
use Rattle.herm_facts.specs.declared.sparse_set.SparseSet.{SparseSet}
use Rattle.herm_facts.specs.FactNumbers.{number_of}
use Rattle.herm_facts.specs.SparseSets.{has_sparse}
use Rattle.herm_check.specs.Lists.{HasFacts}
use Rattle.herm_check.proofs.ListedFacts.{at-each}
use Rattle.herm_check.proofs.Making.{each-more}
use Rattle.herm_check.proofs.lists.made_sets.Goals as goal

pub loop-facts-preserved : goal.loop-facts-preserved
loop-facts-preserved c =
    let lists = c.args.made.now in
    let i = c.loop-facts.facts-index in
    let v = c.facts-item.result in
    let set = c.in_ok-set_of.field-0 in
    each-more (λ (w : Vec Fact Global) (s : SparseSet). HasFacts c.args.numbers.now (map fact_view w.items) (has_sparse s)) lists c.loop-facts.sets.items c.push.new.self.items i v set c.loop-facts.invariant
    (slice_get_read lists (length lists) i v refl c.loop-facts-test.true c.facts-item.is)
    (subst (λ xs. HasFacts c.args.numbers.now (map fact_view xs) (has_sparse set)) c.as_slice.ensures.value c.in_ok-set_of.ensures)
    c.in_ok-push.ensures.items

pub returns : goal.returns
returns c = at-each (λ (o : Option (Vec Fact Global)) (n : ℕ). (f : FactOf) × (number_of c.args.numbers.now f ≡ Some n) × IsIn f (list_of (λ (v : Vec Fact Global). map fact_view v.items) o)) c.args.made.now c.loop-facts.sets.items (omega (arith, c.loop-facts.invariant.0, c.loop-facts-test.false)) (λ n d. d.2) c.loop-facts.invariant.1
