use Rattle.std.proofs.Common.{◌≡◌, ◌<◌, ◌∙◌, ◌+◌, ◌*◌, Some, false, nat_eq, length, slice_get, sym, ap, subst}
use Rattle.herm_model.specs.Lists.{any_pass}
use Rattle.herm_facts.specs.FactSets.{has}
use Rattle.herm_facts.specs.SparseSets.{has_sparse, places_of}
use Rattle.herm_facts.proofs.NumberSets.{place-of, bit-of}
use Rattle.herm_facts.proofs.SparseSets.{place-at, one-word, no-word}
use Rattle.herm_facts.proofs.sparse_set.SparseSet.word.Goals as goal

pub returns-in-Some : goal.returns-in-Some
unfolding has_sparse
returns-in-Some c j bit =
    let words = c.args.self.now.words.items in
    let found = c.in-Some.ensures.found in
    let within = subst (λ ws. c.in-Some.i < length ws) c.as_slice.ensures.value found.0 in
    let at = place-at words c.in-Some.i c.args.at c.index.result.now within c.index.ensures (subst (λ ws. slice_get (places_of ws) c.in-Some.i ≡ Some c.args.at) c.as_slice.ensures.value found.1) in
    sym (one-word (64 * c.args.at + j) words c.in-Some.i c.index.result.now c.args.self.now.once within c.index.ensures (at ∙ sym (place-of c.args.at j bit)) ∙ ap (has c.index.result.now.set) (bit-of c.args.at j bit))

pub returns-in-None : goal.returns-in-None
unfolding has_sparse
returns-in-None c j bit =
    let words = c.args.self.now.words.items in
    let none = subst (λ ws. any_pass (nat_eq c.args.at) (places_of ws) ≡ false) c.as_slice.ensures.value c.in-None.ensures.none in
    c.none.ensures j ∙ sym (no-word (64 * c.args.at + j) words (subst (λ k. any_pass (nat_eq k) (places_of words) ≡ false) (sym (place-of c.args.at j bit)) none))
