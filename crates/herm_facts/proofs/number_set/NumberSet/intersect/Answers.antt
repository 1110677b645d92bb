use Rattle.std.proofs.Common.{◌≡◌, ◌/◌, ◌%◌, ◌&&◌, ◌∙◌, length, take, ap, ap₂, arith}
use Rattle.std.proofs.lemmas.List.{with_items_is}
use Rattle.herm_facts.specs.NumberSets.{has_at, has_number}
use Rattle.herm_facts.proofs.NumberSets.{cut}
use Rattle.herm_facts.proofs.number_set.NumberSet.intersect.Goals as goal

pub returns : goal.returns
unfolding has_number
returns c n =
    let others = c.args.other.now.words.items in
    let many : c.len.result ≡ length c.args.other.now.words.items = omega (arith, c.args.other.now.words.ok) in
    ap (λ ws. has_at ws (n / 64) (n % 64)) (with_items_is c.truncate.new.self c.keep_common.new.words (omega (arith, c.truncate.new.self.ok, c.keep_common.auto.words, c.as_mut_slice.ensures.len)))
    ∙ (c.keep_common.ensures (n / 64) (n % 64)
    ∙ (ap₂ (λ ws vs. has_at ws (n / 64) (n % 64) && has_at vs (n / 64) (n % 64)) (c.as_mut_slice.ensures.value ∙ (c.truncate.ensures.items ∙ ap (λ m. take m c.args.self.now.words.items) many)) c.as_slice.ensures.value
    ∙ cut c.args.self.now.words.items others (n / 64) (n % 64)))
