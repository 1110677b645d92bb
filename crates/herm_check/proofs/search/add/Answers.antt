use Rattle.std.proofs.Common.{◌≡◌, ◌<◌, ◌++◌, ◌∷◌, ◌&&◌, [], Bool, true, false, true≢false, not, length, Some, slice_get, slice_set, refl, sym, subst, ◌∙◌, arith}
use Rattle.std.proofs.lemmas.Option.{slice_get_read}
use Rattle.herm_facts.specs.FactSets.{has}
use Rattle.herm_check.specs.Searched.{with_facts, IsVisited, again, added}
use Rattle.herm_check.proofs.Following.{slot-within}
use Rattle.herm_check.proofs.search.add.Goals as goal

none-new : (a b c : Bool) → c ≡ (a && not b) → c ≡ false → a ≡ true → b ≡ true
none-new true true c e f g = refl
none-new true false c e f g = absurd (true≢false (sym e ∙ f))
none-new false b c e f g = absurd (true≢false (sym g))

pub returns-then-is_empty : goal.returns-then-is_empty
returns-then-is_empty c =
    let seen = c.args.search.now.seen.items in
    let v = c.args.visit in
    let slot = c.slot-slot.result in
    let s = c.index-seen.result.now in
    let within : slot < length seen = subst (λ n. n < length seen) (sym c.slot-slot.ensures) (slot-within v.point (length seen) v.held c.requires.within) in
    again s (subst (λ n. slice_get seen n ≡ Some s) c.slot-slot.ensures (slice_get_read seen (length seen) slot s refl within c.index-seen.ensures))
    (λ j of. none-new (has v.facts j) (has s j) (has c.without-facts.result j) (c.without-facts.ensures j) (c.is_empty.ensures.none c.if-is_empty.true j) of)

pub returns : goal.returns
returns c =
    let vs = c.args.search.now.visits.items in
    let seen = c.args.search.now.seen.items in
    let places = c.args.search.now.places.items in
    let v = c.args.visit in
    let slot = c.slot-slot.result in
    let s = c.index-seen.result.now in
    let row = c.index_mut.result.now in
    let within : slot < length seen = subst (λ n. n < length seen) (sym c.slot-slot.ensures) (slot-within v.point (length seen) v.held c.requires.within) in
    let inside : slot < length places = omega (arith, within, c.requires.many) in
    let many : c.len.result ≡ length vs = omega (arith, c.len.ensures, c.args.search.now.visits.ok) in
    let was = subst (λ n. slice_get seen n ≡ Some s) c.slot-slot.ensures (slice_get_read seen (length seen) slot s refl within c.index-seen.ensures) in
    let stood = subst (λ n. slice_get places n ≡ Some row) c.slot-slot.ensures (slice_get_read places (length places) slot row refl inside c.index_mut.ensures.value) in
    subst (λ ws. IsVisited v vs seen places ws (slice_set seen slot c.either.result) (slice_set places slot c.push.new.self)) (sym c.in_ok-push-2.ensures.items)
    (subst (λ n. IsVisited v vs seen places (vs ++ with_facts v c.without-facts.result ∷ []) (slice_set seen n c.either.result) (slice_set places n c.push.new.self)) (sym c.slot-slot.ensures)
    (added s c.without-facts.result c.either.result row c.push.new.self was stood c.without-facts.ensures c.either.ensures (c.is_empty.ensures.some c.if-is_empty.false)
    (subst (λ n. c.push.new.self.items ≡ row.items ++ n ∷ []) many c.in_ok-push.ensures.items)))
