use Rattle.std.proofs.Common.{◌≡◌, sym, ap, ◌∙◌, None, Some, Option, Bool, true, false, not, is_some, true≢false, refl}
use Rattle.herm_waking.specs.Numbers.{next_from}
use Rattle.herm_ready.proofs.Members.{none-first}
use Rattle.herm_ready.proofs.ready.Ready.is_empty.Goals as goal

absent : {X : Type 0} (o : Option X) → is_some o ≡ false → o ≡ None
absent None e = refl
absent (Some x) e = absurd (true≢false e)

is-true : (b : Bool) → false ≡ not b → b ≡ true
is-true true e = refl
is-true false e = absurd (true≢false (sym e))

pub returns : goal.returns
returns c = record {
  none = (
    λ e. none-first c.args.self.now.members (sym c.next_from.ensures.first ∙ absent c.next_from.result (c.is_none.ensures ∙ ap not e)),
    λ e. is-true c.is_none.result (sym (ap is_some (c.next_from.ensures.first ∙ ap (next_from 0) e)) ∙ c.is_none.ensures),
  );
}
