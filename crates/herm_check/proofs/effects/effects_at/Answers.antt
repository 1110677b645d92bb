use Rattle.std.proofs.Common.{sym, subst}
use Rattle.herm_check.specs.Effects.{AreWords}
use Rattle.herm_check.proofs.EdgeEffects.{effect-by}
use Rattle.herm_check.proofs.effects.effects_at.Goals as goal

pub returns : goal.returns
returns c = record {
  many = c.in_ok-effects.ensures.many;
  each = λ n e effect at there. effect-by c.args.lists.now c.args.search c.as_slice-3.result.now c.as_slice-4.result.now
      (subst (λ ws. AreWords c.args.lists.now.made.items c.args.search ws) (sym c.as_slice-3.ensures.value) (subst (λ sets. AreWords sets c.args.search c.in_ok-made.made.items) c.as_slice.ensures.value c.in_ok-made.ensures))
      (subst (λ ws. AreWords c.args.lists.now.gone.items c.args.search ws) (sym c.as_slice-4.ensures.value) (subst (λ sets. AreWords sets c.args.search c.in_ok-gone.gone.items) c.as_slice-2.ensures.value c.in_ok-gone.ensures)) e effect (c.in_ok-effects.ensures.each n e effect at there);
}
