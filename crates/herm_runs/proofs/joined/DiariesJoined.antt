-- What a diary leads to in one of two joined machines, it leads to in the other.
use Rattle.std.proofs.Common.{◌≡◌, ℕ, zero, suc, cond, Some, None, option_and_then, refl, sym, ap, subst, ◌∙◌}
use Rattle.std.specs.Prelude.{⊤}
use Rattle.herm_model.proofs.Options.{some-injective, chain-some}
use Rattle.herm_journal.specs.Entries.{Entry}
use Rattle.herm_journal.specs.Messages.{CellAction}
use Rattle.herm_system.specs.Machines.{Machine, is_local}
use Rattle.herm_system.specs.Systems.{number_of}
use Rattle.herm_system.specs.Suiting.{has_local_step, local_steps}
use Rattle.herm_system.specs.PutAside.{IsToldBy, IsBehind}
use Rattle.herm_system.specs.DiaryStates.{after_steps, after_entry}
use Rattle.herm_runs.specs.Joining.{AreJoined, DiariesTogether}
use Rattle.herm_runs.proofs.ActionParts.{cond-both}
use Rattle.herm_runs.proofs.joined.Turned.{shows-turned, suits-same, fulfils-same}
use Rattle.herm_runs.proofs.joined.StepsTogether.{there}

module _ {P Q : Type 0} (a : Machine ⊤ P) (b : Machine ⊤ Q) (R : P → Q → Type 0) (j : AreJoined a b R) where
  local-same : (limit : ℕ) (x : P) (y : Q) → R x y → has_local_step a limit x ≡ has_local_step b limit y
  local-same limit x y r = ap is_local ((j.shows x y r).ready limit)

  locals-together : (limit n : ℕ) (x x' : P) (y : Q) → R x y → local_steps a limit n x ≡ Some x' → (y' : Q) × (local_steps b limit n y ≡ Some y') × R x' y'
  locals-together limit zero x x' y r e = (y, refl, subst (λ v. R v y) (some-injective e) r)
  locals-together limit (suc n) x x' y r e =
      let has = cond-both (has_local_step a limit x) _ x' e in
      let next = chain-some (local_steps a limit n) (a.local_step x) x' has.1 in
      let z = there R (a.local_step x) (b.local_step y) next.0 (j.local_steps limit x y r has.0) next.1 in
      let rest = locals-together limit n next.0 x' z.0 z.2 next.2 in (
        rest.0,
        ap (λ q. cond q (option_and_then (local_steps b limit n) (b.local_step y)) None) (sym (local-same limit x y r) ∙ has.0) ∙ ap (option_and_then (local_steps b limit n)) z.1 ∙ rest.1,
        rest.2,
      )

  -- an entry tells of the same action
  told-same : (x : P) (y : Q) (e : Entry) (action : CellAction ⊤) → R x y → IsToldBy a x e action → IsToldBy b y e action
  told-same x y e action r h =
      let shows = j.shows x y r in
      record { text = h.text; answers = fulfils-same a b j.types x y shows e.place action h.answers; suits = suits-same a b j.types x y shows (number_of e.place) action h.suits }

  told-back : (x : P) (y : Q) (e : Entry) (action : CellAction ⊤) → R x y → IsToldBy b y e action → IsToldBy a x e action
  told-back x y e action r h =
      let shows = shows-turned a b x y (j.shows x y r) in
      record { text = h.text; answers = fulfils-same b a (sym j.types) y x shows e.place action h.answers; suits = suits-same b a (sym j.types) y x shows (number_of e.place) action h.suits }

  behind-together : (x x' : P) (y : Q) (e : Entry) → R x y → IsBehind a x e x' → (y' : Q) × IsBehind b y e y' × R x' y'
  behind-together x x' y e r (IsBehind.told action x'' tells is) =
      let z = there R (a.answered x (number_of e.place) action) (b.answered y (number_of e.place) action) x' (j.answers x y e.place action r tells.answers tells.suits) is in
      (z.0, IsBehind.told action z.0 (told-same x y e action r tells) z.1, z.2)
  behind-together x x' y e r (IsBehind.aside none) = (b.put_aside y, IsBehind.aside (λ action h. none action (told-back x y e action r h)), j.puts_aside x y r)

  pub diaries-together : DiariesTogether a b R
  diaries-together limit entries n x x' y r (after_steps s t n' e) =
      let z = locals-together limit n x x' y r e in (z.0, after_steps y z.0 n z.1, z.2)
  diaries-together limit entries n x x' y r (after_entry s u v t e es k n' before still behind after) =
      let z = locals-together limit k x u y r before in
      let w = behind-together u v z.0 e z.2 behind in
      let last = diaries-together limit es n v x' w.0 w.2 after in
      (last.0, after_entry y z.0 w.0 last.0 e es k n z.1 (sym (local-same limit u z.0 z.2) ∙ still) w.1 last.1, last.2)
