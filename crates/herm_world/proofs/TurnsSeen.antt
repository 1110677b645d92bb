-- How a process stands, by what it does at its turn.
use Rattle.std.proofs.Common.{◌≡◌, ◌⊎◌, inl, inr, ℕ, List, [], ◌∷◌, Bool, true, false, cond, ◌||◌, Some, option_map, refl, ap, ap₂, subst, ◌∙◌}
use Rattle.std.specs.Prelude.{⊤}
use Rattle.herm_model.specs.Lists.{any_pass, list_of}
use Rattle.herm_journal.specs.Messages.{CellWant}
use Rattle.herm_system.specs.Machines.{Machine, Standing, ended, out_of_steps, out_of_actions, local, acting, waiting, is_local, is_acting}
use Rattle.herm_system.specs.Systems.{standing, numbered_from_one}
use Rattle.herm_instructions.specs.Images.{Image}
use Rattle.herm_code_machine.specs.CodeStates.{CodeState}
use Rattle.herm_waking.specs.Unnamed.{Unnamed, bare_can, bare_can_step, bare_standing}
use Rattle.herm_waking.specs.UnnamedRounds.{BareWorked}
use Rattle.herm_machine.specs.Machines.{nameless}
use Rattle.herm_process.specs.Processes.{ProcessState, IsProcess}
use Rattle.herm_world.specs.Places.{Places, seen_of}
use Rattle.herm_world.specs.Turns.{IsTurn, TurnsAs}
use Rattle.herm_world.specs.Worlds.{Sees}
use Rattle.herm_world.specs.declared.turns.Turn.{Turn}
use Rattle.herm_world.specs.declared.turns.Turn.TheVariants as turns
use Rattle.herm_world.proofs.ShownFacts.{alike-number}
use Rattle.herm_world.proofs.StandingSo.{stands-as, acting-as}

-- how it stands then
abbrev pub IsStandingAs : Turn → Standing → Type 0
IsStandingAs turns.Local st = st ≡ local
IsStandingAs turns.Act st = st ≡ acting
IsStandingAs turns.Waiting st = st ≡ waiting
IsStandingAs turns.Ended st = st ≡ ended
IsStandingAs turns.Stopped st = (st ≡ out_of_steps) ⊎ (st ≡ out_of_actions)

pub turn-stands : {Q : Type 0} (machine : Machine ⊤ Q) (limit : ℕ) (can : CellWant ⊤ → Bool) (x : Q) (t : Turn) → IsTurn t machine limit can x → IsStandingAs t (standing machine limit can x)
turn-stands machine limit can x turns.Local h = stands-as machine limit can x local h
turn-stands machine limit can x turns.Act h = acting-as machine limit can x h.1 h.0 h.2 ∙ ap (λ b. cond b acting waiting) h.3
turn-stands machine limit can x turns.Waiting h = acting-as machine limit can x h.1 h.0 h.2 ∙ ap (λ b. cond b acting waiting) h.3
turn-stands machine limit can x turns.Ended h = stands-as machine limit can x ended h
turn-stands machine limit can x turns.Stopped (inl h) = inl (stands-as machine limit can x out_of_steps h)
turn-stands machine limit can x turns.Stopped (inr h) = inr (stands-as machine limit can x out_of_actions h)

or-false : (b : Bool) → (b || false) ≡ b
or-false true = refl
or-false false = refl

module _ (image : Image) (main : ℕ) (ps : List ProcessState) (s : Places) (ready : List ℕ) (b : BareWorked (CodeState ⊤)) (sees : Sees image main ps s ready b) (p : ℕ) (process : ProcessState) (its : numbered_from_one p ps ≡ Some process)
    (limit : process.limit ≡ b.system.book.limits.steps) (t : Turn) (turn : TurnsAs t process s p) where
  pub its-state : (x : CodeState ⊤) × (numbered_from_one p b.system.processes ≡ Some x) × IsProcess image main process x
  its-state = alike-number (IsProcess image main) ps b.system.processes sees.processes p process its

  -- its turn in the system that the world holds
  pub its-turn : IsTurn t (nameless image main) b.system.book.limits.steps (bare_can b.system p) its-state.0
  its-turn =
      subst (λ (v : Unnamed (CodeState ⊤)). IsTurn t (nameless image main) b.system.book.limits.steps (bare_can v p) its-state.0) sees.places
      (subst (λ n. IsTurn t (nameless image main) n (bare_can (seen_of b.system.processes s) p) its-state.0) limit (turn image main its-state.0 its-state.2 b.system.processes))

  pub its-standing : (st : Standing) × (bare_standing (nameless image main) b.system p ≡ Some st) × IsStandingAs t st
  its-standing = (
    standing (nameless image main) b.system.book.limits.steps (bare_can b.system p) its-state.0,
    ap (option_map (standing (nameless image main) b.system.book.limits.steps (bare_can b.system p))) its-state.1,
    turn-stands (nameless image main) b.system.book.limits.steps (bare_can b.system p) its-state.0 t its-turn,
  )

-- who stands so can step exactly where it makes a step
pub can-as : {Q : Type 0} (machine : Machine ⊤ Q) (v : Unnamed Q) (p : ℕ) (st : Standing) → bare_standing machine v p ≡ Some st → bare_can_step machine v p ≡ (is_local st || is_acting st)
can-as machine v p st e =
    ap₂ (λ a b. a || b) (ap (λ o. any_pass is_local (list_of (λ x. x ∷ []) o)) e ∙ or-false (is_local st)) (ap (λ o. any_pass is_acting (list_of (λ x. x ∷ []) o)) e ∙ or-false (is_acting st))
