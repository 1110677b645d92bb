-- The step of a process in a world without names is that of the run which it shows.
use Rattle.std.proofs.Common.{◌≡◌, ℕ, List, [], ◌∷◌, ◌++◌, false, ◌||◌, Option, Some, option_map, option_and_then, sym, ap, ap₂, ◌∙◌}
use Rattle.std.specs.Prelude.{⊤}
use Rattle.herm_model.specs.Values.{Name}
use Rattle.herm_model.proofs.Options.{some-injective}
use Rattle.herm_journal.specs.Entries.{Text}
use Rattle.herm_journal.specs.NextNumbers.{Limits}
use Rattle.herm_instructions.specs.Images.{Image}
use Rattle.herm_system.specs.Machines.{Standing, is_local, is_acting}
use Rattle.herm_system.specs.Rounds.{turn}
use Rattle.herm_system.specs.Systems.{Event, Run, run, start, standing_of, can_step}
use Rattle.herm_model.specs.Lists.{any_pass, list_of}
use Rattle.herm_runs.proofs.Events.{run-joined}
use Rattle.herm_code_machine.specs.CodeRenaming.{forget_code}
use Rattle.herm_code_machine.specs.CodeStates.{CodeState}
use Rattle.herm_code_worlds.specs.CodeWorlds.{named, nameless, Shows}
use Rattle.herm_code_worlds.specs.laws.WorldOfCode.{WorksAsWorld}
use Rattle.herm_waking.specs.KeptRounds.{Worked, stepped, made_turn}
use Rattle.herm_waking.specs.Unnamed.{bare_standing, bare_turn}
use Rattle.herm_waking.specs.UnnamedRounds.{BareWorked, bare_stepped, unnamed_worked}
use Rattle.herm_waking.specs.Waking.{Kept}
use Rattle.herm_waking.proofs.RoundsKept.{no-turn}

module _ (image : Image) (main : ℕ) (works : WorksAsWorld image main) (limits : Limits) (argument : Text) where
  abbrev Shown : List Event → Worked (CodeState Name) → BareWorked (CodeState ⊤) → Type 0
  Shown events w b = Shows image main limits argument events w b

  -- an event that the world makes is the run's
  pub stepped-named : (events : List Event) (w : Worked (CodeState Name)) (b : BareWorked (CodeState ⊤)) → Shown events w b → (p : ℕ) (e : Event) (t : Worked (CodeState Name)) (c : BareWorked (CodeState ⊤))
      → bare_turn (nameless image main) b.system p ≡ Some e → bare_stepped (nameless image main) p b ≡ Some c → Shown (events ++ e ∷ []) t c → stepped (named image main) p w ≡ Some t
  stepped-named events w b shows p e t c next does then_shows =
      let u = works.rounds.steps p w shows.worked in
      let turns : turn (named image main) w.run.system p ≡ Some e = sym (works.without_names.turns w.run.system p) ∙ ap (λ (b : BareWorked (CodeState ⊤)). bare_turn (nameless image main) b.system p) shows.seen ∙ next in
      let behind = works.rounds.worked e w u.0 shows.worked (sym (ap (λ o. made_turn (named image main) o w) turns) ∙ u.1) in
      let runs : run (named image main) (events ++ e ∷ []) (start (named image main) limits argument) ≡ Some u.0.run
      = run-joined (named image main) events (e ∷ []) (start (named image main) limits argument) w.run shows.comes ∙ ap (option_and_then (λ x. Some x)) behind.1 in
      let same_run : u.0.run ≡ t.run = some-injective (sym runs ∙ then_shows.comes) in
      let seen : unnamed_worked forget_code u.0 ≡ c
      = some-injective (sym (ap (option_map (unnamed_worked forget_code)) u.1) ∙ sym (works.without_names.stepped p w) ∙ ap (bare_stepped (nameless image main) p) shows.seen ∙ does) in
      let same_kept : u.0.kept ≡ t.kept = ap (λ (b : BareWorked (CodeState ⊤)). b.kept) (seen ∙ sym then_shows.seen) in
      u.1 ∙ ap₂ (λ (r : Run (CodeState Name)) (k : Kept). Some (record { run = r; kept = k })) same_run same_kept

  -- who stands so that nothing changes makes none
  pub stands-named : (events : List Event) (w : Worked (CodeState Name)) (b : BareWorked (CodeState ⊤)) → Shown events w b → (p : ℕ) (o : Option Standing)
      → bare_standing (nameless image main) b.system p ≡ o → any_pass is_local (list_of (λ x. x ∷ []) o) ≡ false → any_pass is_acting (list_of (λ x. x ∷ []) o) ≡ false → stepped (named image main) p w ≡ Some w
  stands-named events w b shows p o stands still idle =
      let so : standing_of (named image main) w.run.system p ≡ o = sym (works.without_names.standings w.run.system p) ∙ ap (λ (b : BareWorked (CodeState ⊤)). bare_standing (nameless image main) b.system p) shows.seen ∙ stands in
      let cannot : can_step (named image main) w.run.system p ≡ false
      = ap (λ o. any_pass is_local (list_of (λ x. x ∷ []) o) || any_pass is_acting (list_of (λ x. x ∷ []) o)) so ∙ ap₂ (λ a b. a || b) still idle in
      ap (λ o. made_turn (named image main) o w) (no-turn (named image main) w.run.system p cannot)
