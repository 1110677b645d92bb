-- The step of a process that can step leads the run on that a world shows, and its journal.
use Rattle.std.proofs.Common.{◌≡◌, ℕ, List, [], ◌∷◌, ◌++◌, true, false, Option, Some, None, option_map, sym, ap, subst, ◌∙◌}
use Rattle.std.specs.Prelude.{⊤}
use Rattle.herm_model.proofs.Options.{none-not_some, some-injective, map-some}
use Rattle.herm_model.specs.Values.{Name}
use Rattle.herm_journal.specs.Entries.{Text, Place, recorded}
use Rattle.herm_journal.specs.Messages.{CellAction}
use Rattle.herm_journal.specs.NextNumbers.{Limits}
use Rattle.herm_journal.specs.Renaming.{rename_action, forget_name}
use Rattle.herm_journal.specs.Stamps.{entry_behind}
use Rattle.herm_instructions.specs.Images.{Image}
use Rattle.herm_system.specs.Systems.{Event, steps, acts, step, Run, run_on, with_entry}
use Rattle.herm_code_machine.specs.CodeRenaming.{forget_code}
use Rattle.herm_code_machine.specs.CodeStates.{CodeState}
use Rattle.herm_code_worlds.specs.CodeWorlds.{named, nameless, Shows}
use Rattle.herm_code_worlds.specs.laws.WorldOfCode.{WorksAsWorld}
use Rattle.herm_waking.specs.KeptRounds.{Worked}
use Rattle.herm_waking.specs.Numbers.{has}
use Rattle.herm_waking.specs.Unnamed.{Unnamed, BareMoved, bare_can_step, bare_turn, bare_step}
use Rattle.herm_waking.specs.UnnamedRounds.{BareWorked, bare_stepped}
use Rattle.herm_waking.specs.laws.UnnamedLaws.{bare_moved}
use Rattle.herm_world.proofs.NamesRecorded.{recorded-forget}

-- the run that is shown behind an event
pub record ShowsNext (image : Image) (main : ℕ) (limits : Limits) (argument : Text) (events : List Event) (w : Worked (CodeState Name)) (e : Event) (c : BareWorked (CodeState ⊤)) : Type 0 where
  pub run : Worked (CodeState Name)
  pub goes_on : run_on (named image main) e w.run ≡ Some run.run
  pub shows : Shows image main limits argument (events ++ e ∷ []) run c

module _ (image : Image) (main : ℕ) (works : WorksAsWorld image main) (limits : Limits) (argument : Text) (events : List Event) (w : Worked (CodeState Name)) (b : BareWorked (CodeState ⊤)) (shows : Shows image main limits argument events w b) where
  pub led : (p : ℕ) (e : Event) (c : BareWorked (CodeState ⊤)) → bare_can_step (nameless image main) b.system p ≡ true → bare_turn (nameless image main) b.system p ≡ Some e → bare_stepped (nameless image main) p b ≡ Some c
      → ShowsNext image main limits argument events w e c
  led p e c can turn stepped =
      let makes = works.shown.steps limits argument events w b shows p in
      let m = makes.steps (makes.kept ∙ can) in
      let its : m.event ≡ e = some-injective (sym m.next ∙ turn) in
      let is : m.world ≡ c = some-injective (sym m.stepped ∙ stepped) in
      record {
        run = m.run;
        goes_on = ap (λ e. run_on (named image main) e w.run) (sym its) ∙ m.goes_on;
        shows = subst (λ e. Shows image main limits argument (events ++ e ∷ []) m.run c) its (subst (Shows image main limits argument (events ++ m.event ∷ []) m.run) is m.shows);
      }

  -- who is not kept makes no event
  pub stays : (p : ℕ) → bare_can_step (nameless image main) b.system p ≡ false → bare_stepped (nameless image main) p b ≡ Some b
  stays p cannot = let makes = works.shown.steps limits argument events w b shows p in makes.stays (makes.kept ∙ cannot)

  -- who can step is who is kept
  pub kept-is : (p : ℕ) → has p b.kept.ready ≡ bare_can_step (nameless image main) b.system p
  kept-is p = (works.shown.steps limits argument events w b shows p).kept

  pub journal-steps : (p : ℕ) (r : Run (CodeState Name)) → run_on (named image main) (steps p) w.run ≡ Some r → r.journal ≡ w.run.journal
  journal-steps p r e = let m = map-some _ (step (named image main) (steps p) w.run.system) r e in ap (λ (r : Run (CodeState Name)). r.journal) (sym m.2)

  pub journal-acts : (p : ℕ) (place : Place) (r : Run (CodeState Name)) (v : Unnamed (CodeState ⊤)) (a : CellAction ⊤) → run_on (named image main) (acts p place) w.run ≡ Some r
      → bare_step (nameless image main) (acts p place) b.system ≡ Some (record { system = v; done = Some a }) → r.journal ≡ w.run.journal ++ entry_behind w.run.journal p place (recorded a) ∷ []
  journal-acts p place r v a e moved =
      let m = map-some _ (step (named image main) (acts p place) w.run.system) r e in
      let bare = works.without_names.steps (acts p place) w.run.system in
      let seen = ap (λ (b : BareWorked (CodeState ⊤)). b.system) shows.seen in
      let same : Some (bare_moved forget_code m.0) ≡ Some (record { system = v; done = Some a }) = ap (option_map (bare_moved forget_code)) (sym m.1) ∙ sym bare ∙ ap (bare_step (nameless image main) (acts p place)) seen ∙ moved in
      ap (λ (r : Run (CodeState Name)). r.journal) (sym m.2) ∙ by m.0.done (ap (λ (m : BareMoved (CodeState ⊤)). m.done) (some-injective same))
    where
      by : (done : Option (CellAction Name)) → option_map (rename_action forget_name) done ≡ Some a → with_entry w.run.journal (acts p place) done ≡ w.run.journal ++ entry_behind w.run.journal p place (recorded a) ∷ []
      by None e = none-not_some e
      by (Some d) e = ap (λ t. w.run.journal ++ entry_behind w.run.journal p place t ∷ []) (sym (recorded-forget d) ∙ ap recorded (some-injective e))
