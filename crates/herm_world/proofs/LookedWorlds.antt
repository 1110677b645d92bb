-- Processes that were looked at again, one after the other, in the system that a world holds.
use Rattle.std.proofs.Common.{◌≡◌, ℕ, List, [], ◌∷◌, false, cond, ◌||◌, Option, Some, None, option_map, refl, sym, ap, subst, ◌∙◌}
use Rattle.std.specs.Prelude.{⊤}
use Rattle.herm_model.specs.Lists.{any_pass, list_of}
use Rattle.herm_journal.specs.Entries.{Entry}
use Rattle.herm_instructions.specs.Images.{Image}
use Rattle.herm_system.specs.Machines.{is_local, is_acting}
use Rattle.herm_system.specs.Systems.{numbered_from_one, standing}
use Rattle.herm_code_machine.specs.CodeStates.{CodeState}
use Rattle.herm_machine.specs.Machines.{nameless}
use Rattle.herm_waking.specs.Numbers.{inserted, removed}
use Rattle.herm_waking.specs.Unnamed.{Unnamed, bare_can, bare_can_step, bare_awaited, bare_open, ports_as, ports_of_want}
use Rattle.herm_waking.specs.UnnamedRounds.{BareWorked}
use Rattle.herm_waking.specs.Waking.{Kept, all_looked_by, noted_at}
use Rattle.herm_process.specs.Processes.{ProcessState, IsProcess}
use Rattle.herm_world.specs.Places.{Places, seen_of}
use Rattle.herm_world.specs.Steps.{LookedAt, LookedAtEach}
use Rattle.herm_world.specs.Waits.{IsLookedAt}
use Rattle.herm_world.specs.Worlds.{Sees, AreTold}
use Rattle.herm_world.proofs.LookedSees.{looked-sees, same-seen}
use Rattle.herm_world.proofs.SameRecorded.{same-told}
use Rattle.herm_world.proofs.ShownFacts.{alike-number, alike-none}

-- each process has the limit of steps of the system
abbrev pub AreLimited : List ProcessState → ℕ → Type 0
AreLimited ps limit = (q : ℕ) (x : ProcessState) → numbered_from_one q ps ≡ Some x → x.limit ≡ limit

module _ (image : Image) (main : ℕ) where
  abbrev pub kept_looked : List ℕ → Unnamed (CodeState ⊤) → Kept → Kept
  kept_looked qs v k = all_looked_by (bare_can_step (nameless image main) v) (bare_awaited (nameless image main) v) (bare_open v) qs k

  module _ (ps : List ProcessState) (s t : Places) (ready ready_then : List ℕ) (b : BareWorked (CodeState ⊤)) (sees : Sees image main ps s ready b) (q : ℕ) (looked : LookedAt q ps s ready t ready_then) (limited : AreLimited ps b.system.book.limits.steps) where
    none-can : numbered_from_one q b.system.processes ≡ None → bare_can_step (nameless image main) b.system q ≡ false
    none-can e =
        ap (λ o. any_pass is_local (list_of (λ x. x ∷ []) (option_map (standing (nameless image main) b.system.book.limits.steps (bare_can b.system q)) o)) || any_pass is_acting (list_of (λ x. x ∷ []) (option_map (standing (nameless image main) b.system.book.limits.steps (bare_can b.system q)) o))) e

    none-awaits : numbered_from_one q b.system.processes ≡ None → bare_awaited (nameless image main) b.system q ≡ []
    none-awaits e = ap (λ o. list_of (λ x. ports_as (standing (nameless image main) b.system.book.limits.steps (bare_can b.system q) x) (ports_of_want ((nameless image main).wanted x))) o) e

    by-number : (o : Option ProcessState) → numbered_from_one q ps ≡ o → Sees image main ps t ready_then (record b { kept = kept_looked (q ∷ []) b.system b.kept })
    by-number None e =
        let none = alike-none (IsProcess image main) ps b.system.processes sees.processes q e in
        let absent = looked.absent e in
        record {
          processes = sees.processes;
          places = same-seen b.system.processes s t looked.same ∙ sees.places;
          ready_is = absent.1 ∙ ap (removed q) sees.ready_is ∙ sym (ap (λ t. cond t (inserted q b.kept.ready) (removed q b.kept.ready)) (none-can none));
          waiters = absent.0 ∙ sees.waiters ∙ sym (ap (λ ports. noted_at (bare_open b.system) q ports b.kept.waiters) (none-awaits none));
        }
    by-number (Some x) e =
        let y = alike-number (IsProcess image main) ps b.system.processes sees.processes q x e in
        looked-sees image main ps s t ready ready_then b sees q y.0 y.1 looked.same
        (subst (λ n. IsLookedAt (nameless image main) n (bare_can (seen_of b.system.processes s) q) y.0 q s ready t ready_then) (limited q x e) (looked.there x e image main y.0 y.2 b.system.processes))

    pub one-looked : Sees image main ps t ready_then (record b { kept = kept_looked (q ∷ []) b.system b.kept })
    one-looked = by-number (numbered_from_one q ps) refl

  pub all-looked : (qs : List ℕ) (ps : List ProcessState) (s t : Places) (ready ready_then : List ℕ) (b : BareWorked (CodeState ⊤)) → Sees image main ps s ready b → LookedAtEach qs ps s ready t ready_then → AreLimited ps b.system.book.limits.steps
      → Sees image main ps t ready_then (record b { kept = kept_looked qs b.system b.kept })
  all-looked [] ps s t ready ready_then b sees looked limited =
      subst (λ s. Sees image main ps s ready_then b) (sym looked.0) (subst (λ r. Sees image main ps s r b) (sym looked.1) sees)
  all-looked (q ∷ qs) ps s t ready ready_then b sees looked limited =
      all-looked qs ps looked.0 t looked.1 ready_then (record b { kept = kept_looked (q ∷ []) b.system b.kept }) (one-looked ps s looked.0 ready looked.1 b sees q looked.2 limited) looked.3 limited

pub each-told : (journal : List Entry) (limit : ℕ) (qs : List ℕ) (ps : List ProcessState) (s t : Places) (ready ready_then : List ℕ) → LookedAtEach qs ps s ready t ready_then → AreTold journal limit ps s → AreTold journal limit ps t
each-told journal limit [] ps s t ready ready_then looked told = subst (AreTold journal limit ps) (sym looked.0) told
each-told journal limit (q ∷ qs) ps s t ready ready_then looked told = each-told journal limit qs ps looked.0 t looked.1 ready_then looked.3 (same-told journal limit ps s looked.0 (looked.2).same told)
