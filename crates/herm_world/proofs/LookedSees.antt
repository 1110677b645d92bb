-- A process that was looked at again, in the system that a world holds.
use Rattle.std.proofs.Common.{◌≡◌, ℕ, List, [], ◌∷◌, map, Bool, cond, ◌||◌, Option, Some, None, option_map, refl, sym, ap, ap₂, ◌∙◌}
use Rattle.std.specs.Prelude.{slice_get, ⊤}
use Rattle.herm_model.specs.Lists.{any_pass, list_of}
use Rattle.herm_model.specs.Values.{Cell}
use Rattle.herm_journal.specs.Ports.{Port}
use Rattle.herm_instructions.specs.Images.{Image}
use Rattle.herm_system.specs.Machines.{is_local, is_acting}
use Rattle.herm_system.specs.Systems.{numbered_from_one, standing}
use Rattle.herm_code_machine.specs.CodeStates.{CodeState}
use Rattle.herm_code_worlds.specs.CodeWorlds.{nameless}
use Rattle.herm_waking.specs.Numbers.{inserted, removed}
use Rattle.herm_waking.specs.Unnamed.{Unnamed, bare_can, bare_can_step, bare_awaited, bare_open, ports_as, ports_of_want}
use Rattle.herm_waking.specs.UnnamedRounds.{BareWorked}
use Rattle.herm_waking.specs.Waking.{looked_by, noted_at}
use Rattle.herm_queue.specs.PortStates.{PortState}
use Rattle.herm_process.specs.Processes.{ProcessState}
use Rattle.herm_world.specs.Looks.{can_so}
use Rattle.herm_world.specs.Places.{Places, port_seen, replies_seen, seen_of, waiters_of}
use Rattle.herm_world.specs.Waits.{IsSameBut, IsLookedAt, awaited_so, opened, without_waiter}
use Rattle.herm_world.specs.Worlds.{Sees}
use Rattle.herm_world.proofs.Noting.{noted-same}
use Rattle.herm_world.proofs.PlacesSeen.{get-map}
use Rattle.herm_world.proofs.Stepped.{tested}

-- who waits is not seen
seen-bare : (ps : List PortState) → map port_seen (map without_waiter ps) ≡ map port_seen ps
seen-bare [] = refl
seen-bare (p ∷ ps) = ap (port_seen p ∷◌) (seen-bare ps)

pub same-seen : {Q : Type 0} (qs : List Q) (s t : Places) → IsSameBut s t → seen_of qs t ≡ seen_of qs s
same-seen qs s t same =
    ap (λ ps. record { processes = qs; ports = ps; replies = map replies_seen t.replies; book = t.book.held }) (sym (seen-bare t.ports) ∙ ap (map port_seen) same.ports ∙ seen-bare s.ports)
    ∙ ap₂ (λ rs b. record { processes = qs; ports = map port_seen s.ports; replies = map replies_seen rs; book = b.held }) same.replies same.book

opened-seen : {Q : Type 0} (qs : List Q) (s : Places) (n : ℕ) → opened s n ≡ bare_open (seen_of qs s) n
opened-seen qs s n = by (slice_get s.ports n) ∙ ap (λ o. any_pass (λ (p : Port (Cell ⊤)). p.is_open) (list_of (λ p. p ∷ []) o)) (sym (get-map port_seen s.ports n))
  where
    by : (o : Option PortState) → any_pass (λ (p : PortState). p.held.is_open) (list_of (λ p. p ∷ []) o) ≡ any_pass (λ (p : Port (Cell ⊤)). p.is_open) (list_of (λ p. p ∷ []) (option_map port_seen o))
    by None = refl
    by (Some p) = refl

module _ (image : Image) (main : ℕ) (ps : List ProcessState) (s new : Places) (ready ready_then : List ℕ) (b : BareWorked (CodeState ⊤)) (sees : Sees image main ps s ready b) (q : ℕ) (x : CodeState ⊤)
    (its : numbered_from_one q b.system.processes ≡ Some x) (same : IsSameBut s new)
    (looked : IsLookedAt (nameless image main) b.system.book.limits.steps (bare_can (seen_of b.system.processes s) q) x q s ready new ready_then) where
  abbrev can_so_of : Unnamed (CodeState ⊤) → Bool
  can_so_of v = can_so (standing (nameless image main) b.system.book.limits.steps (bare_can v q) x)

  can-step : can_so_of (seen_of b.system.processes s) ≡ bare_can_step (nameless image main) b.system q
  can-step =
      ap can_so_of sees.places
      ∙ sym (ap₂ (λ a b. a || b) (tested (nameless image main) q b.system x its is_local (standing (nameless image main) b.system.book.limits.steps (bare_can b.system q) x) refl)
      (tested (nameless image main) q b.system x its is_acting (standing (nameless image main) b.system.book.limits.steps (bare_can b.system q) x) refl))

  awaits : awaited_so (nameless image main) b.system.book.limits.steps (bare_can (seen_of b.system.processes s) q) x ≡ bare_awaited (nameless image main) b.system q
  awaits =
      ap (λ v. awaited_so (nameless image main) b.system.book.limits.steps (bare_can v q) x) sees.places
      ∙ sym (ap (λ o. list_of (λ x. ports_as (standing (nameless image main) b.system.book.limits.steps (bare_can b.system q) x) (ports_of_want ((nameless image main).wanted x))) o) its)

  -- what is kept is what is kept where the process is looked at again
  pub looked-sees : Sees image main ps new ready_then (record b { kept = looked_by (bare_can_step (nameless image main) b.system) (bare_awaited (nameless image main) b.system) (bare_open b.system) q b.kept })
  looked-sees = record {
    processes = sees.processes;
    places = same-seen b.system.processes s new same ∙ sees.places;
    ready_is =
        looked.kept
        ∙ ap (λ t. cond t (inserted q ready) (removed q ready)) can-step
        ∙ ap (λ ms. cond (bare_can_step (nameless image main) b.system q) (inserted q ms) (removed q ms)) sees.ready_is;
    waiters =
        looked.noted
        ∙ noted-same (opened s) (bare_open b.system) q (awaited_so (nameless image main) b.system.book.limits.steps (bare_can (seen_of b.system.processes s) q) x) (waiters_of s) (λ n. opened-seen b.system.processes s n ∙ ap (λ v. bare_open v n) sees.places)
        ∙ ap₂ (λ ports ws. noted_at (bare_open b.system) q ports ws) awaits sees.waiters;
  }
