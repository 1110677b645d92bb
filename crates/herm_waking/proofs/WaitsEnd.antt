-- A message that is placed, and a reply that is answered, end a wait.
use Rattle.std.proofs.Common.{◌≡◌, ℕ, List, [], ◌∷◌, ◌++◌, map, Bool, true, ◌||◌, Option, Some, is_some, option_map, option_and_then, refl, sym, ap, subst, ◌∙◌}
use Rattle.herm_model.specs.Values.{Name, Cell}
use Rattle.herm_model.proofs.Lists.{in-map}
use Rattle.herm_model.proofs.Options.{some-injective}
use Rattle.herm_journal.specs.Actions.{to_take, to_hear, answer}
use Rattle.herm_journal.specs.NextNumbers.{Limits}
use Rattle.herm_journal.specs.PlaceStates.{Replies, replies, after}
use Rattle.herm_journal.specs.Entries.{Place, port, reply_cell}
use Rattle.herm_journal.specs.Messages.{CellReply, CellWant, CellAction}
use Rattle.herm_system.specs.Machines.{Machine, acting}
use Rattle.herm_system.specs.Sound.{IsSoundWith}
use Rattle.herm_system.specs.Systems.{System, Moved, numbered_from_one, done_at, done_in, holding_at, set_holding, set_process, with_made, can, can_be_done, seen_as, standing, standing_of}
use Rattle.herm_runs.proofs.ActionParts.{action-parts}
use Rattle.herm_runs.proofs.SystemLedger.{processes-stay}
use Rattle.herm_sound.specs.SoundMachines.{KeepsSound}
use Rattle.herm_sound.proofs.Acted.{Holding, IsAct, placed, answered, acted}
use Rattle.herm_sound.proofs.MadeSystems.{made-stays}
use Rattle.herm_sound.proofs.Places.{cell-there}
use Rattle.herm_sound.proofs.ReplyCells.{own-from_one, other-from_one}
use Rattle.herm_waking.specs.laws.WakingLaws.{EndsWait, WaitsEnd}
use Rattle.herm_waking.proofs.KeptReady.{in-any, put-there}
use Rattle.herm_waking.proofs.OthersStand.{made-holding, action-limits}

reply-last : (rs : Replies (CellReply Name)) (k : ℕ) (r : CellReply Name) → is_some (done_at {M = Cell Name} to_hear (replies (rs ++ (k, r) ∷ []))) ≡ true
reply-last [] k r = refl
reply-last (x ∷ rs) k r = refl

module _ {P : Type 0} (machine : Machine Name P) (Is : P → Type 0) (keeps : KeepsSound machine Is) (types : List ℕ) (s : System P) (sound : IsSoundWith machine Is types s) where
  can-now : (p q : ℕ) (x y : P) (t : System P) (w : CellWant Name) (place : Place) (h : Holding) (a : CellAction Name) → IsAct p w place h a → holding_at place s ≡ Some h → with_made machine x a (set_process p y (set_holding place (after a h) s)) ≡ Some t
      → (v : CellWant Name) → EndsWait place a q v → can t q v ≡ true
  can-now p q x y t w place h a (placed n d qs i) at makes (to_take ports) member =
      in-any (λ place. is_some (done_in (to_take ports) t place)) (map port ports) (port n) (in-map port n ports member) (put-there machine Is keeps types s sound x y p t n d qs i at makes ports)
  can-now p q x y t w place h a (answered caller call r rs) at makes to_hear same =
      let u = set_process p y (set_holding (reply_cell caller) (after (answer call r) (replies rs)) s) in
      let now : holding_at (reply_cell caller) u ≡ Some (replies (rs ++ (call, r) ∷ [])) = ap (option_map replies) (own-from_one s.replies caller rs (rs ++ (call, r) ∷ []) (cell-there s caller rs at)) in
      let behind = made-holding machine x (answer call r) u t (reply_cell caller) (replies (rs ++ (call, r) ∷ [])) makes now in
      subst (λ q. can t q to_hear ≡ true) same (ap (λ o. is_some (option_and_then (done_at {M = Cell Name} {R = CellReply Name} to_hear) o) || Rattle.std.proofs.Common.false) behind ∙ ap (λ b. b || Rattle.std.proofs.Common.false) (reply-last rs call r))
  can-now p q x y t w place h a act at makes v ends = absurd ends

pub waits-end : {P : Type 0} (machine : Machine Name P) (Is : P → Type 0) (keeps : KeepsSound machine Is) → WaitsEnd machine Is keeps.beside
waits-end {P} machine Is keeps s p place m a sound e done q x w apart is wants ready ends =
    let parts = action-parts machine p place s m e in
    let did : parts.did.0 ≡ a = some-injective (ap (λ (m : Moved P). m.done) parts.moved ∙ done) in
    let t = parts.makes.0 in
    let k = after parts.did.0 parts.at.0 in
    let u = set_process p parts.left.0 (set_holding place k s) in
    let stays = made-stays machine parts.state parts.did.0 u t parts.makes.1 q x (other-from_one (set_holding place k s).processes p q parts.left.0 apart ∙ ap (numbered_from_one q) (processes-stay place k s) ∙ is) in
    let limits = action-limits machine Is keeps sound.0 s sound.1.sound p place m parts in
    let able = can-now machine Is keeps sound.0 s sound.1.sound p q parts.state parts.left.0 t parts.want.0 place parts.at.0 parts.did.0 (acted p parts.want.0 place parts.at.0 parts.did.0 parts.there parts.did.1) parts.at.1 parts.makes.1 w
    (subst (λ a. EndsWait place a q w) (sym did) ends) in
    subst (λ (m : Moved P). standing_of machine m.system q ≡ Some acting) parts.moved
    (
    ap (option_map (standing machine t.book.limits.steps (can t q))) stays
    ∙ ap (λ (l : Limits). Some (seen_as (machine.ready l.steps x) (can_be_done (can t q) (machine.wanted x)))) limits
    ∙ ap (λ r. Some (seen_as r (can_be_done (can t q) (machine.wanted x)))) ready
    ∙ ap (λ o. Some (seen_as acting (can_be_done (can t q) o))) wants
    ∙ ap (λ b. Some (seen_as acting b)) able
    )
