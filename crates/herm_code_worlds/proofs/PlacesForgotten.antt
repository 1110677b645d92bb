-- What is at a place, and what can be done there, without names; and so what can be done in a world without names suits, and its entry tells of it.
use Rattle.std.proofs.Common.{◌≡◌, ℕ, zero, suc, List, [], ◌∷◌, map, length, Bool, true, Option, Some, None, option_map, slice_get, refl, sym, ap, ap₂, subst, ◌∙◌}
use Rattle.std.specs.Prelude.{⊤}
use Rattle.herm_model.specs.CellNames.{rename}
use Rattle.herm_model.specs.Lists.{any_pass}
use Rattle.herm_model.specs.Values.{Name, Cell}
use Rattle.herm_model.proofs.Lists.{slice_get-map, length-map}
use Rattle.herm_model.proofs.Options.{map-some}
use Rattle.herm_journal.specs.Actions.{new_port, new_process, to_put, to_take, to_close, to_answer, to_hear, close}
use Rattle.herm_journal.specs.Entries.{Text, Place, port, reply_cell, book, same_place, map_port, map_holding}
use Rattle.herm_journal.specs.Messages.{CellReply, CellWant}
use Rattle.herm_journal.specs.NextNumbers.{Limits}
use Rattle.herm_journal.specs.PlaceStates.{Replies, PlaceState, a_port, replies, a_book}
use Rattle.herm_journal.specs.Ports.{Port}
use Rattle.herm_journal.specs.Renaming.{rename_reply, rename_action, rename_want, forget_name}
use Rattle.herm_system.specs.Machines.{Machine}
use Rattle.herm_system.specs.Suiting.{Suits}
use Rattle.herm_system.specs.Systems.{System, Event, numbered_from_one, holding_at, places_for, done_at, number_of}
use Rattle.herm_runs.specs.laws.ProcessLaws.{ForgetsNames}
use Rattle.herm_runs.proofs.DiariesTold.{suits-nameless, done-fulfils}
use Rattle.herm_instructions.specs.Images.{Image}
use Rattle.herm_code_machine.specs.CodeRenaming.{forget_code}
use Rattle.herm_code_machine.specs.CodeStates.{CodeState}
use Rattle.herm_waking.specs.KeptRounds.{Worked}
use Rattle.herm_waking.specs.Unnamed.{unnamed, bare_replies, bare_at}
use Rattle.herm_waking.specs.UnnamedRounds.{unnamed_worked}
use Rattle.herm_code_worlds.specs.CodeWorlds.{its_ready, named, nameless, Shows}
use Rattle.herm_code_worlds.specs.laws.BareLaws.{TellsOfActions}
use Rattle.herm_code_worlds.specs.laws.CodeLaws.{WorksWithoutNames, GoesRounds}

from-one-map : {X Y : Type 0} (f : X → Y) (xs : List X) (p : ℕ) → numbered_from_one p (map f xs) ≡ option_map f (numbered_from_one p xs)
from-one-map f xs zero = refl
from-one-map f xs (suc i) = slice_get-map f xs i

-- what is at a place, without names
abbrev bare : PlaceState (Cell Name) (CellReply Name) → PlaceState (Cell ⊤) (CellReply ⊤)
bare h = map_holding (rename forget_name) (rename_reply forget_name) h

places-same : (p : ℕ) (w : CellWant Name) → places_for p (rename_want forget_name w) ≡ places_for p w
places-same p new_port = refl
places-same p (new_process code) = refl
places-same p (to_put n m) = refl
places-same p (to_take ports) = refl
places-same p (to_close n) = refl
places-same p (to_answer caller call r) = refl
places-same p to_hear = refl

taken-same : (ports : List ℕ) (b : Bool) (q : List (ℕ × Cell Name)) (k : ℕ)
    → done_at (rename_want forget_name (to_take ports)) (bare (a_port (record { is_open = b; queue = q; placed = k }))) ≡ option_map (rename_action forget_name) (done_at {R = CellReply Name} (to_take ports) (a_port (record { is_open = b; queue = q; placed = k })))
taken-same ports b [] k = refl
taken-same ports b (x ∷ q) k = refl

heard-same : (rs : Replies (CellReply Name)) → done_at (rename_want forget_name to_hear) (bare (replies rs)) ≡ option_map (rename_action forget_name) (done_at {M = Cell Name} to_hear (replies rs))
heard-same [] = refl
heard-same (r ∷ rs) = refl

left-same : (q : List (ℕ × Cell Name)) → map (λ (x : ℕ × Cell ⊤). x.1) (map (λ (x : ℕ × Cell Name). (x.0, rename forget_name x.1)) q) ≡ map (rename forget_name) (map (λ (x : ℕ × Cell Name). x.1) q)
left-same [] = refl
left-same (x ∷ q) = ap (rename forget_name x.1 ∷◌) (left-same q)

done-same : (w : CellWant Name) (h : PlaceState (Cell Name) (CellReply Name)) → done_at (rename_want forget_name w) (bare h) ≡ option_map (rename_action forget_name) (done_at w h)
done-same new_port (a_book b) = refl
done-same (new_process code) (a_book b) = refl
done-same (to_put n m) (a_port p) = refl
done-same (to_take ports) (a_port p) = taken-same ports p.is_open p.queue p.placed
done-same (to_close n) (a_port p) =
    ap (λ n. Some (close n (map (λ (x : ℕ × Cell ⊤). x.1) (map (λ (x : ℕ × Cell Name). (x.0, rename forget_name x.1)) p.queue)))) (length-map (λ (x : ℕ × Cell Name). (x.0, rename forget_name x.1)) p.queue)
    ∙ ap (λ left. Some (close (length p.queue) left)) (left-same p.queue)
done-same (to_answer caller call r) (replies rs) = refl
done-same to_hear (replies rs) = heard-same rs
done-same w h = refl

module _ {P Q : Type 0} (machine : Machine Name P) (nameless : Machine ⊤ Q) (without : P → Q) (forgets : ForgetsNames machine nameless without) where
  there-same : (place : Place) (s : System P) → bare_at place (unnamed without s) ≡ option_map bare (holding_at place s)
  there-same (port n) s = ap (option_map a_port) (slice_get-map (map_port (rename forget_name)) s.ports n) ∙ by (slice_get s.ports n)
    where
      by : (o : Option (Port (Cell Name))) → option_map a_port (option_map (map_port (rename forget_name)) o) ≡ option_map bare (option_map a_port o)
      by None = refl
      by (Some p) = refl
  there-same (reply_cell p) s = ap (option_map replies) (from-one-map bare_replies s.replies p) ∙ by (numbered_from_one p s.replies)
    where
      by : (o : Option (Replies (CellReply Name))) → option_map replies (option_map bare_replies o) ≡ option_map bare (option_map replies o)
      by None = refl
      by (Some rs) = refl
  there-same book s = refl

pub tells-of-actions : (image : Image) (main : ℕ) → WorksWithoutNames (its_ready image main) → GoesRounds image main → (limits : Limits) (argument : Text) (events : List Event) (w : Worked (CodeState Name))
    → Shows image main limits argument events w (unnamed_worked forget_code w) → TellsOfActions image main w (unnamed_worked forget_code w)
tells-of-actions image main names-off goes limits argument events w shows p x want place h a found wanted among at does =
    let forgets = names-off.process in
    let s = w.run.system in
    let x0 = map-some forget_code (numbered_from_one p s.processes) x (sym (from-one-map forget_code s.processes p) ∙ found) in
    let w0 = map-some (rename_want forget_name) ((named image main).wanted x0.0) want (sym (forgets.wants x0.0) ∙ ap (nameless image main).wanted x0.2 ∙ wanted) in
    let h0 = map-some bare (holding_at place s) h (sym (there-same (named image main) (nameless image main) forget_code forgets place s) ∙ at) in
    let a0 = map-some (rename_action forget_name) (done_at w0.0 h0.0) a (sym (done-same w0.0 h0.0) ∙ ap₂ (λ (w : CellWant ⊤) (h : PlaceState (Cell ⊤) (CellReply ⊤)). done_at w h) w0.2 h0.2 ∙ does) in
    let among0 : any_pass (same_place place) (places_for p w0.0) ≡ true = ap (any_pass (same_place place)) (sym (places-same p w0.0) ∙ ap (places_for p) w0.2) ∙ among in
    let suits0 = goes.suits w shows.worked p x0.0 w0.0 place h0.0 a0.0 x0.1 w0.1 among0 h0.1 a0.1 in
    let suits1 = suits-nameless (named image main) (nameless image main) forget_code forgets x0.0 (number_of place) a0.0 suits0 in
    let number : (nameless image main).number x ≡ p = ap (nameless image main).number (sym x0.2) ∙ forgets.number x0.0 ∙ (((shows.worked).sound.1.sound).numbers.processes p x0.0 x0.1).0 in
    record {
      text = refl;
      answers = (want, wanted, ap (λ n. any_pass (same_place place) (places_for n want)) number ∙ among, done-fulfils want h a does);
      suits = subst (λ x. Suits (nameless image main) x (number_of place) a) x0.2 (subst (λ a. Suits (nameless image main) (forget_code x0.0) (number_of place) a) a0.2 suits1);
    }
