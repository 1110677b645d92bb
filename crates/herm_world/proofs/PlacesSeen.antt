-- Places between values of the language.
use Rattle.std.proofs.Common.{◌≡◌, ℕ, zero, suc, List, [], ◌∷◌, ◌++◌, map, Option, Some, None, option_map, refl, sym, ap, ◌∙◌}
use Rattle.std.specs.Prelude.{slice_get, slice_set}
use Rattle.herm_journal.specs.Entries.{Place, port, reply_cell, book}
use Rattle.herm_journal.specs.PlaceStates.{a_port, replies}
use Rattle.herm_system.specs.Systems.{numbered_from_one, set_from_one}
use Rattle.herm_waking.specs.Unnamed.{bare_at}
use Rattle.herm_queue.specs.CellStates.{CellState}
use Rattle.herm_queue.specs.PortStates.{port_cell}
use Rattle.herm_queue.specs.ReplyStates.{reply_cell_of}
use Rattle.herm_queue.specs.SeenCells.{seen}
use Rattle.herm_world.specs.Places.{Places, port_seen, replies_seen, seen_of, cell_at}

pub get-map : {X Y : Type 0} (f : X → Y) (xs : List X) (i : ℕ) → slice_get (map f xs) i ≡ option_map f (slice_get xs i)
get-map f [] i = refl
get-map f (x ∷ xs) zero = refl
get-map f (x ∷ xs) (suc i) = get-map f xs i

pub set-map : {X Y : Type 0} (f : X → Y) (xs : List X) (i : ℕ) (x : X) → map f (slice_set xs i x) ≡ slice_set (map f xs) i (f x)
set-map f [] i x = refl
set-map f (y ∷ xs) zero x = refl
set-map f (y ∷ xs) (suc i) x = ap (f y ∷◌) (set-map f xs i x)

pub map-joined : {X Y : Type 0} (f : X → Y) (xs : List X) (x : X) → map f (xs ++ x ∷ []) ≡ map f xs ++ f x ∷ []
map-joined f [] x = refl
map-joined f (y ∷ xs) x = ap (f y ∷◌) (map-joined f xs x)

twice : {X Y Z : Type 0} (f : X → Y) (g : Y → Z) (o : Option X) → option_map g (option_map f o) ≡ option_map (λ x. g (f x)) o
twice f g None = refl
twice f g (Some x) = refl

pub number-map : {X Y : Type 0} (f : X → Y) (xs : List X) (p : ℕ) → numbered_from_one p (map f xs) ≡ option_map f (numbered_from_one p xs)
number-map f xs zero = refl
number-map f xs (suc i) = get-map f xs i

pub number-set-map : {X Y : Type 0} (f : X → Y) (xs : List X) (p : ℕ) (x : X) → map f (set_from_one p x xs) ≡ set_from_one p (f x) (map f xs)
number-set-map f xs zero x = refl
number-set-map f xs (suc i) x = set-map f xs i x

-- what a place holds is what its cell holds
pub holds-seen : {Q : Type 0} (qs : List Q) (s : Places) (place : Place) → bare_at place (seen_of qs s) ≡ option_map (λ (c : CellState). seen c.holding) (cell_at place s)
holds-seen qs s (port n) = ap (option_map a_port) (get-map port_seen s.ports n) ∙ twice port_seen a_port (slice_get s.ports n) ∙ sym (twice port_cell (λ (c : CellState). seen c.holding) (slice_get s.ports n))
holds-seen qs s (reply_cell p) = ap (option_map replies) (number-map replies_seen s.replies p) ∙ twice replies_seen replies (numbered_from_one p s.replies) ∙ sym (twice reply_cell_of (λ (c : CellState). seen c.holding) (numbered_from_one p s.replies))
holds-seen qs s book = refl
