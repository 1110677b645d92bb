-- How many cells of a kind are not finalised, before and behind an event.
use Rattle.std.proofs.Common.{◌≡◌, ℕ, suc, ◌+◌, List, [], ◌∷◌, ◌++◌, map, flat_map, length, Bool, true, false, cond, Some, refl, ap, subst, ◌∙◌, arith}
use Rattle.std.specs.Prelude.{filter}
use Rattle.herm_model.specs.Lists.{total}
use Rattle.herm_model.specs.Values.{Name, Kind, Cell}
use Rattle.herm_model.proofs.Lists.{total-append}
use Rattle.herm_model.proofs.Renaming.{map-append}
use Rattle.herm_model.proofs.Options.{some-injective, map-some}
use Rattle.herm_journal.specs.Actions.{make_port, make_process}
use Rattle.herm_journal.specs.Ports.{Port, empty_port, left_in}
use Rattle.herm_journal.specs.PlaceStates.{Replies, after}
use Rattle.herm_journal.specs.Entries.{Place}
use Rattle.herm_journal.specs.Messages.{CellReply, CellWant, CellAction, cells_in}
use Rattle.herm_system.specs.Machines.{Machine, inport_of}
use Rattle.herm_system.specs.Summary.{how_many}
use Rattle.herm_system.specs.Systems.{System, holding_at, set_holding, with_made, console_port}
use Rattle.herm_system.specs.Kinds.{kinds_of, kinds_by, unfinalised}
use Rattle.herm_runs.specs.Counting.{kinds_coming, kinds_going, IsOfWaiting}
use Rattle.herm_sound.specs.SoundMachines.{KeepsWaiting}
use Rattle.herm_runs.proofs.SystemLedger.{total-set, total-from_one}
use Rattle.herm_sound.proofs.Acted.{Holding, port_of, IsAct, port_made, port_refused, process_made, process_refused, placed, came_back, taken, closed, answered, heard}
use Rattle.herm_sound.proofs.Places.{port-there, cell-there}

module _ {X : Type 0} (test : X → Bool) where
  pub many-append : (xs ys : List X) → how_many test (xs ++ ys) ≡ how_many test xs + how_many test ys
  many-append [] ys = omega arith
  many-append (x ∷ xs) ys = by (test x) (many-append xs ys)
    where
      by : (b : Bool) → how_many test (xs ++ ys) ≡ how_many test xs + how_many test ys
          → length (cond b (x ∷ filter test (xs ++ ys)) (filter test (xs ++ ys))) ≡ length (cond b (x ∷ filter test xs) (filter test xs)) + how_many test ys
      by true e = omega (arith, e)
      by false e = e

  pub many-flat : {Y : Type 0} (f : Y → List X) (ys : List Y) → how_many test (flat_map f ys) ≡ total (λ y. how_many test (f y)) ys
  many-flat f [] = refl
  many-flat f (y ∷ ys) = omega (arith, many-append (f y) (flat_map f ys), many-flat f ys)

module _ (test : Kind → Bool) where
  -- of a value, of values, of a port and of a reply cell
  abbrev pub of_cell : Cell Name → ℕ
  of_cell c = how_many test (kinds_of c)

  abbrev pub of_cells : List (Cell Name) → ℕ
  of_cells cs = total of_cell cs

  abbrev pub of_port : Port (Cell Name) → ℕ
  of_port p = of_cells (left_in p)

  abbrev pub of_reply : ℕ × CellReply Name → ℕ
  of_reply r = of_cells (cells_in r.1)

  abbrev pub of_replies : Replies (CellReply Name) → ℕ
  of_replies rs = total of_reply rs

  same-total : {X : Type 0} (f g : X → ℕ) → ((x : X) → f x ≡ g x) → (xs : List X) → total f xs ≡ total g xs
  same-total f g h [] = refl
  same-total f g h (x ∷ xs) = omega (arith, h x, same-total f g h xs)

  port-many : (p : Port (Cell Name)) → how_many test (flat_map kinds_of (left_in p)) ≡ of_port p
  port-many p = many-flat test kinds_of (left_in p)

  replies-many : (rs : Replies (CellReply Name)) → how_many test (flat_map (λ (r : ℕ × CellReply Name). flat_map kinds_of (cells_in r.1)) rs) ≡ of_replies rs
  replies-many rs =
      many-flat test (λ (r : ℕ × CellReply Name). flat_map kinds_of (cells_in r.1)) rs
      ∙ same-total (λ (r : ℕ × CellReply Name). how_many test (flat_map kinds_of (cells_in r.1))) of_reply (λ r. many-flat test kinds_of (cells_in r.1)) rs

  module _ {P : Type 0} (machine : Machine Name P) where
    abbrev pub of_process : P → ℕ
    of_process x = how_many test (kinds_by machine x)

    -- what is queued
    abbrev pub queued : System P → ℕ
    queued s = total of_port s.ports + total of_replies s.replies

    pub unfinalised-parts : (s : System P) → how_many test (unfinalised machine s) ≡ of_cell console_port + total of_process s.processes + queued s
    unfinalised-parts s =
        let at_ports = flat_map (λ (p : Port (Cell Name)). flat_map kinds_of (left_in p)) s.ports in
        let at_cells = flat_map (λ (rs : Replies (CellReply Name)). flat_map (λ (r : ℕ × CellReply Name). flat_map kinds_of (cells_in r.1)) rs) s.replies in
        let of_ports = many-flat test (λ (p : Port (Cell Name)). flat_map kinds_of (left_in p)) s.ports ∙ same-total (λ (p : Port (Cell Name)). how_many test (flat_map kinds_of (left_in p))) of_port port-many s.ports in
        let of_all = many-flat test (λ (rs : Replies (CellReply Name)). flat_map (λ (r : ℕ × CellReply Name). flat_map kinds_of (cells_in r.1)) rs) s.replies
        ∙ same-total (λ (rs : Replies (CellReply Name)). how_many test (flat_map (λ (r : ℕ × CellReply Name). flat_map kinds_of (cells_in r.1)) rs)) of_replies replies-many s.replies in
        let held = flat_map (kinds_by machine) s.processes in
        let all : how_many test (unfinalised machine s) ≡ how_many test (kinds_of console_port ++ held ++ at_ports) + how_many test at_cells = many-append test (kinds_of console_port ++ held ++ at_ports) at_cells in
        let rest : how_many test (kinds_of console_port ++ held ++ at_ports) ≡ how_many test (kinds_of console_port ++ held) + how_many test at_ports = many-append test (kinds_of console_port ++ held) at_ports in
        let places : how_many test (kinds_of console_port ++ held) ≡ of_cell console_port + how_many test held = many-append test (kinds_of console_port) held in
        omega (arith, all, rest, places, many-flat test (kinds_by machine) s.processes, of_ports, of_all)

    -- what a process that is made takes with it
    abbrev pub born : P → CellAction Name → ℕ
    born x (make_process code (Some made)) = of_cell (inport_of machine made.1 x)
    born x a = 0

    -- what is queued behind an action, with what comes in and what is born, is what was queued, with what goes out
    abbrev Moves : System P → P → CellWant Name → Place → Holding → CellAction Name → Type 0
    Moves s x w place h a =
        queued (set_holding place (after a h) s) + how_many test (kinds_coming a) + born x a ≡ queued s + how_many test (kinds_going machine x w a)

    pub act-moves : (s : System P) (x : P) (p : ℕ) (w : CellWant Name) (place : Place) (h : Holding) (a : CellAction Name) → IsAct p w place h a → holding_at place s ≡ Some h → Moves s x w place h a
    act-moves s x p w place h a (port_made b n e) at = omega arith
    act-moves s x p w place h a (port_refused b e) at = omega arith
    act-moves s x p w place h a (process_made code b made e) at = omega arith
    act-moves s x p w place h a (process_refused code b e) at = omega arith
    act-moves s x p w place h a (placed n m q k) at =
        let set = total-set of_port s.ports n (port_of true q k) (port_of true (q ++ (k, m) ∷ []) (suc k)) (port-there s n (port_of true q k) at) in
        omega (arith, set, ap of_cells (map-append (λ (x : ℕ × Cell Name). x.1) q ((k, m) ∷ [])), total-append of_cell (map (λ (x : ℕ × Cell Name). x.1) q) (m ∷ []))
    act-moves s x p w place h a (came_back n m q k) at =
        omega (arith, total-set of_port s.ports n (port_of false q k) (port_of false q k) (port-there s n (port_of false q k) at))
    act-moves s x p w place h a (taken ports n among b i m q k) at =
        omega (arith, total-set of_port s.ports n (port_of b ((i, m) ∷ q) k) (port_of b q k) (port-there s n (port_of b ((i, m) ∷ q) k) at))
    act-moves s x p w place h a (closed n b q k) at =
        omega (arith, total-set of_port s.ports n (port_of b q k) (port_of false [] k) (port-there s n (port_of b q k) at), port-many (port_of b q k))
    act-moves s x p w place h a (answered caller call r rs) at =
        omega (
          arith,
          total-from_one of_replies s.replies caller rs (rs ++ (call, r) ∷ []) (cell-there s caller rs at),
          total-append of_reply rs ((call, r) ∷ []),
          many-flat test kinds_of (cells_in r),
        )
    act-moves s x p w place h a (heard k r rs) at =
        omega (arith, total-from_one of_replies s.replies p ((k, r) ∷ rs) rs (cell-there s p ((k, r) ∷ rs) at), many-flat test kinds_of (cells_in r))

    -- what is made holds what was born
    pub made-counts : (Is : P → Type 0) → KeepsWaiting machine Is → IsOfWaiting test → (x : P) (a : CellAction Name) (s t : System P) → with_made machine x a s ≡ Some t
        → (total of_process t.processes ≡ total of_process s.processes + born x a) × (queued t ≡ queued s)
    made-counts Is keeps of x (make_port (Some n)) s t e =
        subst (λ (t : System P). (total of_process t.processes ≡ total of_process s.processes + 0) × (queued t ≡ queued s)) (some-injective e) (omega arith, omega (arith, total-append of_port s.ports (empty_port ∷ [])))
    made-counts Is keeps of x (make_process code (Some made)) s t e =
        let inport = inport_of machine made.1 x in
        let m = map-some _ (machine.begin code made.0 inport) t e in
        subst (λ (t : System P). (total of_process t.processes ≡ total of_process s.processes + of_cell inport) × (queued t ≡ queued s)) m.2 (
          omega (arith, total-append of_process s.processes (m.0 ∷ []), keeps.begins test of code made.0 made.1 (machine.number x, machine.serial x) m.0 m.1),
          omega (arith, total-append of_port s.ports (empty_port ∷ []), total-append of_replies s.replies ([] ∷ [])),
        )
    made-counts Is keeps of x a s t e = subst (λ (t : System P). (total of_process t.processes ≡ total of_process s.processes + 0) × (queued t ≡ queued s)) (some-injective e) (omega arith, refl)
