-- The cells of a system at places with types: those of processes, of replies that wait and of messages that are queued.
use Rattle.std.proofs.Common.{◌≡◌, ◌⊎◌, inl, inr, ℕ, zero, suc, ◌+◌, List, [], ◌∷◌, ◌++◌, flat_map, Option, Some, None, slice_get, refl, sym, ap, subst, arith}
use Rattle.herm_model.specs.Lists.{IsIn, list_of, numbered}
use Rattle.herm_model.specs.Types.{TypeTable}
use Rattle.herm_model.specs.Values.{Name, Kind, Cell, cell, Parts, no_parts, gap, part}
use Rattle.herm_model.proofs.FactTests.{numbered-IsIn, at-numbered, got-IsIn}
use Rattle.herm_model.proofs.Lists.{in-append_left, in-append_right, in-append_cases, in-flat_map, in-flat_map_from}
use Rattle.herm_model.proofs.Options.{none-not_some}
use Rattle.herm_journal.specs.PartTypes.{PartTypes, each, all_of, part_types_at}
use Rattle.herm_journal.specs.Ports.{Port, left_in}
use Rattle.herm_journal.specs.PlaceStates.{Replies}
use Rattle.herm_journal.specs.Messages.{CellReply, cells_in, message_of_port, types_of_reply}
use Rattle.herm_system.specs.Machines.{Held, OpenCall, Machine}
use Rattle.herm_system.specs.Systems.{System, numbered_from_one, console_port}
use Rattle.herm_system.specs.Kinds.{kinds_of, kinds_in, kinds_by, unfinalised, typed_of, typed_in, typed_list, typed_held, typed_replies, typed_process, typed_port, typed_cells, replies_of}
use Rattle.herm_sound.specs.Standing.{typed_places}

-- an element that a function makes of what an option holds
pub in-some : {X Y : Type 0} (f : X → List Y) (y : Y) (o : Option X) (x : X) → o ≡ Some x → IsIn y (f x) → IsIn y (list_of f o)
in-some f y o x e h = subst (λ o. IsIn y (list_of f o)) (sym e) h

pub in-list_of : {X Y : Type 0} (f : X → List Y) (y : Y) (o : Option X) → IsIn y (list_of f o) → (x : X) × (o ≡ Some x) × IsIn y (f x)
in-list_of f y None h = absurd h
in-list_of f y (Some x) h = (x, refl, h)

-- an element at a number from one on is in the list
numbered-in_from_one : {X : Type 0} (p : ℕ) (xs : List X) (x : X) → numbered_from_one p xs ≡ Some x → IsIn x xs
numbered-in_from_one zero xs x e = none-not_some e
numbered-in_from_one (suc i) xs x e = got-IsIn xs i x e

-- an element with its number
pub numbered-process : {X : Type 0} (p : ℕ) (xs : List X) (x : X) → numbered_from_one p xs ≡ Some x → IsIn (p, x) (numbered 1 xs)
numbered-process zero xs x e = none-not_some e
numbered-process {X} (suc i) xs x e = let p : 1 + i ≡ suc i = omega arith in subst (λ n. IsIn {X = ℕ × X} (n, x) (numbered 1 xs)) p (numbered-IsIn xs 1 i x e)

numbered-at : {X : Type 0} (i p : ℕ) (xs : List X) (x : X) → IsIn (p, x) (numbered i xs) → (j : ℕ) × (p ≡ i + j) × (slice_get xs j ≡ Some x)
numbered-at i p [] x h = absurd h
numbered-at {X} i p (z ∷ xs) x (inl e) = (0, omega (arith, ap (λ (y : ℕ × X). y.0) e), ap (λ (y : ℕ × X). Some y.1) (sym e))
numbered-at i p (z ∷ xs) x (inr h) = let r = numbered-at (suc i) p xs x h in (suc r.0, omega (arith, r.1), r.2)

pub process-numbered : {X : Type 0} (p : ℕ) (xs : List X) (x : X) → IsIn (p, x) (numbered 1 xs) → numbered_from_one p xs ≡ Some x
process-numbered {X} p xs x h =
    let r = numbered-at 1 p xs x h in
    let same : p ≡ suc r.0 = omega (arith, r.1) in
    subst (λ p. numbered_from_one p xs ≡ Some x) (sym same) r.2

port-numbered : {X : Type 0} (p : ℕ) (xs : List X) (x : X) → IsIn (p, x) (numbered 0 xs) → slice_get xs p ≡ Some x
port-numbered {X} p xs x h =
    let r = numbered-at 0 p xs x h in
    let same : p ≡ r.0 = omega (arith, r.1) in
    subst (λ p. slice_get xs p ≡ Some x) (sym same) r.2

either-kind : {A B : Type 0} (k : Kind) (xs ys : List Kind) → A ⊎ B → (A → IsIn k xs) → (B → IsIn k ys) → IsIn k (xs ++ ys)
either-kind k xs ys (inl a) f g = in-append_left k xs ys (f a)
either-kind k xs ys (inr b) f g = in-append_right k xs ys (g b)

-- The kinds of a value at places with types are kinds of its cells.
mutual
  kinds-typed : (types : TypeTable) (u : ℕ) (c : Cell Name) (t : ℕ) (k : Kind) → IsIn (t, k) (typed_of types u c) → IsIn k (kinds_of c)
  kinds-typed types u (cell n j ps) t k (inl e) = inl (ap (λ (x : ℕ × Kind). x.1) e)
  kinds-typed types u (cell n j ps) t k (inr h) = inr (kinds-typed_in types (part_types_at (slice_get types u) j) ps t k h)

  kinds-typed_in : (types : TypeTable) (us : PartTypes) (ps : Parts Name) (t : ℕ) (k : Kind) → IsIn (t, k) (typed_in types us ps) → IsIn k (kinds_in ps)
  kinds-typed_in types (each []) no_parts t k h = absurd h
  kinds-typed_in types (each []) (gap ps) t k h = absurd h
  kinds-typed_in types (each []) (part c ps) t k h = absurd h
  kinds-typed_in types (each (u ∷ us)) no_parts t k h = absurd h
  kinds-typed_in types (each (u ∷ us)) (gap ps) t k h = kinds-typed_in types (each us) ps t k h
  kinds-typed_in types (each (u ∷ us)) (part c ps) t k h =
      either-kind k (kinds_of c) (kinds_in ps) (in-append_cases (t, k) (typed_of types u c) (typed_in types (each us) ps) h) (kinds-typed types u c t k) (kinds-typed_in types (each us) ps t k)
  kinds-typed_in types (all_of u) no_parts t k h = absurd h
  kinds-typed_in types (all_of u) (gap ps) t k h = kinds-typed_in types (all_of u) ps t k h
  kinds-typed_in types (all_of u) (part c ps) t k h =
      either-kind k (kinds_of c) (kinds_in ps) (in-append_cases (t, k) (typed_of types u c) (typed_in types (all_of u) ps) h) (kinds-typed types u c t k) (kinds-typed_in types (all_of u) ps t k)

kinds-list : (types : TypeTable) (ts : List ℕ) (cs : List (Cell Name)) (t : ℕ) (k : Kind) → IsIn (t, k) (typed_list types ts cs) → IsIn k (flat_map kinds_of cs)
kinds-list types [] cs t k h = absurd h
kinds-list types (u ∷ ts) [] t k h = absurd h
kinds-list types (u ∷ ts) (c ∷ cs) t k h =
    either-kind k (kinds_of c) (flat_map kinds_of cs) (in-append_cases (t, k) (typed_of types u c) (typed_list types ts cs) h) (kinds-typed types u c t k) (kinds-list types ts cs t k)

-- What is so of each cell at a place with a type: of those of processes, of replies that wait, and of messages that are queued.
pub record AllPlaced {P : Type 0} (machine : Machine Name P) (ports : List ℕ) (Of : ℕ → Kind → Type 0) (s : System P) : Type 0 where
  pub held : (q : ℕ) (z : P) → numbered_from_one q s.processes ≡ Some z → (t : ℕ) (k : Kind) → IsIn (t, k) (typed_places machine z) → Of t k
  pub waiting : (q : ℕ) (z : P) (call : OpenCall) (r : ℕ × CellReply Name) → numbered_from_one q s.processes ≡ Some z → machine.open_call z ≡ Some call → IsIn r (replies_of s q)
      → (t : ℕ) (k : Kind) → IsIn (t, k) (typed_list machine.types (types_of_reply machine.types call.call_type r.1) (cells_in r.1)) → Of t k
  pub queued : (n t u : ℕ) (q : Port (Cell Name)) (m : Cell Name) → slice_get ports n ≡ Some t → message_of_port machine.types t ≡ Some u → slice_get s.ports n ≡ Some q → IsIn m (left_in q)
      → (t : ℕ) (k : Kind) → IsIn (t, k) (typed_of machine.types u m) → Of t k

module _ {P : Type 0} (machine : Machine Name P) (ports : List ℕ) (s : System P) where
  of-process : (q : ℕ) (z : P) (t : ℕ) (k : Kind) → numbered_from_one q s.processes ≡ Some z → IsIn (t, k) (typed_process machine s (q, z)) → IsIn (t, k) (typed_cells machine ports s)
  of-process q z t k is h =
      in-append_left (t, k) (flat_map (typed_process machine s) (numbered 1 s.processes)) (flat_map (typed_port machine.types ports) (numbered 0 s.ports))
      (in-flat_map (typed_process machine s) (q, z) (t, k) (numbered 1 s.processes) (numbered-process q s.processes z is) h)

  -- what a process has at a place with a type is a typed cell
  pub in-places : (q : ℕ) (z : P) (t : ℕ) (k : Kind) → numbered_from_one q s.processes ≡ Some z → IsIn (t, k) (typed_places machine z) → IsIn (t, k) (typed_cells machine ports s)
  in-places q z t k is h = of-process q z t k is (in-append_left (t, k) (typed_places machine z) (typed_replies machine.types (machine.open_call z) (replies_of s q)) h)

  pub all-placed : (Of : ℕ → Kind → Type 0) → ((t : ℕ) (k : Kind) → IsIn (t, k) (typed_cells machine ports s) → Of t k) → AllPlaced machine ports Of s
  all-placed Of all = record {
    held = λ q z is t k h. all t k (of-process q z t k is (in-append_left (t, k) (typed_places machine z) (typed_replies machine.types (machine.open_call z) (replies_of s q)) h));
    waiting = λ q z call r is opened member t k h. all t k (of-process q z t k is (in-append_right (t, k) (typed_places machine z) (typed_replies machine.types (machine.open_call z) (replies_of s q))
        (in-some (λ (c : OpenCall). flat_map (λ (r : ℕ × CellReply Name). typed_list machine.types (types_of_reply machine.types c.call_type r.1) (cells_in r.1)) (replies_of s q)) (t, k) (machine.open_call z) call opened
        (in-flat_map (λ (r : ℕ × CellReply Name). typed_list machine.types (types_of_reply machine.types call.call_type r.1) (cells_in r.1)) r (t, k) (replies_of s q) member h))));
    queued = λ n t0 u q m typed of at member t k h. all t k
        (in-append_right (t, k) (flat_map (typed_process machine s) (numbered 1 s.processes)) (flat_map (typed_port machine.types ports) (numbered 0 s.ports))
        (in-flat_map (typed_port machine.types ports) (n, q) (t, k) (numbered 0 s.ports) (at-numbered s.ports n q at)
        (in-some (λ t. list_of (λ m. flat_map (typed_of machine.types m) (left_in q)) (message_of_port machine.types t)) (t, k) (slice_get ports n) t0 typed
        (in-some (λ m. flat_map (typed_of machine.types m) (left_in q)) (t, k) (message_of_port machine.types t0) u of
        (in-flat_map (typed_of machine.types u) m (t, k) (left_in q) member h)))));
  }

  placed-port : (Of : ℕ → Kind → Type 0) → AllPlaced machine ports Of s → (n : ℕ) (q : Port (Cell Name)) → slice_get s.ports n ≡ Some q → (t : ℕ) (k : Kind) → IsIn (t, k) (typed_port machine.types ports (n, q)) → Of t k
  placed-port Of all n q at t k h =
      let o = in-list_of (λ t. list_of (λ m. flat_map (typed_of machine.types m) (left_in q)) (message_of_port machine.types t)) (t, k) (slice_get ports n) h in
      let u = in-list_of (λ m. flat_map (typed_of machine.types m) (left_in q)) (t, k) (message_of_port machine.types o.0) o.2 in
      let m = in-flat_map_from (typed_of machine.types u.0) (t, k) (left_in q) u.2 in
      all.queued n o.0 u.0 q m.0 o.1 u.1 at m.1 t k m.2

  placed-process : (Of : ℕ → Kind → Type 0) → AllPlaced machine ports Of s → (q : ℕ) (z : P) → numbered_from_one q s.processes ≡ Some z → (t : ℕ) (k : Kind) → IsIn (t, k) (typed_process machine s (q, z)) → Of t k
  placed-process Of all q z is t k h = by (in-append_cases (t, k) (typed_places machine z) (typed_replies machine.types (machine.open_call z) (replies_of s q)) h)
    where
      by : IsIn (t, k) (typed_places machine z) ⊎ IsIn (t, k) (typed_replies machine.types (machine.open_call z) (replies_of s q)) → Of t k
      by (inl h) = all.held q z is t k h
      by (inr h) =
          let o = in-list_of (λ (c : OpenCall). flat_map (λ (r : ℕ × CellReply Name). typed_list machine.types (types_of_reply machine.types c.call_type r.1) (cells_in r.1)) (replies_of s q)) (t, k) (machine.open_call z) h in
          let r = in-flat_map_from (λ (r : ℕ × CellReply Name). typed_list machine.types (types_of_reply machine.types (o.0).call_type r.1) (cells_in r.1)) (t, k) (replies_of s q) o.2 in
          all.waiting q z o.0 r.0 is o.1 r.1 t k r.2

  pub placed-all : (Of : ℕ → Kind → Type 0) → AllPlaced machine ports Of s → (t : ℕ) (k : Kind) → IsIn (t, k) (typed_cells machine ports s) → Of t k
  placed-all Of all t k h = by (in-append_cases (t, k) (flat_map (typed_process machine s) (numbered 1 s.processes)) (flat_map (typed_port machine.types ports) (numbered 0 s.ports)) h)
    where
      by : IsIn (t, k) (flat_map (typed_process machine s) (numbered 1 s.processes)) ⊎ IsIn (t, k) (flat_map (typed_port machine.types ports) (numbered 0 s.ports)) → Of t k
      by (inl h) = let z = in-flat_map_from (typed_process machine s) (t, k) (numbered 1 s.processes) h in placed-process Of all z.0.0 z.0.1 (process-numbered z.0.0 s.processes z.0.1 z.1) t k z.2
      by (inr h) = let q = in-flat_map_from (typed_port machine.types ports) (t, k) (numbered 0 s.ports) h in placed-port Of all q.0.0 q.0.1 (port-numbered q.0.0 s.ports q.0.1 q.1) t k q.2

  -- each cell at a place with a type is not finalised
  held-kinds : (hs : List (Held Name)) (t : ℕ) (k : Kind) → IsIn (t, k) (flat_map (typed_held machine.types) hs) → IsIn k (flat_map (λ (h : Held Name). kinds_of h.value) hs)
  held-kinds hs t k h =
      let x = in-flat_map_from (typed_held machine.types) (t, k) hs h in
      let u = in-list_of (λ u. typed_of machine.types u (x.0).value) (t, k) (x.0).place_type x.2 in
      in-flat_map (λ (h : Held Name). kinds_of h.value) x.0 k hs x.1 (kinds-typed machine.types u.0 (x.0).value t k u.2)

  abbrev held_kinds : List Kind
  held_kinds = flat_map (kinds_by machine) s.processes

  abbrev port_kinds : List Kind
  port_kinds = flat_map (λ (p : Port (Cell Name)). flat_map kinds_of (left_in p)) s.ports

  abbrev cell_kinds : List Kind
  cell_kinds = flat_map (λ (rs : Replies (CellReply Name)). flat_map (λ (r : ℕ × CellReply Name). flat_map kinds_of (cells_in r.1)) rs) s.replies

  pub in-held : (k : Kind) (q : ℕ) (z : P) → numbered_from_one q s.processes ≡ Some z → IsIn k (kinds_by machine z) → IsIn k (unfinalised machine s)
  in-held k q z is h =
      in-append_left k (kinds_of console_port ++ held_kinds ++ port_kinds) cell_kinds
      (in-append_left k (kinds_of console_port ++ held_kinds) port_kinds
      (in-append_right k (kinds_of console_port) held_kinds (in-flat_map (kinds_by machine) z k s.processes (numbered-in_from_one q s.processes z is) h)))

  in-port : (k : Kind) (n : ℕ) (q : Port (Cell Name)) (m : Cell Name) → slice_get s.ports n ≡ Some q → IsIn m (left_in q) → IsIn k (kinds_of m) → IsIn k (unfinalised machine s)
  in-port k n q m at member h =
      in-append_left k (kinds_of console_port ++ held_kinds ++ port_kinds) cell_kinds
      (in-append_right k (kinds_of console_port ++ held_kinds) port_kinds
      (in-flat_map (λ (p : Port (Cell Name)). flat_map kinds_of (left_in p)) q k s.ports (got-IsIn s.ports n q at) (in-flat_map kinds_of m k (left_in q) member h)))

  in-reply : (k : Kind) (q : ℕ) (r : ℕ × CellReply Name) → IsIn r (replies_of s q) → IsIn k (flat_map kinds_of (cells_in r.1)) → IsIn k (unfinalised machine s)
  in-reply k q r member h =
      let o = in-list_of (λ (rs : Replies (CellReply Name)). rs) r (numbered_from_one q s.replies) member in
      in-append_right k (kinds_of console_port ++ held_kinds ++ port_kinds) cell_kinds
      (in-flat_map (λ (rs : Replies (CellReply Name)). flat_map (λ (r : ℕ × CellReply Name). flat_map kinds_of (cells_in r.1)) rs) o.0 k s.replies (numbered-in_from_one q s.replies o.0 o.1)
      (in-flat_map (λ (r : ℕ × CellReply Name). flat_map kinds_of (cells_in r.1)) r k o.0 o.2 h))

  all-unfinalised : AllPlaced machine ports (λ t k. IsIn k (unfinalised machine s)) s
  all-unfinalised = record {
    held = λ q z is t k h. in-held k q z is (held-kinds (machine.held z) t k h);
    waiting = λ q z call r is opened member t k h. in-reply k q r member (kinds-list machine.types (types_of_reply machine.types call.call_type r.1) (cells_in r.1) t k h);
    queued = λ n t0 u q m typed of at member t k h. in-port k n q m at member (kinds-typed machine.types u m t k h);
  }

  pub typed-unfinalised : (t : ℕ) (k : Kind) → IsIn (t, k) (typed_cells machine ports s) → IsIn k (unfinalised machine s)
  typed-unfinalised t k h = placed-all (λ t k. IsIn k (unfinalised machine s)) all-unfinalised t k h
