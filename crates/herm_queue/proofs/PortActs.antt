-- What each action does to the fields of a cell, and what they keep.
use Rattle.std.proofs.Common.{◌≡◌, ℕ, ◌+◌, ◌-◌, ◌≤◌, List, [], ◌∷◌, ◌++◌, Bool, true, false, Option, Some, None, refl, sym, ap, ap₂, subst, ◌∙◌, arith, map, length}
use Rattle.herm_model.proofs.Lists.{cons-not_nil, length-map}
use Rattle.herm_model.proofs.Renaming.{map-append}
use Rattle.herm_base.specs.declared.numbers.PortNo.{PortNo}
use Rattle.herm_base.specs.declared.numbers.ProcNo.{ProcNo}
use Rattle.herm_journal.specs.Actions.{put, take, close}
use Rattle.herm_journal.specs.PlaceStates.{a_port, IsEnabled, after}
use Rattle.herm_journal.specs.Ports.{first_of, behind_first}
use Rattle.herm_journal.specs.Entries.{Text, port, Record}
use Rattle.herm_values.specs.declared.value.Value.{Value}
use Rattle.herm_letters.specs.declared.parcel.Parcel.{Parcel}
use Rattle.herm_queue.specs.CellStates.{CellAction, Holding, value_text, IsActed}
use Rattle.herm_queue.specs.LogStates.{LogState, with_action}
use Rattle.herm_queue.specs.MessageStates.{MessageState, queue_of, values_of, texts_of_parcels}
use Rattle.herm_queue.specs.PortStates.{port_cell}
use Rattle.herm_queue.specs.PortParts.{port_state, ArePort}
use Rattle.herm_queue.proofs.Acted.{acted-replayed, acts, place-stays, clock-rises, room-falls}

-- a port with these messages
abbrev port_of : Bool → List (ℕ × Value) → ℕ → Holding
port_of is_open queue placed = a_port (record { is_open = is_open; queue = queue; placed = placed })

pub placed-acts : (n : PortNo) (f : Option Text) (b : Bool) (placed placed' : ℕ) (ms ms' : MessageState) (w : Option ProcNo) (log log' : LogState) (spare spare' p c : ℕ) (v : Value) →
    b ≡ true → placed' ≡ placed + 1 → queue_of ms'.parcels ≡ queue_of ms.parcels ++ (placed, v) ∷ [] → spare' ≡ spare - 1 → log.place ≡ port n.number → log' ≡ with_action p c (put (Some placed) (value_text v)) log →
    IsActed p c (put (Some placed) v) (port_cell (port_state n f b placed ms w log spare)) (port_cell (port_state n f b placed' ms' w log' spare'))
placed-acts n f b placed placed' ms ms' w log log' spare spare' p c v opened more queue one place is =
    acts p c (put (Some placed) v) (port n.number) _ _ _ log log' spare spare'
    (subst (λ (x : Bool). IsEnabled (port_of x (queue_of ms.parcels) placed) (put (Some placed) v)) (sym opened) refl)
    (subst (λ (x : Bool). port_of x (queue_of ms'.parcels) placed' ≡ after (put (Some placed) v) (port_of x (queue_of ms.parcels) placed)) (sym opened)
    (ap₂ (λ (q : List (ℕ × Value)) (k : ℕ). port_of true q k) queue (omega (arith, more))))
    one place is

pub refused-acts : (n : PortNo) (f : Option Text) (b : Bool) (placed : ℕ) (ms : MessageState) (w : Option ProcNo) (log log' : LogState) (spare spare' p c : ℕ) (v : Value) →
    b ≡ false → spare' ≡ spare - 1 → log.place ≡ port n.number → log' ≡ with_action p c (put None (value_text v)) log →
    IsActed p c (put None v) (port_cell (port_state n f b placed ms w log spare)) (port_cell (port_state n f b placed ms w log' spare'))
refused-acts n f b placed ms w log log' spare spare' p c v closed one place is =
    acts p c (put None v) (port n.number) _ _ _ log log' spare spare'
    (subst (λ (x : Bool). IsEnabled (port_of x (queue_of ms.parcels) placed) (put None v)) (sym closed) refl)
    (subst (λ (x : Bool). port_of x (queue_of ms.parcels) placed ≡ after (put None v) (port_of x (queue_of ms.parcels) placed)) (sym closed) refl)
    one place is

pub taken-acts : (n : PortNo) (f : Option Text) (b : Bool) (placed : ℕ) (ms ms' : MessageState) (w : Option ProcNo) (log log' : LogState) (spare spare' p c : ℕ) (x : Parcel) →
    ms.parcels ≡ x ∷ ms'.parcels → spare' ≡ spare - 1 → log.place ≡ port n.number → log' ≡ with_action p c (take x.number (value_text x.value)) log →
    IsActed p c (take x.number x.value) (port_cell (port_state n f b placed ms w log spare)) (port_cell (port_state n f b placed ms' w log' spare'))
taken-acts n f b placed ms ms' w log log' spare spare' p c x first one place is =
    acts p c (take x.number x.value) (port n.number) _ _ _ log log' spare spare'
    (ap (λ (ps : List Parcel). first_of (queue_of ps)) first)
    (sym (ap (λ (ps : List Parcel). port_of b (behind_first (queue_of ps)) placed) first))
    one place is

left-values : (ps : List Parcel) → map (λ (q : ℕ × Value). q.1) (queue_of ps) ≡ values_of ps
left-values [] = refl
left-values (p ∷ ps) = ap (p.value ∷◌) (left-values ps)

texts-of_values : (ps : List Parcel) → texts_of_parcels ps ≡ map value_text (values_of ps)
texts-of_values [] = refl
texts-of_values (p ∷ ps) = ap (value_text p.value ∷◌) (texts-of_values ps)

pub closed-acts : (n : PortNo) (f : Option Text) (b : Bool) (placed : ℕ) (ms ms' : MessageState) (w w' : Option ProcNo) (log log' : LogState) (spare spare' p c count : ℕ) (left : List Text) (ps : List Parcel) →
    ps ≡ ms.parcels → ms'.parcels ≡ [] → count ≡ length ps → left ≡ texts_of_parcels ps → spare' ≡ spare - 1 → log.place ≡ port n.number → log' ≡ with_action p c (close count left) log →
    IsActed p c (close (length ps) (values_of ps)) (port_cell (port_state n f b placed ms w log spare)) (port_cell (port_state n f false placed ms' w' log' spare'))
closed-acts n f b placed ms ms' w w' log log' spare spare' p c count left ps all none many texts one place is =
    acts p c (close (length ps) (values_of ps)) (port n.number) _ _ _ log log' spare spare'
    (length-map (λ (x : Parcel). x.value) ps, left-values ms.parcels ∙ sym (ap values_of all))
    (ap (λ (qs : List Parcel). port_of false (queue_of qs) placed) none)
    one place
    (is ∙ ap₂ (λ (k : ℕ) (ts : List Text). with_action p c (close k ts) log) many (texts ∙ texts-of_values ps))

pub queued : (ms ms' : MessageState) (x : Parcel) → ms' ≡ record { parcels = ms.parcels ++ x ∷ []; room = ms.room - 1; text_room = ms.text_room - 1 } → queue_of ms'.parcels ≡ queue_of ms.parcels ++ (x.number, x.value) ∷ []
queued ms ms' x is = ap (λ (m : MessageState). queue_of m.parcels) is ∙ map-append (λ (p : Parcel). (p.number, p.value)) ms.parcels (x ∷ [])

pub emptied-taken : (ms ms' : MessageState) (x : Parcel) → ms.parcels ≡ x ∷ ms'.parcels → queue_of ms.parcels ≡ [] → queue_of ms'.parcels ≡ []
emptied-taken ms ms' x first none = sym (ap (λ (ps : List Parcel). behind_first (queue_of ps)) first) ∙ ap behind_first none

pub none-queued : (ps : List Parcel) → queue_of ps ≡ [] → ps ≡ []
none-queued [] none = refl
none-queued (p ∷ ps) none = cons-not_nil (p.number, p.value) (queue_of ps) none

-- Behind an action of which it is known what it does, the fields keep what they kept, where this is known of what is written besides.
pub kept-behind : (n : PortNo) (f : Option Text) (b b' : Bool) (placed placed' : ℕ) (ms ms' : MessageState) (w w' : Option ProcNo) (log log' : LogState) (spare spare' p c : ℕ) (a : CellAction) (r : Record) →
    ArePort n f b placed ms w log spare →
    IsActed p c a (port_cell (port_state n f b placed ms w log spare)) (port_cell (port_state n f b' placed' ms' w' log' spare')) →
    log' ≡ with_action p c r log → spare' ≡ spare - 1 → placed' ≤ placed + 1 →
    (b' ≡ false → queue_of ms'.parcels ≡ []) → (b' ≡ false → (port_state n f b' placed' ms' w' log' spare').waiter ≡ None) →
    (b' ≡ true → spare' ≤ ms'.room) → (b' ≡ true → spare' ≤ ms'.text_room) →
    ArePort n f b' placed' ms' w' log' spare'
kept-behind n f b b' placed placed' ms ms' w w' log log' spare spare' p c a r are acted is one most empty alone room text_room = record {
  kept = record { replayed = acted-replayed p c a _ _ acted are.kept.replayed; emptied = empty; alone = alone };
  place = place-stays log log' p c r is ∙ are.place;
  bounded = omega (arith, most, are.bounded, clock-rises log log' p c r is);
  entry_room = omega (arith, one, are.entry_room, room-falls log log' p c r is);
  room = room;
  text_room = text_room;
}
