-- The messages at the console's port are strings, by its type.
use Rattle.std.proofs.Common.{◌≡◌, ℕ, List, [], ◌∷◌, ◌++◌, map, Bool, true, false, Some, inl, inr, refl, sym, ap, subst}
use Rattle.std.specs.Prelude.{slice_get, ⊤}
use Rattle.herm_model.proofs.Options.{none-not_some, some-injective}
use Rattle.herm_model.specs.CellNames.{rename}
use Rattle.herm_model.specs.Lists.{IsIn}
use Rattle.herm_model.specs.Typed.{HasType, Fits, is_text, leaf_if}
use Rattle.herm_model.specs.Types.{TypeTable, predefined}
use Rattle.herm_model.specs.Values.{Name, a_scalar, a_boolean, an_integer, a_tag, a_text, a_record, a_variant, a_table, a_polymorph, a_callmessage, an_inport, an_outport, Cell, cell, Parts, no_parts, gap, part}
use Rattle.herm_journal.specs.Entries.{Text, map_port}
use Rattle.herm_journal.specs.Messages.{IsMessage}
use Rattle.herm_journal.specs.Ports.{Port, first_of, left_in}
use Rattle.herm_journal.specs.Renaming.{forget_name}
use Rattle.herm_code_machine.specs.CodeStates.{CodeState}
use Rattle.herm_waking.specs.UnnamedRounds.{BareWorked}
use Rattle.herm_report_laws.specs.ReportLaws.{ConsolesHoldStrings, HasStrings, IsString}

abbrev IsStringNamed : Cell Name → Type 0
IsStringNamed c = (n : Name) × (bytes : Text) × (c ≡ cell n (a_scalar (a_text bytes)) no_parts)

text-parts : (table : TypeTable) (n : Name) (bytes : Text) (b : Bool) (ps : Parts Name) → Fits table (leaf_if b) ps → IsStringNamed (cell n (a_scalar (a_text bytes)) ps)
text-parts table n bytes true no_parts fits = (n, bytes, refl)
text-parts table n bytes true (gap ps) fits = absurd fits
text-parts table n bytes true (part c ps) fits = absurd fits
text-parts table n bytes false ps fits = absurd fits

-- a value of the type of strings is a string
string-of : (defined : TypeTable) (c : Cell Name) → HasType (predefined ++ defined) 2 c → IsStringNamed c
string-of defined (cell n (a_scalar (a_text bytes)) ps) h = text-parts (predefined ++ defined) n bytes (is_text bytes) ps h.0
string-of defined (cell n (a_scalar (a_boolean b)) ps) h = absurd h.0
string-of defined (cell n (a_scalar (an_integer z)) ps) h = absurd h.0
string-of defined (cell n (a_scalar (a_tag i)) ps) h = absurd h.0
string-of defined (cell n a_record ps) h = absurd h.0
string-of defined (cell n (a_variant i) ps) h = absurd h.0
string-of defined (cell n a_table ps) h = absurd h.0
string-of defined (cell n (a_polymorph u) ps) h = absurd h.0
string-of defined (cell n (a_callmessage p k) ps) h = absurd h.0
string-of defined (cell n (an_inport p) ps) h = absurd h.0
string-of defined (cell n (an_outport p) ps) h = absurd h.0

message-of : (types defined : TypeTable) → types ≡ predefined ++ defined → (c : Cell Name) → IsMessage types 4 c → IsStringNamed c
message-of types defined is c h = string-of defined c (subst (λ types. IsMessage types 4 c) is h).0

forgotten : (c : Cell Name) → IsStringNamed c → IsString (rename forget_name c)
forgotten c s = (s.1, ap (rename forget_name) s.2)

-- a message of a port without names is one with its name forgotten
named-of : (queue : List (ℕ × Cell Name)) (c : Cell ⊤) → IsIn c (map (λ (m : ℕ × Cell ⊤). m.1) (map (λ (m : ℕ × Cell Name). (m.0, rename forget_name m.1)) queue)) → (d : Cell Name) × IsIn d (map (λ (m : ℕ × Cell Name). m.1) queue) × (c ≡ rename forget_name d)
named-of [] c h = absurd h
named-of (m ∷ queue) c (inl e) = (m.1, inl refl, e)
named-of (m ∷ queue) c (inr h) = let r = named-of queue c h in (r.0, inr r.1, r.2)

first-there : (ports : List (Port (Cell Name))) (p : Port (Cell ⊤)) → first_of (map (map_port (rename forget_name)) ports) ≡ Some p → (q : Port (Cell Name)) × (slice_get ports 0 ≡ Some q) × (map_port (rename forget_name) q ≡ p)
first-there [] p e = none-not_some e
first-there (q ∷ ports) p e = (q, refl, some-injective e)

of-ports : (ports : List (Port (Cell Name))) → ((q : Port (Cell Name)) (d : Cell Name) → slice_get ports 0 ≡ Some q → IsIn d (left_in q) → IsStringNamed d) → HasStrings (map (map_port (rename forget_name)) ports)
of-ports ports are p c first there =
    let q = first-there ports p first in
    let d = named-of (q.0).queue c (subst (λ p. IsIn c (left_in p)) (sym q.2) there) in
    subst IsString (sym d.2) (forgotten d.0 (are q.0 d.0 q.1 d.1))

pub console_strings : ConsolesHoldStrings
console_strings exceptions image main good limits argument events w b shows =
    let sound = shows.worked.sound in
    let table = good.table.predefined_types in
    let system_ports = ap (λ (b : BareWorked (CodeState ⊤)). b.system.ports) shows.seen in
    subst HasStrings system_ports
    (of-ports w.run.system.ports (λ q d there in_it. message-of image.types table.0 table.1 d ((sound.1).sound.messages 0 4 q d ((sound.1).sound.ports.console) there in_it)))
