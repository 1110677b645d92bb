-- Runs of small programs in the middle: which inports and callmessages are not finalised.
use Rattle.std.specs.Prelude.{ℕ, zero, suc, List, [], map, Bool, true, false, nat_eq, Option, Some, None, option_map, length}
use Rattle.herm_model.specs.Lists.{range}
use Rattle.herm_model.specs.Values.{Name}
use Rattle.herm_system.specs.Machines.{Machine}
use Rattle.herm_system.specs.Systems.{System, Run, start}
use Rattle.herm_system.specs.Rounds.{one_round}
use Rattle.herm_system.specs.Summary.{how_many}
use Rattle.herm_system.specs.Kinds.{unfinalised, is_inport_of, is_callmessage_of, is_open_port, has_open, replies_of}
use Rattle.herm_source.specs.Modules.{Program}
use Rattle.herm_source.specs.States.{State}
use Rattle.herm_source.specs.Instance.{source}
use Rattle.herm_source.specs.examples.RunExamples.{ready_program, limited}

-- the run behind so many rounds
abbrev pub behind_rounds : {P : Type 0} → ℕ → Machine Name P → Run P → Option (Run P)
behind_rounds zero machine r = Some r
behind_rounds (suc n) machine r = elim (one_round machine r) [ None ↦ None | Some round ↦ behind_rounds n machine round.run ]

-- of a port: whether it is open, and how many inports of it are not finalised
pub record PortCount : Type 0 where
  pub open_port : Bool
  pub inports : ℕ

-- of a call: whether it is open, how many callmessages of it are not finalised, and how many replies wait
pub record CallCount : Type 0 where
  pub open_call : Bool
  pub callmessages : ℕ
  pub replies : ℕ

abbrev pub port_count : {P : Type 0} → Machine Name P → System P → ℕ → PortCount
port_count machine s n = record { open_port = is_open_port s n; inports = how_many (is_inport_of n) (unfinalised machine s) }

abbrev pub call_count : {P : Type 0} → Machine Name P → System P → (process call : ℕ) → CallCount
call_count machine s p k = record {
  open_call = has_open machine s p k;
  callmessages = how_many (is_callmessage_of p k) (unfinalised machine s);
  replies = how_many (λ r. nat_eq r.0 k) (replies_of s p);
}

-- behind so many rounds: all ports by number, and the first calls of all processes
pub record Counted : Type 0 where
  pub ports : List PortCount
  pub calls : List CallCount

abbrev pub counted_behind : (rounds : ℕ) → Program → Option Counted
counted_behind n program =
    let machine = source (ready_program program)
    in option_map (λ (r : Run (State Name)). record {
      ports = map (port_count machine r.system) (range 0 (length r.system.ports));
      calls = map (λ p. call_count machine r.system p 0) (range 1 (length r.system.processes));
    }) (behind_rounds n machine (start machine (limited 1000 4 4) []))

abbrev pub open_with : ℕ → PortCount
open_with n = record { open_port = true; inports = n }

abbrev pub closed_with : ℕ → PortCount
closed_with n = record { open_port = false; inports = n }

abbrev pub no_call : CallCount
no_call = record { open_call = false; callmessages = 0; replies = 0 }

abbrev pub with_callmessage : CallCount
with_callmessage = record { open_call = true; callmessages = 1; replies = 0 }

abbrev pub with_reply : CallCount
with_reply = record { open_call = true; callmessages = 0; replies = 1 }
