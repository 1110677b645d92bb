-- What passes between a process and a place: replies, what a process wants, and what was done.
use Rattle.std.specs.Prelude.{ℕ, List, Option}

-- What comes back of a call: the values of the parameters that are given back; an exception, with the values of the
-- parameters that are kept for it; or nothing, where the callmessage was finalised. Language reference, "Calls".
pub data Reply (V : Type 0) : Type 0 where
  values : V → Reply V
  raised : (exception : ℕ) → V → Reply V
  gone : Reply V

-- What a process wants of a place, with the message M or the reply R that goes there. Language reference, "Actions".
pub data Want (M R : Type 0) : Type 0 where
  new_port : Want M R
  -- of the process module with this number, from 0 on over all files
  new_process : (code : ℕ) → Want M R
  to_put : (port : ℕ) → M → Want M R
  -- from one of these ports, in written order
  to_take : (ports : List ℕ) → Want M R
  to_close : (port : ℕ) → Want M R
  -- at the reply cell of the caller, to the call of this number
  to_answer : (caller : ℕ) → (call : ℕ) → R → Want M R
  -- at the process's own reply cell
  to_hear : Want M R

-- What was done at a place, with its answer. Language reference, "Actions".
pub data Action (M R : Type 0) : Type 0 where
  -- the new port's number, or none where the ports are as many as their limit
  make_port : (made : Option ℕ) → Action M R
  -- the numbers of the new process and its port, or none where one of the two limits is reached
  make_process : (code : ℕ) → (made : Option (ℕ × ℕ)) → Action M R
  -- the message's number at the port, or none where the port is closed and the message comes back
  put : (number : Option ℕ) → M → Action M R
  take : (number : ℕ) → M → Action M R
  -- the messages that were left, with how many they are
  close : (count : ℕ) → (left : List M) → Action M R
  answer : (call : ℕ) → R → Action M R
  hear : (call : ℕ) → R → Action M R
