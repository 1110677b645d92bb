-- The book: how many ports and processes were made, and their limits.
use Rattle.std.specs.Prelude.{ℕ, suc, cond, ◌&&◌, nat_lt, Option, Some, None}

-- the limits of a run: steps of a process, processes besides the console, ports besides the console's
pub record Limits : Type 0 where
  pub steps : ℕ
  pub processes : ℕ
  pub ports : ℕ

-- How many ports besides port 0 and how many processes besides process 0 were made, and their limits. The numbers
-- rise from 1 on, so each count is also the last number. Language reference, "The book".
pub record Book : Type 0 where
  pub ports : ℕ
  pub processes : ℕ
  pub limits : Limits

-- port 1 and process 1 are there at the start
abbrev pub first_book : Limits → Book
first_book limits = record { ports = 1; processes = 1; limits = limits }

-- the next port's number, and the next process's with its port's
abbrev pub next_port : Book → Option ℕ
next_port b = cond (nat_lt b.ports b.limits.ports) (Some (suc b.ports)) None

abbrev pub next_process : Book → Option (ℕ × ℕ)
next_process b = cond (nat_lt b.processes b.limits.processes && nat_lt b.ports b.limits.ports) (Some (suc b.processes, suc b.ports)) None

abbrev pub after_port : Book → Book
after_port b = cond (nat_lt b.ports b.limits.ports) (record b { ports = suc b.ports }) b

abbrev pub after_process : Book → Book
after_process b = cond (nat_lt b.processes b.limits.processes && nat_lt b.ports b.limits.ports) (record b { ports = suc b.ports; processes = suc b.processes }) b
