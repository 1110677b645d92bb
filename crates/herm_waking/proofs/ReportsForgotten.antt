-- What a world reports of a system without names is what the language reports of the system.
use Rattle.std.proofs.Common.{◌≡◌, ℕ, suc, ◌+◌, List, [], ◌∷◌, map, length, Bool, true, false, cond, Option, Some, None, option_map, refl, ap, ◌∙◌, arith}
use Rattle.std.specs.Prelude.{⊤, filter}
use Rattle.herm_model.specs.CellNames.{rename, rename_in}
use Rattle.herm_model.specs.Lists.{numbered, total}
use Rattle.herm_model.specs.Values.{Name, Cell, cell, Parts, no_parts, gap, part}
use Rattle.herm_model.specs.ValueTexts.{text_of}
use Rattle.herm_model.proofs.Lists.{length-map}
use Rattle.herm_model.proofs.Renaming.{text_of-rename}
use Rattle.herm_journal.specs.Actions.{new_port, new_process, to_put, to_take, to_close, to_answer, to_hear, values, raised, gone}
use Rattle.herm_journal.specs.Entries.{map_port}
use Rattle.herm_journal.specs.Messages.{CellReply, CellWant}
use Rattle.herm_journal.specs.PlaceStates.{Replies}
use Rattle.herm_journal.specs.Ports.{Port, left_in}
use Rattle.herm_journal.specs.Renaming.{rename_reply, rename_want, forget_name}
use Rattle.herm_journal.specs.Weights.{weigh, weigh_in, weigh_all, weigh_reply}
use Rattle.herm_system.specs.Machines.{Machine, Standing, ended, out_of_steps, out_of_actions, waiting, local, acting}
use Rattle.herm_system.specs.Ledger.{queued_at, queued_for}
use Rattle.herm_system.specs.ProcessFates.{fate_as, fate_of, has_ended, is_waiting, is_stopped}
use Rattle.herm_system.specs.Summary.{how_many, cut, one}
use Rattle.herm_system.specs.Systems.{System, standing, can}
use Rattle.herm_runs.specs.laws.ProcessLaws.{ForgetsNames}
use Rattle.herm_waking.specs.AddedCounts.{made_of_process, held_of_process, finalised_of_process, added, added_counts}
use Rattle.herm_waking.specs.Unnamed.{unnamed, bare_replies, ports_of_want}
use Rattle.herm_waking.specs.UnnamedReport.{bare_fate_as, bare_fate_of, each_one, bare_counts, CountsWithoutNames}
use Rattle.herm_waking.specs.laws.UnnamedLaws.{FatesForgetNames, QueuesForgetNames, CountsForgetNames}
use Rattle.herm_waking.proofs.Added.{counts-added}
use Rattle.herm_waking.proofs.NamesForgotten.{standing-same}

-- sums over what a function makes
total-same : {X Y : Type 0} (f : Y → ℕ) (h : X → ℕ) (g : X → Y) → ((x : X) → f (g x) ≡ h x) → (xs : List X) → total f (map g xs) ≡ total h xs
total-same f h g same [] = refl
total-same f h g same (x ∷ xs) = omega (arith, same x, total-same f h g same xs)

added-same : {X Y : Type 0} (f : Y → ℕ) (h : X → ℕ) (g : X → Y) → ((x : X) → f (g x) ≡ h x) → (xs : List X) → added f (map g xs) ≡ added h xs
added-same f h g same [] = refl
added-same f h g same (x ∷ xs) = ap (λ n. cut (n + added f (map g xs))) (same x) ∙ ap (λ n. cut (h x + n)) (added-same f h g same xs)

-- values weigh the same without names
mutual
  weigh-bare : (c : Cell Name) → weigh each_one (rename forget_name c) ≡ weigh one c
  weigh-bare (cell n k ps) = ap (λ i. 1 + i) (weigh-bare_in ps)

  weigh-bare_in : (ps : Parts Name) → weigh_in each_one (rename_in forget_name ps) ≡ weigh_in one ps
  weigh-bare_in no_parts = refl
  weigh-bare_in (gap ps) = weigh-bare_in ps
  weigh-bare_in (part c ps) = omega (arith, weigh-bare c, weigh-bare_in ps)

reply-bare : (r : CellReply Name) → weigh_reply each_one (rename_reply forget_name r) ≡ weigh_reply one r
reply-bare (values cs) = total-same (weigh each_one) (weigh one) (rename forget_name) weigh-bare cs
reply-bare (raised e cs) = total-same (weigh each_one) (weigh one) (rename forget_name) weigh-bare cs
reply-bare gone = refl

queue-bare : (q : List (ℕ × Cell Name)) → total (weigh each_one) (map (λ (x : ℕ × Cell ⊤). x.1) (map (λ (x : ℕ × Cell Name). (x.0, rename forget_name x.1)) q)) ≡ total (weigh one) (map (λ (x : ℕ × Cell Name). x.1) q)
queue-bare [] = refl
queue-bare (x ∷ q) = omega (arith, weigh-bare x.1, queue-bare q)

texts-bare : (q : List (ℕ × Cell Name)) → map text_of (map (λ (x : ℕ × Cell ⊤). x.1) (map (λ (x : ℕ × Cell Name). (x.0, rename forget_name x.1)) q)) ≡ map text_of (map (λ (x : ℕ × Cell Name). x.1) q)
texts-bare [] = refl
texts-bare (x ∷ q) = ap (λ t. t ∷ map text_of (map (λ (x : ℕ × Cell ⊤). x.1) (map (λ (x : ℕ × Cell Name). (x.0, rename forget_name x.1)) q))) (text_of-rename forget_name x.1) ∙ ap (text_of x.1 ∷◌) (texts-bare q)

all-texts : (ps : List (Port (Cell Name))) → map (λ (p : Port (Cell ⊤)). map text_of (left_in p)) (map (map_port (rename forget_name)) ps) ≡ map (λ (p : Port (Cell Name)). map text_of (left_in p)) ps
all-texts [] = refl
all-texts (p ∷ ps) = ap (λ t. t ∷ map (λ (p : Port (Cell ⊤)). map text_of (left_in p)) (map (map_port (rename forget_name)) ps)) (texts-bare p.queue) ∙ ap (map text_of (left_in p) ∷◌) (all-texts ps)

open-many : (ps : List (Port (Cell Name))) → how_many (λ (p : Port (Cell ⊤)). p.is_open) (map (map_port (rename forget_name)) ps) ≡ how_many (λ (p : Port (Cell Name)). p.is_open) ps
open-many [] = refl
open-many (p ∷ ps) = by p.is_open (open-many ps)
  where
    by : (b : Bool) → how_many (λ (p : Port (Cell ⊤)). p.is_open) (map (map_port (rename forget_name)) ps) ≡ how_many (λ (p : Port (Cell Name)). p.is_open) ps
        → length (cond b (map_port (rename forget_name) p ∷ filter (λ (p : Port (Cell ⊤)). p.is_open) (map (map_port (rename forget_name)) ps)) (filter (λ (p : Port (Cell ⊤)). p.is_open) (map (map_port (rename forget_name)) ps)))
        ≡ length (cond b (p ∷ filter (λ (p : Port (Cell Name)). p.is_open) ps) (filter (λ (p : Port (Cell Name)). p.is_open) ps))
    by true e = ap suc e
    by false e = e

fate-as : (r : Standing) (limit : ℕ) (exception : Option ℕ) (o : Option (CellWant Name)) → bare_fate_as r limit exception (ports_of_want (option_map (rename_want forget_name) o)) ≡ fate_as r limit exception o
fate-as waiting limit exception None = refl
fate-as waiting limit exception (Some new_port) = refl
fate-as waiting limit exception (Some (new_process code)) = refl
fate-as waiting limit exception (Some (to_put n m)) = refl
fate-as waiting limit exception (Some (to_take ports)) = refl
fate-as waiting limit exception (Some (to_close n)) = refl
fate-as waiting limit exception (Some (to_answer caller call r)) = refl
fate-as waiting limit exception (Some to_hear) = refl
fate-as ended limit exception o = refl
fate-as out_of_steps limit exception o = refl
fate-as out_of_actions limit exception o = refl
fate-as local limit exception o = refl
fate-as acting limit exception o = refl

module _ {P Q : Type 0} (machine : Machine Name P) (nameless : Machine ⊤ Q) (without : P → Q) (forgets : ForgetsNames machine nameless without) (count : CountsWithoutNames machine nameless without) where
  fate-same : (s : System P) (p : ℕ) (x : P) → bare_fate_of nameless (unnamed without s) (p, without x) ≡ fate_of machine s (p, x)
  fate-same s p x =
      ap (λ r. bare_fate_as r s.book.limits.steps (nameless.exception (without x)) (ports_of_want (nameless.wanted (without x)))) (standing-same machine nameless without forgets s p x)
      ∙ ap (λ e. bare_fate_as (standing machine s.book.limits.steps (can s p) x) s.book.limits.steps e (ports_of_want (nameless.wanted (without x)))) (count.exceptions x)
      ∙ ap (λ o. bare_fate_as (standing machine s.book.limits.steps (can s p) x) s.book.limits.steps (machine.exception x) (ports_of_want o)) (forgets.wants x)
      ∙ fate-as (standing machine s.book.limits.steps (can s p) x) s.book.limits.steps (machine.exception x) (machine.wanted x)

  each-fate : (s : System P) (i : ℕ) (xs : List P) → map (bare_fate_of nameless (unnamed without s)) (numbered i (map without xs)) ≡ map (fate_of machine s) (numbered i xs)
  each-fate s i [] = refl
  each-fate s i (x ∷ xs) = ap (λ f. f ∷ map (bare_fate_of nameless (unnamed without s)) (numbered (suc i) (map without xs))) (fate-same s i x) ∙ ap (fate_of machine s (i, x) ∷◌) (each-fate s (suc i) xs)

  pub fates-forget : FatesForgetNames machine nameless without
  fates-forget s = each-fate s 1 s.processes

  pub queues-forget : QueuesForgetNames machine nameless without
  queues-forget s = ap (numbered 0) (all-texts s.ports)

  pub counts-forget : CountsForgetNames machine nameless without
  counts-forget s =
      ap (λ n. record (bare_counts nameless (unnamed without s)) { processes = n }) (length-map without s.processes)
      ∙ ap (λ n. record (bare_counts nameless (unnamed without s)) { processes = (added_counts machine s).processes; ended = n }) (ap (how_many has_ended) (fates-forget s))
      ∙ ap (λ n. record (bare_counts nameless (unnamed without s)) { processes = (added_counts machine s).processes; ended = (added_counts machine s).ended; waiting = n }) (ap (how_many is_waiting) (fates-forget s))
      ∙ ap (λ n. record (bare_counts nameless (unnamed without s)) { processes = (added_counts machine s).processes; ended = (added_counts machine s).ended; waiting = (added_counts machine s).waiting; stopped = n }) (ap (how_many is_stopped) (fates-forget s))
      ∙ ap (λ n. record (bare_counts nameless (unnamed without s)) { processes = (added_counts machine s).processes; ended = (added_counts machine s).ended; waiting = (added_counts machine s).waiting; stopped = (added_counts machine s).stopped; ports = n }) (length-map (map_port (rename forget_name)) s.ports)
      ∙ ap (λ n. record (bare_counts nameless (unnamed without s)) { processes = (added_counts machine s).processes; ended = (added_counts machine s).ended; waiting = (added_counts machine s).waiting; stopped = (added_counts machine s).stopped; ports = (added_counts machine s).ports; unclosed = n }) (open-many s.ports)
      ∙ ap (λ n. record (bare_counts nameless (unnamed without s)) { processes = (added_counts machine s).processes; ended = (added_counts machine s).ended; waiting = (added_counts machine s).waiting; stopped = (added_counts machine s).stopped; ports = (added_counts machine s).ports; unclosed = (added_counts machine s).unclosed; steps = n }) (total-same nameless.steps machine.steps without count.steps s.processes)
      ∙ ap (λ n. record (bare_counts nameless (unnamed without s)) { processes = (added_counts machine s).processes; ended = (added_counts machine s).ended; waiting = (added_counts machine s).waiting; stopped = (added_counts machine s).stopped; ports = (added_counts machine s).ports; unclosed = (added_counts machine s).unclosed; steps = (added_counts machine s).steps; actions = n }) (total-same nameless.actions machine.actions without count.actions s.processes)
      ∙ ap (λ n. record (bare_counts nameless (unnamed without s)) { processes = (added_counts machine s).processes; ended = (added_counts machine s).ended; waiting = (added_counts machine s).waiting; stopped = (added_counts machine s).stopped; ports = (added_counts machine s).ports; unclosed = (added_counts machine s).unclosed; steps = (added_counts machine s).steps; actions = (added_counts machine s).actions; made = n }) (ap (λ n. cut (5 + n)) (added-same _ (made_of_process machine) without (λ x. ap cut (count.serials x)) s.processes))
      ∙ ap (λ n. record (bare_counts nameless (unnamed without s)) { processes = (added_counts machine s).processes; ended = (added_counts machine s).ended; waiting = (added_counts machine s).waiting; stopped = (added_counts machine s).stopped; ports = (added_counts machine s).ports; unclosed = (added_counts machine s).unclosed; steps = (added_counts machine s).steps; actions = (added_counts machine s).actions; made = (added_counts machine s).made; held = n }) (ap (λ n. cut (1 + n)) (added-same _ (held_of_process machine) without (λ x. ap cut (count.held x)) s.processes))
      ∙ ap (λ n. record (bare_counts nameless (unnamed without s)) { processes = (added_counts machine s).processes; ended = (added_counts machine s).ended; waiting = (added_counts machine s).waiting; stopped = (added_counts machine s).stopped; ports = (added_counts machine s).ports; unclosed = (added_counts machine s).unclosed; steps = (added_counts machine s).steps; actions = (added_counts machine s).actions; made = (added_counts machine s).made; held = (added_counts machine s).held; queued = n }) (queued-same)
      ∙ ap (λ n. record (bare_counts nameless (unnamed without s)) { processes = (added_counts machine s).processes; ended = (added_counts machine s).ended; waiting = (added_counts machine s).waiting; stopped = (added_counts machine s).stopped; ports = (added_counts machine s).ports; unclosed = (added_counts machine s).unclosed; steps = (added_counts machine s).steps; actions = (added_counts machine s).actions; made = (added_counts machine s).made; held = (added_counts machine s).held; queued = (added_counts machine s).queued; finalised = n }) (added-same _ (finalised_of_process machine) without (λ x. ap cut (count.finalised x)) s.processes)
      ∙ counts-added machine s
    where
      queued-same : (bare_counts nameless (unnamed without s)).queued ≡ (added_counts machine s).queued
      queued-same =
          ap (λ n. cut (n + added (λ (rs : Replies (CellReply ⊤)). cut (total (λ (r : ℕ × CellReply ⊤). weigh_reply each_one r.1) rs)) (map bare_replies s.replies)))
          (added-same (λ (p : Port (Cell ⊤)). cut (weigh_all each_one (left_in p))) (λ (p : Port (Cell Name)). cut (queued_at one p)) (map_port (rename forget_name)) (λ p. ap cut (queue-bare p.queue)) s.ports)
          ∙ ap (λ n. cut (added (λ (p : Port (Cell Name)). cut (queued_at one p)) s.ports + n))
          (added-same (λ (rs : Replies (CellReply ⊤)). cut (total (λ (r : ℕ × CellReply ⊤). weigh_reply each_one r.1) rs)) (λ (rs : Replies (CellReply Name)). cut (queued_for one rs)) bare_replies
          (λ rs. ap cut (total-same (λ (r : ℕ × CellReply ⊤). weigh_reply each_one r.1) (λ (r : ℕ × CellReply Name). weigh_reply one r.1) (λ (r : ℕ × CellReply Name). (r.0, rename_reply forget_name r.1)) (λ r. reply-bare r.1) rs)) s.replies)
