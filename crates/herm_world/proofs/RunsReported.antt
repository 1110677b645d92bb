-- The report of the processes and the places of a world is that of the run that it shows.
use Rattle.std.proofs.Common.{◌≡◌, ℕ, suc, ◌+◌, ◌≤◌, nat_eq, List, [], ◌∷◌, map, length, Bool, false, Some, None, option_map, refl, sym, ap, subst, ◌∙◌, arith}
use Rattle.std.specs.Prelude.{slice_get, ⊤}
use Rattle.std.specs.List.{All}
use Rattle.std.proofs.lemmas.List.Elements.{All-nil, All-cons}
use Rattle.herm_model.specs.Lists.{numbered}
use Rattle.herm_model.specs.ValueTexts.{text_of}
use Rattle.herm_journal.specs.Ports.{Port, left_in}
use Rattle.herm_model.specs.Values.{Name, Cell}
use Rattle.herm_journal.specs.Entries.{Text, Place, Entry, port, reply_cell, book}
use Rattle.herm_journal.specs.Journals.{IsRising, ordered, part_of_process}
use Rattle.herm_journal.specs.NextNumbers.{Limits, Book}
use Rattle.herm_system.specs.Systems.{Event, numbered_from_one, start}
use Rattle.herm_instructions.specs.Images.{Image}
use Rattle.herm_code_machine.specs.CodeStates.{CodeState}
use Rattle.herm_code_machine.specs.CodeRenaming.{forget_code}
use Rattle.herm_code_worlds.specs.CodeWorlds.{named, nameless}
use Rattle.herm_code_worlds.specs.laws.WorldOfCode.{WorksAsWorld}
use Rattle.herm_waking.specs.KeptRounds.{Worked}
use Rattle.herm_waking.specs.Numbers.{has}
use Rattle.herm_waking.specs.Unnamed.{Unnamed, bare_can_step}
use Rattle.herm_waking.specs.UnnamedReport.{bare_counts, bare_fates, bare_queues}
use Rattle.herm_waking.specs.UnnamedRounds.{BareWorked}
use Rattle.herm_queue.specs.PortStates.{PortState, port_cell}
use Rattle.herm_process.specs.Processes.{ProcessState, IsProcess}
use Rattle.herm_report.specs.View.{proc_ends_view, numbered_queues, counts_view}
use Rattle.herm_report.specs.declared.report.Report.{Report}
use Rattle.herm_world.specs.Places.{port_seen, replies_seen}
use Rattle.herm_world.specs.Reported.{IsAtRest, IsReported, all_entries}
use Rattle.herm_world.specs.Worlds.{AreAlike, WorldState, ShowsRun}
use Rattle.herm_world.proofs.DiariesJoined.{all-parts, kept-rises}
use Rattle.herm_world.proofs.EndsReported.{CannotStep, HaveLimit, at-rest, ends-are, have-limit, none-can}
use Rattle.herm_world.proofs.NumbersReported.{numbers-are, numbers-from, queues-are}
use Rattle.herm_world.proofs.RunLimits.{run-limits}

abbrev number_in : Place → ℕ
number_in (port n) = n
number_in (reply_cell n) = n
number_in book = 0

long-alike : (image : Image) (main : ℕ) (ps : List ProcessState) (xs : List (CodeState ⊤)) → AreAlike (IsProcess image main) ps xs → length ps ≡ length xs
long-alike image main [] [] are = refl
long-alike image main [] (x ∷ xs) are = absurd are
long-alike image main (p ∷ ps) [] are = absurd are
long-alike image main (p ∷ ps) (x ∷ xs) are = ap suc (long-alike image main ps xs are.1)

long-map : {X Y : Type 0} (f : X → Y) (xs : List X) → length (map f xs) ≡ length xs
long-map f [] = refl
long-map f (x ∷ xs) = ap suc (long-map f xs)

free-from : (ps : List ProcessState) → ((i : ℕ) (p : ProcessState) → slice_get ps i ≡ Some p → p.ordered ≡ None) → All (λ (p : ProcessState). p.ordered ≡ None) ps
free-from [] h = All-nil (λ (p : ProcessState). p.ordered ≡ None)
free-from (p ∷ ps) h = All-cons (λ (p : ProcessState). p.ordered ≡ None) p ps (h 0 p refl) (free-from ps (λ i q e. h (suc i) q e))

-- a run that the world shows, where nobody can step
module _ (world : WorldState) (works : WorksAsWorld world.image world.main) (nobody : world.ready.members ≡ []) (limits : Limits) (argument : Text) (events : List Event) (w : Worked (CodeState Name)) (b : BareWorked (CodeState ⊤))
    (shows : ShowsRun limits argument events w b world) where
  same_book : b.system.book ≡ w.run.system.book
  same_book = ap (λ (b : BareWorked (CodeState ⊤)). b.system.book) (sym shows.shows.seen)

  limited : b.system.book.limits ≡ limits
  limited = ap (λ (b : Book). b.limits) same_book ∙ run-limits (named world.image world.main) events (start (named world.image world.main) limits argument) w.run shows.shows.comes

  nobody-can : (p : ℕ) → bare_can_step (nameless world.image world.main) b.system p ≡ false
  nobody-can p = sym ((works.shown.steps limits argument events w b shows.shows p).kept) ∙ ap (has p) (sym shows.sees.ready_is ∙ nobody)

  cannot : CannotStep world.image world.main b.system 1 b.system.processes
  cannot = none-can world.image world.main b.system nobody-can

  have : HaveLimit world.image world.main b.system world.processes
  have = have-limit world.image world.main b.system world.processes (λ q p e. (shows.told.processes q p e).limit_is ∙ ap (λ (l : Limits). l.steps) (sym limited))

  pub rests : All IsAtRest world.processes
  rests = at-rest world.image world.main b.system 1 world.processes b.system.processes shows.sees.processes have cannot

  pub frees : All (λ (p : ProcessState). p.ordered ≡ None) world.processes
  frees = free-from world.processes (λ i p e. (shows.told.processes (suc i) p e).free)

  pub few : limits.processes ≤ 1024 → length world.processes ≤ 1024
  few most =
      let named_few = shows.shows.worked.within in
      let same = ap (λ (b : BareWorked (CodeState ⊤)). length b.system.processes) (sym shows.shows.seen) ∙ long-map forget_code w.run.system.processes in
      let bound = ap (λ (b : Book). b.limits.processes) (sym same_book) ∙ ap (λ (l : Limits). l.processes) limited in
      omega (arith, most, named_few, same, bound, long-alike world.image world.main world.processes b.system.processes shows.sees.processes)

  parts : (p : ℕ) → part_of_process p (all_entries world.processes) ≡ part_of_process p w.run.journal
  parts = all-parts w.run.journal world.processes (λ p x e. (shows.told.processes p x e).diary) shows.told.fresh

  pub rise : (p : ℕ) → IsRising (part_of_process p (all_entries world.processes))
  rise p =
      let one = works.runs.journal limits argument events w.run shows.shows.comes in
      subst IsRising (one.fits.by_process p ∙ sym (parts p)) (kept-rises (λ (e : Entry). nat_eq e.process p) (ordered w.run.journal) one.fits.ordered)

  its_ports : map port_seen world.places.ports ≡ b.system.ports
  its_ports = ap (λ (v : Unnamed (CodeState ⊤)). v.ports) shows.sees.places

  its_replies : map replies_seen world.places.replies ≡ b.system.replies
  its_replies = ap (λ (v : Unnamed (CodeState ⊤)). v.replies) shows.sees.places

  module _ (r : Report) (is : IsReported world.processes world.places.ports world.places.replies r) where
    pub its-journal : r.journal ≡ ordered w.run.journal
    its-journal = (works.runs.journal limits argument events w.run shows.shows.comes).one r.journal is.journal_rises (λ p. is.journal_parts p ∙ parts p)

    pub its-ends : proc_ends_view r.ends.items ≡ bare_fates (nameless world.image world.main) b.system
    its-ends = ends-are world.image world.main b.system 1 world.processes b.system.processes r.ends.items shows.sees.processes is.ends have cannot

    number-of : (i : ℕ) (p : PortState) → slice_get world.places.ports i ≡ Some p → p.number ≡ i
    number-of i p e = ap number_in (shows.told.cells.cells (port i) (port_cell p) (ap (option_map port_cell) e)).its

    pub its-queues : numbered_queues r.queued.items ≡ bare_queues b.system
    its-queues =
        is.queued ∙ queues-are 0 world.places.ports (numbers-from 0 world.places.ports (λ i p e. number-of i p e ∙ (let same : i ≡ 0 + i = omega arith in same)))
        ∙ ap (λ (ps : List (Port (Cell ⊤))). numbered 0 (map (λ (p : Port (Cell ⊤)). map text_of (left_in p)) ps)) its_ports

    pub its-counts : counts_view r.counts ≡ bare_counts (nameless world.image world.main) b.system
    its-counts =
        is.counts.gathers
        ∙ numbers-are world.image world.main world.processes world.places.ports world.places.replies b.system is.counts.processes (proc_ends_view r.ends.items) shows.sees.processes is.counts.each its_ports its_replies its-ends
