-- A run is a path of its entries' moves, with local steps at the end; and a path with stamps is a run.
use Rattle.std.proofs.Common.{◌≡◌, ℕ, zero, suc, List, [], ◌∷◌, ◌++◌, Bool, true, false, Some, refl, sym, ap, subst, ◌∙◌, append_assoc, append-nil}
use Rattle.std.specs.Prelude.{nat_eq}
use Rattle.std.proofs.lemmas.Bool.{eqb-true}
use Rattle.herm_model.proofs.Options.{some-injective, chain-some, map-some}
use Rattle.herm_journal.specs.PlaceStates.{after}
use Rattle.herm_journal.specs.NextNumbers.{Book, Limits}
use Rattle.herm_journal.specs.Entries.{Entry, recorded}
use Rattle.herm_journal.specs.Stamps.{entry_behind, IsStampedFrom, next_stamp}
use Rattle.herm_system.specs.Systems.{System, Moved, Event, steps, acts, Run, run, run_on, step, with_entry, set_process, set_holding, holding_at, numbered_from_one, can, can_be_done}
use Rattle.herm_system.specs.Machines.{Machine, is_local}
use Rattle.herm_runs.proofs.Stands.{stands-as, place-limits, seen-local}
use Rattle.herm_runs.proofs.ActionParts.{step-parts}
use Rattle.herm_runs.proofs.order.Commuting.{Growth, no_growth, one_port, one_process, grown, changed, change-lost, change-behind, process-still, unequal-numbers}
use Rattle.herm_runs.proofs.Histories.{get-set_from_one, get-other_from_one, held-with_process}
use Rattle.herm_runs.proofs.Numbered.{other-number}
use Rattle.herm_runs.proofs.order.EntryMoves.{IsMove, move-elsewhere, act-moves}
use Rattle.herm_runs.proofs.order.MovesRun.{RunsBetween, runs-join, local-run, move-run}
use Rattle.herm_model.specs.Values.{Name}

grown-book : {P : Type 0} → (g : Growth P) (s : System P) → (grown g s).book ≡ s.book
grown-book no_growth s = refl
grown-book one_port s = refl
grown-book (one_process x) s = refl

-- numbers are the same or not
pub same-or_not : {X : Type 0} (m n : ℕ) → (m ≡ n → X) → ((m ≡ n → ⊥) → X) → X
same-or_not {X = X} m n same other = by_test (nat_eq m n) refl
  where
    by_test : (t : Bool) → nat_eq m n ≡ t → X
    by_test true e = same (eqb-true m n e)
    by_test false e = other (other-number m n e)

module _ {P : Type 0} (machine : Machine Name P) (limit : ℕ) where
  -- a local step of a process
  pub record IsLocal (p : ℕ) (s t : System P) : Type 0 where
    pub before : P
    pub behind : P
    pub is : numbered_from_one p s.processes ≡ Some before
    pub locals : is_local (machine.ready limit before) ≡ true
    pub does : machine.local_step before ≡ Some behind
    pub leads : t ≡ set_process p behind s

  abbrev pub Rests : ℕ → System P → System P → Type 0
  Rests zero s t = s ≡ t
  Rests (suc n) s t = (p : ℕ) × (u : System P) × IsLocal p s u × Rests n u t

  abbrev pub IsPath : List Entry → System P → System P → Type 0
  IsPath [] s t = (n : ℕ) × Rests n s t
  IsPath (e ∷ es) s t = (u : System P) × IsMove machine limit e s u × IsPath es u t

  -- a local step in front of the same process's move is a part of it
  local-own : (e : Entry) (s u v : System P) → IsLocal e.process s u → IsMove machine limit e u v → IsMove machine limit e s v
  local-own e s u v l m =
      let at_u : numbered_from_one e.process u.processes ≡ Some l.behind = ap (λ (x : System _). numbered_from_one e.process x.processes) l.leads ∙ get-set_from_one s.processes e.process l.before l.behind l.is in
      let same : l.behind ≡ m.before = some-injective (sym at_u ∙ m.is) in
      move-elsewhere machine limit e u v s v m (suc m.count) l.before l.is (m.before, l.locals, l.does ∙ ap (λ x. Some x) same, m.walks)
      (sym (held-with_process e.place e.process l.behind s) ∙ ap (holding_at e.place) (sym l.leads) ∙ m.there)
      (m.leads ∙ ap (changed e.process m.behind e.place (after m.done m.held) m.growth) l.leads ∙ change-lost e.process l.behind m.behind e.place (after m.done m.held) m.growth s)

  -- and in front of another process's it can come later
  local-later : (p : ℕ) (e : Entry) (s u v : System P) → (p ≡ e.process → ⊥) → IsLocal p s u → IsMove machine limit e u v → (w : System P) × IsMove machine limit e s w × IsLocal p w v
  local-later p e s u v d l m =
      let h = after m.done m.held in
      let w = changed e.process m.behind e.place h m.growth s in (
        w,
        move-elsewhere machine limit e u v s w m m.count m.before
            (sym (get-other_from_one s.processes p e.process l.behind (unequal-numbers p e.process d)) ∙ ap (λ (x : System _). numbered_from_one e.process x.processes) (sym l.leads) ∙ m.is) m.walks
            (sym (held-with_process e.place p l.behind s) ∙ ap (holding_at e.place) (sym l.leads) ∙ m.there) refl,
        record {
          before = l.before;
          behind = l.behind;
          is = process-still e.process p m.behind l.before e.place h m.growth s (λ q. d (sym q)) l.is;
          locals = l.locals;
          does = l.does;
          leads = m.leads ∙ ap (changed e.process m.behind e.place h m.growth) l.leads ∙ change-behind p e.process l.behind m.behind l.before e.place h m.growth s d l.is;
        },
      )

  local-before : (es : List Entry) (p : ℕ) (s u t : System P) → IsLocal p s u → IsPath es u t → IsPath es s t
  local-before [] p s u t l k = (suc k.0, (p, u, l, k.1))
  local-before (e ∷ es) p s u t l k =
      same-or_not p e.process
      (λ same. (k.0, local-own e s u k.0 (subst (λ q. IsLocal q s u) same l) k.1, k.2))
      (λ differ. let n = local-later p e s u k.0 differ l k.1 in (n.0, n.1, local-before es p n.0 k.0 t n.2 k.2))

  -- limits stay
  pub move-limits : (e : Entry) (s t : System P) → IsMove machine limit e s t → t.book.limits ≡ s.book.limits
  move-limits e s t m =
      let u = set_process e.process m.behind (set_holding e.place (after m.done m.held) s) in
      ap (λ (x : System _). x.book.limits) m.leads ∙ ap (λ (b : Book). b.limits) (grown-book m.growth u) ∙ place-limits e.place m.held m.done s m.there

  local-of : (p : ℕ) (s : System P) (m : Moved P) → s.book.limits.steps ≡ limit → step machine (steps p) s ≡ Some m → IsLocal p s m.system
  local-of p s m same e =
      let parts = step-parts machine p s m e in
      let now = sym (stands-as is_local machine s p parts.state parts.is) ∙ parts.stands in
      record {
        before = parts.state;
        behind = parts.left.0;
        is = parts.is;
        locals = ap (λ l. is_local (machine.ready l parts.state)) (sym same) ∙ sym (seen-local (machine.ready s.book.limits.steps parts.state) (can_be_done (can s p) (machine.wanted parts.state))) ∙ now;
        does = parts.left.1;
        leads = sym (ap (λ (m : Moved _). m.system) parts.moved);
      }

  -- the entries of a run, with the path of their moves
  pub record HasPath (s : System P) (journal : List Entry) (t : System P) (all : List Entry) : Type 0 where
    pub entries : List Entry
    pub are : all ≡ journal ++ entries
    pub path : IsPath entries s t
    pub stamped : IsStampedFrom journal entries

  first-acted : (s u t : System P) (journal all : List Entry) (e : Entry) → e.stamp ≡ next_stamp journal e.process e.place → IsMove machine limit e s u → HasPath u (journal ++ e ∷ []) t all → HasPath s journal t all
  first-acted s u t journal all e stamp m k = record {
    entries = e ∷ k.entries;
    are = k.are ∙ append_assoc journal (e ∷ []) k.entries;
    path = (u, m, k.path);
    stamped = (stamp, k.stamped);
  }

  pub run-path : (events : List Event) (s : System P) (journal : List Entry) (r : Run P) → s.book.limits.steps ≡ limit → run machine events (record { system = s; journal = journal }) ≡ Some r → HasPath s journal r.system r.journal
  run-path [] s journal r same is =
      subst (λ (x : Run _). HasPath s journal x.system x.journal) (some-injective is) (record { entries = []; are = sym (append-nil journal); path = (0, refl); stamped = tt })
  run-path (steps p ∷ events) s journal r same is =
      let b = chain-some (run machine events) (run_on machine (steps p) (record { system = s; journal = journal })) r is in
      let m = map-some (λ (m : Moved _). record { system = m.system; journal = with_entry journal (steps p) m.done }) (step machine (steps p) s) b.0 b.1 in
      let l = local-of p s m.0 same m.1 in
      let k = run-path events m.0.system journal r (ap (λ (x : System _). x.book.limits.steps) l.leads ∙ same) (ap (run machine events) m.2 ∙ b.2) in
      record { entries = k.entries; are = k.are; path = local-before k.entries p s m.0.system r.system l k.path; stamped = k.stamped }
  run-path (acts p place ∷ events) s journal r same is =
      let b = chain-some (run machine events) (run_on machine (acts p place) (record { system = s; journal = journal })) r is in
      let m = map-some (λ (m : Moved _). record { system = m.system; journal = with_entry journal (acts p place) m.done }) (step machine (acts p place) s) b.0 b.1 in
      let a = act-moves machine limit p place s m.0 same m.1 in
      let e = entry_behind journal p place (recorded a.0) in
      let runs : run machine events (record { system = m.0.system; journal = journal ++ e ∷ [] }) ≡ Some r =
      ap (λ o. run machine events (record { system = m.0.system; journal = with_entry journal (acts p place) o })) (sym a.1) ∙ ap (run machine events) m.2 ∙ b.2 in
      first-acted s m.0.system r.system journal r.journal e refl (a.2 e.stamp)
      (run-path events m.0.system (journal ++ e ∷ []) r (ap (λ (l : Limits). l.steps) (move-limits e s m.0.system (a.2 e.stamp)) ∙ same) runs)

  -- a path with stamps is a run
  rests-run : (n : ℕ) (s t : System P) (journal : List Entry) → s.book.limits.steps ≡ limit → Rests n s t → RunsBetween machine s journal t journal
  rests-run zero s t journal same k = ([], ap (λ (x : System _). Some (record { system = x; journal = journal })) k)
  rests-run (suc n) s t journal same k =
      let l = k.2 in
      let one = local-run machine limit k.0 s l.before l.behind journal same l.is l.locals l.does in
      runs-join machine s k.1 t journal journal journal (subst (λ (x : System _). RunsBetween machine s journal x journal) (sym l.leads) one)
      (rests-run n k.1 t journal (ap (λ (x : System _). x.book.limits.steps) l.leads ∙ same) k.3)

  pub path-run : (es : List Entry) (s t : System P) (journal : List Entry) → s.book.limits.steps ≡ limit → IsPath es s t → IsStampedFrom journal es → RunsBetween machine s journal t (journal ++ es)
  path-run [] s t journal same k stamps = subst (λ j. RunsBetween machine s journal t j) (sym (append-nil journal)) (rests-run k.0 s t journal same k.1)
  path-run (e ∷ es) s t journal same k stamps =
      let stamped : entry_behind journal e.process e.place e.action ≡ e = ap (λ n. record { stamp = n; process = e.process; place = e.place; action = e.action }) (sym stamps.0) in
      let one = subst (λ (f : Entry). RunsBetween machine s journal k.0 (journal ++ f ∷ [])) stamped (move-run machine limit e s k.0 journal same k.1) in
      let rest = path-run es k.0 t (journal ++ e ∷ []) (ap (λ (l : Limits). l.steps) (move-limits e s k.0 k.1) ∙ same) k.2 stamps.1 in
      runs-join machine s k.0 t journal (journal ++ e ∷ []) (journal ++ e ∷ es) one
      (subst (λ j. RunsBetween machine k.0 (journal ++ e ∷ []) t j) (append_assoc journal (e ∷ []) es) rest)
