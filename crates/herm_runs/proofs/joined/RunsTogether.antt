-- A run of one of two joined machines is one of the other, and looks alike.
use Rattle.std.proofs.Common.{◌≡◌, List, [], ◌∷◌, Some, option_and_then, refl, sym, ap, ap₂, subst, ◌∙◌}
use Rattle.herm_model.specs.Lists.{list_of}
use Rattle.herm_model.specs.Values.{Name}
use Rattle.herm_model.proofs.Options.{some-injective, chain-some, map-some}
use Rattle.herm_journal.specs.NextNumbers.{Limits}
use Rattle.herm_journal.specs.Entries.{Text}
use Rattle.herm_system.specs.Machines.{Machine}
use Rattle.herm_system.specs.Systems.{Moved, Event, Run, run, run_on, step, start, opening, main_port, with_entry}
use Rattle.herm_system.specs.Sound.{IsNumbered}
use Rattle.herm_runs.specs.laws.ProcessLaws.{KeepsNumbers}
use Rattle.herm_runs.specs.laws.DiaryLaws.{SuitsAlong}
use Rattle.herm_runs.specs.Joining.{AreJoined, EachOf, Correspond, RunTogether}
use Rattle.herm_runs.proofs.Numbered.{step-numbered, opening-numbered}
use Rattle.herm_runs.proofs.joined.SameOutside.{alike}
use Rattle.herm_runs.proofs.joined.StepsTogether.{there, step-together, event-suits}

module _ {P Q : Type 0} (a : Machine Name P) (b : Machine Name Q) (R : P → Q → Type 0) (j : AreJoined a b R) where
  -- the opening states correspond
  pub opening-together : (limits : Limits) (argument : Text) (main : P) → a.begin a.main 1 main_port ≡ Some main → Correspond R (opening a limits argument) (opening b limits argument)
  opening-together limits argument main is =
      let n = there R (a.begin a.main 1 main_port) (b.begin a.main 1 main_port) main (j.begins a.main 1 1 (0, 1)) is in
      let first : (opening a limits argument).processes ≡ main ∷ [] = ap (list_of (λ x. x ∷ [])) is in
      let second : (opening b limits argument).processes ≡ n.0 ∷ [] = ap (λ i. list_of (λ x. x ∷ []) (b.begin i 1 main_port)) (sym j.main) ∙ ap (list_of (λ x. x ∷ [])) n.1 in
      record {
        processes = subst (λ xs. EachOf R xs (opening b limits argument).processes) (sym first) (subst (EachOf R (main ∷ [])) (sym second) (n.2, tt));
        ports = refl;
        replies = refl;
        book = refl;
      }

module _ {P Q : Type 0} (a : Machine Name P) (b : Machine Name Q) (R : P → Q → Type 0) (j : AreJoined a b R) (keeps : KeepsNumbers a) where
  -- what a run leads to
  record LeadTogether (events : List Event) (r : Run P) (q : Run Q) : Type 0 where
    last : Run Q
    runs : run b events q ≡ Some last
    journal : r.journal ≡ last.journal
    systems : Correspond R r.system last.system
    suits : SuitsAlong b events q

  run-together : (events : List Event) (r t : Run P) (q : Run Q) → IsNumbered a r.system → Correspond R r.system q.system → r.journal ≡ q.journal → run a events r ≡ Some t → SuitsAlong a events r → LeadTogether events t q
  run-together [] r t q numbered c same is suits =
      let one : r ≡ t = some-injective is in
      record {
        last = q;
        runs = refl;
        journal = sym (ap (λ (x : Run P). x.journal) one) ∙ same;
        systems = subst (λ (x : Run P). Correspond R x.system q.system) one c;
        suits = tt;
      }
  run-together (e ∷ events) r t q numbered c same is suits =
      let u = chain-some (run a events) (run_on a e r) t is in
      let m = map-some (λ (m : Moved P). record { system = m.system; journal = with_entry r.journal e m.done }) (step a e r.system) u.0 u.1 in
      let n = step-together a b R j e r.system q.system m.0 c suits.0 (λ p x found. (numbered.processes p x found).0) m.1 in
      let v : Run Q = record { system = n.0.system; journal = with_entry q.journal e n.0.done } in
      let on : run_on b e q ≡ Some v = ap (λ o. Rattle.std.specs.Prelude.option_map (λ (m : Moved Q). record { system = m.system; journal = with_entry q.journal e m.done }) o) n.1 in
      let here : Run P = record { system = m.0.system; journal = with_entry r.journal e m.0.done } in
      let at_here : here ≡ u.0 = m.2 in
      let rest_runs : run a events here ≡ Some t = ap (run a events) at_here ∙ u.2 in
      let rest_suits : SuitsAlong a events here = suits.1 here (u.1 ∙ ap (λ x. Some x) (sym at_here)) in
      let rest = run-together events here t v (step-numbered a keeps e r.system m.0 m.1 numbered) n.2 (ap₂ (λ es done. with_entry es e done) same n.3) rest_runs rest_suits in
      record {
        last = rest.last;
        runs = ap (option_and_then (run b events)) on ∙ rest.runs;
        journal = rest.journal;
        systems = rest.systems;
        suits = (event-suits a b R j e r.system q.system m.0 n.0 c suits.0 m.1 n.1 n.3, λ w is. subst (SuitsAlong b events) (some-injective (sym on ∙ is)) rest.suits);
      }

  pub runs-together : RunTogether a b R
  runs-together limits argument main events r is runs suits =
      let k = run-together events (start a limits argument) r (start b limits argument) (opening-numbered a keeps limits argument main is) (opening-together a b R j limits argument main is) refl runs suits in
      let last : Run Q = record { system = (k.last).system; journal = r.journal } in
      let same : last ≡ k.last = ap (λ es. record { system = (k.last).system; journal = es }) k.journal in
      (last, k.runs ∙ ap (λ x. Some x) (sym same), alike a b R j r.system (k.last).system k.systems r.journal, k.suits)
