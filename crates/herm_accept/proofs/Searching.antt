-- What processes lack is found process by process; and where they lack nothing, each is accepted.
use Rattle.std.proofs.Common.{◌≡◌, ℕ, suc, List, [], ◌∷◌, ◌++◌, map, length, inl, inr, ◌<◌, ◌≤◌, ◌+◌, drop, get_or, refl, sym, ap, subst, ◌∙◌, append_assoc, append-nil, add-one, drop-cons}
use Rattle.std.proofs.lemmas.List.{drop_all}
use Rattle.herm_model.specs.Lists.{IsIn}
use Rattle.herm_model.specs.Statements.{Process}
use Rattle.herm_model.specs.ControlPaths.{flow_of}
use Rattle.herm_model.specs.MissingFacts.{IsAccepted}
use Rattle.herm_model.proofs.DeterminedRefusals.{accepted-held}
use Rattle.herm_meaning.specs.Names.{NamedTable}
use Rattle.herm_typed.specs.declared.statements.TypedProcess.{TypedProcess}
use Rattle.herm_typed.specs.View.{typed_process_view}
use Rattle.herm_check.specs.Faults.{HasNoFault}
use Rattle.herm_check.specs.Missing.{refusals_of}
use Rattle.herm_check.specs.Shortest.{AreShortest}
use Rattle.herm_check.specs.declared.missing.Missing.{Missing}
use Rattle.herm_accept.specs.declared.accepting.Lack.{Lack}
use Rattle.herm_accept.specs.Lacking.{Lacking, lack_view, lacking, AreLacking}
use Rattle.herm_accept.specs.Judged.{IsSearched}
use Rattle.herm_accept.proofs.Judging.{none_shortest}

-- With whatever the rest of the processes lack, what was found are the facts that all lack.
pub record FindsOn (types : NamedTable) (all : List TypedProcess) (number : ℕ) (rest : List TypedProcess) (lacks : List Lack) : Type 0 where
  pub go : (others : List Lacking) → AreLacking types number rest others → AreLacking types 0 all (map lack_view lacks ++ others)

pub finds_further : (types : NamedTable) (all : List TypedProcess) (number : ℕ) (p : TypedProcess) (rest : List TypedProcess) (lacks more : List Lack)
    → FindsOn types all number (p ∷ rest) lacks → IsSearched types number p lacks more → FindsOn types all (suc number) rest more
finds_further types all number p rest lacks more finds found = record {
  go = λ others are.
      rw found.added (rw (append_assoc (map lack_view lacks) (map (lacking types number p) found.refusals) others)
      (finds.go (map (lacking types number p) found.refusals ++ others) (found.refusals, found.are, others, refl, are)));
}

pub finds_on_at : (types : NamedTable) (all : List TypedProcess) (number : ℕ) (p : TypedProcess) (lacks more : List Lack) → number < length all → p ≡ get_or all number p
    → FindsOn types all number (drop number all) lacks → IsSearched types number p lacks more → FindsOn types all (number + 1) (drop (number + 1) all) more
finds_on_at types all number p lacks more below is finds found =
    let d : drop number all ≡ p ∷ drop (suc number) all = drop-cons all number p below ∙ ap (λ (x : TypedProcess). x ∷ drop (suc number) all) (sym is) in
    rw add-one (finds_further types all number p (drop (suc number) all) lacks more (subst (λ (rest : List TypedProcess). FindsOn types all number rest lacks) d finds) found)

pub found_at_end : (types : NamedTable) (all : List TypedProcess) (number : ℕ) (lacks : List Lack) → length all ≤ number → FindsOn types all number (drop number all) lacks → AreLacking types 0 all (map lack_view lacks)
found_at_end types all number lacks past finds =
    let at_end : FindsOn types all number [] lacks = subst (λ (rest : List TypedProcess). FindsOn types all number rest lacks) (drop_all number all past) finds in
    rw (sym (append-nil (map lack_view lacks))) (at_end.go [] refl)

-- processes that lack nothing are accepted
nothing_lacks : (types : NamedTable) (number : ℕ) (ps : List TypedProcess) → AreLacking types number ps [] → (p : Process) → IsIn p (map typed_process_view ps) → IsAccepted types.shapes p
nothing_lacks types number [] are p inside = absurd inside
nothing_lacks types number (q ∷ qs) ([], shortest, [], e, rest) p (inl is) = subst (IsAccepted types.shapes) (sym is) shortest.refusals
nothing_lacks types number (q ∷ qs) ([], shortest, [], e, rest) p (inr inside) = nothing_lacks types (suc number) qs rest p inside
nothing_lacks types number (q ∷ qs) ([], shortest, (o ∷ others), e, rest) p inside = let k : ⊥ = cc in absurd k
nothing_lacks types number (q ∷ qs) ((r ∷ refusals), shortest, others, e, rest) p inside = let k : ⊥ = cc in absurd k

pub each_accepted : (types : NamedTable) (all : List TypedProcess) (lacks : List Lack) → AreLacking types 0 all (map lack_view lacks) → lacks ≡ []
    → (p : Process) → IsIn p (map typed_process_view all) → IsAccepted types.shapes p
each_accepted types all lacks are none = nothing_lacks types 0 all (subst (λ (found : List Lack). AreLacking types 0 all (map lack_view found)) none are)

-- ---- what is found of one process

pub searched_accepted : (types : NamedTable) (number : ℕ) (p : TypedProcess) (lacks : List Lack)
    → HasNoFault (flow_of types.shapes (typed_process_view p)) → IsSearched types number p lacks lacks
searched_accepted types number p lacks faultless = record {
  refusals = [];
  are = none_shortest _ ((accepted-held types.shapes (typed_process_view p)).1 faultless);
  added = sym (append-nil (map lack_view lacks));
}

pub searched_refused : (types : NamedTable) (number : ℕ) (p : TypedProcess) (all : Missing) (lacks more : List Lack)
    → AreShortest (flow_of types.shapes (typed_process_view p)) (refusals_of all) → map lack_view more ≡ map lack_view lacks ++ map (lacking types number p) (refusals_of all) → IsSearched types number p lacks more
searched_refused types number p all lacks more are e = record {
  refusals = refusals_of all;
  are = are;
  added = e;
}
