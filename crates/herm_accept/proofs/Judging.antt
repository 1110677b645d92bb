-- What is known of the processes that were checked goes on to the next one.
use Rattle.std.proofs.Common.{◌≡◌, ◌≢◌, ℕ, suc, List, [], ◌∷◌, ◌++◌, map, length, inl, inr, zero, ◌<◌, ◌≤◌, ◌+◌, drop, get_or, refl, sym, ap, subst, ◌∙◌, append_assoc, append-nil, add-one, drop-cons, arith}
use Rattle.std.proofs.lemmas.List.{drop_all, nil_from_length}
use Rattle.herm_model.specs.Lists.{IsIn}
use Rattle.herm_model.specs.ControlPaths.{Flow}
use Rattle.herm_model.specs.MissingFacts.{Refusal, demands, AreRefusals}
use Rattle.herm_model.specs.laws.FlowLaws.{said}
use Rattle.herm_model.proofs.DeterminedRefusals.{refusals-determined}
use Rattle.herm_meaning.specs.Names.{NamedTable}
use Rattle.herm_typed.specs.declared.statements.TypedProcess.{TypedProcess}
use Rattle.herm_typestate.specs.declared.labels.Labels.{Labels}
use Rattle.herm_flow.specs.declared.flow.Flow.{Flow as FlowOf}
use Rattle.herm_check.specs.Shortest.{AreShortest, AreNoLonger}
use Rattle.herm_coerce.specs.declared.coercions.Coercions.{Coercions}
use Rattle.herm_accept.specs.declared.accepting.Accepted.{Accepted}
use Rattle.herm_accept.specs.declared.accepting.Lack.{Lack}
use Rattle.herm_accept.specs.Accepted.{AreAccepted}
use Rattle.herm_accept.specs.Lacking.{Lacking, lack_view, lacking, AreLacking}
use Rattle.herm_accept.specs.Judged.{IsJudged, accepts, refuses}

-- With whatever the rest of the processes lack, what was found are the facts that all lack; and where nothing was found, with the
-- rest's flows, labels and coercions those that were found are those of all.
pub record GoesOn (types : NamedTable) (all : List TypedProcess) (number : ℕ) (rest : List TypedProcess) (a : Accepted) (lacks : List Lack) : Type 0 where
  pub lacks_go : (others : List Lacking) → AreLacking types number rest others → AreLacking types 0 all (map lack_view lacks ++ others)
  pub accepts_go : lacks ≡ [] → (fs : List FlowOf) (ls : List Labels) (cs : List Coercions) → AreAccepted types.shapes rest fs ls cs → AreAccepted types.shapes all (a.flows.items ++ fs) (a.labels.items ++ ls) (a.coercions.items ++ cs)

pub goes_at_first : (types : NamedTable) (all : List TypedProcess) (a : Accepted) → a.flows.items ≡ [] → a.labels.items ≡ [] → a.coercions.items ≡ [] → GoesOn types all 0 all a []
goes_at_first types all a f l c = record {
  lacks_go = λ others are. are;
  accepts_go = λ _ fs ls cs are. rw f (rw l (rw c are));
}

none_alike : (rs : List Refusal) → said rs ≡ [] → rs ≡ []
none_alike [] e = refl
none_alike (r ∷ rs) e = cc

no_longer : (flow : Flow) → AreRefusals flow (demands flow) [] → (others : List Refusal) → AreRefusals flow (demands flow) others → AreNoLonger [] others
no_longer flow are others more = rw (none_alike others (sym (refusals-determined flow (demands flow) [] others are more))) tt

-- where nothing is missing, nothing is reported
pub none_shortest : (flow : Flow) → AreRefusals flow (demands flow) [] → AreShortest flow []
none_shortest flow are = record {
  refusals = are;
  least = no_longer flow are;
  few = λ r member. absurd member;
}

not_nothing : (types : NamedTable) (number : ℕ) (p : TypedProcess) (xs : List Lacking) (refusals : List Refusal) → refusals ≢ [] → [] ≡ xs ++ map (lacking types number p) refusals → ⊥
not_nothing types number p [] [] some e = some refl
not_nothing types number p [] (r ∷ rs) some e = cc
not_nothing types number p (x ∷ xs) rs some e = cc

pub goes_further : (types : NamedTable) (all : List TypedProcess) (number : ℕ) (p : TypedProcess) (rest : List TypedProcess) (a b : Accepted) (lacks more : List Lack)
    → GoesOn types all number (p ∷ rest) a lacks → IsJudged types number p a lacks b more → GoesOn types all (suc number) rest b more
goes_further types all number p rest a _ lacks _ goes (accepts flow labels coercions after is f l c) = record {
  lacks_go = λ others are. goes.lacks_go others ([], none_shortest _ is.accepted, others, refl, are);
  accepts_go = λ none fs ls cs are.
      rw (f) (rw l (rw c (
      rw (append_assoc a.flows.items (flow ∷ []) fs) (rw (append_assoc a.labels.items (labels ∷ []) ls) (rw (append_assoc a.coercions.items (coercions ∷ []) cs)
      (goes.accepts_go none (flow ∷ fs) (labels ∷ ls) (coercions ∷ cs) (is, are)))))));
}
goes_further types all number p rest a _ lacks _ goes (refuses refusals more some are e) = record {
  lacks_go = λ others rest_lacks.
      rw e (rw (append_assoc (map lack_view lacks) (map (lacking types number p) refusals) others)
      (goes.lacks_go (map (lacking types number p) refusals ++ others) (refusals, are, others, refl, rest_lacks)));
  accepts_go = λ none fs ls cs rest_are. absurd (not_nothing types number p (map lack_view lacks) refusals some (ap (map lack_view) (sym none) ∙ e));
}

pub goes_to_lacks : (types : NamedTable) (all : List TypedProcess) (number : ℕ) (a : Accepted) (lacks : List Lack) → GoesOn types all number [] a lacks → AreLacking types 0 all (map lack_view lacks)
goes_to_lacks types all number a lacks goes = rw (sym (append-nil (map lack_view lacks))) (goes.lacks_go [] refl)

pub goes_to_accepted : (types : NamedTable) (all : List TypedProcess) (number : ℕ) (a : Accepted) (lacks : List Lack) → GoesOn types all number [] a lacks → lacks ≡ [] → AreAccepted types.shapes all a.flows.items a.labels.items a.coercions.items
goes_to_accepted types all number a lacks goes none =
    rw (sym (append-nil a.flows.items)) (rw (sym (append-nil a.labels.items)) (rw (sym (append-nil a.coercions.items)) (goes.accepts_go none [] [] [] tt)))

pub in_place : {X : Type 0} (xs : List X) (i : ℕ) (x : X) → i < length xs → x ≡ get_or xs i x → IsIn x xs
in_place [] i x below e = absurd (omega (arith, below))
in_place (y ∷ ys) zero x below e = inl e
in_place (y ∷ ys) (suc i) x below e = inr (in_place ys i x (omega (arith, below)) e)

pub goes_on_at : (types : NamedTable) (all : List TypedProcess) (number : ℕ) (p : TypedProcess) (a b : Accepted) (lacks more : List Lack) → number < length all → p ≡ get_or all number p
    → GoesOn types all number (drop number all) a lacks → IsJudged types number p a lacks b more → GoesOn types all (number + 1) (drop (number + 1) all) b more
goes_on_at types all number p a b lacks more below is goes judged =
    let d : drop number all ≡ p ∷ drop (suc number) all = drop-cons all number p below ∙ ap (λ (x : TypedProcess). x ∷ drop (suc number) all) (sym is) in
    rw add-one (goes_further types all number p (drop (suc number) all) a b lacks more (subst (λ (rest : List TypedProcess). GoesOn types all number rest a lacks) d goes) judged)

pub lacks_at_end : (types : NamedTable) (all : List TypedProcess) (number : ℕ) (a : Accepted) (lacks : List Lack) → length all ≤ number → GoesOn types all number (drop number all) a lacks → AreLacking types 0 all (map lack_view lacks)
lacks_at_end types all number a lacks past goes = goes_to_lacks types all number a lacks (subst (λ (rest : List TypedProcess). GoesOn types all number rest a lacks) (drop_all number all past) goes)

pub accepted_at_end : (types : NamedTable) (all : List TypedProcess) (number : ℕ) (a : Accepted) (lacks : List Lack) → length all ≤ number → GoesOn types all number (drop number all) a lacks → length lacks ≡ 0 → AreAccepted types.shapes all a.flows.items a.labels.items a.coercions.items
accepted_at_end types all number a lacks past goes none =
    goes_to_accepted types all number a lacks (subst (λ (rest : List TypedProcess). GoesOn types all number rest a lacks) (drop_all number all past) goes) (nil_from_length lacks none)

pub some_lack : (lacks : List Lack) → (length lacks ≡ 0 → ⊥) → map lack_view lacks ≢ []
some_lack [] some e = some refl
some_lack (l ∷ lacks) some e = cc
