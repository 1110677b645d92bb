use Rattle.std.proofs.Common.{◌≡◌, ℕ, List, ◌++◌, ◌∷◌, [], ◌+◌, ◌<◌, take, drop, length, get_or, ap, ◌∙◌, sym, append_assoc}
use Rattle.std.proofs.lemmas.List.{take_more, take-append-drop}
use Rattle.herm_refusals.specs.declared.fault.Fault.{Fault}
use Rattle.herm_refusals.specs.RefusalLines.{refusal_text, refusals_text}
use Rattle.herm_edge.proofs.Putting.{put-both, put-short, put-as}
use Rattle.herm_refusals.proofs.Joining.{refusals-more, refusals-apart}
use Rattle.herm_refusals.proofs.lines.put_refusals.Goals as goal

-- the lines of the first refusals, and that of the next
next-line : (names : List (List ℕ)) (faults : List Fault) (i : ℕ) (fault : Fault) → i < length faults → fault ≡ get_or faults i fault → refusals_text names (take i faults) ++ refusal_text names fault ≡ refusals_text names (take (i + 1) faults)
next-line names faults i fault within is =
    refusals-more names (take i faults) fault ∙ ap (refusals_text names) (ap (λ x. take i faults ++ x ∷ []) is ∙ sym (take_more faults i fault within))

-- and those behind it
all-lines : (names : List (List ℕ)) (faults : List Fault) (i : ℕ) (fault : Fault) → i < length faults → fault ≡ get_or faults i fault
    → refusals_text names (take i faults) ++ (refusal_text names fault ++ refusals_text names (drop (i + 1) faults)) ≡ refusals_text names faults
all-lines names faults i fault within is =
    sym (append_assoc (refusals_text names (take i faults)) (refusal_text names fault) (refusals_text names (drop (i + 1) faults)))
    ∙ (ap (λ xs. xs ++ refusals_text names (drop (i + 1) faults)) (next-line names faults i fault within is)
    ∙ (refusals-apart names (take (i + 1) faults) (drop (i + 1) faults) ∙ ap (refusals_text names) (take-append-drop (i + 1) faults)))

pub returns-in_err-put_refusal-clause-put : goal.returns-in_err-put_refusal-clause-put
returns-in_err-put_refusal-clause-put g c =
    put-as _ _ _ _ _ _ _ _ _ (all-lines c.args.names.now c.args.faults.now c.loop-fault.fault-index c.fault-item.result c.loop-fault-test.true c.fault-item.is)
    (put-both _ _ _ _ _ _ _ _ _ _ _ _ c.loop-fault.invariant.put (put-short _ _ _ _ _ _ _ _ _ _ c.from_residual.ensures.0 c.in_err-put_refusal.ensures.put))

pub loop-fault-preserved : goal.loop-fault-preserved
loop-fault-preserved g c = record {
  sound = c.in_ok-put_refusal.ensures.sound;
  put = put-as _ _ _ _ _ _ _ _ _ (next-line c.args.names.now c.args.faults.now c.loop-fault.fault-index c.fault-item.result c.loop-fault-test.true c.fault-item.is)
      (put-both _ _ _ _ _ _ _ _ _ _ _ _ c.loop-fault.invariant.put c.in_ok-put_refusal.ensures.put);
}
