-- Slots that are dropped one after the other are the lists of loops that an edge leaves.
use Rattle.std.proofs.Common.{◌≡◌, ◌⊎◌, inl, inr, ℕ, List, [], ◌∷◌, ◌++◌, map, Bool, true, false, cond, nat_eq, refl, sym, ap, subst, ◌∙◌}
use Rattle.std.specs.Prelude.{filter, not}
use Rattle.std.proofs.lemmas.Bool.{eq-eqb, eqb-true}
use Rattle.herm_model.specs.Lists.{IsIn}
use Rattle.herm_model.specs.Statements.{Differ}
use Rattle.herm_model.specs.Values.{Name}
use Rattle.herm_model.proofs.Lists.{in-append_left, in-append_right, in-append_cases}
use Rattle.herm_forms.specs.Frames.{Loop, Frame, finalise_parts}
use Rattle.herm_forms.specs.LeavingLoops.{finalise_loops, leave_loops}
use Rattle.herm_code_machine.specs.Effects.{drop_loop}
use Rattle.herm_translated.proofs.Joined.{map-joined}

-- the slots are dropped in order
abbrev pub drop_loops : List ℕ → Frame Name → Frame Name
drop_loops [] b = b
drop_loops (s ∷ slots) b = drop_loops slots (drop_loop s b)

abbrev pub statements : List (Loop Name) → List ℕ
statements loops = map (λ (l : Loop Name). l.statement) loops

-- a slot that is not among the lists
none-dropped : (s : ℕ) (loops : List (Loop Name)) (b : Frame Name) → (IsIn s (statements loops) → ⊥) → finalise_loops (λ l. not (nat_eq l s)) loops b ≡ b
none-dropped s [] b h = refl
none-dropped s (l ∷ loops) b h = by (nat_eq l.statement s) refl (none-dropped s loops b (λ m. h (inr m)))
  where
    by : (t : Bool) → nat_eq l.statement s ≡ t → finalise_loops (λ l. not (nat_eq l s)) loops b ≡ b → finalise_loops (λ l. not (nat_eq l s)) loops (cond (not t) b (finalise_parts l.rows b)) ≡ b
    by true e rest = absurd (h (inl (sym (eqb-true l.statement s e))))
    by false e rest = rest

none-left : (s : ℕ) (loops : List (Loop Name)) → (IsIn s (statements loops) → ⊥) → filter (λ (l : Loop Name). not (nat_eq l.statement s)) loops ≡ loops
none-left s [] h = refl
none-left s (l ∷ loops) h = by (nat_eq l.statement s) refl (none-left s loops (λ m. h (inr m)))
  where
    by : (t : Bool) → nat_eq l.statement s ≡ t → filter (λ (l : Loop Name). not (nat_eq l.statement s)) loops ≡ loops
        → cond (not t) (l ∷ filter (λ (l : Loop Name). not (nat_eq l.statement s)) loops) (filter (λ (l : Loop Name). not (nat_eq l.statement s)) loops) ≡ l ∷ loops
    by true e rest = absurd (h (inl (sym (eqb-true l.statement s e))))
    by false e rest = ap (l ∷◌) rest

-- of different lists, one among others
abbrev Apart : List (Loop Name) → Loop Name → List (Loop Name) → Type 0
Apart before l behind = (IsIn l.statement (statements before) → ⊥) × (IsIn l.statement (statements behind) → ⊥)

apart : (before : List (Loop Name)) (l : Loop Name) (behind : List (Loop Name)) → Differ (statements (before ++ (l ∷ behind))) → Apart before l behind
apart [] l behind d = ((λ m. absurd m), d.0)
apart (k ∷ before) l behind d = let rest = apart before l behind d.1 in (first rest.0, rest.1)
  where
    first : (IsIn l.statement (statements before) → ⊥) → IsIn l.statement (k.statement ∷ statements before) → ⊥
    first rest (inl e) =
        d.0 (subst (λ n. IsIn n (statements (before ++ (l ∷ behind)))) e
        (subst (IsIn l.statement) (sym (map-joined (λ (l : Loop Name). l.statement) before (l ∷ behind))) (in-append_right l.statement (statements before) (statements (l ∷ behind)) (inl refl))))
    first rest (inr m) = rest m

one-dropped : (before : List (Loop Name)) (l : Loop Name) (behind : List (Loop Name)) (b : Frame Name) → Apart before l behind
    → finalise_loops (λ n. not (nat_eq n l.statement)) (before ++ (l ∷ behind)) b ≡ finalise_parts l.rows b
one-dropped [] l behind b h =
    ap (λ t. finalise_loops (λ n. not (nat_eq n l.statement)) behind (cond (not t) b (finalise_parts l.rows b))) (eq-eqb l.statement l.statement refl)
    ∙ none-dropped l.statement behind (finalise_parts l.rows b) h.1
one-dropped (k ∷ before) l behind b h = by (nat_eq k.statement l.statement) refl (one-dropped before l behind b ((λ m. h.0 (inr m)), h.1))
  where
    by : (t : Bool) → nat_eq k.statement l.statement ≡ t → finalise_loops (λ n. not (nat_eq n l.statement)) (before ++ (l ∷ behind)) b ≡ finalise_parts l.rows b
        → finalise_loops (λ n. not (nat_eq n l.statement)) (before ++ (l ∷ behind)) (cond (not t) b (finalise_parts k.rows b)) ≡ finalise_parts l.rows b
    by true e rest = absurd (h.0 (inl (sym (eqb-true k.statement l.statement e))))
    by false e rest = rest

one-left : (before : List (Loop Name)) (l : Loop Name) (behind : List (Loop Name)) → Apart before l behind
    → filter (λ (k : Loop Name). not (nat_eq k.statement l.statement)) (before ++ (l ∷ behind)) ≡ before ++ behind
one-left [] l behind h =
    ap (λ t. cond (not t) (l ∷ filter (λ (k : Loop Name). not (nat_eq k.statement l.statement)) behind) (filter (λ (k : Loop Name). not (nat_eq k.statement l.statement)) behind)) (eq-eqb l.statement l.statement refl)
    ∙ none-left l.statement behind h.1
one-left (k ∷ before) l behind h = by (nat_eq k.statement l.statement) refl (one-left before l behind ((λ m. h.0 (inr m)), h.1))
  where
    rest_of : List (Loop Name)
    rest_of = filter (λ (k : Loop Name). not (nat_eq k.statement l.statement)) (before ++ (l ∷ behind))

    by : (t : Bool) → nat_eq k.statement l.statement ≡ t → rest_of ≡ before ++ behind → cond (not t) (k ∷ rest_of) rest_of ≡ k ∷ (before ++ behind)
    by true e rest = absurd (h.0 (inl (sym (eqb-true k.statement l.statement e))))
    by false e rest = ap (k ∷◌) rest

-- lists behind others
joined-again : (before : List (Loop Name)) (l : Loop Name) (behind : List (Loop Name)) → before ++ (l ∷ behind) ≡ (before ++ (l ∷ [])) ++ behind
joined-again [] l behind = refl
joined-again (k ∷ before) l behind = ap (k ∷◌) (joined-again before l behind)

joined-none : (before : List (Loop Name)) → before ≡ before ++ []
joined-none [] = refl
joined-none (k ∷ before) = ap (k ∷◌) (joined-none before)

less-differ : (before : List (Loop Name)) (l : Loop Name) (behind : List (Loop Name)) → Differ (statements (before ++ (l ∷ behind))) → Differ (statements (before ++ behind))
less-differ [] l behind d = d.1
less-differ (k ∷ before) l behind d = (
  (λ m. d.0 (by (subst (IsIn k.statement) (map-joined (λ (l : Loop Name). l.statement) before behind) m))),
  less-differ before l behind d.1,
)
  where
    more : IsIn k.statement (statements before) ⊎ IsIn k.statement (statements behind) → IsIn k.statement (statements before ++ statements (l ∷ behind))
    more (inl m) = in-append_left k.statement (statements before) (statements (l ∷ behind)) m
    more (inr m) = in-append_right k.statement (statements before) (statements (l ∷ behind)) (inr m)

    by : IsIn k.statement (statements before ++ statements behind) → IsIn k.statement (statements (before ++ (l ∷ behind)))
    by m = subst (IsIn k.statement) (sym (map-joined (λ (l : Loop Name). l.statement) before (l ∷ behind))) (more (in-append_cases k.statement (statements before) (statements behind) m))

module _ (kept : ℕ → Bool) where
  abbrev stay : Loop Name → Bool
  stay l = kept l.statement

  abbrev gone : ℕ → Bool
  gone n = not (kept n)

  -- the lists behind some that are kept
  left-behind : (before loops : List (Loop Name)) (b : Frame Name) → b.loops ≡ before ++ loops → Differ (statements (before ++ loops))
      → drop_loops (filter gone (statements loops)) b ≡ finalise_loops kept loops (record b { loops = before ++ filter stay loops })
  left-behind before [] b is d = ap (λ ls. record b { loops = ls }) is
  left-behind before (l ∷ loops) b is d =
      by (kept l.statement)
      (left-behind (before ++ (l ∷ [])) loops b (is ∙ joined-again before l loops) (subst (λ ls. Differ (statements ls)) (joined-again before l loops) d)
      ∙ ap (λ ls. finalise_loops kept loops (record b { loops = ls })) (sym (joined-again before l (filter stay loops))))
      (ap (drop_loops (filter gone (statements loops))) dropped ∙ left-behind before loops cut refl (less-differ before l loops d))
    where
      cut : Frame Name
      cut = finalise_parts l.rows (record b { loops = before ++ loops })

      dropped : drop_loop l.statement b ≡ cut
      dropped =
          ap (λ ls. finalise_loops (λ n. not (nat_eq n l.statement)) ls (record b { loops = filter (λ (k : Loop Name). not (nat_eq k.statement l.statement)) ls })) is
          ∙ one-dropped before l loops (record b { loops = filter (λ (k : Loop Name). not (nat_eq k.statement l.statement)) (before ++ (l ∷ loops)) }) (apart before l loops d)
          ∙ ap (λ ls. finalise_parts l.rows (record b { loops = ls })) (one-left before l loops (apart before l loops d))

      by : (t : Bool) → drop_loops (filter gone (statements loops)) b ≡ finalise_loops kept loops (record b { loops = before ++ (l ∷ filter stay loops) })
          → drop_loops (filter gone (statements loops)) (drop_loop l.statement b) ≡ finalise_loops kept loops (finalise_parts l.rows (record b { loops = before ++ filter stay loops }))
          → drop_loops (cond (not t) (l.statement ∷ filter gone (statements loops)) (filter gone (statements loops))) b
          ≡ finalise_loops kept loops (cond t (record b { loops = before ++ cond t (l ∷ filter stay loops) (filter stay loops) }) (finalise_parts l.rows (record b { loops = before ++ cond t (l ∷ filter stay loops) (filter stay loops) })))
      by true stays goes = stays
      by false stays goes = goes

  pub all-left : (b : Frame Name) → Differ (statements b.loops) → drop_loops (filter gone (statements b.loops)) b ≡ leave_loops kept b
  all-left b d = left-behind [] b.loops b refl d
