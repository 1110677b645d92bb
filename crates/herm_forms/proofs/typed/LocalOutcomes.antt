-- What a local step comes to is among the outcomes of its form.
use Rattle.std.proofs.Common.{◌≡◌, inl, inr, ℕ, suc, List, [], ◌∷◌, ◌++◌, map, Bool, true, false, cond, Option, Some, None, nat_lt, refl}
use Rattle.std.specs.Prelude.{⊤}
use Rattle.herm_model.specs.Lists.{IsIn}
use Rattle.herm_model.specs.Paths.{Path}
use Rattle.herm_model.specs.Types.{Shape, fields, rows, type_at}
use Rattle.herm_model.specs.Expressions.{Expression}
use Rattle.herm_model.specs.Calls.{shape_at}
use Rattle.herm_model.specs.Statements.{Form, Assign, Move, New, Discard, Unite, Dissolve, Reveal, Case, Wrap, Unwrap, Insert, Remove, Get, For, Connect, If, While, Raise, Leave}
use Rattle.herm_model.specs.Outcomes.{Outcome, ok, is_true, is_false, turn, done, component, raised, case_error, not_found, raised_by, outcomes}
use Rattle.herm_model.specs.Tables.{has_key, key_of, place_of_key}
use Rattle.herm_model.specs.Typed.{greatest_rows, greatest_polymorph}
use Rattle.herm_model.specs.Values.{Scalar, a_boolean, a_scalar, a_variant, a_polymorph, Cell, cell, Parts, no_parts, gap, part, part_at, parts_of, size, cell_at, read_at, has_place, polymorph_depth, Value}
use Rattle.herm_model.specs.FactsOfValues.{is_component}
use Rattle.herm_model.proofs.Lists.{in-append_left, in-append_right, in-map}
use Rattle.herm_forms.specs.Frames.{Name, Frame, Completion, goes, stays, stuck, if_there, finalise, finalise_name, drop, put, reading, taking, putting, making}
use Rattle.herm_forms.specs.Forms
use Rattle.herm_forms.specs.Forms.{with_value, tested, moving, moving_content, content_of, component_in, component_of, inport_number, Opened}
use Rattle.herm_forms.specs.RemoveAndGet.{finding}
use Rattle.herm_forms.specs.LoopForms.{next_row, rows_for}
use Rattle.herm_forms.specs.InsertForm.{change_rows, add_row}
use Rattle.herm_forms.specs.Evaluate.{Evaluated, gives, raises, no_value, evaluate, key_values}
use Rattle.herm_forms.specs.Excess.{excess_over_full}
use Rattle.herm_forms.specs.Modules.{Module}
use Rattle.herm_forms.specs.Acts.{key_at, new_value, act}
use Rattle.herm_forms.proofs.evaluated.RaisedExceptions.{raises-its}

module _ (S : List Outcome) where
  -- the result goes on with one of these outcomes, if it goes on
  pub data EndsIn : Completion Name → Type 0 where
    went : (o : Outcome) (b : Frame Name) → IsIn o S → EndsIn (goes o b)
    stayed : (b : Frame Name) → EndsIn (stays b)
    never : EndsIn stuck

  ends-cond : (t : Bool) (r s : Completion Name) → EndsIn r → EndsIn s → EndsIn (cond t r s)
  ends-cond true r s a b = a
  ends-cond false r s a b = b

  ends-there : {X : Type 0} (next : X → Completion Name) (o : Option X) → ((x : X) → o ≡ Some x → EndsIn (next x)) → EndsIn (if_there next o)
  ends-there next None on = never
  ends-there next (Some x) on = on x refl

  ends-option : {X : Type 0} (o : Option X) (none : Completion Name) (some : X → Completion Name) → EndsIn none → ((x : X) → EndsIn (some x)) → EndsIn (elim o [ None ↦ none | Some x ↦ some x ])
  ends-option None none some a on = a
  ends-option (Some x) none some a on = on x

  ends-putting : (p : Path) (o : Outcome) (d : Cell Name) (b : Frame Name) → IsIn o S → EndsIn (putting p o d b)
  ends-putting p o d b h = ends-cond (has_place b.variables p) (goes o (put p d b)) stuck (went o (put p d b) h) never

  ends-taking : (p : Path) (next : Cell Name → Frame Name → Completion Name) (b : Frame Name) → ((d : Cell Name) (b' : Frame Name) → EndsIn (next d b')) → EndsIn (taking p next b)
  ends-taking p next b on = ends-there _ (cell_at p b.variables) (λ d _. on d _)

  ends-value : (next : Value → Frame Name → Completion Name) (v : Evaluated) (b : Frame Name) → ((w : Value) → EndsIn (next w b)) → ((x : ℕ) → v ≡ raises x → IsIn (raised x) S) → EndsIn (with_value next v b)
  ends-value next (gives w) b on raising = on w
  ends-value next (raises x) b on raising = went (raised x) b (raising x refl)
  ends-value next no_value b on raising = never

  ends-tested : (v : Value) (b : Frame Name) → IsIn is_true S → IsIn is_false S → EndsIn (tested v b)
  ends-tested (cell n (a_scalar (a_boolean true)) ps) b yes' no' = went is_true b yes'
  ends-tested (cell n (a_scalar (a_boolean false)) ps) b yes' no' = went is_false b no'
  ends-tested v b yes' no' = never

  ends-new : (name : Name → Name) (s : Option Shape) (x : Path) (b : Frame Name) → IsIn ok S → EndsIn (new_value name s x b)
  ends-new name (Some (fields ts)) x b h = ends-putting x ok _ _ h
  ends-new name (Some (rows row key)) x b h = ends-putting x ok _ _ h
  ends-new name (Some s) x b h = never
  ends-new name None x b h = never

  ends-finding : (key : List ℕ) (k : List Scalar) (t : Path) (next : ℕ → Cell Name → Completion Name) (b : Frame Name) → IsIn (raised not_found) S → ((i : ℕ) (d : Cell Name) → EndsIn (next i d)) → EndsIn (finding key k t next b)
  ends-finding key k t next b h on = ends-there _ (read_at t b.variables) (λ table _. ends-option (place_of_key key k (parts_of table)) _ _ (went _ _ h) (λ i. ends-there (next i) (part_at i (parts_of table)) (λ d _. on i d)))

  ends-next : (s : ℕ) (r : Path) (ps : Parts Name) (b : Frame Name) → IsIn turn S → IsIn done S → EndsIn (next_row s r ps b)
  ends-next s r no_parts b more last = went done b last
  ends-next s r (gap ps) b more last = never
  ends-next s r (part d ps) b more last = ends-putting r turn d _ more

module _ (c : Module) (name : Name → Name) (s : ℕ) (b : Frame Name) where
  abbrev Ends : Form → Type 0
  Ends form = EndsIn (outcomes c.types c.variables form) (act name c s form b)

  -- of a `case`, where each component that the variant may have is an arm
  abbrev pub CoversCase : Form → Type 0
  CoversCase (Case v ks) = (d : Cell Name) (k : ℕ) → read_at v b.variables ≡ Some d → component_of d ≡ Some k → IsIn k ks
  CoversCase form = ⊤

  raised-in : (e : Expression) (x : ℕ) (before : List Outcome) → evaluate b.variables e ≡ raises x → IsIn (raised x) (before ++ map raised (raised_by e))
  raised-in e x before is = in-append_right (raised x) before (map raised (raised_by e)) (in-map raised x (raised_by e) (raises-its b.variables e x is))

  pub acts-end : (form : Form) → CoversCase form → Ends form
  acts-end (Assign x e) covers = ends-value _ (Forms.assign name x) (evaluate b.variables e) b (λ v. ends-putting _ x ok _ _ (inl refl)) (λ y is. raised-in e y (ok ∷ []) is)
  acts-end (Move y x) covers = ends-taking _ y (putting x ok) (drop (excess_over_full c y b) b) (λ d b'. ends-putting _ x ok d b' (inl refl))
  acts-end (New x) covers = ends-new _ name (shape_at c.types c.variables x) x b (inl refl)
  acts-end (Discard x) covers = ends-taking _ x (λ d b. goes ok (finalise d b)) b (λ d b'. went ok (finalise d b') (inl refl))
  acts-end (Unite v k y) covers = ends-taking _ y (λ d b. making name (a_variant k) (part d no_parts) (putting v ok) b) (drop (excess_over_full c y b) b) (λ d b'. ends-putting _ v ok (cell (name (b'.number, b'.serial)) (a_variant k) (part d no_parts)) (record b' { serial = suc b'.serial }) (inl refl))
  acts-end (Dissolve v k y) covers = ends-taking _ v (λ d b. if_there (λ o. moving_content y o b) (component_in k d)) b (λ d b'. ends-there _ (λ o. moving_content y o b') (component_in k d) (λ o _. ends-putting _ y ok o.content (finalise_name o.name b') (inl refl)))
  acts-end (Reveal v k) covers = ends-there _ _ (read_at v b.variables) (λ d _. went _ _ (found (is_component (Some d) k)))
    where
      found : (t : Bool) → IsIn (cond t ok (raised case_error)) (ok ∷ raised case_error ∷ [])
      found true = inl refl
      found false = inr (inl refl)
  acts-end (Case v ks) covers = ends-there _ _ (read_at v b.variables) (λ d at. ends-there _ _ (component_of d) (λ k is. went _ _ (in-arms (component k) (in-map component k ks (covers d k at is)))))
    where
      in-arms : (o : Outcome) → IsIn o (map component ks) → IsIn o (map component ks ++ [])
      in-arms o h = in-append_left o (map component ks) [] h
  acts-end (Wrap y p) covers =
      ends-there _ _ (type_at c.types c.variables y) (λ t _. ends-there _ _ (cell_at y (drop (excess_over_full c y b) b).variables) (λ d _.
      ends-cond _ (nat_lt (polymorph_depth d) greatest_polymorph) _ _ (ends-taking _ y (λ d b. making name (a_polymorph t) (part d no_parts) (putting p ok) b) (drop (excess_over_full c y b) b) (λ d b'. ends-putting _ p ok (cell (name (b'.number, b'.serial)) (a_polymorph t) (part d no_parts)) (record b' { serial = suc b'.serial }) (inl refl))) (went _ _ (inr (inl refl)))))
  acts-end (Unwrap p t y) covers = ends-there _ _ (cell_at p b.variables) (λ d _. ends-option _ (content_of t d) _ _ (went _ _ (inr (inl refl))) (λ o. ends-putting _ y ok o.content _ (inl refl)))
  acts-end (Insert r t) covers =
      ends-there _ _ (cell_at r b.variables) (λ row _. ends-there _ _ (read_at t b.variables) (λ table _.
      ends-cond _ (has_key (key_at c t) (key_of (key_at c t) row) (parts_of table)) _ _ (went _ _ (inr (inr (inl refl))))
      (ends-cond _ (nat_lt (size (parts_of table)) greatest_rows) _ _
      (ends-taking _ r (λ d b. reading t (λ table. goes ok (change_rows t (add_row d) b)) b) (drop (excess_over_full c r b) b) (λ d b'. ends-there _ (λ table. goes ok (change_rows t (add_row d) b')) (read_at t b'.variables) (λ table' _. went ok (change_rows t (add_row d) b') (inl refl)))) (went _ _ (inr (inl refl))))))
  acts-end (Remove r t keys) covers = ends-there _ _ (key_values b.variables keys) (λ k _. ends-finding _ (key_at c t) k t _ b (inr (inl refl)) (λ i row. ends-putting _ r ok row _ (inl refl)))
  acts-end (Get r t keys) covers = ends-there _ _ (key_values b.variables keys) (λ k _. ends-finding _ (key_at c t) k t _ b (inr (inl refl)) (λ i row. ends-putting _ r ok _ _ (inl refl)))
  acts-end (For r t) covers =
      ends-option _ (rows_for s b.loops) _ _ (ends-there _ _ (read_at t b.variables) (λ table _. ends-next _ s r _ _ (inl refl) (inr (inl refl)))) (λ left. ends-next _ s r left b (inl refl) (inr (inl refl)))
  acts-end (Connect o i) covers = ends-there _ _ (read_at i b.variables) (λ d _. ends-there _ _ (inport_number d) (λ k _. ends-putting _ o ok _ _ (inl refl)))
  acts-end (If e) covers = ends-value _ tested (evaluate b.variables e) b (λ v. ends-tested _ v b (inl refl) (inr (inl refl))) (λ y is. raised-in e y (is_true ∷ is_false ∷ []) is)
  acts-end (While e) covers = ends-value _ tested (evaluate b.variables e) b (λ v. ends-tested _ v b (inl refl) (inr (inl refl))) (λ y is. raised-in e y (is_true ∷ is_false ∷ []) is)
  acts-end (Raise e) covers = went _ _ (inl refl)
  acts-end Leave covers = went _ _ (inl refl)
  acts-end form covers = never
