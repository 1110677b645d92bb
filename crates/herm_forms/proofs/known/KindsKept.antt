-- A process's cells are of kinds that local steps keep.
use Rattle.std.proofs.Common.{◌≡◌, refl, subst, ℕ, suc, ◌+◌, List, [], ◌∷◌, ◌++◌, Bool, true, false, cond, Option, Some, None}
use Rattle.std.specs.Prelude.{length, ℤ, pos, nat_eq, nat_lt, nat_le, filter, not, ◌&&◌, ◌||◌, ◌+ℤ◌, ◌-ℤ◌, ◌*ℤ◌, neg_ℤ, int_lt, int_le, int_div, int_rem}
use Rattle.herm_model.specs.Paths.{Path}
use Rattle.herm_model.specs.Types.{Shape, fields, rows, type_at}
use Rattle.herm_model.specs.Outcomes.{Outcome, ok, turn, raised, depletion, duplicate_key, polymorph_mismatch, overflow}
use Rattle.herm_model.specs.Statements.{Form, Assign, Move, New, Discard, Unite, Dissolve, Reveal, Case, Wrap, Unwrap, Insert, Remove, Get, For, Connect, If, While, Raise, Leave}
use Rattle.herm_model.specs.Expressions.{Operator, logical_or, logical_and, equal, unequal, less, at_most, greater, at_least, plus, minus, times, divided, modulo, concatenated, Expression, literal, copy, negation, logical_not, operation, decimal, length_of, Atom, path}
use Rattle.herm_model.specs.Calls.{shape_at}
use Rattle.herm_model.specs.Targets.{Target}
use Rattle.herm_model.specs.Finalising.{excess, pending, pending_in}
use Rattle.herm_model.specs.Values.{has_place, Scalar, a_boolean, an_integer, a_text, Kind, a_scalar, a_record, a_variant, a_table, a_polymorph, a_callmessage, an_outport, an_inport, Cell, cell, Parts, no_parts, gap, part, part_at, parts_of, size, has_value, cell_at, read_at, put_at, polymorph_depth, Value}
use Rattle.herm_model.specs.CellNames.{copy_from, copy_in, count, count_in, forget}
use Rattle.herm_model.specs.Tables.{has_key, key_of, place_of_key, without_part, same_integer, same_scalar}
use Rattle.herm_model.specs.ValueTexts.{signed_numeral}
use Rattle.herm_model.specs.Typed.{greatest_rows, greatest_polymorph, is_integer, greatest_text}
use Rattle.herm_forms.specs.Evaluate
use Rattle.herm_forms.specs.Evaluate.{Evaluated, gives, raises, no_value, one_then, two_then, scalar_then, boolean_then, integer_then, text_then, within_bits, within_length, by_divisor, compared, on_booleans, on_integers, on_texts, operate, value_there, rows_there, evaluate, atom_value, key_values, gives_boolean, gives_scalar}
use Rattle.herm_forms.specs.Frames.{Name, Loop, Frame, Completion, goes, stays, stuck, if_there, finalise, finalise_parts, finalise_old, finalise_all, finalise_name, finalise_at_once, cleared, drop_at, drop, reading, taking, putting, putting_all, making, copying, copying_parts, counted_step, counted_action}
use Rattle.herm_forms.specs.Frames
use Rattle.herm_forms.specs.Forms
use Rattle.herm_forms.specs.InsertForm
use Rattle.herm_forms.specs.Forms.{with_value, moving, moving_content, Opened, component_in, content_of, component_of, inport_number, tested}
use Rattle.herm_forms.specs.InsertForm.{change_rows, add_row}
use Rattle.herm_forms.specs.RemoveAndGet.{finding}
use Rattle.herm_forms.specs.LoopForms.{rows_for, set_rows, next_row}
use Rattle.herm_forms.specs.EdgeFinalising.{arrive, keeps}
use Rattle.herm_forms.specs.LeavingLoops.{keeps_loop, finalise_loops, leave_loops}
use Rattle.herm_forms.specs.Excess.{excess_over_full}
use Rattle.herm_forms.specs.Modules.{Module}
use Rattle.herm_forms.specs.Acts.{key_at, new_value, act}
use Rattle.herm_journal.specs.Kinds.{HasKinds, HaveKinds, AllKinds}
use Rattle.herm_journal.proofs.MoreKinds.{ListKinds}
use Rattle.herm_forms.proofs.known.HeldKinds.{IfKinds, all-append, part-kinds, cell-kinds, read-kinds, parts-kinds, set-kinds_at, change-kinds_at, with-kinds, joined-kinds, without-kinds, gaps-kinds, copy-kinds, copy-kinds_in, renamed-kinds, pending-kinds, pending-kinds_in}

-- kinds without numbers of ports and processes are allowed, and outports to the ports of inports
pub record AllowsPlain (of : Kind → Type 0) : Type 0 where
  pub scalars : (s : Scalar) → of (a_scalar s)
  pub records : of a_record
  pub variants : (c : ℕ) → of (a_variant c)
  pub tables : of a_table
  pub polymorphs : (t : ℕ) → of (a_polymorph t)
  pub outports : (n : ℕ) → of (an_inport n) → of (an_outport n)

abbrev pub IfParts : {N : Type 0} → (Kind → Type 0) → Option (Parts N) → Type 0
IfParts of None = Unit {0}
IfParts of (Some ps) = HaveKinds of ps

abbrev pub LoopKinds : {N : Type 0} → (Kind → Type 0) → List (Loop N) → Type 0
LoopKinds of loops = ListKinds of (λ (l : Loop _). l.rows) loops

-- the value that an expression gives has the property
abbrev pub Gives : (Value → Type 0) → Evaluated → Type 0
Gives Of (gives v) = Of v
Gives Of (raises e) = Unit {0}
Gives Of no_value = Unit {0}

abbrev pub GivesKinds : (Kind → Type 0) → Evaluated → Type 0
GivesKinds of = Gives (HasKinds of)

-- a body's cells are of the kinds, and callmessages of its own are allowed
abbrev pub BodyKinds : {N : Type 0} → (Kind → Type 0) → Frame N → Type 0
BodyKinds of b = HaveKinds of b.variables × LoopKinds of b.loops × AllKinds of b.work × ((call : ℕ) → of (a_callmessage b.number call))

pub value-given : {N : Type 0} (Of : Value → Type 0) (o : Option (Cell N)) → ((d : Cell N) → o ≡ Some d → Of (forget d)) → Gives Of (value_there o)
value-given Of None h = tt
value-given Of (Some d) h = h d refl

-- what expressions give
module _ (Of : Value → Type 0) (scalars : (s : Scalar) → Of (Evaluate.scalar_value s)) where
  gives-cond : (b : Bool) (x y : Evaluated) → Gives Of x → Gives Of y → Gives Of (cond b x y)
  gives-cond true x y h k = h
  gives-cond false x y h k = k

  scalar-given : (s : Scalar) → Gives Of (gives_scalar s)
  scalar-given s = scalars s

  pub scalar-then : {N : Type 0} (f : Scalar → Evaluated) (c : Cell N) → ((s : Scalar) → Gives Of (f s)) → Gives Of (scalar_then f c)
  scalar-then f (cell n (a_scalar s) ps) on = on s
  scalar-then f (cell n k ps) on = tt

  pub one-then : (f : Scalar → Evaluated) (x : Evaluated) → ((s : Scalar) → Gives Of (f s)) → Gives Of (one_then f x)
  one-then f (gives v) on = scalar-then f v on
  one-then f (raises e) on = tt
  one-then f no_value on = tt

  pub two-then : (f : Scalar → Scalar → Evaluated) (x y : Evaluated) → ((s t : Scalar) → Gives Of (f s t)) → Gives Of (two_then f x y)
  two-then f (gives v) y on = scalar-then (λ s. one_then (f s) y) v (λ s. one-then (f s) y (on s))
  two-then f (raises e) y on = tt
  two-then f no_value y on = tt

  pub boolean-then : (f : Bool → Evaluated) (s : Scalar) → ((b : Bool) → Gives Of (f b)) → Gives Of (boolean_then f s)
  boolean-then f (a_boolean b) on = on b
  boolean-then f s on = tt

  pub integer-then : (f : ℤ → Evaluated) (s : Scalar) → ((z : ℤ) → Gives Of (f z)) → Gives Of (integer_then f s)
  integer-then f (an_integer z) on = on z
  integer-then f s on = tt

  pub text-then : (f : List ℕ → Evaluated) (s : Scalar) → ((t : List ℕ) → Gives Of (f t)) → Gives Of (text_then f s)
  text-then f (a_text t) on = on t
  text-then f s on = tt

  pub within-bits : (z : ℤ) → Gives Of (within_bits z)
  within-bits z = gives-cond (is_integer z) (gives_scalar (an_integer z)) (raises overflow) (scalar-given (an_integer z)) tt

  within-length : (t : List ℕ) → Gives Of (within_length t)
  within-length t = gives-cond (nat_le (length t) greatest_text) (gives_scalar (a_text t)) (raises depletion) (scalar-given (a_text t)) tt

  by-divisor : (f : ℤ → ℤ → ℤ) (y z : ℤ) → Gives Of (by_divisor f y z)
  by-divisor f y z = gives-cond (same_integer z (pos 0)) (raises overflow) (within_bits (f y z)) tt (within-bits (f y z))

  on-compared : (f : ℤ → ℤ → Bool) (g : List ℕ → List ℕ → Bool) (s t : Scalar) → Gives Of (compared f g s t)
  on-compared f g (an_integer y) t = integer-then (λ z. gives_boolean (f y z)) t (λ z. scalar-given (a_boolean (f y z)))
  on-compared f g (a_text u) t = text-then (λ v. gives_boolean (g u v)) t (λ v. scalar-given (a_boolean (g u v)))
  on-compared f g s t = tt

  booleans-given : (f : Bool → Bool → Bool) (s t : Scalar) → Gives Of (on_booleans f s t)
  booleans-given f s t = boolean-then (λ a. boolean_then (λ b. gives_boolean (f a b)) t) s (λ a. boolean-then (λ b. gives_boolean (f a b)) t (λ b. scalar-given (a_boolean (f a b))))

  integers-given : (f : ℤ → ℤ → Evaluated) (s t : Scalar) → ((y z : ℤ) → Gives Of (f y z)) → Gives Of (on_integers f s t)
  integers-given f s t on = integer-then (λ y. integer_then (f y) t) s (λ y. integer-then (f y) t (on y))

  texts-given : (f : List ℕ → List ℕ → Evaluated) (s t : Scalar) → ((u v : List ℕ) → Gives Of (f u v)) → Gives Of (on_texts f s t)
  texts-given f s t on = text-then (λ u. text_then (f u) t) s (λ u. text-then (f u) t (on u))

  pub operated : (o : Operator) (s t : Scalar) → Gives Of (operate o s t)
  operated logical_or s t = booleans-given ◌||◌ s t
  operated logical_and s t = booleans-given ◌&&◌ s t
  operated equal s t = scalar-given (a_boolean (same_scalar s t))
  operated unequal s t = scalar-given (a_boolean (not (same_scalar s t)))
  operated less s t = on-compared int_lt Evaluate.is_before s t
  operated at_most s t = on-compared int_le (λ u v. not (Evaluate.is_before v u)) s t
  operated greater s t = on-compared (λ y z. int_lt z y) (λ u v. Evaluate.is_before v u) s t
  operated at_least s t = on-compared (λ y z. int_le z y) (λ u v. not (Evaluate.is_before u v)) s t
  operated plus s t = integers-given (λ y z. within_bits (y +ℤ z)) s t (λ y z. within-bits (y +ℤ z))
  operated minus s t = integers-given (λ y z. within_bits (y -ℤ z)) s t (λ y z. within-bits (y -ℤ z))
  operated times s t = integers-given (λ y z. within_bits (y *ℤ z)) s t (λ y z. within-bits (y *ℤ z))
  operated divided s t = integers-given (by_divisor int_div) s t (by-divisor int_div)
  operated modulo s t = integers-given (by_divisor int_rem) s t (by-divisor int_rem)
  operated concatenated s t = texts-given (λ u v. within_length (u ++ v)) s t (λ u v. within-length (u ++ v))

  pub rows-kinds : {N : Type 0} (o : Option (Cell N)) → Gives Of (rows_there o)
  rows-kinds None = tt
  rows-kinds (Some (cell n a_table ps)) = scalar-given _
  rows-kinds (Some (cell n k ps)) = tt

  -- what an expression gives that copies only such cells
  pub evaluate-from : {N : Type 0} (ps : Parts N) (e : Expression) → ((p : Path) → e ≡ copy p → (d : Cell N) → read_at p ps ≡ Some d → Of (forget d)) → Gives Of (evaluate ps e)
  evaluate-from ps (literal l) h = scalar-given _
  evaluate-from ps (copy p) h = value-given Of (read_at p ps) (h p refl)
  evaluate-from ps (negation e) h = one-then _ (evaluate ps e) (λ s. integer-then _ s (λ z. within-bits (neg_ℤ z)))
  evaluate-from ps (logical_not e) h = one-then _ (evaluate ps e) (λ s. boolean-then _ s (λ b. scalar-given (a_boolean (not b))))
  evaluate-from ps (operation o x y) h = two-then (operate o) (evaluate ps x) (evaluate ps y) (operated o)
  evaluate-from ps (Expression.size_of p) h = rows-kinds (read_at p ps)
  evaluate-from ps (decimal e) h = one-then _ (evaluate ps e) (λ s. integer-then _ s (λ z. scalar-given (a_text (signed_numeral z))))
  evaluate-from ps (length_of e) h = one-then _ (evaluate ps e) (λ s. text-then _ s (λ t. scalar-given (an_integer (pos (length t)))))

  pub atom-from : {N : Type 0} (ps : Parts N) (a : Atom) → ((p : Path) → a ≡ path p → (d : Cell N) → read_at p ps ≡ Some d → Of (forget d)) → Gives Of (atom_value ps a)
  atom-from ps (Atom.literal l) h = scalar-given _
  atom-from ps (path p) h = value-given Of (read_at p ps) (h p refl)

-- of kinds
module _ (of : Kind → Type 0) (allows : AllowsPlain of) where
  pub scalar-kinds : (s : Scalar) → HasKinds of (Evaluate.scalar_value s)
  scalar-kinds s = (allows.scalars s, tt)

  copied-kinds : {N : Type 0} (o : Option (Cell N)) → IfKinds of o → (d : Cell N) → o ≡ Some d → HasKinds of (forget d)
  copied-kinds o h d is = renamed-kinds of (λ n. tt) d (subst (IfKinds of) is h)

  pub evaluate-kinds_from : {N : Type 0} (ps : Parts N) (e : Expression) → ((p : Path) → e ≡ copy p → IfKinds of (read_at p ps)) → GivesKinds of (evaluate ps e)
  evaluate-kinds_from ps e h = evaluate-from (HasKinds of) scalar-kinds ps e (λ p is. copied-kinds (read_at p ps) (h p is))

  evaluate-kinds : {N : Type 0} (ps : Parts N) (e : Expression) → HaveKinds of ps → GivesKinds of (evaluate ps e)
  evaluate-kinds ps e h = evaluate-kinds_from ps e (λ p is. read-kinds of p ps h)

  pub atom-kinds_from : {N : Type 0} (ps : Parts N) (a : Atom) → ((p : Path) → a ≡ path p → IfKinds of (read_at p ps)) → GivesKinds of (atom_value ps a)
  atom-kinds_from ps a h = atom-from (HasKinds of) scalar-kinds ps a (λ p is. copied-kinds (read_at p ps) (h p is))

  pub atom-kinds : {N : Type 0} (ps : Parts N) (a : Atom) → HaveKinds of ps → GivesKinds of (atom_value ps a)
  atom-kinds ps a h = atom-kinds_from ps a (λ p is. read-kinds of p ps h)

module _ {N : Type 0} (name : Name → N) (of : Kind → Type 0) (allows : AllowsPlain of) where
  -- the result's body is of the kinds, if it has a body
  pub data All : Completion N → Type 0 where
    went : (o : Outcome) (b : Frame N) → BodyKinds of b → All (goes o b)
    stayed : (b : Frame N) → BodyKinds of b → All (stays b)
    never : All stuck

  pub is-go : (c : Cell N) (b : Frame N) → HasKinds of c → BodyKinds of b → BodyKinds of (finalise c b)
  is-go c b h e = (e.0, e.1, all-append of b.work (pending c) e.2 (pending-kinds of c h), e.3)

  is-parts : (ps : Parts N) (b : Frame N) → HaveKinds of ps → BodyKinds of b → BodyKinds of (finalise_parts ps b)
  is-parts ps b h e = (e.0, e.1, all-append of b.work (pending_in ps) e.2 (pending-kinds_in of ps h), e.3)

  is-old : (o : Option (Cell N)) (b : Frame N) → IfKinds of o → BodyKinds of b → BodyKinds of (finalise_old o b)
  is-old None b h e = e
  is-old (Some c) b h e = is-go c b h e

  pub is-all : (cs : List (Cell N)) (b : Frame N) → AllKinds of cs → BodyKinds of b → BodyKinds of (finalise_all cs b)
  is-all [] b h e = e
  is-all (c ∷ cs) b h e = is-all cs (finalise c b) h.1 (is-go c b h.0 e)

  pub is-end : (c : Cell N) (b : Frame N) → HasKinds of c → BodyKinds of b → BodyKinds of (finalise_at_once c b)
  is-end (cell m k ps) b h e = is-parts ps (finalise_name m b) h.1 e

  pub is-cleared : (p : Path) (b : Frame N) → BodyKinds of b → BodyKinds of (cleared p b)
  is-cleared p b e = (set-kinds_at of p None b.variables tt e.0, e.1, e.2, e.3)

  pub is-drop : (paths : List Path) (b : Frame N) → BodyKinds of b → BodyKinds of (drop paths b)
  is-drop [] b e = e
  is-drop (p ∷ paths) b e = is-drop paths (drop_at p b) (is-old (cell_at p b.variables) (cleared p b) (cell-kinds of p b.variables e.0) (is-cleared p b e))

  is-put : (p : Path) (c : Cell N) (b : Frame N) → HasKinds of c → BodyKinds of b → BodyKinds of (Frames.put p c b)
  is-put p c b h e =
      is-old (cell_at p b.variables) (record b { variables = put_at p c b.variables }) (cell-kinds of p b.variables e.0) (set-kinds_at of p (Some c) b.variables h e.0, e.1, e.2, e.3)

  pub all-cond : (t : Bool) (r s : Completion N) → All r → All s → All (cond t r s)
  all-cond true r s a b = a
  all-cond false r s a b = b

  pub all-there : {X : Type 0} (next : X → Completion N) (o : Option X) → ((x : X) → All (next x)) → All (if_there next o)
  all-there next None on = never
  all-there next (Some x) on = on x

  pub all-cell : (next : Cell N → Completion N) (o : Option (Cell N)) → IfKinds of o → ((c : Cell N) → HasKinds of c → All (next c)) → All (if_there next o)
  all-cell next None h on = never
  all-cell next (Some c) h on = on c h

  pub all-putting : (p : Path) (o : Outcome) (c : Cell N) (b : Frame N) → HasKinds of c → BodyKinds of b → All (putting p o c b)
  all-putting p o c b h e = all-cond (has_place b.variables p) (goes o (Frames.put p c b)) stuck (went o (Frames.put p c b) (is-put p c b h e)) never

  pub all-putting_all : (paths : List Path) (o : Outcome) (cs : List (Cell N)) (b : Frame N) → AllKinds of cs → BodyKinds of b → All (putting_all paths o cs b)
  all-putting_all [] o [] b h e = went o b e
  all-putting_all [] o (c ∷ cs) b h e = never
  all-putting_all (p ∷ paths) o [] b h e = never
  all-putting_all (p ∷ paths) o (c ∷ cs) b h e =
      all-cond (has_place b.variables p) (putting_all paths o cs (Frames.put p c b)) stuck (all-putting_all paths o cs (Frames.put p c b) h.1 (is-put p c b h.0 e)) never

  pub all-taking : (p : Path) (next : Cell N → Frame N → Completion N) (b : Frame N) → BodyKinds of b → ((c : Cell N) (b' : Frame N) → HasKinds of c → BodyKinds of b' → All (next c b')) → All (taking p next b)
  all-taking p next b e on = all-cell (λ c. next c (cleared p b)) (cell_at p b.variables) (cell-kinds of p b.variables e.0) (λ c h. on c (cleared p b) h (is-cleared p b e))

  pub all-moving : (lost : List Path) (y : Path) (next : Cell N → Frame N → Completion N) (b : Frame N) → BodyKinds of b → ((c : Cell N) (b' : Frame N) → HasKinds of c → BodyKinds of b' → All (next c b')) → All (moving lost y next b)
  all-moving lost y next b e on = all-taking y next (drop lost b) (is-drop lost b e) on

  pub all-making : (k : Kind) (ps : Parts N) (next : Cell N → Frame N → Completion N) (b : Frame N) → of k → HaveKinds of ps → BodyKinds of b → ((c : Cell N) (b' : Frame N) → HasKinds of c → BodyKinds of b' → All (next c b')) → All (making name k ps next b)
  all-making k ps next b h g e on = on (cell (name (b.number, b.serial)) k ps) (record b { serial = suc b.serial }) (h, g) e

  pub all-copying : {M : Type 0} (c : Cell M) (next : Cell N → Frame N → Completion N) (b : Frame N) → HasKinds of c → BodyKinds of b → ((c : Cell N) (b' : Frame N) → HasKinds of c → BodyKinds of b' → All (next c b')) → All (copying name c next b)
  all-copying c next b h e on = on (copy_from (λ s. name (b.number, s)) b.serial c) (record b { serial = b.serial + count c }) (copy-kinds of (λ s. name (b.number, s)) b.serial c h) e

  pub all-copying_parts : {M : Type 0} (ps : Parts M) (next : Parts N → Frame N → Completion N) (b : Frame N) → HaveKinds of ps → BodyKinds of b → ((qs : Parts N) (b' : Frame N) → HaveKinds of qs → BodyKinds of b' → All (next qs b')) → All (copying_parts name ps next b)
  all-copying_parts ps next b h e on = on (copy_in (λ s. name (b.number, s)) b.serial ps) (record b { serial = b.serial + count_in ps }) (copy-kinds_in of (λ s. name (b.number, s)) b.serial ps h) e

  all-value : (next : Value → Frame N → Completion N) (v : Evaluated) (b : Frame N) → GivesKinds of v → BodyKinds of b → ((v : Value) → HasKinds of v → All (next v b)) → All (with_value next v b)
  all-value next (gives v) b h e on = on v h
  all-value next (raises x) b h e on = went (raised x) b e
  all-value next no_value b h e on = never

  pub all-new_value : (s : Option Shape) (x : Path) (b : Frame N) → BodyKinds of b → All (new_value name s x b)
  all-new_value (Some (fields ts)) x b e = all-putting x ok _ (record b { serial = suc b.serial }) (allows.records, gaps-kinds of N (length ts)) e
  all-new_value (Some (rows row key)) x b e = all-putting x ok _ (record b { serial = suc b.serial }) (allows.tables, tt) e
  all-new_value (Some s) x b e = never
  all-new_value None x b e = never

  -- a cell taken apart
  abbrev IfOpened : Option (Opened N) → Type 0
  IfOpened None = Unit {0}
  IfOpened (Some o) = HasKinds of o.content

  opened-cond : (t : Bool) (o : Opened N) → HasKinds of o.content → IfOpened (cond t (Some o) None)
  opened-cond true o h = h
  opened-cond false o h = tt

  component-kinds : (k : ℕ) (c : Cell N) → HasKinds of c → IfOpened (component_in k c)
  component-kinds k (cell n (a_variant d) (part content no_parts)) h = opened-cond (nat_eq k d) (record { name = n; content = content }) h.1.0
  component-kinds k c h = tt

  content-kinds : (t : ℕ) (c : Cell N) → HasKinds of c → IfOpened (content_of t c)
  content-kinds t (cell n (a_polymorph u) (part content no_parts)) h = opened-cond (nat_eq t u) (record { name = n; content = content }) h.1.0
  content-kinds t c h = tt

  all-content : (y : Path) (o : Opened N) (b : Frame N) → HasKinds of o.content → BodyKinds of b → All (moving_content y o b)
  all-content y o b h e = all-putting y ok o.content (finalise_name o.name b) h e

  all-opened : (o : Option (Opened N)) (none : Completion N) (some : Opened N → Completion N) → IfOpened o → All none → ((x : Opened N) → HasKinds of x.content → All (some x)) → All (elim o [ None ↦ none | Some x ↦ some x ])
  all-opened None none some h a on = a
  all-opened (Some x) none some h a on = on x h

  all-opened_there : (next : Opened N → Completion N) (o : Option (Opened N)) → IfOpened o → ((x : Opened N) → HasKinds of x.content → All (next x)) → All (if_there next o)
  all-opened_there next None h on = never
  all-opened_there next (Some x) h on = on x h

  all-option : {X : Type 0} (o : Option X) (none : Completion N) (some : X → Completion N) → All none → ((x : X) → All (some x)) → All (elim o [ None ↦ none | Some x ↦ some x ])
  all-option None none some a on = a
  all-option (Some x) none some a on = on x

  pub all-wrap : (t : ℕ) (lost : List Path) (y p : Path) (b : Frame N) → BodyKinds of b → All (Forms.wrap name t lost y p b)
  all-wrap t lost y p b e =
      all-there _ (cell_at y (drop lost b).variables) (λ c. all-cond (nat_lt (polymorph_depth c) greatest_polymorph) _ _
      (all-moving lost y _ b e (λ content b' h e'. all-making (a_polymorph t) (part content no_parts) (putting p ok) b' (allows.polymorphs t) (h, tt) e' (λ d b'' h' e''. all-putting p ok d b'' h' e''))) (went (raised depletion) b e))

  all-unwrap : (t : ℕ) (p y : Path) (b : Frame N) → BodyKinds of b → All (Forms.unwrap t p y b)
  all-unwrap t p y b e =
      all-cell _ (cell_at p b.variables) (cell-kinds of p b.variables e.0) (λ c h. all-opened (content_of t c) _ _ (content-kinds t c h) (went (raised polymorph_mismatch) b e) (λ o g. all-content y o (cleared p b) g (is-cleared p b e)))

  pub is-rows : (t : Path) (f : Parts N → Parts N) (b : Frame N) → ((ps : Parts N) → HaveKinds of ps → HaveKinds of (f ps)) → BodyKinds of b → BodyKinds of (change_rows t f b)
  is-rows t f b on e = (change-kinds_at of t (InsertForm.with_parts f) b.variables (λ c. with-kinds of f c on) e.0, e.1, e.2, e.3)

  all-insert : (key : List ℕ) (lost : List Path) (r t : Path) (b : Frame N) → BodyKinds of b → All (InsertForm.insert key lost r t b)
  all-insert key lost r t b e =
      all-there _ (cell_at r b.variables) (λ row. all-there _ (read_at t b.variables) (λ table.
      all-cond (has_key key (key_of key row) (parts_of table)) _ _ (went (raised duplicate_key) b e) (all-cond (nat_lt (size (parts_of table)) greatest_rows) _ _
      (all-moving lost r _ b e (λ row' b' h e'. all-there _ (read_at t b'.variables) (λ table'. went ok (change_rows t (add_row row') b') (is-rows t (add_row row') b' (λ ps g. joined-kinds of ps (part row' no_parts) g (h, tt)) e')))) (went (raised depletion) b e))))

  pub all-finding : (key : List ℕ) (k : List Scalar) (t : Path) (next : ℕ → Cell N → Completion N) (b : Frame N) → BodyKinds of b → ((i : ℕ) (c : Cell N) → HasKinds of c → All (next i c)) → All (finding key k t next b)
  all-finding key k t next b e on =
      all-cell _ (read_at t b.variables) (read-kinds of t b.variables e.0) (λ table h. all-option (place_of_key key k (parts_of table)) _ _ (went _ b e) (λ i. all-cell (next i) (part_at i (parts_of table)) (part-kinds of i (parts_of table) (parts-kinds of table h)) (on i)))

  -- loops
  loop-cond : (t : Bool) (s : ℕ) (ps : Parts N) (l : Loop N) (loops more : List (Loop N)) → HaveKinds of ps → LoopKinds of (l ∷ loops) → LoopKinds of more → LoopKinds of (cond t (record { statement = s; rows = ps } ∷ loops) (l ∷ more))
  loop-cond true s ps l loops more h e g = (h, e.1)
  loop-cond false s ps l loops more h e g = (e.0, g)

  set-rows : (s : ℕ) (ps : Parts N) (loops : List (Loop N)) → HaveKinds of ps → LoopKinds of loops → LoopKinds of (set_rows s ps loops)
  set-rows s ps [] h e = tt
  set-rows s ps (l ∷ loops) h e = loop-cond (nat_eq l.statement s) s ps l loops (set_rows s ps loops) h e (set-rows s ps loops h e.1)

  rows-cond : (t : Bool) (ps : Parts N) (o : Option (Parts N)) → HaveKinds of ps → IfParts of o → IfParts of (cond t (Some ps) o)
  rows-cond true ps o h g = h
  rows-cond false ps o h g = g

  pub rows-for : (s : ℕ) (loops : List (Loop N)) → LoopKinds of loops → IfParts of (rows_for s loops)
  rows-for s [] e = tt
  rows-for s (l ∷ loops) e = rows-cond (nat_eq l.statement s) l.rows (rows_for s loops) e.0 (rows-for s loops e.1)

  pub all-next_row : (s : ℕ) (r : Path) (ps : Parts N) (b : Frame N) → HaveKinds of ps → BodyKinds of b → All (next_row s r ps b)
  all-next_row s r no_parts b h e = went _ b e
  all-next_row s r (gap ps) b h e = never
  all-next_row s r (part row ps) b h e = all-putting r turn row (record b { loops = set_rows s ps b.loops }) h.0 (e.0, set-rows s ps b.loops h.1 e.1, e.2, e.3)

  all-rows : (o : Option (Parts N)) (none : Completion N) (some : Parts N → Completion N) → IfParts of o → All none → ((ps : Parts N) → HaveKinds of ps → All (some ps)) → All (elim o [ None ↦ none | Some x ↦ some x ])
  all-rows None none some h a on = a
  all-rows (Some ps) none some h a on = on ps h

  pub all-tested : (v : Value) (b : Frame N) → BodyKinds of b → All (tested v b)
  all-tested (cell m (a_scalar (a_boolean true)) ps) b e = went _ b e
  all-tested (cell m (a_scalar (a_boolean false)) ps) b e = went _ b e
  all-tested v b e = never

  -- the port of an inport is one that the kinds allow
  abbrev pub IfInport : Option ℕ → Type 0
  IfInport None = Unit {0}
  IfInport (Some n) = of (an_inport n)

  pub inport-kinds : (c : Cell N) → HasKinds of c → IfInport (inport_number c)
  inport-kinds (cell n (an_inport p) ps) h = h.0
  inport-kinds c h = tt

  all-inport : (next : ℕ → Completion N) (o : Option ℕ) → IfInport o → ((n : ℕ) → of (an_inport n) → All (next n)) → All (if_there next o)
  all-inport next None h on = never
  all-inport next (Some n) h on = on n h

  -- what a local step does
  pub all-act : (c : Module) (s : ℕ) (form : Form) (b : Frame N) → BodyKinds of b → All (act name c s form b)
  all-act c s (Assign x v) b e = all-value (Forms.assign name x) (evaluate b.variables v) b (evaluate-kinds of allows b.variables v e.0) e (λ v h. all-copying v (putting x ok) b h e (λ d b' h' e'. all-putting x ok d b' h' e'))
  all-act c s (Move y x) b e = all-moving (excess_over_full c y b) y (putting x ok) b e (λ d b' h e'. all-putting x ok d b' h e')
  all-act c s (New x) b e = all-new_value (shape_at c.types c.variables x) x b e
  all-act c s (Discard x) b e = all-taking x _ b e (λ d b' h e'. went ok (finalise d b') (is-go d b' h e'))
  all-act c s (Unite v k y) b e = all-moving (excess_over_full c y b) y _ b e (λ d b' h e'. all-making (a_variant k) (part d no_parts) (putting v ok) b' (allows.variants k) (h, tt) e' (λ d' b'' h' e''. all-putting v ok d' b'' h' e''))
  all-act c s (Dissolve v k y) b e = all-taking v _ b e (λ d b' h e'. all-opened_there _ (component_in k d) (component-kinds k d h) (λ o g. all-content y o b' g e'))
  all-act c s (Reveal v k) b e = all-there _ (read_at v b.variables) (λ d. went _ b e)
  all-act c s (Case v ks) b e = all-there _ (read_at v b.variables) (λ d. all-there _ (component_of d) (λ k. went _ b e))
  all-act c s (Wrap y p) b e = all-there _ (type_at c.types c.variables y) (λ t. all-wrap t (excess_over_full c y b) y p b e)
  all-act c s (Unwrap p t y) b e = all-unwrap t p y b e
  all-act c s (Insert r t) b e = all-insert (key_at c t) (excess_over_full c r b) r t b e
  all-act c s (Remove r t keys) b e = all-there _ (key_values b.variables keys) (λ k. all-finding (key_at c t) k t _ b e (λ i row h. all-putting r ok row (change_rows t (without_part i) b) h (is-rows t (without_part i) b (λ ps. without-kinds of i ps) e)))
  all-act c s (Get r t keys) b e = all-there _ (key_values b.variables keys) (λ k. all-finding (key_at c t) k t _ b e (λ i row h. all-copying row (putting r ok) b h e (λ d b' h' e'. all-putting r ok d b' h' e')))
  all-act c s (For r t) b e =
      all-rows (rows_for s b.loops) _ _ (rows-for s b.loops e.1)
      (all-cell _ (read_at t b.variables) (read-kinds of t b.variables e.0) (λ table h. all-copying_parts (parts_of table) _ b (parts-kinds of table h) e (λ ps b' h' e'. all-next_row s r ps (record b' { loops = record { statement = s; rows = ps } ∷ b'.loops }) h' (e'.0, (h', e'.1), e'.2, e'.3))))
      (λ ps h. all-next_row s r ps b h e)
  all-act c s (Connect o i) b e = all-cell _ (read_at i b.variables) (read-kinds of i b.variables e.0) (λ d h. all-inport _ (inport_number d) (inport-kinds d h) (λ k g. all-making (an_outport k) no_parts (putting o ok) b (allows.outports k g) tt e (λ d' b' h' e'. all-putting o ok d' b' h' e')))
  all-act c s (If v) b e = all-value tested (evaluate b.variables v) b (evaluate-kinds of allows b.variables v e.0) e (λ v h. all-tested v b e)
  all-act c s (While v) b e = all-value tested (evaluate b.variables v) b (evaluate-kinds of allows b.variables v e.0) e (λ v h. all-tested v b e)
  all-act c s (Raise x) b e = went _ b e
  all-act c s Leave b e = went _ b e
  all-act c s _ b e = never

  -- what an edge leaves
  is-one : (t : Bool) (l : Loop N) (b : Frame N) → HaveKinds of l.rows → BodyKinds of b → BodyKinds of (cond t b (finalise_parts l.rows b))
  is-one true l b h e = e
  is-one false l b h e = is-parts l.rows b h e

  is-loops : (stay : ℕ → Bool) (loops : List (Loop N)) (b : Frame N) → LoopKinds of loops → BodyKinds of b → BodyKinds of (finalise_loops stay loops b)
  is-loops stay [] b h e = e
  is-loops stay (l ∷ loops) b h e = is-loops stay loops (cond (stay l.statement) b (finalise_parts l.rows b)) h.1 (is-one (stay l.statement) l b h.0 e)

  kept-cond : (t : Bool) (l : Loop N) (loops : List (Loop N)) → HaveKinds of l.rows → LoopKinds of loops → LoopKinds of (cond t (l ∷ loops) loops)
  kept-cond true l loops h e = (h, e)
  kept-cond false l loops h e = e

  kept-loops : (stay : ℕ → Bool) (loops : List (Loop N)) → LoopKinds of loops → LoopKinds of (filter (λ l. stay l.statement) loops)
  kept-loops stay [] e = tt
  kept-loops stay (l ∷ loops) e = kept-cond (stay l.statement) l (filter (λ l. stay l.statement) loops) e.0 (kept-loops stay loops e.1)

  pub is-leave : (stay : ℕ → Bool) (b : Frame N) → BodyKinds of b → BodyKinds of (leave_loops stay b)
  is-leave stay b e = is-loops stay b.loops (record b { loops = filter (λ l. stay l.statement) b.loops }) e.1 (e.0, kept-loops stay b.loops e.1, e.2, e.3)

  pub is-arrive : (c : Module) (t : Target) (b : Frame N) → BodyKinds of b → BodyKinds of (arrive c t b)
  is-arrive c t b e =
      let lost = excess c.types c.variables (has_value b.variables) (keeps c t) in
      is-leave (keeps_loop c t) (drop lost b) (is-drop lost b e)
