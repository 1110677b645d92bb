-- Lists that stand in a whole from a place on, what holds of each place of a list, and the marks of a part of the text.
use Rattle.std.proofs.Common.{◌≡◌, ℕ, zero, suc, ◌+◌, List, [], ◌∷◌, ◌++◌, map, length, get_or, set, Bool, true, false, not, cond, ◌||◌, nat_eq, nat_lt, Option, Some, None, slice_get, refl, sym, ap, ap₂, ◌∙◌, subst, arith, inl, inr, ◌⊎◌, true≢false, length-append}
use Rattle.std.proofs.lemmas.Bool.{eq-eqb, eqb-true}
use Rattle.herm_model.specs.Lists.{IsIn, map_or}
use Rattle.herm_model.proofs.Lists.{in-append_left, in-append_right, in-append_cases}
use Rattle.herm_model.specs.Types.{TypeTable}
use Rattle.herm_model.specs.Statements.{Form, Call, Statement, simple, choosing, repeating, leaving, trying, Block, no_statements, statement, Blocks, no_blocks, block, Handlers, no_handlers, handler, numbers_of, numbers_of_block, numbers_of_blocks, numbers_of_handlers, nodes_of_blocks}
use Rattle.herm_model.specs.Outcomes.{with_number, rising, exceptions, normal_outcomes, disconnected}
use Rattle.herm_model.specs.Calls.{call_raises}
use Rattle.herm_model.specs.Nodes.{Surroundings, nodes_of_choices}
use Rattle.herm_model.proofs.NodePlaces.{count_in}
use Rattle.herm_resolve.specs.ControlInOnePass.{Control, is_nil, can_raise, passes, raise_one, raise_all, members, control, control_of_block, control_of_blocks, control_of_handlers}

-- ---- lists in a whole

module _ {X : Type 0} (whole : List X) where
  -- these stand in the whole from a place on
  abbrev pub Stand : ℕ → List X → Type 0
  Stand from [] = Unit {0}
  Stand from (x ∷ xs) = (slice_get whole from ≡ Some x) × Stand (suc from) xs

  pub stand-left : (from : ℕ) (xs ys : List X) → Stand from (xs ++ ys) → Stand from xs
  stand-left from [] ys h = tt
  stand-left from (x ∷ xs) ys h = (h.0, stand-left (suc from) xs ys h.1)

  pub stand-right : (from next : ℕ) (xs ys : List X) → next ≡ from + length xs → Stand from (xs ++ ys) → Stand next ys
  stand-right from next [] ys e h = subst (λ k. Stand k ys) (let k : from ≡ next = omega (arith, e) in k) h
  stand-right from next (x ∷ xs) ys e h = stand-right (suc from) next xs ys (omega (arith, e)) h.1

  pub stand-moved : (from next : ℕ) (xs : List X) → from ≡ next → Stand from xs → Stand next xs
  stand-moved from next xs e h = subst (λ k. Stand k xs) e h

pub stand-more : {X : Type 0} (whole : List X) (y : X) (from : ℕ) (xs : List X) → Stand whole from xs → Stand (y ∷ whole) (suc from) xs
stand-more whole y from [] h = tt
stand-more whole y from (x ∷ xs) h = (h.0, stand-more whole y (suc from) xs h.1)

pub stand-self : {X : Type 0} (xs : List X) → Stand xs 0 xs
stand-self [] = tt
stand-self (x ∷ xs) = (refl, stand-more xs x 0 xs (stand-self xs))

module _ {X : Type 0} (P : ℕ → X → Type 0) where
  -- this holds of each, with its place, from a place on
  abbrev pub EachAt : ℕ → List X → Type 0
  EachAt from [] = Unit {0}
  EachAt from (x ∷ xs) = P from x × EachAt (suc from) xs

  pub each-joined : (from next : ℕ) (xs ys : List X) → next ≡ from + length xs → EachAt from xs → EachAt next ys → EachAt from (xs ++ ys)
  each-joined from next [] ys e h k = subst (λ n. EachAt n ys) (let l : next ≡ from = omega (arith, e) in l) k
  each-joined from next (x ∷ xs) ys e h k = (h.0, each-joined (suc from) next xs ys (omega (arith, e)) h.1 k)

  pub each-moved : (from next : ℕ) (xs : List X) → from ≡ next → EachAt from xs → EachAt next xs
  each-moved from next xs e h = subst (λ k. EachAt k xs) e h

  pub each-got : (from k place : ℕ) (xs : List X) (x : X) → place ≡ from + k → EachAt from xs → slice_get xs k ≡ Some x → P place x
  each-got from k place [] x e h at = absurd (let n : ⊥ = cc at in n)
  each-got from zero place (y ∷ xs) x e h at =
      let same : y ≡ x = cc at in
      let here : from ≡ place = omega (arith, e) in
      subst (λ z. P place z) same (subst (λ n. P n y) here h.0)
  each-got from (suc k) place (y ∷ xs) x e h at = each-got (suc from) k place xs x (omega (arith, e)) h.1 at

-- ---- small facts on tests and lists

pub one-more : (k : ℕ) → suc k ≡ k + 1
one-more k = omega arith

pub not-false : (b : Bool) → not b ≡ false → b ≡ true
not-false true h = refl
not-false false h = absurd (true≢false h)

pub mark-is : (k : ℕ) (marks : List Bool) (m v : Bool) → slice_get marks k ≡ Some m → slice_get marks k ≡ Some v → m ≡ v
mark-is k marks m v a b = ap (map_or true (λ (x : Bool). x)) (sym a ∙ b)

pub either : {A : Type 0} (a b : Bool) → (a ≡ true → A) → (b ≡ true → A) → a || b ≡ true → A
either true b f g h = f refl
either false b f g h = g h

pub or-false : (a b : Bool) → a ≡ false → b ≡ false → a || b ≡ false
or-false true b h k = h
or-false false b h k = k

pub or-first : (a b : Bool) → a ≡ true → a || b ≡ true
or-first true b h = refl
or-first false b h = absurd (true≢false (sym h))

pub or-second : (a b : Bool) → b ≡ true → a || b ≡ true
or-second true b h = refl
or-second false b h = h

none-joined : (xs ys : List ℕ) → xs ≡ [] → ys ≡ [] → xs ++ ys ≡ []
none-joined xs ys h k = ap₂ (λ a b. a ++ b) h k

-- ---- sets of exceptions

pub apart-test : (e f : ℕ) → (e ≡ f → ⊥) → not (nat_eq e f) ≡ true
apart-test e f apart = by (nat_eq e f) (λ same. apart (eqb-true e f same))
  where
    by : (b : Bool) → (b ≡ true → ⊥) → not b ≡ true
    by true h = absurd (h refl)
    by false h = refl

pub test-apart : (e f : ℕ) → not (nat_eq e f) ≡ true → e ≡ f → ⊥
test-apart e f other same = by (nat_eq e f) (eq-eqb e f same) other
  where
    by : (b : Bool) → b ≡ true → not b ≡ true → ⊥
    by true h k = true≢false (sym k)
    by false h k = true≢false (sym h)

one-self : (bs : List Bool) (e : ℕ) → get_or (raise_one bs e) e false ≡ true
one-self [] zero = refl
one-self [] (suc e) = one-self [] e
one-self (b ∷ bs) zero = refl
one-self (b ∷ bs) (suc e) = one-self bs e

one-kept : (bs : List Bool) (e f : ℕ) → get_or bs f false ≡ true → get_or (raise_one bs e) f false ≡ true
one-kept [] e f h = absurd (true≢false (sym h))
one-kept (b ∷ bs) zero zero h = refl
one-kept (b ∷ bs) zero (suc f) h = h
one-kept (b ∷ bs) (suc e) zero h = h
one-kept (b ∷ bs) (suc e) (suc f) h = one-kept bs e f h

later-one : {A : Type 0} (e f : ℕ) → (f ≡ e) ⊎ A → (suc f ≡ suc e) ⊎ A
later-one e f (inl same) = inl (ap suc same)
later-one e f (inr r) = inr r

one-from : (bs : List Bool) (e f : ℕ) → get_or (raise_one bs e) f false ≡ true → (f ≡ e) ⊎ (get_or bs f false ≡ true)
one-from [] zero zero h = inl refl
one-from [] zero (suc f) h = inr h
one-from [] (suc e) zero h = inr h
one-from [] (suc e) (suc f) h = later-one e f (one-from [] e f h)
one-from (b ∷ bs) zero zero h = inl refl
one-from (b ∷ bs) zero (suc f) h = inr h
one-from (b ∷ bs) (suc e) zero h = inr h
one-from (b ∷ bs) (suc e) (suc f) h = later-one e f (one-from bs e f h)

all-kept : (bs : List Bool) (es : List ℕ) (f : ℕ) → get_or bs f false ≡ true → get_or (raise_all bs es) f false ≡ true
all-kept bs [] f h = h
all-kept bs (e ∷ es) f h = all-kept (raise_one bs e) es f (one-kept bs e f h)

pub all-in : (bs : List Bool) (es : List ℕ) (f : ℕ) → IsIn f es → get_or (raise_all bs es) f false ≡ true
all-in bs [] f h = absurd h
all-in bs (e ∷ es) f (inl same) = all-kept (raise_one bs e) es f (subst (λ x. get_or (raise_one bs e) x false ≡ true) (sym same) (one-self bs e))
all-in bs (e ∷ es) f (inr h) = all-in (raise_one bs e) es f h

all-from : (bs : List Bool) (es : List ℕ) (f : ℕ) → get_or (raise_all bs es) f false ≡ true → IsIn f es ⊎ (get_or bs f false ≡ true)
all-from bs [] f h = inr h
all-from bs (e ∷ es) f h = by (all-from (raise_one bs e) es f h)
  where
    again : (f ≡ e) ⊎ (get_or bs f false ≡ true) → IsIn f (e ∷ es) ⊎ (get_or bs f false ≡ true)
    again (inl same) = inl (inl same)
    again (inr r) = inr r

    by : IsIn f es ⊎ (get_or (raise_one bs e) f false ≡ true) → IsIn f (e ∷ es) ⊎ (get_or bs f false ≡ true)
    by (inl i) = inl (inr i)
    by (inr h) = again (one-from bs e f h)

pub in-all : (es : List ℕ) (f : ℕ) → get_or (raise_all [] es) f false ≡ true → IsIn f es
in-all es f h = by (all-from [] es f h)
  where
    by : IsIn f es ⊎ (false ≡ true) → IsIn f es
    by (inl i) = i
    by (inr n) = absurd (true≢false (sym n))

pub unset-from : (bs : List Bool) (e f : ℕ) → get_or (set bs e false) f false ≡ true → (get_or bs f false ≡ true) × (e ≡ f → ⊥)
unset-from [] e f h = absurd (true≢false (sym h))
unset-from (b ∷ bs) zero zero h = absurd (true≢false (sym h))
unset-from (b ∷ bs) zero (suc f) h = (h, λ same. absurd (let n : ⊥ = omega (arith, same) in n))
unset-from (b ∷ bs) (suc e) zero h = (h, λ same. absurd (let n : ⊥ = omega (arith, same) in n))
unset-from (b ∷ bs) (suc e) (suc f) h = let r = unset-from bs e f h in (r.0, λ same. r.1 (let k : e ≡ f = omega (arith, same) in k))

pub unset-kept : (bs : List Bool) (e f : ℕ) → get_or bs f false ≡ true → (e ≡ f → ⊥) → get_or (set bs e false) f false ≡ true
unset-kept [] e f h apart = absurd (true≢false (sym h))
unset-kept (b ∷ bs) zero zero h apart = absurd (apart refl)
unset-kept (b ∷ bs) zero (suc f) h apart = h
unset-kept (b ∷ bs) (suc e) zero h apart = h
unset-kept (b ∷ bs) (suc e) (suc f) h apart = unset-kept bs e f h (λ same. apart (ap suc same))

in-one : (b : Bool) (from : ℕ) → b ≡ true → IsIn from (cond b (from ∷ []) [])
in-one true from h = inl refl
in-one false from h = absurd (true≢false (sym h))

pub members-in : (from : ℕ) (bs : List Bool) (i f : ℕ) → f ≡ from + i → get_or bs i false ≡ true → IsIn f (members from bs)
members-in from [] i f e h = absurd (true≢false (sym h))
members-in from (b ∷ bs) zero f e h = subst (λ x. IsIn x (members from (b ∷ bs))) (let k : from ≡ f = omega (arith, e) in k) (in-append_left from (cond b (from ∷ []) []) (members (suc from) bs) (in-one b from h))
members-in from (b ∷ bs) (suc i) f e h = in-append_right f (cond b (from ∷ []) []) (members (suc from) bs) (members-in (suc from) bs i f (omega (arith, e)) h)

one-in : (b : Bool) (from f : ℕ) → IsIn f (cond b (from ∷ []) []) → (f ≡ from) × (b ≡ true)
one-in true from f (inl e) = (e, refl)
one-in true from f (inr h) = absurd h
one-in false from f h = absurd h

pub in-members : (from : ℕ) (bs : List Bool) (f : ℕ) → IsIn f (members from bs) → (i : ℕ) × (f ≡ from + i) × (get_or bs i false ≡ true)
in-members from [] f h = absurd h
in-members from (b ∷ bs) f h = by (in-members (suc from) bs f) (in-append_cases f (cond b (from ∷ []) []) (members (suc from) bs) h)
  where
    by : (IsIn f (members (suc from) bs) → (i : ℕ) × (f ≡ suc from + i) × (get_or bs i false ≡ true)) → IsIn f (cond b (from ∷ []) []) ⊎ IsIn f (members (suc from) bs) → (i : ℕ) × (f ≡ from + i) × (get_or (b ∷ bs) i false ≡ true)
    by again (inl h) = let r = one-in b from f h in (0, (let k : f ≡ from + 0 = omega (arith, r.0) in k), r.1)
    by again (inr h) = let r = again h in (suc r.0, (let k : f ≡ from + suc r.0 = omega (arith, r.1) in k), r.2)

-- ---- exceptions of a form

with-in : (n m : ℕ) (ns : List ℕ) → (m ≡ n) ⊎ IsIn m ns → IsIn m (with_number n ns)
with-in n m [] h = h
with-in n m (k ∷ ns) h = go (nat_lt n k) (nat_eq n k) refl (with-in n m ns) h
  where
    go : (b c : Bool) → nat_eq n k ≡ c → ((m ≡ n) ⊎ IsIn m ns → IsIn m (with_number n ns)) → (m ≡ n) ⊎ IsIn m (k ∷ ns) → IsIn m (cond b (n ∷ k ∷ ns) (cond c (k ∷ ns) (k ∷ with_number n ns)))
    go true c e later h = h
    go false true e later (inl same) = inl (same ∙ eqb-true n k e)
    go false true e later (inr r) = r
    go false false e later (inl same) = inr (later (inl same))
    go false false e later (inr (inl same)) = inl same
    go false false e later (inr (inr r)) = inr (later (inr r))

with-from : (n m : ℕ) (ns : List ℕ) → IsIn m (with_number n ns) → (m ≡ n) ⊎ IsIn m ns
with-from n m [] h = h
with-from n m (k ∷ ns) h = go (nat_lt n k) (nat_eq n k) (with-from n m ns) h
  where
    later : (m ≡ n) ⊎ IsIn m ns → (m ≡ n) ⊎ IsIn m (k ∷ ns)
    later (inl e) = inl e
    later (inr r) = inr (inr r)

    go : (b c : Bool) → (IsIn m (with_number n ns) → (m ≡ n) ⊎ IsIn m ns) → IsIn m (cond b (n ∷ k ∷ ns) (cond c (k ∷ ns) (k ∷ with_number n ns))) → (m ≡ n) ⊎ IsIn m (k ∷ ns)
    go true c again h = h
    go false true again r = inr r
    go false false again (inl e) = inr (inl e)
    go false false again (inr r) = later (again r)

rising-in : (m : ℕ) (ns : List ℕ) → IsIn m ns → IsIn m (rising ns)
rising-in m [] h = h
rising-in m (n ∷ ns) (inl e) = with-in n m (rising ns) (inl e)
rising-in m (n ∷ ns) (inr h) = with-in n m (rising ns) (inr (rising-in m ns h))

rising-from : (m : ℕ) (ns : List ℕ) → IsIn m (rising ns) → IsIn m ns
rising-from m [] h = h
rising-from m (n ∷ ns) h = by (rising-from m ns) (with-from n m (rising ns) h)
  where
    by : (IsIn m (rising ns) → IsIn m ns) → (m ≡ n) ⊎ IsIn m (rising ns) → IsIn m (n ∷ ns)
    by again (inl e) = inl e
    by again (inr r) = inr (again r)

pub raised-listed : (types : TypeTable) (variables : List ℕ) (form : Form) (e : ℕ) → IsIn e (can_raise types variables form) → IsIn e (exceptions types variables form)
raised-listed types variables (Call o arguments) e h = rising-in e (disconnected ∷ map (λ r. r.exception) (call_raises types variables o)) h
raised-listed types variables form e h = h

pub listed-raised : (types : TypeTable) (variables : List ℕ) (form : Form) (e : ℕ) → IsIn e (exceptions types variables form) → IsIn e (can_raise types variables form)
listed-raised types variables (Call o arguments) e h = rising-from e (disconnected ∷ map (λ r. r.exception) (call_raises types variables o)) h
listed-raised types variables form e h = h

-- ---- counts, and parts to which control does not lead

pub count_choices : (bs : Blocks) (number from : ℕ) (u : Surroundings) → length (nodes_of_choices bs number from u) ≡ nodes_of_blocks bs
count_choices no_blocks number from u = refl
count_choices (block b rest) number from u = length-append _ _ ∙ ap₂ (λ a b. a + b) (count_in b number from u) (count_choices rest _ _ u)

module _ (types : TypeTable) (variables : List ℕ) where
  -- a mark for each number
  mutual
    pub marks-count : (s : Statement) (here : Bool) → length (control types variables s here).marks ≡ numbers_of s
    marks-count (simple form) here = refl
    marks-count (choosing form blocks) here = let k = choices-count blocks here in omega (arith, k)
    marks-count (repeating form body) here = let k = block-count body here in omega (arith, k)
    marks-count leaving here = refl
    marks-count (trying body handlers) here =
        let a = block-count body here in
        let b = catches-count handlers (raise_all [] (control_of_block types variables body here).raised) in
        let c = length-append (control_of_block types variables body here).marks (control_of_handlers types variables handlers (raise_all [] (control_of_block types variables body here).raised)).marks in
        omega (arith, a, b, c)

    pub block-count : (b : Block) (here : Bool) → length (control_of_block types variables b here).marks ≡ numbers_of_block b
    block-count no_statements here = refl
    block-count (statement s rest) here =
        length-append _ _ ∙ ap₂ (λ a b. a + b) (marks-count s here) (block-count rest (control types variables s here).on)

    pub choices-count : (bs : Blocks) (here : Bool) → length (control_of_blocks types variables bs here).marks ≡ numbers_of_blocks bs
    choices-count no_blocks here = refl
    choices-count (block b rest) here = length-append _ _ ∙ ap₂ (λ a b. a + b) (block-count b here) (choices-count rest here)

    pub catches-count : (hs : Handlers) (inner : List Bool) → length (control_of_handlers types variables hs inner).marks ≡ numbers_of_handlers hs
    catches-count no_handlers inner = refl
    catches-count (handler e b rest) inner = length-append _ _ ∙ ap₂ (λ a b. a + b) (block-count b (get_or inner e false)) (catches-count rest (set inner e false))

-- nothing goes on, leaves or is raised
pub record IsDead (c : Control) : Type 0 where
  pub on : c.on ≡ false
  pub out : c.out ≡ false
  pub raised : c.raised ≡ []

module _ (types : TypeTable) (variables : List ℕ) where
  mutual
    dead : (s : Statement) → IsDead (control types variables s false)
    dead (simple form) = record { on = by (is_nil (normal_outcomes form)); out = refl; raised = refl }
      where
        by : (b : Bool) → cond b false false ≡ false
        by true = refl
        by false = refl
    dead (choosing form blocks) = let r = dead_choices blocks in record { on = r.on; out = r.out; raised = r.raised }
    dead (repeating form body) = record { on = refl; out = refl; raised = (dead_in body).raised }
    dead leaving = record { on = refl; out = refl; raised = refl }
    dead (trying body handlers) =
        let r = dead_in body in
        let h : IsDead (control_of_handlers types variables handlers (raise_all [] (control_of_block types variables body false).raised)) = subst (λ es. IsDead (control_of_handlers types variables handlers (raise_all [] es))) (sym r.raised) (dead_catches handlers) in
        record { on = or-false _ _ r.on h.on; out = or-false _ _ r.out h.out; raised = h.raised }

    pub dead_in : (b : Block) → IsDead (control_of_block types variables b false)
    dead_in no_statements = record { on = refl; out = refl; raised = refl }
    dead_in (statement s rest) =
        let a = dead s in
        let b : IsDead (control_of_block types variables rest (control types variables s false).on) = subst (λ here. IsDead (control_of_block types variables rest here)) (sym a.on) (dead_in rest) in
        record { on = b.on; out = or-false _ _ a.out b.out; raised = none-joined _ _ a.raised b.raised }

    dead_choices : (bs : Blocks) → IsDead (control_of_blocks types variables bs false)
    dead_choices no_blocks = record { on = refl; out = refl; raised = refl }
    dead_choices (block b rest) =
        let a = dead_in b in
        let d = dead_choices rest in
        record { on = or-false _ _ a.on d.on; out = or-false _ _ a.out d.out; raised = none-joined _ _ a.raised d.raised }

    dead_catches : (hs : Handlers) → IsDead (control_of_handlers types variables hs [])
    dead_catches no_handlers = record { on = refl; out = refl; raised = refl }
    dead_catches (handler e b rest) =
        let a = dead_in b in
        let d = dead_catches rest in
        record { on = or-false _ _ a.on d.on; out = or-false _ _ a.out d.out; raised = none-joined _ _ a.raised d.raised }

  -- control goes on behind a block, or leaves it, only where it leads there
  pub on-here : (b : Block) (here : Bool) → (control_of_block types variables b here).on ≡ true → here ≡ true
  on-here b true h = refl
  on-here b false h = absurd (true≢false (sym h ∙ (dead_in b).on))

  pub out-here : (b : Block) (here : Bool) → (control_of_block types variables b here).out ≡ true → here ≡ true
  out-here b true h = refl
  out-here b false h = absurd (true≢false (sym h ∙ (dead_in b).out))
