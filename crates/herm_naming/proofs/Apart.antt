-- Paths that part by their names part by their numbers, where their names are there.
use Rattle.std.proofs.Common.{◌≡◌, ◌↔◌, ℕ, suc, ◌<◌, List, [], ◌∷◌, map, length, Bool, true, false, not, cond, ◌||◌, ◌⊎◌, inl, inr, nat_eq, nat_lt, Some, None, is_some, slice_get, option_map, IsTrue, refl, sym, ap, subst, ◌∙◌, arith, true≢false}
use Rattle.std.specs.Str.{bytes_eq}
use Rattle.std.proofs.lemmas.Slice.Eq.{bytes_eq-Decides}
use Rattle.herm_model.specs.Lists.{IsIn, all_pass, map_or, list_of}
use Rattle.herm_model.specs.Paths.{are_apart}
use Rattle.herm_model.specs.Types.{Parameter, Shape, fields, cases, callmessage, part_type, part_of}
use Rattle.herm_model.specs.Calls.{is_returned, arguments_by}
use Rattle.herm_model.specs.Statements as statements
use Rattle.herm_model.specs.Statements.{Differ}
use Rattle.herm_model.specs.WellFormedTables.{IsType}
use Rattle.herm_model.specs.TypedStatements.{AreApart}
use Rattle.herm_model.specs.tests.TableTests.{are_different}
use Rattle.herm_model.proofs.Lists.{not_true, and-both, or-either, or-left, or-right, every-in, in-map_from, slice_get-map}
use Rattle.herm_model.proofs.Options.{none-not_some, map-some}
use Rattle.herm_model.proofs.FactTests.{got-IsIn}
use Rattle.herm_model.proofs.Deciding.{numbers-decide, below-decides, different-decides, both-decide, true-decides, false-decides}
use Rattle.herm_model.proofs.DecidedTables.{below-type, type-below}
use Rattle.herm_syntax.specs.Trees.{Letters, Path, Atom, Constant, Place, PortArms, NoPortArm, PortArm}
use Rattle.herm_meaning.specs.Names.{NamedTable, IsWellNamed, part_count}
use Rattle.herm_naming.specs.Numbers.{place_of, Scope, part_names, part_number, part_numbers, path_number, atom_number}
use Rattle.herm_naming.specs.Meaning.{arm_forms}
use Rattle.herm_naming.specs.UnknownNames.{are_parts_there, is_there}
use Rattle.herm_naming.specs.StatementFaults.{part_ways, set_arguments, all_part_ways, same_path, ports_of}
use Rattle.herm_naming.proofs.Settled.{has-some, not-false, type-shape, part-leads, when-type}

-- a name that is there is the only one with its number
pub place-one : (n m : Letters) (ns : List Letters) → place_of n ns < length ns → place_of n ns ≡ place_of m ns → n ≡ m
place-one n m [] h e = absurd (omega arith)
place-one n m (x ∷ ns) h e = by (bytes_eq n x) (bytes_eq m x) refl refl h e (λ k d. place-one n m ns k d)
  where
    by : (a b : Bool) → bytes_eq n x ≡ a → bytes_eq m x ≡ b → cond a 0 (suc (place_of n ns)) < suc (length ns) → cond a 0 (suc (place_of n ns)) ≡ cond b 0 (suc (place_of m ns))
        → (place_of n ns < length ns → place_of n ns ≡ place_of m ns → n ≡ m) → n ≡ m
    by true true p q h e again = (bytes_eq-Decides n x).0 p ∙ sym ((bytes_eq-Decides m x).0 q)
    by true false p q h e again = absurd (omega arith)
    by false true p q h e again = absurd (omega arith)
    by false false p q h e again = again (omega arith) (omega arith)

-- the paths of names are the same
pub names-decide : (p q : Path) → IsTrue (same_path p q) ↔ (p ≡ q)
names-decide [] [] = true-decides refl
names-decide [] (n ∷ q) = false-decides (λ e. let k : ⊥ = cc e in k)
names-decide (n ∷ p) [] = false-decides (λ e. let k : ⊥ = cc e in k)
names-decide (n ∷ p) (m ∷ q) =
    let d = both-decide (bytes_eq n m) (same_path p q) (bytes_eq-Decides n m) (names-decide p q) in
    (λ h. let r = d.0 h in let a : n ≡ m = r.0 in let b : p ≡ q = r.1 in cc (a, b), λ e. d.1 ((let k : n ≡ m = cc e in k), (let k : p ≡ q = cc e in k)))

-- a part that is there has a name
part-counted : (s : Shape) (i u : ℕ) → part_type s i ≡ Some u → i < part_count s
part-counted (fields ts) i u e = type-below ts i (subst (λ o. IsTrue (is_some o)) (sym e) refl)
part-counted (cases ts) i u e = type-below ts i (subst (λ o. IsTrue (is_some o)) (sym e) refl)
part-counted (callmessage ps rs) i u e =
    let h = map-some (λ (p : Parameter). p.content) (slice_get ps i) u e in
    type-below ps i (subst (λ o. IsTrue (is_some o)) (sym h.1) refl)
part-counted s i u e = none-not_some e

module _ (known : NamedTable) (well : IsWellNamed known) where
  named-parts : (t : ℕ) (s : Shape) → slice_get known.shapes t ≡ Some s → (ns : List Letters) × (slice_get known.parts t ≡ Some ns) × (length ns ≡ part_count s)
  named-parts t s e =
      let a : slice_get (map length known.parts) t ≡ Some (part_count s) =
      ap (λ l. slice_get l t) well.part_each ∙ (slice_get-map part_count known.shapes t ∙ ap (option_map part_count) e) in
      map-some length (slice_get known.parts t) (part_count s) (sym (slice_get-map length known.parts t) ∙ a)

  -- the number of a part that is there
  pub part-within : (t i : ℕ) → IsType known.shapes t → IsTrue (is_some (part_of known.shapes (Some t) i)) → i < length (part_names known (Some t))
  part-within t i k h =
      let s = type-shape (length known.exceptions) known.shapes well.well_formed t k in
      let v = has-some (part_of known.shapes (Some t) i) h in
      let e : part_type s.0 i ≡ Some v.0 = subst (λ o. map_or None (λ s. part_type s i) o ≡ Some v.0) s.1 v.1 in
      let n = named-parts t s.0 s.1 in
      let l : length (part_names known (Some t)) ≡ length n.0 = ap (λ o. length (list_of (λ names. names) o)) n.1 in
      let c : i < part_count s.0 = part-counted s.0 i v.0 e in
      let d : length n.0 ≡ part_count s.0 = n.2 in
      omega arith

  part-one : (t : ℕ) (n m : Letters) → IsType known.shapes t → IsTrue (is_some (part_of known.shapes (Some t) (part_number known (Some t) n))) → part_number known (Some t) n ≡ part_number known (Some t) m → n ≡ m
  part-one t n m k h e = place-one n m (part_names known (Some t)) (part-within t (part_number known (Some t) n) k h) e

  parts-apart : (t : ℕ) (p q : List Letters) → IsType known.shapes t → IsTrue (are_parts_there known.shapes (Some t) (part_numbers known (Some t) p))
      → IsTrue (are_parts_there known.shapes (Some t) (part_numbers known (Some t) q)) → IsTrue (part_ways p q) → IsTrue (are_apart (part_numbers known (Some t) p) (part_numbers known (Some t) q))
  parts-apart t [] q k hp hq w = not_true w
  parts-apart t (n ∷ p) [] k hp hq w = not_true w
  parts-apart t (n ∷ p) (m ∷ q) k hp hq w =
      let cp = and-both (is_some (part_of known.shapes (Some t) (part_number known (Some t) n))) _ (when-type (length known.exceptions) known.shapes well.well_formed t _ k hp) in
      let cq = and-both (is_some (part_of known.shapes (Some t) (part_number known (Some t) m))) _ (when-type (length known.exceptions) known.shapes well.well_formed t _ k hq) in
      let v = part-leads (length known.exceptions) known.shapes well.well_formed t (part_number known (Some t) n) k cp.0 in
      by (nat_eq (part_number known (Some t) n) (part_number known (Some t) m)) refl cp.0
      (λ e g. let d : part_number known (Some t) n ≡ part_number known (Some t) m = (numbers-decide _ _).0 e in
      subst (λ o. IsTrue (are_apart (part_numbers known (part_of known.shapes (Some t) (part_number known (Some t) n)) p) (part_numbers known o q))) (ap (λ i. part_of known.shapes (Some t) i) d)
      (subst (λ o. IsTrue (are_apart (part_numbers known o p) (part_numbers known o q))) (sym v.1)
      (parts-apart v.0 p q v.2 (subst (λ o. IsTrue (are_parts_there known.shapes o (part_numbers known o p))) v.1 cp.1)
      (subst (λ o. IsTrue (are_parts_there known.shapes o (part_numbers known o q))) (sym (ap (λ i. part_of known.shapes (Some t) i) d) ∙ v.1) cq.1) g)))
    where
      i : ℕ
      i = part_number known (Some t) n

      j : ℕ
      j = part_number known (Some t) m

      rest : Bool
      rest = are_apart (part_numbers known (part_of known.shapes (Some t) i) p) (part_numbers known (part_of known.shapes (Some t) j) q)

      by : (b : Bool) → nat_eq i j ≡ b → IsTrue (is_some (part_of known.shapes (Some t) i)) → (nat_eq i j ≡ true → IsTrue (part_ways p q) → IsTrue rest) → IsTrue (not (nat_eq i j) || rest)
      by true e h again = or-right (not (nat_eq i j)) rest (again e (further (or-either (not (bytes_eq n m)) (part_ways p q) w)))
        where
          further : IsTrue (not (bytes_eq n m)) ⊎ IsTrue (part_ways p q) → IsTrue (part_ways p q)
          further (inl d) = absurd (true≢false (sym ((bytes_eq-Decides n m).1 (part-one t n m k h ((numbers-decide i j).0 e))) ∙ not-false _ d))
          further (inr g) = g
      by false e h again = or-left (not (nat_eq i j)) rest (subst (λ b. IsTrue (not b)) (sym e) refl)

  -- parts are the same where their numbers are
  parts-one : (t : ℕ) (p q : List Letters) → IsType known.shapes t → IsTrue (are_parts_there known.shapes (Some t) (part_numbers known (Some t) p)) → part_numbers known (Some t) p ≡ part_numbers known (Some t) q → p ≡ q
  parts-one t [] [] k h e = refl
  parts-one t [] (m ∷ q) k h e = let b : ⊥ = cc e in absurd b
  parts-one t (n ∷ p) [] k h e = let b : ⊥ = cc e in absurd b
  parts-one t (n ∷ p) (m ∷ q) k h e =
      let c = and-both (is_some (part_of known.shapes (Some t) (part_number known (Some t) n))) _ (when-type (length known.exceptions) known.shapes well.well_formed t _ k h) in
      let v = part-leads (length known.exceptions) known.shapes well.well_formed t (part_number known (Some t) n) k c.0 in
      let d : part_number known (Some t) n ≡ part_number known (Some t) m = cc e in
      let a : n ≡ m = part-one t n m k c.0 d in
      let f : part_numbers known (part_of known.shapes (Some t) (part_number known (Some t) n)) p ≡ part_numbers known (part_of known.shapes (Some t) (part_number known (Some t) m)) q = cc e in
      let g : part_numbers known (Some v.0) p ≡ part_numbers known (Some v.0) q =
      ap (λ o. part_numbers known o p) (sym v.1) ∙ (f ∙ (ap (λ i. part_numbers known (part_of known.shapes (Some t) i) q) (sym d) ∙ ap (λ o. part_numbers known o q) v.1)) in
      let b : p ≡ q = parts-one v.0 p q v.2 (subst (λ o. IsTrue (are_parts_there known.shapes o (part_numbers known o p))) v.1 c.1) g in
      cc (a, b)

-- the paths among the arguments that a call sets
pub set-numbers : (s : Scope) (ps : List Parameter) (atoms : List Atom) → arguments_by is_returned ps (map (atom_number s) atoms) ≡ map (path_number s) (set_arguments ps atoms)
set-numbers s [] atoms = refl
set-numbers s (p ∷ ps) [] = refl
set-numbers s (p ∷ ps) (Constant l ∷ atoms) = set-numbers s ps atoms
set-numbers s (p ∷ ps) (Place q ∷ atoms) = by (is_returned p.mode) (set-numbers s ps atoms)
  where
    by : (b : Bool) → arguments_by is_returned ps (map (atom_number s) atoms) ≡ map (path_number s) (set_arguments ps atoms)
        → cond b (path_number s q ∷ arguments_by is_returned ps (map (atom_number s) atoms)) (arguments_by is_returned ps (map (atom_number s) atoms)) ≡ map (path_number s) (cond b (q ∷ set_arguments ps atoms) (set_arguments ps atoms))
    by true e = ap (path_number s q ∷◌) e
    by false e = e

-- the ports of the arms of a `select`
pub port-numbers : (s : Scope) (arms : PortArms) → map (λ (a : statements.Arm). a.port) (arm_forms s arms) ≡ map (path_number s) (ports_of arms)
port-numbers s NoPortArm = refl
port-numbers s (PortArm port target body rest) = ap (path_number s port ∷◌) (port-numbers s rest)

-- different names have different numbers, where each number is the name's alone
numbers-differ : {X Y : Type 0} (f : X → Y) (xs : List X) → ((x y : X) → IsIn x xs → IsIn y xs → f x ≡ f y → x ≡ y) → Differ xs → Differ (map f xs)
numbers-differ f [] one d = tt
numbers-differ f (x ∷ xs) one d = (
  (λ i. let h = in-map_from f (f x) xs i in d.0 (subst (λ y. IsIn y xs) (sym (one x h.0 (inl refl) (inr h.1) h.2)) h.1)),
  numbers-differ f xs (λ y z i j e. one y z (inr i) (inr j) e) d.1,
)

-- names that are there have different numbers
pub names-differ : (ns all : List Letters) → ((n : Letters) → IsIn n ns → place_of n all < length all) → IsTrue (are_different bytes_eq ns) → Differ (map (λ n. place_of n all) ns)
names-differ ns all there d = numbers-differ (λ n. place_of n all) ns (λ n m i j e. place-one n m all (there n i) e) ((different-decides bytes_eq bytes_eq-Decides ns).0 d)

module _ (s : Scope) (well : IsWellNamed s.known) (same : length s.variables ≡ length s.types) (known : (t : ℕ) → IsIn t s.types → IsType s.known.shapes t) where
  variable-type : (v : ℕ) → v < length s.types → (t : ℕ) × (slice_get s.types v ≡ Some t) × IsType s.known.shapes t
  variable-type v h = let r = has-some (slice_get s.types v) (below-type s.types v h) in (r.0, r.1, known r.0 (got-IsIn s.types v r.0 r.1))

  pub paths-apart : (p q : Path) → IsTrue (is_there s.known.shapes s.types (path_number s p)) → IsTrue (is_there s.known.shapes s.types (path_number s q)) → IsTrue (part_ways p q) → IsTrue (are_apart (path_number s p) (path_number s q))
  paths-apart [] q hp hq w = not_true w
  paths-apart (n ∷ p) [] hp hq w = not_true w
  paths-apart (n ∷ p) (m ∷ q) hp hq w =
      let a = and-both (nat_lt (place_of n s.variables) (length s.types)) _ hp in
      let b = and-both (nat_lt (place_of m s.variables) (length s.types)) _ hq in
      let i : place_of n s.variables < length s.types = (below-decides _ _).0 a.0 in
      let j : place_of n s.variables < length s.variables = omega arith in
      let v = variable-type (place_of n s.variables) i in
      by (nat_eq (place_of n s.variables) (place_of m s.variables)) refl
      (λ e. place-one n m s.variables j ((numbers-decide _ _).0 e))
      (λ e g. let d : place_of n s.variables ≡ place_of m s.variables = (numbers-decide _ _).0 e in
      subst (λ o. IsTrue (are_apart (part_numbers s.known (slice_get s.types (place_of n s.variables)) p) (part_numbers s.known o q))) (ap (slice_get s.types) d)
      (subst (λ o. IsTrue (are_apart (part_numbers s.known o p) (part_numbers s.known o q))) (sym v.1)
      (parts-apart s.known well v.0 p q v.2 (subst (λ o. IsTrue (are_parts_there s.known.shapes o (part_numbers s.known o p))) v.1 a.1)
      (subst (λ o. IsTrue (are_parts_there s.known.shapes o (part_numbers s.known o q))) (sym (ap (slice_get s.types) d) ∙ v.1) b.1) g)))
    where
      rest : Bool
      rest = are_apart (part_numbers s.known (slice_get s.types (place_of n s.variables)) p) (part_numbers s.known (slice_get s.types (place_of m s.variables)) q)

      by : (b : Bool) → nat_eq (place_of n s.variables) (place_of m s.variables) ≡ b → (nat_eq (place_of n s.variables) (place_of m s.variables) ≡ true → n ≡ m)
          → (nat_eq (place_of n s.variables) (place_of m s.variables) ≡ true → IsTrue (part_ways p q) → IsTrue rest) → IsTrue (not (nat_eq (place_of n s.variables) (place_of m s.variables)) || rest)
      by true e one again = or-right (not (nat_eq _ _)) rest (again e (further (or-either (not (bytes_eq n m)) (part_ways p q) w)))
        where
          further : IsTrue (not (bytes_eq n m)) ⊎ IsTrue (part_ways p q) → IsTrue (part_ways p q)
          further (inl d) = absurd (true≢false (sym ((bytes_eq-Decides n m).1 (one e)) ∙ not-false _ d))
          further (inr g) = g
      by false e one again = or-left (not (nat_eq (place_of n s.variables) (place_of m s.variables))) rest (subst (λ b. IsTrue (not b)) (sym e) refl)

  below-none : (n : ℕ) → nat_lt n n ≡ false
  below-none n = by (nat_lt n n) refl
    where
      by : (b : Bool) → nat_lt n n ≡ b → b ≡ false
      by true e = let k : n < n = (below-decides n n).0 e in absurd (omega arith)
      by false e = refl

  paths-one : (p q : Path) → IsTrue (is_there s.known.shapes s.types (path_number s p)) → path_number s p ≡ path_number s q → p ≡ q
  paths-one [] q h e = absurd (true≢false (sym (and-both (nat_lt (length s.variables) (length s.types)) _ h).0 ∙ not-below))
    where
      not-below : nat_lt (length s.variables) (length s.types) ≡ false
      not-below = ap (nat_lt (length s.variables)) (sym same) ∙ below-none (length s.variables)
  paths-one (n ∷ p) [] h e =
      let c = and-both (nat_lt (place_of n s.variables) (length s.types)) _ h in
      let i : place_of n s.variables < length s.types = (below-decides _ _).0 c.0 in
      let d : place_of n s.variables ≡ length s.variables = cc e in
      absurd (omega arith)
  paths-one (n ∷ p) (m ∷ q) h e =
      let c = and-both (nat_lt (place_of n s.variables) (length s.types)) _ h in
      let i : place_of n s.variables < length s.types = (below-decides _ _).0 c.0 in
      let j : place_of n s.variables < length s.variables = omega arith in
      let v = variable-type (place_of n s.variables) i in
      let d : place_of n s.variables ≡ place_of m s.variables = cc e in
      let a : n ≡ m = place-one n m s.variables j d in
      let f : part_numbers s.known (slice_get s.types (place_of n s.variables)) p ≡ part_numbers s.known (slice_get s.types (place_of m s.variables)) q = cc e in
      let g : part_numbers s.known (Some v.0) p ≡ part_numbers s.known (Some v.0) q =
      ap (λ o. part_numbers s.known o p) (sym v.1) ∙ (f ∙ (ap (λ k. part_numbers s.known (slice_get s.types k) q) (sym d) ∙ ap (λ o. part_numbers s.known o q) v.1)) in
      let b : p ≡ q = parts-one s.known well v.0 p q v.2 (subst (λ o. IsTrue (are_parts_there s.known.shapes o (part_numbers s.known o p))) v.1 c.1) g in
      cc (a, b)

  pub all-apart : (ps : List Path) → ((p : Path) → IsIn p ps → IsTrue (is_there s.known.shapes s.types (path_number s p))) → IsTrue (all_part_ways ps) → AreApart (map (path_number s) ps)
  all-apart [] there w = tt
  all-apart (p ∷ ps) there w =
      let c = and-both (all_pass (part_ways p) ps) _ w in (
        (λ y i. let h = in-map_from (path_number s) y ps i in
            subst (λ z. IsTrue (are_apart (path_number s p) z)) (sym h.2) (paths-apart p h.0 (there p (inl refl)) (there h.0 (inr h.1)) (every-in (part_ways p) h.0 ps c.0 h.1))),
        all-apart ps (λ q i. there q (inr i)) c.1,
      )

  pub ports-differ : (ps : List Path) → ((p : Path) → IsIn p ps → IsTrue (is_there s.known.shapes s.types (path_number s p))) → IsTrue (are_different same_path ps) → Differ (map (path_number s) ps)
  ports-differ ps there d = numbers-differ (path_number s) ps (λ p q i j e. paths-one p q (there p i) e) ((different-decides same_path names-decide ps).0 d)
