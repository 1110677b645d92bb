-- A loop is entered at its head: an edge that leads to a statement inside it comes from inside it, or leads to its own statement.
use Rattle.std.proofs.Common.{◌≡◌, ℕ, zero, suc, ◌+◌, ◌<◌, ◌≤◌, List, [], ◌∷◌, ◌++◌, length, Some, slice_get, IsTrue, refl, sym, ap, subst, ◌∙◌, arith, inl, inr, ◌⊎◌}
use Rattle.herm_model.proofs.Options.{some-injective}
use Rattle.herm_model.proofs.Lists.{in-append_cases, each-joined, each-first, and-both, both-and}
use Rattle.herm_model.proofs.FactTests.{got-IsIn}
use Rattle.herm_model.proofs.Deciding.{at_most-decides, below-decides}
use Rattle.herm_model.proofs.NodePlaces.{count, count_in, count_catches}
use Rattle.herm_model.specs.Lists.{IsIn}
use Rattle.herm_model.specs.Statements.{Statement, simple, choosing, repeating, leaving, trying, Block, no_statements, statement, Blocks, no_blocks, block, Handlers, no_handlers, handler, numbers_of, numbers_of_block, numbers_of_blocks, numbers_of_handlers, nodes_of, nodes_of_block, nodes_of_blocks, nodes_of_handlers, Process}
use Rattle.herm_model.specs.Nodes.{Surroundings, Node, start, start_of_block, starts, catches_of, nodes, nodes_in, nodes_of_choices, nodes_of_catches, process_nodes}
use Rattle.herm_model.specs.Handlers.{Catch}
use Rattle.herm_model.specs.Targets.{Target, node}
use Rattle.herm_forms.specs.Modules.{Span, loops_of, loops_in, loops_in_blocks, loops_in_handlers}
use Rattle.herm_forms.specs.LeavingLoops.{is_in_loop}
use Rattle.herm_translated.proofs.Joined.{get-left, get-right, length-joined}
use Rattle.herm_good_images.proofs.loops.LeadingWithin.{OfPlaces, AreAround, Leads, start-leads, block-leads, starts-lead, catches-lead, pair-leads, more-catches, part-leads, in-leads, choices-lead, handlers-lead}

-- the numbers of nodes lie among so many from a first one on
abbrev pub AreNumbered : (number many : ℕ) → List Node → Type 0
AreNumbered number many ns = (n : Node) → IsIn n ns → (number ≤ n.number) × (n.number < number + many)

wider : (low less number many : ℕ) (ns : List Node) → number ≤ low → low + less ≤ number + many → AreNumbered low less ns → AreNumbered number many ns
wider low less number many ns a b h n i = let x = (h n i).0 in let y = (h n i).1 in (omega (arith, a, x), omega (arith, b, y))

first-numbered : (number many : ℕ) (n : Node) (ns : List Node) → n.number ≡ number → 1 ≤ many → AreNumbered number many ns → AreNumbered number many (n ∷ ns)
first-numbered number many n ns e one h =
    each-first (λ (m : Node). (number ≤ m.number) × (m.number < number + many)) n ns (omega (arith, e), omega (arith, e, one)) h

mutual
  pub numbered : (s : Statement) (number from : ℕ) (u : Surroundings) → AreNumbered number (numbers_of s) (nodes s number from u)
  numbered (simple form) number from u = first-numbered number 1 _ [] refl (omega arith) (λ n i. absurd i)
  numbered (choosing form blocks) number from u =
      first-numbered number (numbers_of (choosing form blocks)) _ _ refl (omega arith) (wider (number + 1) (numbers_of_blocks blocks) number (numbers_of (choosing form blocks)) _ (omega arith) (omega arith) (numbered-choices blocks (number + 1) (from + 1) u))
  numbered (repeating form body) number from u =
      first-numbered number (numbers_of (repeating form body)) _ _ refl (omega arith) (wider (number + 1) (numbers_of_block body) number (numbers_of (repeating form body)) _ (omega arith) (omega arith) (numbered-in body (number + 1) (from + 1) _))
  numbered leaving number from u = first-numbered number 1 _ [] refl (omega arith) (λ n i. absurd i)
  numbered (trying body handlers) number from u =
      each-joined _ _ _
      (wider (number + 1) (numbers_of_block body) number (numbers_of (trying body handlers)) _ (omega arith) (omega arith) (numbered-in body (number + 1) from _))
      (wider (number + 1 + numbers_of_block body) (numbers_of_handlers handlers) number (numbers_of (trying body handlers)) _ (omega arith) (omega arith) (numbered-catches handlers (number + 1 + numbers_of_block body) _ u))

  pub numbered-in : (b : Block) (number from : ℕ) (u : Surroundings) → AreNumbered number (numbers_of_block b) (nodes_in b number from u)
  numbered-in no_statements number from u = λ n i. absurd i
  numbered-in (statement s rest) number from u =
      each-joined _ _ _
      (wider number (numbers_of s) number (numbers_of_block (statement s rest)) _ (omega arith) (omega arith) (numbered s number from _))
      (wider (number + numbers_of s) (numbers_of_block rest) number (numbers_of_block (statement s rest)) _ (omega arith) (omega arith) (numbered-in rest (number + numbers_of s) _ u))

  numbered-choices : (bs : Blocks) (number from : ℕ) (u : Surroundings) → AreNumbered number (numbers_of_blocks bs) (nodes_of_choices bs number from u)
  numbered-choices no_blocks number from u = λ n i. absurd i
  numbered-choices (block b rest) number from u =
      each-joined _ _ _
      (wider number (numbers_of_block b) number (numbers_of_blocks (block b rest)) _ (omega arith) (omega arith) (numbered-in b number from u))
      (wider (number + numbers_of_block b) (numbers_of_blocks rest) number (numbers_of_blocks (block b rest)) _ (omega arith) (omega arith) (numbered-choices rest (number + numbers_of_block b) _ u))

  numbered-catches : (hs : Handlers) (number from : ℕ) (u : Surroundings) → AreNumbered number (numbers_of_handlers hs) (nodes_of_catches hs number from u)
  numbered-catches no_handlers number from u = λ n i. absurd i
  numbered-catches (handler e b rest) number from u =
      each-joined _ _ _
      (wider number (numbers_of_block b) number (numbers_of_handlers (handler e b rest)) _ (omega arith) (omega arith) (numbered-in b number from u))
      (wider (number + numbers_of_block b) (numbers_of_handlers rest) number (numbers_of_handlers (handler e b rest)) _ (omega arith) (omega arith) (numbered-catches rest (number + numbers_of_block b) _ u))

-- loops lie among the numbers of their part
abbrev pub IsAmong : (number many : ℕ) → Span → Type 0
IsAmong number many l = (number ≤ l.first) × (l.first + l.length ≤ number + many)

further : (low less number many : ℕ) (l : Span) → number ≤ low → low + less ≤ number + many → IsAmong low less l → IsAmong number many l
further low less number many l a b h = let x = h.0 in let y = h.1 in (omega (arith, a, x), omega (arith, b, y))

mutual
  pub loop-among : (s : Statement) (number : ℕ) (l : Span) → IsIn l (loops_of s number) → IsAmong number (numbers_of s) l
  loop-among (simple form) number l i = absurd i
  loop-among (choosing form blocks) number l i = further (suc number) (numbers_of_blocks blocks) number _ l (omega arith) (omega arith) (blocks-loop_among blocks (suc number) l i)
  loop-among (repeating form body) number l (inl e) = let f = ap (λ (l : Span). l.first) e in let g = ap (λ (l : Span). l.length) e in (omega (arith, f), omega (arith, f, g))
  loop-among (repeating form body) number l (inr i) = further (suc number) (numbers_of_block body) number _ l (omega arith) (omega arith) (in-loop_among body (suc number) l i)
  loop-among leaving number l i = absurd i
  loop-among (trying body handlers) number l i = by (in-append_cases l (loops_in body (suc number)) _ i) (in-loop_among body (suc number) l) (handlers-loop_among handlers (suc number + numbers_of_block body) l)
    where
      by : IsIn l (loops_in body (suc number)) ⊎ IsIn l (loops_in_handlers handlers (suc number + numbers_of_block body))
          → (IsIn l (loops_in body (suc number)) → IsAmong (suc number) (numbers_of_block body) l)
          → (IsIn l (loops_in_handlers handlers (suc number + numbers_of_block body)) → IsAmong (suc number + numbers_of_block body) (numbers_of_handlers handlers) l)
          → IsAmong number (numbers_of (trying body handlers)) l
      by (inl a) f g = further (suc number) (numbers_of_block body) number (numbers_of (trying body handlers)) l (omega arith) (omega arith) (f a)
      by (inr b) f g = further (suc number + numbers_of_block body) (numbers_of_handlers handlers) number (numbers_of (trying body handlers)) l (omega arith) (omega arith) (g b)

  pub in-loop_among : (b : Block) (number : ℕ) (l : Span) → IsIn l (loops_in b number) → IsAmong number (numbers_of_block b) l
  in-loop_among no_statements number l i = absurd i
  in-loop_among (statement s rest) number l i = by (in-append_cases l (loops_of s number) _ i) (loop-among s number l) (in-loop_among rest (number + numbers_of s) l)
    where
      by : IsIn l (loops_of s number) ⊎ IsIn l (loops_in rest (number + numbers_of s)) → (IsIn l (loops_of s number) → IsAmong number (numbers_of s) l) → (IsIn l (loops_in rest (number + numbers_of s)) → IsAmong (number + numbers_of s) (numbers_of_block rest) l)
          → IsAmong number (numbers_of_block (statement s rest)) l
      by (inl a) f g = further number (numbers_of s) number (numbers_of_block (statement s rest)) l (omega arith) (omega arith) (f a)
      by (inr b) f g = further (number + numbers_of s) (numbers_of_block rest) number (numbers_of_block (statement s rest)) l (omega arith) (omega arith) (g b)

  pub blocks-loop_among : (bs : Blocks) (number : ℕ) (l : Span) → IsIn l (loops_in_blocks bs number) → IsAmong number (numbers_of_blocks bs) l
  blocks-loop_among no_blocks number l i = absurd i
  blocks-loop_among (block b rest) number l i = by (in-append_cases l (loops_in b number) _ i) (in-loop_among b number l) (blocks-loop_among rest (number + numbers_of_block b) l)
    where
      by : IsIn l (loops_in b number) ⊎ IsIn l (loops_in_blocks rest (number + numbers_of_block b)) → (IsIn l (loops_in b number) → IsAmong number (numbers_of_block b) l) → (IsIn l (loops_in_blocks rest (number + numbers_of_block b)) → IsAmong (number + numbers_of_block b) (numbers_of_blocks rest) l)
          → IsAmong number (numbers_of_blocks (block b rest)) l
      by (inl a) f g = further number (numbers_of_block b) number (numbers_of_blocks (block b rest)) l (omega arith) (omega arith) (f a)
      by (inr c) f g = further (number + numbers_of_block b) (numbers_of_blocks rest) number (numbers_of_blocks (block b rest)) l (omega arith) (omega arith) (g c)

  pub handlers-loop_among : (hs : Handlers) (number : ℕ) (l : Span) → IsIn l (loops_in_handlers hs number) → IsAmong number (numbers_of_handlers hs) l
  handlers-loop_among no_handlers number l i = absurd i
  handlers-loop_among (handler e b rest) number l i = by (in-append_cases l (loops_in b number) _ i) (in-loop_among b number l) (handlers-loop_among rest (number + numbers_of_block b) l)
    where
      by : IsIn l (loops_in b number) ⊎ IsIn l (loops_in_handlers rest (number + numbers_of_block b)) → (IsIn l (loops_in b number) → IsAmong number (numbers_of_block b) l) → (IsIn l (loops_in_handlers rest (number + numbers_of_block b)) → IsAmong (number + numbers_of_block b) (numbers_of_handlers rest) l)
          → IsAmong number (numbers_of_handlers (handler e b rest)) l
      by (inl a) f g = further number (numbers_of_block b) number (numbers_of_handlers (handler e b rest)) l (omega arith) (omega arith) (f a)
      by (inr c) f g = further (number + numbers_of_block b) (numbers_of_handlers rest) number (numbers_of_handlers (handler e b rest)) l (omega arith) (omega arith) (g c)

choices-many : (bs : Blocks) (number from : ℕ) (u : Surroundings) → length (nodes_of_choices bs number from u) ≡ nodes_of_blocks bs
choices-many no_blocks number from u = refl
choices-many (block b rest) number from u =
    let a = count_in b number from u in
    let c = choices-many rest (number + numbers_of_block b) (from + nodes_of_block b) u in
    let j = length-joined (nodes_in b number from u) (nodes_of_choices rest (number + numbers_of_block b) (from + nodes_of_block b) u) in
    omega (arith, a, c, j)

next : (number : ℕ) → suc number ≡ number + 1
next number = omega arith

module _ (all : List Node) where
  -- nodes stand from a place on
  abbrev pub IsHere : (from : ℕ) → List Node → Type 0
  IsHere from ns = (k : ℕ) → k < length ns → slice_get all (from + k) ≡ slice_get ns k

  here-left : (from : ℕ) (xs ys : List Node) → IsHere from (xs ++ ys) → IsHere from xs
  here-left from xs ys h k low = let j = length-joined xs ys in h k (omega (arith, low, j)) ∙ get-left xs ys k low

  here-right : (from at : ℕ) (xs ys : List Node) → at ≡ from + length xs → IsHere from (xs ++ ys) → IsHere at ys
  here-right from at xs ys e h k low =
      let j = length-joined xs ys in
      ap (slice_get all) (omega (arith, e)) ∙ h (length xs + k) (omega (arith, low, j)) ∙ get-right xs ys (length xs + k) k refl

  here-later : (from at : ℕ) (x : Node) (xs : List Node) → at ≡ from + 1 → IsHere from (x ∷ xs) → IsHere at xs
  here-later from at x xs e h k low = ap (slice_get all) (omega (arith, e)) ∙ h (suc k) (omega (arith, low))

  module _ (l : Span) where
    -- the target is not inside the loop, or it is its own statement
    abbrev pub IsHead : Target → Type 0
    IsHead t = (k : ℕ) (x : Node) → t ≡ node k → slice_get all k ≡ Some x → IsTrue (is_in_loop x.number l) → x.number ≡ l.first

    abbrev IsApart : (number many : ℕ) → Type 0
    IsApart number many = (l.first + l.length ≤ number) ⊎ (number + many ≤ l.first)

    in-span : (n : ℕ) → IsTrue (is_in_loop n l) → (l.first ≤ n) × (n < l.first + l.length)
    in-span n h = let both = and-both _ _ h in ((at_most-decides l.first n).0 both.0, (below-decides n (l.first + l.length)).0 both.1)

    pub both-inside : (n : ℕ) → l.first ≤ n → n < l.first + l.length → IsTrue (is_in_loop n l)
    both-inside n a b = both-and _ _ ((at_most-decides l.first n).1 a) ((below-decides n (l.first + l.length)).1 b)

    node-is : (i j : ℕ) → node i ≡ node j → i ≡ j
    node-is i j e = ap place e
      where
        place : Target → ℕ
        place (node k) = k
        place t = 0

    -- the places of a part apart from the loop
    apart-head : (ns : List Node) (from number many : ℕ) → IsHere from ns → AreNumbered number many ns → IsApart number many → OfPlaces IsHead from (length ns)
    apart-head ns from number many here numbered apart k low high j x e at inside =
        let same : k ≡ j = node-is k j e in
        let rest = offset from k low in
        let q = rest.1 in
        let there : slice_get ns rest.0 ≡ Some x = sym (here rest.0 (omega (arith, high, q))) ∙ ap (slice_get all) (sym q ∙ same) ∙ at in
        let r = numbered x (got-IsIn ns rest.0 x there) in
        let s = in-span x.number inside in
        let a = r.0 in let b = r.1 in let c = s.0 in let d = s.1 in
        by a b c d apart
      where
        offset : (a b : ℕ) → a ≤ b → (c : ℕ) × (b ≡ a + c)
        offset zero b h = (b, omega arith)
        offset (suc a) zero h = absurd (omega (arith, h))
        offset (suc a) (suc b) h = let r = offset a b (omega (arith, h)) in (r.0, let q = r.1 in omega (arith, q))

        by : number ≤ x.number → x.number < number + many → l.first ≤ x.number → x.number < l.first + l.length → IsApart number many → x.number ≡ l.first
        by a b c d (inl e) = absurd (omega (arith, a, d, e))
        by a b c d (inr e) = absurd (omega (arith, b, c, e))

    counted-head : (ns : List Node) (from many places number : ℕ) → length ns ≡ places → IsHere from ns → AreNumbered number many ns → IsApart number many → OfPlaces IsHead from places
    counted-head ns from many places number e here numbered apart = subst (OfPlaces IsHead from) e (apart-head ns from number many here numbered apart)

    -- the first place of a part, whose number is the loop's own, or is before it
    first-head : (from number : ℕ) (n : Node) (ns : List Node) → IsHere from (n ∷ ns) → n.number ≡ number → number ≤ l.first → IsHead (node from)
    first-head from number n ns here e low k x same at inside =
        let there : Some n ≡ Some x = sym (here 0 (omega arith)) ∙ ap (slice_get all) (let q = node-is from k same in omega (arith, q)) ∙ at in
        let is : n.number ≡ x.number = ap (λ (n : Node). n.number) (some-injective there) in
        let s = in-span x.number inside in
        let c = s.0 in
        omega (arith, c, e, is, low)

    mutual
      start-enters : (s : Statement) (number from : ℕ) (u : Surroundings) (behind : Target) → IsHere from (nodes s number from u) → IsIn l (loops_of s number) → IsHead behind → IsHead (start s from behind)
      start-enters (simple form) number from u behind here i q = absurd i
      start-enters (choosing form blocks) number from u behind here i q =
          let a = (blocks-loop_among blocks (suc number) l i).0 in first-head from number _ _ here refl (omega (arith, a))
      start-enters (repeating form body) number from u behind here (inl e) q = let f = ap (λ (l : Span). l.first) e in first-head from number _ _ here refl (omega (arith, f))
      start-enters (repeating form body) number from u behind here (inr i) q = let a = (in-loop_among body (suc number) l i).0 in first-head from number _ _ here refl (omega (arith, a))
      start-enters leaving number from u behind here i q = absurd i
      start-enters (trying body handlers) number from u behind here i q =
          by (in-append_cases l (loops_in body (suc number)) _ i) (λ k. block-enters body (number + 1) from (record u { catches = catches_of handlers (from + nodes_of_block body) u.behind ++ u.catches }) behind body_here k q)
        where
          body_here : IsHere from (nodes_in body (number + 1) from (record u { catches = catches_of handlers (from + nodes_of_block body) u.behind ++ u.catches }))
          body_here = here-left from (nodes_in body (number + 1) from (record u { catches = catches_of handlers (from + nodes_of_block body) u.behind ++ u.catches })) _ here

          by : IsIn l (loops_in body (suc number)) ⊎ IsIn l (loops_in_handlers handlers (suc number + numbers_of_block body)) → (IsIn l (loops_in body (number + 1)) → IsHead (start_of_block body from behind)) → IsHead (start_of_block body from behind)
          by (inl a) again = again (subst (λ x. IsIn l (loops_in body x)) (next number) a)
          by (inr b) again =
              let am = (handlers-loop_among handlers (suc number + numbers_of_block body) l b).0 in
              block-leads IsHead body from behind (counted-head (nodes_in body (number + 1) from (record u { catches = catches_of handlers (from + nodes_of_block body) u.behind ++ u.catches })) from (numbers_of_block body) (nodes_of_block body) (number + 1) (count_in body (number + 1) from _) body_here (numbered-in body (number + 1) from _) (inr (omega (arith, am)))) q

      block-enters : (b : Block) (number from : ℕ) (u : Surroundings) (behind : Target) → IsHere from (nodes_in b number from u) → IsIn l (loops_in b number) → IsHead behind → IsHead (start_of_block b from behind)
      block-enters no_statements number from u behind here i q = absurd i
      block-enters (statement s rest) number from u behind here i q =
          by (in-append_cases l (loops_of s number) _ i) (λ k r. start-enters s number from (inner) (start_of_block rest (from + nodes_of s) behind) s_here k r) (λ k. block-enters rest (number + numbers_of s) (from + nodes_of s) u behind rest_here k q)
        where
          inner : Surroundings
          inner = record u { behind = start_of_block rest (from + nodes_of s) u.behind }

          s_here : IsHere from (nodes s number from inner)
          s_here = here-left from (nodes s number from inner) _ here

          rest_here : IsHere (from + nodes_of s) (nodes_in rest (number + numbers_of s) (from + nodes_of s) u)
          rest_here = here-right from (from + nodes_of s) (nodes s number from inner) _ (ap (λ x. from + x) (sym (count s number from inner))) here

          by : IsIn l (loops_of s number) ⊎ IsIn l (loops_in rest (number + numbers_of s)) → (IsIn l (loops_of s number) → IsHead (start_of_block rest (from + nodes_of s) behind) → IsHead (start s from (start_of_block rest (from + nodes_of s) behind)))
              → (IsIn l (loops_in rest (number + numbers_of s)) → IsHead (start_of_block rest (from + nodes_of s) behind)) → IsHead (start s from (start_of_block rest (from + nodes_of s) behind))
          by (inl a) first later =
              let am = (loop-among s number l a).1 in
              first a (block-leads IsHead rest (from + nodes_of s) behind (counted-head (nodes_in rest (number + numbers_of s) (from + nodes_of s) u) (from + nodes_of s) (numbers_of_block rest) (nodes_of_block rest) (number + numbers_of s) (count_in rest (number + numbers_of s) (from + nodes_of s) u) rest_here (numbered-in rest (number + numbers_of s) (from + nodes_of s) u) (inl (omega (arith, am)))) q)
          by (inr b) first later =
              let am = (in-loop_among rest (number + numbers_of s) l b).0 in
              start-leads IsHead s from (start_of_block rest (from + nodes_of s) behind) (counted-head (nodes s number from inner) from (numbers_of s) (nodes_of s) number (count s number from inner) s_here (numbered s number from inner) (inr (omega (arith, am)))) (later b)

    starts-enter : (bs : Blocks) (number from : ℕ) (u : Surroundings) (behind : Target) → IsHere from (nodes_of_choices bs number from u) → IsIn l (loops_in_blocks bs number) → IsHead behind → (t : Target) → IsIn t (starts bs from behind) → IsHead t
    starts-enter no_blocks number from u behind here i q t m = absurd m
    starts-enter (block b rest) number from u behind here i q t m = by (in-append_cases l (loops_in b number) _ i) m (λ c k. starts-enter rest (number + numbers_of_block b) (from + nodes_of_block b) u behind rest_here c q t k)
      where
        b_here : IsHere from (nodes_in b number from u)
        b_here = here-left from (nodes_in b number from u) _ here

        rest_here : IsHere (from + nodes_of_block b) (nodes_of_choices rest (number + numbers_of_block b) (from + nodes_of_block b) u)
        rest_here = here-right from (from + nodes_of_block b) (nodes_in b number from u) _ (ap (λ x. from + x) (sym (count_in b number from u))) here

        by : IsIn l (loops_in b number) ⊎ IsIn l (loops_in_blocks rest (number + numbers_of_block b)) → IsIn t (starts (block b rest) from behind) → (IsIn l (loops_in_blocks rest (number + numbers_of_block b)) → IsIn t (starts rest (from + nodes_of_block b) behind) → IsHead t) → IsHead t
        by (inl a) (inl e) again = subst IsHead (sym e) (block-enters b number from u behind b_here a q)
        by (inl a) (inr k) again =
            let am = (in-loop_among b number l a).1 in
            starts-lead IsHead rest (from + nodes_of_block b) behind (counted-head (nodes_of_choices rest (number + numbers_of_block b) (from + nodes_of_block b) u) (from + nodes_of_block b) (numbers_of_blocks rest) (nodes_of_blocks rest) (number + numbers_of_block b) (choices-many rest (number + numbers_of_block b) (from + nodes_of_block b) u) rest_here (numbered-choices rest (number + numbers_of_block b) (from + nodes_of_block b) u) (inl (omega (arith, am)))) q t k
        by (inr c) (inl e) again =
            let am = (blocks-loop_among rest (number + numbers_of_block b) l c).0 in
            subst IsHead (sym e) (block-leads IsHead b from behind (counted-head (nodes_in b number from u) from (numbers_of_block b) (nodes_of_block b) number (count_in b number from u) b_here (numbered-in b number from u) (inr (omega (arith, am)))) q)
        by (inr c) (inr k) again = again c k

    catches-enter : (hs : Handlers) (number from : ℕ) (u : Surroundings) (behind : Target) → IsHere from (nodes_of_catches hs number from u) → IsIn l (loops_in_handlers hs number) → IsHead behind → (c : Catch) → IsIn c (catches_of hs from behind) → IsHead c.target
    catches-enter no_handlers number from u behind here i q c m = absurd m
    catches-enter (handler x b rest) number from u behind here i q c m = by (in-append_cases l (loops_in b number) _ i) m (λ d k. catches-enter rest (number + numbers_of_block b) (from + nodes_of_block b) u behind rest_here d q c k)
      where
        b_here : IsHere from (nodes_in b number from u)
        b_here = here-left from (nodes_in b number from u) _ here

        rest_here : IsHere (from + nodes_of_block b) (nodes_of_catches rest (number + numbers_of_block b) (from + nodes_of_block b) u)
        rest_here = here-right from (from + nodes_of_block b) (nodes_in b number from u) _ (ap (λ x. from + x) (sym (count_in b number from u))) here

        by : IsIn l (loops_in b number) ⊎ IsIn l (loops_in_handlers rest (number + numbers_of_block b)) → IsIn c (catches_of (handler x b rest) from behind) → (IsIn l (loops_in_handlers rest (number + numbers_of_block b)) → IsIn c (catches_of rest (from + nodes_of_block b) behind) → IsHead c.target) → IsHead c.target
        by (inl a) (inl e) again = subst (λ (c : Catch). IsHead c.target) (sym e) (block-enters b number from u behind b_here a q)
        by (inl a) (inr k) again =
            let am = (in-loop_among b number l a).1 in
            catches-lead IsHead rest (from + nodes_of_block b) behind (counted-head (nodes_of_catches rest (number + numbers_of_block b) (from + nodes_of_block b) u) (from + nodes_of_block b) (numbers_of_handlers rest) (nodes_of_handlers rest) (number + numbers_of_block b) (count_catches rest (number + numbers_of_block b) (from + nodes_of_block b) u) rest_here (numbered-catches rest (number + numbers_of_block b) (from + nodes_of_block b) u) (inl (omega (arith, am)))) q c k
        by (inr d) (inl e) again =
            let am = (handlers-loop_among rest (number + numbers_of_block b) l d).0 in
            subst (λ (c : Catch). IsHead c.target) (sym e) (block-leads IsHead b from behind (counted-head (nodes_in b number from u) from (numbers_of_block b) (nodes_of_block b) number (count_in b number from u) b_here (numbered-in b number from u) (inr (omega (arith, am)))) q)
        by (inr d) (inr k) again = again d k

    -- a node outside the loop leads to no statement inside it but its own
    abbrev EntersAtHead : Node → Type 0
    EntersAtHead n = (IsTrue (is_in_loop n.number l) → ⊥) → Leads IsHead n

    mutual
      enters : (s : Statement) (number from : ℕ) (u : Surroundings) → IsHere from (nodes s number from u) → IsIn l (loops_of s number) → AreAround IsHead u → (n : Node) → IsIn n (nodes s number from u) → EntersAtHead n
      enters (simple form) number from u here i around n m outside = absurd i
      enters (choosing form blocks) number from u here i around n m outside =
          each-first EntersAtHead _ _ (λ o. record { leads = starts-enter blocks (number + 1) (from + 1) u u.behind later (subst (λ x. IsIn l (loops_in_blocks blocks x)) (next number) i) around.behind; catches = around.catches })
          (enters-choices blocks (number + 1) (from + 1) u later (subst (λ x. IsIn l (loops_in_blocks blocks x)) (next number) i) around) n m outside
        where
          later : IsHere (from + 1) (nodes_of_choices blocks (number + 1) (from + 1) u)
          later = here-later from (from + 1) _ _ refl here
      enters (repeating form body) number from u here (inl e) around n m outside =
          let f = ap (λ (l : Span). l.first) e in let g = ap (λ (l : Span). l.length) e in
          let r = numbered (repeating form body) number from u n m in let a = r.0 in let b = r.1 in
          absurd (outside (both-inside n.number (omega (arith, a, f)) (omega (arith, b, f, g))))
      enters (repeating form body) number from u here (inr i) around n m outside =
          each-first EntersAtHead _ _ (λ o. record { leads = pair-leads IsHead _ _ (block-enters body (number + 1) (from + 1) inner (node from) later (subst (λ x. IsIn l (loops_in body x)) (next number) i) head) around.behind; catches = around.catches })
          (enters-in body (number + 1) (from + 1) inner later (subst (λ x. IsIn l (loops_in body x)) (next number) i) (record { behind = head; catches = around.catches; exit = around.behind })) n m outside
        where
          inner : Surroundings
          inner = record { behind = node from; catches = u.catches; exit = u.behind }

          later : IsHere (from + 1) (nodes_in body (number + 1) (from + 1) inner)
          later = here-later from (from + 1) _ _ refl here

          head : IsHead (node from)
          head = let a = (in-loop_among body (suc number) l i).0 in first-head from number _ _ here refl (omega (arith, a))
      enters leaving number from u here i around n m outside = absurd i
      enters (trying body handlers) number from u here i around n m outside =
          by (in-append_cases l (loops_in body (number + 1)) _ (subst (λ x. IsIn l (loops_in body x ++ loops_in_handlers handlers (x + numbers_of_block body))) (next number) i)) (in-append_cases n (nodes_in body (number + 1) from inner) _ m)
          (λ a. enters-in body (number + 1) from inner body_here a (record { behind = around.behind; catches = more-catches IsHead (catches_of handlers (from + nodes_of_block body) u.behind) u (apart-catches a) around; exit = around.exit }) n)
          (λ b. enters-catches handlers (number + 1 + numbers_of_block body) (from + nodes_of_block body) u handlers_here b around n)
        where
          inner : Surroundings
          inner = record u { catches = catches_of handlers (from + nodes_of_block body) u.behind ++ u.catches }

          body_here : IsHere from (nodes_in body (number + 1) from inner)
          body_here = here-left from (nodes_in body (number + 1) from inner) _ here

          handlers_here : IsHere (from + nodes_of_block body) (nodes_of_catches handlers (number + 1 + numbers_of_block body) (from + nodes_of_block body) u)
          handlers_here = here-right from (from + nodes_of_block body) (nodes_in body (number + 1) from inner) _ (ap (λ x. from + x) (sym (count_in body (number + 1) from inner))) here

          apart-handlers : IsIn l (loops_in body (number + 1)) → OfPlaces IsHead (from + nodes_of_block body) (nodes_of_handlers handlers)
          apart-handlers a =
              let am = (in-loop_among body (number + 1) l a).1 in
              counted-head (nodes_of_catches handlers (number + 1 + numbers_of_block body) (from + nodes_of_block body) u) (from + nodes_of_block body) (numbers_of_handlers handlers) (nodes_of_handlers handlers) (number + 1 + numbers_of_block body) (count_catches handlers (number + 1 + numbers_of_block body) (from + nodes_of_block body) u) handlers_here (numbered-catches handlers (number + 1 + numbers_of_block body) (from + nodes_of_block body) u) (inl (omega (arith, am)))

          apart-catches : IsIn l (loops_in body (number + 1)) → (c : Catch) → IsIn c (catches_of handlers (from + nodes_of_block body) u.behind) → IsHead c.target
          apart-catches a = catches-lead IsHead handlers (from + nodes_of_block body) u.behind (apart-handlers a) around.behind

          apart-body : IsIn l (loops_in_handlers handlers (number + 1 + numbers_of_block body)) → OfPlaces IsHead from (nodes_of_block body)
          apart-body b =
              let am = (handlers-loop_among handlers (number + 1 + numbers_of_block body) l b).0 in
              counted-head (nodes_in body (number + 1) from inner) from (numbers_of_block body) (nodes_of_block body) (number + 1) (count_in body (number + 1) from inner) body_here (numbered-in body (number + 1) from inner) (inr (omega (arith, am)))

          by : IsIn l (loops_in body (number + 1)) ⊎ IsIn l (loops_in_handlers handlers (number + 1 + numbers_of_block body))
              → IsIn n (nodes_in body (number + 1) from inner) ⊎ IsIn n (nodes_of_catches handlers (number + 1 + numbers_of_block body) (from + nodes_of_block body) u)
              → (IsIn l (loops_in body (number + 1)) → IsIn n (nodes_in body (number + 1) from inner) → EntersAtHead n)
              → (IsIn l (loops_in_handlers handlers (number + 1 + numbers_of_block body)) → IsIn n (nodes_of_catches handlers (number + 1 + numbers_of_block body) (from + nodes_of_block body) u) → EntersAtHead n)
              → Leads IsHead n
          by (inl a) (inl k) first later = first a k outside
          by (inl a) (inr k) first later = handlers-lead IsHead handlers (number + 1 + numbers_of_block body) (from + nodes_of_block body) u (apart-handlers a) around n k
          by (inr b) (inl k) first later =
              in-leads IsHead body (number + 1) from inner (apart-body b)
              (record { behind = around.behind; catches = more-catches IsHead (catches_of handlers (from + nodes_of_block body) u.behind) u (catches-enter handlers (number + 1 + numbers_of_block body) (from + nodes_of_block body) u u.behind handlers_here b around.behind) around; exit = around.exit }) n k
          by (inr b) (inr k) first later = later b k outside

      enters-in : (b : Block) (number from : ℕ) (u : Surroundings) → IsHere from (nodes_in b number from u) → IsIn l (loops_in b number) → AreAround IsHead u → (n : Node) → IsIn n (nodes_in b number from u) → EntersAtHead n
      enters-in no_statements number from u here i around n m outside = absurd i
      enters-in (statement s rest) number from u here i around n m outside =
          by (in-append_cases l (loops_of s number) _ i) (in-append_cases n (nodes s number from inner) _ m)
          (λ a. enters s number from inner s_here a (record { behind = block-leads IsHead rest (from + nodes_of s) u.behind (apart-rest a) around.behind; catches = around.catches; exit = around.exit }) n)
          (λ c. enters-in rest (number + numbers_of s) (from + nodes_of s) u rest_here c around n)
        where
          inner : Surroundings
          inner = record u { behind = start_of_block rest (from + nodes_of s) u.behind }

          s_here : IsHere from (nodes s number from inner)
          s_here = here-left from (nodes s number from inner) _ here

          rest_here : IsHere (from + nodes_of s) (nodes_in rest (number + numbers_of s) (from + nodes_of s) u)
          rest_here = here-right from (from + nodes_of s) (nodes s number from inner) _ (ap (λ x. from + x) (sym (count s number from inner))) here

          apart-rest : IsIn l (loops_of s number) → OfPlaces IsHead (from + nodes_of s) (nodes_of_block rest)
          apart-rest a =
              let am = (loop-among s number l a).1 in
              counted-head (nodes_in rest (number + numbers_of s) (from + nodes_of s) u) (from + nodes_of s) (numbers_of_block rest) (nodes_of_block rest) (number + numbers_of s) (count_in rest (number + numbers_of s) (from + nodes_of s) u) rest_here (numbered-in rest (number + numbers_of s) (from + nodes_of s) u) (inl (omega (arith, am)))

          apart-first : IsIn l (loops_in rest (number + numbers_of s)) → OfPlaces IsHead from (nodes_of s)
          apart-first c =
              let am = (in-loop_among rest (number + numbers_of s) l c).0 in
              counted-head (nodes s number from inner) from (numbers_of s) (nodes_of s) number (count s number from inner) s_here (numbered s number from inner) (inr (omega (arith, am)))

          by : IsIn l (loops_of s number) ⊎ IsIn l (loops_in rest (number + numbers_of s)) → IsIn n (nodes s number from inner) ⊎ IsIn n (nodes_in rest (number + numbers_of s) (from + nodes_of s) u)
              → (IsIn l (loops_of s number) → IsIn n (nodes s number from inner) → EntersAtHead n) → (IsIn l (loops_in rest (number + numbers_of s)) → IsIn n (nodes_in rest (number + numbers_of s) (from + nodes_of s) u) → EntersAtHead n) → Leads IsHead n
          by (inl a) (inl k) first later = first a k outside
          by (inl a) (inr k) first later = in-leads IsHead rest (number + numbers_of s) (from + nodes_of s) u (apart-rest a) around n k
          by (inr c) (inl k) first later =
              part-leads IsHead s number from inner (apart-first c) (record { behind = block-enters rest (number + numbers_of s) (from + nodes_of s) u u.behind rest_here c around.behind; catches = around.catches; exit = around.exit }) n k
          by (inr c) (inr k) first later = later c k outside

      enters-choices : (bs : Blocks) (number from : ℕ) (u : Surroundings) → IsHere from (nodes_of_choices bs number from u) → IsIn l (loops_in_blocks bs number) → AreAround IsHead u → (n : Node) → IsIn n (nodes_of_choices bs number from u) → EntersAtHead n
      enters-choices no_blocks number from u here i around n m outside = absurd i
      enters-choices (block b rest) number from u here i around n m outside =
          by (in-append_cases l (loops_in b number) _ i) (in-append_cases n (nodes_in b number from u) _ m)
          (λ a. enters-in b number from u b_here a around n) (λ c. enters-choices rest (number + numbers_of_block b) (from + nodes_of_block b) u rest_here c around n)
        where
          b_here : IsHere from (nodes_in b number from u)
          b_here = here-left from (nodes_in b number from u) _ here

          rest_here : IsHere (from + nodes_of_block b) (nodes_of_choices rest (number + numbers_of_block b) (from + nodes_of_block b) u)
          rest_here = here-right from (from + nodes_of_block b) (nodes_in b number from u) _ (ap (λ x. from + x) (sym (count_in b number from u))) here

          by : IsIn l (loops_in b number) ⊎ IsIn l (loops_in_blocks rest (number + numbers_of_block b)) → IsIn n (nodes_in b number from u) ⊎ IsIn n (nodes_of_choices rest (number + numbers_of_block b) (from + nodes_of_block b) u)
              → (IsIn l (loops_in b number) → IsIn n (nodes_in b number from u) → EntersAtHead n) → (IsIn l (loops_in_blocks rest (number + numbers_of_block b)) → IsIn n (nodes_of_choices rest (number + numbers_of_block b) (from + nodes_of_block b) u) → EntersAtHead n) → Leads IsHead n
          by (inl a) (inl k) first later = first a k outside
          by (inl a) (inr k) first later =
              let am = (in-loop_among b number l a).1 in
              choices-lead IsHead rest (number + numbers_of_block b) (from + nodes_of_block b) u (counted-head (nodes_of_choices rest (number + numbers_of_block b) (from + nodes_of_block b) u) (from + nodes_of_block b) (numbers_of_blocks rest) (nodes_of_blocks rest) (number + numbers_of_block b) (choices-many rest (number + numbers_of_block b) (from + nodes_of_block b) u) rest_here (numbered-choices rest (number + numbers_of_block b) (from + nodes_of_block b) u) (inl (omega (arith, am)))) around n k
          by (inr c) (inl k) first later =
              let am = (blocks-loop_among rest (number + numbers_of_block b) l c).0 in
              in-leads IsHead b number from u (counted-head (nodes_in b number from u) from (numbers_of_block b) (nodes_of_block b) number (count_in b number from u) b_here (numbered-in b number from u) (inr (omega (arith, am)))) around n k
          by (inr c) (inr k) first later = later c k outside

      enters-catches : (hs : Handlers) (number from : ℕ) (u : Surroundings) → IsHere from (nodes_of_catches hs number from u) → IsIn l (loops_in_handlers hs number) → AreAround IsHead u → (n : Node) → IsIn n (nodes_of_catches hs number from u) → EntersAtHead n
      enters-catches no_handlers number from u here i around n m outside = absurd i
      enters-catches (handler x b rest) number from u here i around n m outside =
          by (in-append_cases l (loops_in b number) _ i) (in-append_cases n (nodes_in b number from u) _ m)
          (λ a. enters-in b number from u b_here a around n) (λ c. enters-catches rest (number + numbers_of_block b) (from + nodes_of_block b) u rest_here c around n)
        where
          b_here : IsHere from (nodes_in b number from u)
          b_here = here-left from (nodes_in b number from u) _ here

          rest_here : IsHere (from + nodes_of_block b) (nodes_of_catches rest (number + numbers_of_block b) (from + nodes_of_block b) u)
          rest_here = here-right from (from + nodes_of_block b) (nodes_in b number from u) _ (ap (λ x. from + x) (sym (count_in b number from u))) here

          by : IsIn l (loops_in b number) ⊎ IsIn l (loops_in_handlers rest (number + numbers_of_block b)) → IsIn n (nodes_in b number from u) ⊎ IsIn n (nodes_of_catches rest (number + numbers_of_block b) (from + nodes_of_block b) u)
              → (IsIn l (loops_in b number) → IsIn n (nodes_in b number from u) → EntersAtHead n) → (IsIn l (loops_in_handlers rest (number + numbers_of_block b)) → IsIn n (nodes_of_catches rest (number + numbers_of_block b) (from + nodes_of_block b) u) → EntersAtHead n) → Leads IsHead n
          by (inl a) (inl k) first later = first a k outside
          by (inl a) (inr k) first later =
              let am = (in-loop_among b number l a).1 in
              handlers-lead IsHead rest (number + numbers_of_block b) (from + nodes_of_block b) u (counted-head (nodes_of_catches rest (number + numbers_of_block b) (from + nodes_of_block b) u) (from + nodes_of_block b) (numbers_of_handlers rest) (nodes_of_handlers rest) (number + numbers_of_block b) (count_catches rest (number + numbers_of_block b) (from + nodes_of_block b) u) rest_here (numbered-catches rest (number + numbers_of_block b) (from + nodes_of_block b) u) (inl (omega (arith, am)))) around n k
          by (inr c) (inl k) first later =
              let am = (handlers-loop_among rest (number + numbers_of_block b) l c).0 in
              in-leads IsHead b number from u (counted-head (nodes_in b number from u) from (numbers_of_block b) (nodes_of_block b) number (count_in b number from u) b_here (numbered-in b number from u) (inr (omega (arith, am)))) around n k
          by (inr c) (inr k) first later = later c k outside

-- A node of a process that is outside a loop leads to no statement inside it but its own.
pub loop-entered : (p : Process) (l : Span) → IsIn l (loops_in p.body 1) → (n : Node) → IsIn n (process_nodes p) → (IsTrue (is_in_loop n.number l) → ⊥) → Leads (IsHead (process_nodes p) l) n
loop-entered p l i n m outside =
    enters-in (process_nodes p) l p.body 1 0 _ (λ k low. ap (slice_get (process_nodes p)) (omega arith)) i
    (record { behind = λ k x e. cc; catches = λ c m. absurd m; exit = λ k x e. cc }) n m outside
