-- What a return gives back is a reply that the caller's call waits for.
use Rattle.std.proofs.Common.{◌≡◌, ℕ, suc, ◌+◌, List, [], ◌∷◌, ◌++◌, map, Bool, true, false, cond, nat_eq, Option, Some, None, option_map, refl, sym, ap, ◌∙◌, subst, arith}
use Rattle.std.specs.Prelude.{slice_get, filter, flat_map, option_and_then, IsTrue}
use Rattle.herm_model.specs.Lists.{IsIn, any_pass, all_pass, list_of, map_or}
use Rattle.herm_model.specs.Paths.{Path, Fact}
use Rattle.herm_model.specs.Types.{TypeTable, callmessage, Parameter, Raised, named_types, part_type, part_of, type_below, type_at, is_within_depth, greatest_depth}
use Rattle.herm_model.specs.Facts.{full_facts}
use Rattle.herm_model.specs.Calls.{shape_at, parameters_of, raises_of, returned_places, kept_for, is_returned}
use Rattle.herm_model.specs.Statements.{Return, ReturnBy}
use Rattle.herm_model.specs.FactsOfStatements.{present, full, full_of_each, returned, returned_by, needs}
use Rattle.herm_model.specs.Values.{Cell, cell_at}
use Rattle.herm_model.specs.Typed.{IsFull}
use Rattle.herm_model.specs.Finalising.{clear_all}
use Rattle.herm_model.proofs.Lists.{in-map, in-map_from, in-flat_map, in-append_right, every-in}
use Rattle.herm_model.proofs.FactTests.{got-IsIn}
use Rattle.herm_model.proofs.Copyable.{within-more}
use Rattle.herm_model.proofs.Options.{some-injective, none-not_some, map-some}
use Rattle.herm_journal.specs.Actions.{values, raised, to_answer}
use Rattle.herm_forms.specs.Frames.{Name, Frame, drop, Taken, take_all}
use Rattle.herm_journal.specs.Messages.{CellReply, CellWant, AreFull, IsReplyTo, types_back, types_kept}
use Rattle.herm_forms.specs.ReturnForms.{caller_of}
use Rattle.herm_forms.specs.Excess.{excess_over_full}
use Rattle.herm_forms.specs.Modules.{Module}
use Rattle.herm_forms.specs.Acts.{wants}
use Rattle.herm_forms.specs.OpenCalls.{Calling, IsReply, call_type}
use Rattle.herm_forms.specs.laws.EdgeLaws.{AreSound}
use Rattle.herm_forms.specs.laws.CallLaws.{IsCallAt, ReturnsGiveReplies}
use Rattle.herm_forms.proofs.TypedReading.{typed-read}
use Rattle.herm_forms.proofs.Arrived.{drop-variables}
use Rattle.herm_forms.proofs.forms.ToldFacts.{in-closed}
use Rattle.herm_forms.proofs.forms.SetTargets.{there-direct, in-full}
use Rattle.herm_forms.proofs.forms.ExcessDropped.{no-source, source-full}
use Rattle.herm_forms.proofs.forms.FullSources.{lost-below}
use Rattle.herm_forms.proofs.called.LostApart.{IsBelow, lost-own}
use Rattle.herm_forms.proofs.called.TakenParts.{part_path, parts-AreApart, AreGiven, given-taken, taken-differ}

-- the type of a part of what is at a path
type-on : (types : TypeTable) (o : Option ℕ) (q : List ℕ) (n : ℕ) → type_below types o (q ++ n ∷ []) ≡ part_of types (type_below types o q) n
type-on types o [] n = refl
type-on types o (j ∷ q) n = type-on types (part_of types o j) q n

abbrev content_of : Option Parameter → List ℕ
content_of o = list_of (λ (p : Parameter). p.content ∷ []) o

-- the types of the parameters at the places of those that come back
returned-more : (all : List Parameter) (k : ℕ) (p : Parameter) (more : List ℕ) (rest : List Parameter) (b : Bool) → slice_get all k ≡ Some p → flat_map (λ n. content_of (slice_get all n)) more ≡ map (λ (p : Parameter). p.content) rest
    → flat_map (λ n. content_of (slice_get all n)) (cond b (k ∷ more) more) ≡ map (λ (p : Parameter). p.content) (cond b (p ∷ rest) rest)
returned-more all k p more rest true at same = ap (λ (o : Option Parameter). content_of o ++ flat_map (λ n. content_of (slice_get all n)) more) at ∙ ap (p.content ∷◌) same
returned-more all k p more rest false at same = same

pub returned-contents : (all : List Parameter) (k : ℕ) (ps : List Parameter) → ((j : ℕ) → slice_get all (k + j) ≡ slice_get ps j)
    → flat_map (λ n. content_of (slice_get all n)) (returned_places k ps) ≡ map (λ (p : Parameter). p.content) (filter (λ (p : Parameter). is_returned p.mode) ps)
returned-contents all k [] agree = refl
returned-contents all k (p ∷ ps) agree =
    returned-more all k p (returned_places (suc k) ps) (filter (λ (p : Parameter). is_returned p.mode) ps) (is_returned p.mode) (ap (slice_get all) first ∙ agree 0)
    (returned-contents all (suc k) ps (λ j. ap (slice_get all) (next j) ∙ agree (suc j)))
  where
    first : k ≡ k + 0
    first = omega arith

    next : (j : ℕ) → suc k + j ≡ k + suc j
    next j = omega arith

-- the parameter at a place has its type
pub parameter-type : (c : Module) (i : ℕ) (q : List ℕ) (t : ℕ) (parameters : List Parameter) (raises : List Raised) → type_at c.types c.variables (i ∷ q) ≡ Some t → slice_get c.types t ≡ Some (callmessage parameters raises)
    → (n : ℕ) → type_at c.types c.variables (part_path i q n) ≡ option_map (λ (p : Parameter). p.content) (slice_get parameters n)
parameter-type c i q t parameters raises type shape n = type-on c.types (slice_get c.variables i) q n ∙ ap (λ o. part_of c.types o n) type ∙ ap (map_or None (λ s. part_type s n)) shape

module _ (c : Module) (i : ℕ) (q : List ℕ) (t : ℕ) (parameters : List Parameter) (raises : List Raised) (type : type_at c.types c.variables (i ∷ q) ≡ Some t) (shape : slice_get c.types t ≡ Some (callmessage parameters raises))
    (deep : IsTrue (is_within_depth greatest_depth c.types t)) (has : Fact → Bool) (b : Frame Name) (sound : AreSound c has b.variables) where
  abbrev content_at : ℕ → Option ℕ
  content_at n = option_map (λ (p : Parameter). p.content) (slice_get parameters n)

  own-type : (n : ℕ) → type_at c.types c.variables (part_path i q n) ≡ content_at n
  own-type n = parameter-type c i q t parameters raises type shape n

  parameter-deep : (n u : ℕ) → content_at n ≡ Some u → IsTrue (is_within_depth greatest_depth c.types u)
  parameter-deep n u e =
      let p = map-some (λ (p : Parameter). p.content) (slice_get parameters n) u e in
      let each : IsTrue (all_pass (is_within_depth 31 c.types) (map (λ (p : Parameter). p.content) parameters)) =
      subst (λ o. IsTrue (map_or false (λ s. all_pass (is_within_depth 31 c.types) (named_types s)) o)) shape deep in
      within-more c.types 31 1 u
      (every-in (is_within_depth 31 c.types) u (map (λ (p : Parameter). p.content) parameters) each
      (subst (λ u. IsIn u (map (λ (p : Parameter). p.content) parameters)) p.2 (in-map (λ (p : Parameter). p.content) p.0 parameters (got-IsIn parameters n p.0 p.1))))

  -- a full value of the parameter at a place
  abbrev IsGiven : ℕ → Cell Name → Type 0
  IsGiven n d = (u : ℕ) × (content_at n ≡ Some u) × IsFull c.types u d

  abbrev lost_at : ℕ → List Path
  lost_at n = excess_over_full c (part_path i q n) b

  -- a value that is there has a parameter's type
  parameter-there : (n : ℕ) (d : Cell Name) → cell_at (part_path i q n) b.variables ≡ Some d → (u : ℕ) × (content_at n ≡ Some u)
  parameter-there n d at =
      let r = typed-read Name c.types c.variables i (q ++ n ∷ []) b.variables d sound.types at in
      (r.type, sym (own-type n) ∙ ap (λ o. type_below c.types o (q ++ n ∷ [])) r.there ∙ r.below)

  nothing-lost : (n : ℕ) → cell_at (part_path i q n) b.variables ≡ None → lost_at n ≡ []
  nothing-lost n at =
      no-source c i (q ++ n ∷ []) has b sound (type_at c.types c.variables (part_path i q n)) (list_of (λ t. full_facts c.types t (0 ∷ [])) (type_at c.types c.variables (part_path i q n))) at

  module _ (n : ℕ) (needed : (f : Fact) → IsIn f (full c.types c.variables (part_path i q n)) → IsTrue (has f)) where
    lost-inside : (x : Option (Cell Name)) → cell_at (part_path i q n) b.variables ≡ x → (p : Path) → IsIn p (lost_at n) → IsBelow (part_path i q n) p
    lost-inside None at p h = absurd (subst (IsIn p) (nothing-lost n at) h)
    lost-inside (Some d) at p h =
        let u = parameter-there n d at in
        lost-below c i (q ++ n ∷ []) u.0 (own-type n ∙ u.1) (parameter-deep n u.0 u.1) has b sound needed d at p h

    left-given : (x : Option (Cell Name)) → cell_at (part_path i q n) b.variables ≡ x → (d : Cell Name) → cell_at (part_path i q n) (clear_all (lost_at n) b.variables) ≡ Some d → IsGiven n d
    left-given None at d left = none-not_some (sym (ap (λ lost. cell_at (part_path i q n) (clear_all lost b.variables)) (nothing-lost n at) ∙ at) ∙ left)
    left-given (Some e) at d left =
        let u = parameter-there n e at in
        let type = own-type n ∙ u.1 in
        let s = source-full c i (q ++ n ∷ []) has b sound u.0 type (parameter-deep n u.0 u.1)
        (λ f h. needed f (in-full c i (q ++ n ∷ []) u.0 type (there-direct c i (q ++ n ∷ []) b.variables e sound.types at) f h)) e at in
        let same : s.0 ≡ d = some-injective (sym s.1 ∙ ap (cell_at (part_path i q n)) (drop-variables (lost_at n) b) ∙ left) in
        (u.0, u.1, subst (IsFull c.types u.0) same s.2)

  -- what is taken of full parameters, without what they hold beyond, is full
  given-full : (ns : List ℕ) → ((n : ℕ) → IsIn n ns → (f : Fact) → IsIn f (full c.types c.variables (part_path i q n)) → IsTrue (has f)) → (taken : Taken Name)
      → take_all (map (part_path i q) ns) (drop (flat_map (λ p. excess_over_full c p b) (map (part_path i q) ns)) b) ≡ Some taken → AreGiven i q IsGiven ns taken.cells
  given-full ns needed taken e =
      let lost = flat_map (λ p. excess_over_full c p b) (map (part_path i q) ns) in
      let differ = taken-differ i q ns (drop lost b) taken e in
      given-taken i q IsGiven ns differ (drop lost b) taken
      (λ n h d at. left-given n (needed n h) (cell_at (part_path i q n) b.variables) refl d
      (sym (ap (cell_at (part_path i q n)) (drop-variables lost b)
      ∙ lost-own (λ p. excess_over_full c p b) (map (part_path i q) ns) below (parts-AreApart i q ns differ) (part_path i q n) (in-map (part_path i q) n ns h) b.variables b.variables refl)
      ∙ at)) e
    where
      below : (x : Path) → IsIn x (map (part_path i q) ns) → (p : Path) → IsIn p (excess_over_full c x b) → IsBelow x p
      below x h p l =
          let n = in-map_from (part_path i q) x ns h in
          subst (λ x. IsBelow x p) (sym n.2) (lost-inside n.0 (needed n.0 n.1) (cell_at (part_path i q n.0) b.variables) refl p (subst (λ x. IsIn p (excess_over_full c x b)) n.2 l))

  given-of-types : (ns : List ℕ) (ds : List (Cell Name)) → AreGiven i q IsGiven ns ds → AreFull c.types (flat_map (λ n. content_of (slice_get parameters n)) ns) ds
  given-of-types [] [] h = tt
  given-of-types [] (d ∷ ds) h = h
  given-of-types (n ∷ ns) [] h = absurd h
  given-of-types (n ∷ ns) (d ∷ ds) h = by (slice_get parameters n) h.0 (given-of-types ns ds h.1)
    where
      by : (x : Option Parameter) → (u : ℕ) × (option_map (λ (p : Parameter). p.content) x ≡ Some u) × IsFull c.types u d → AreFull c.types (flat_map (λ n. content_of (slice_get parameters n)) ns) ds
          → AreFull c.types (content_of x ++ flat_map (λ n. content_of (slice_get parameters n)) ns) (d ∷ ds)
      by None g more = none-not_some g.1
      by (Some p) g more = (subst (λ u. IsFull c.types u d) (sym (some-injective g.1)) g.2, more)

-- what is answered is what was taken
answered-with : (reply : List (Cell Name) → CellReply Name) (x : Option (ℕ × ℕ)) (y : Option (Taken Name)) (caller call : ℕ) (r : CellReply Name)
    → ◌≡◌ {A = Option (CellWant Name)} (option_and_then (λ c. option_map (λ (t : Taken Name). to_answer c.0 c.1 (reply t.cells)) y) x) (Some (to_answer caller call r)) → (t : Taken Name) × (y ≡ Some t) × (reply t.cells ≡ r)
answered-with reply None y caller call r e = none-not_some e
answered-with reply (Some x) None caller call r e = none-not_some e
answered-with reply (Some x) (Some t) caller call r e = (t, refl, ap (reply_or (reply t.cells)) (some-injective e))
  where
    reply_or : CellReply Name → CellWant Name → CellReply Name
    reply_or r (to_answer caller call s) = s
    reply_or r _ = r

-- What a return gives back is a reply to a call whose callmessage has the type of the one that is returned.
module _ (c : Module) (i : ℕ) (q : List ℕ) (t : ℕ) (parameters : List Parameter) (raises : List Raised) (type : type_at c.types c.variables (i ∷ q) ≡ Some t) (shape : slice_get c.types t ≡ Some (callmessage parameters raises))
    (deep : IsTrue (is_within_depth greatest_depth c.types t)) (name : Name → Name) (has : Fact → Bool) (b : Frame Name) (sound : AreSound c has b.variables) (caller call : ℕ) (r : CellReply Name) where
  own-shape : shape_at c.types c.variables (i ∷ q) ≡ Some (callmessage parameters raises)
  own-shape = ap (option_and_then (slice_get c.types)) type ∙ shape

  taken-own : (places : List ℕ) (us : List ℕ) → flat_map (λ n. content_of (slice_get parameters n)) places ≡ us → ((f : Fact) → IsIn f (full_of_each c.types c.variables (map (part_path i q) places)) → IsTrue (has f))
      → (x : Taken Name) → take_all (map (part_path i q) places) (drop (flat_map (λ p. excess_over_full c p b) (map (part_path i q) places)) b) ≡ Some x → AreFull c.types us x.cells
  taken-own places us same needed x e =
      let given = given-full c i q t parameters raises type shape deep has b sound places
      (λ n h f m. needed f (in-flat_map (full c.types c.variables) (part_path i q n) f (map (part_path i q) places) (in-map (part_path i q) n places h) m)) x e in
      subst (λ us. AreFull c.types us x.cells) same (given-of-types c i q t parameters raises type shape deep has b sound places x.cells given)

  pub plain-reply : ((f : Fact) → IsIn f (needs c.types c.variables (Return (i ∷ q))) → IsTrue (has f)) → wants name c (Return (i ∷ q)) b ≡ Some (to_answer caller call r) → IsReplyTo c.types (Some t) r
  plain-reply needed want =
      let places = returned_places 0 (list_of parameters_of (shape_at c.types c.variables (i ∷ q))) in
      let there = present c.types c.variables (i ∷ q) in
      let fulls = full_of_each c.types c.variables (returned c.types c.variables (i ∷ q)) in
      let lost = flat_map (λ p. excess_over_full c p b) (map (part_path i q) places) in
      let a = answered-with values (option_and_then caller_of (cell_at (i ∷ q) b.variables)) (take_all (map (part_path i q) places) (drop lost b)) caller call r want in
      subst (IsReplyTo c.types (Some t)) a.2
      (taken-own places (types_back c.types (Some t))
      (ap (λ s. flat_map (λ n. content_of (slice_get parameters n)) (returned_places 0 (list_of parameters_of s))) own-shape
      ∙ returned-contents parameters 0 parameters (λ j. ap (slice_get parameters) (from j))
      ∙ ap (λ s. map (λ (p : Parameter). p.content) (filter (λ (p : Parameter). is_returned p.mode) (list_of parameters_of s))) (sym shape))
      (λ f h. needed f (in-closed c.types c.variables (there ++ fulls) f (in-append_right f there fulls h))) a.0 a.1)
    where
      from : (j : ℕ) → 0 + j ≡ j
      from j = omega arith

  pub raised-reply : (e : ℕ) → IsTrue (any_pass (λ (r : Raised). nat_eq r.exception e) raises) → ((f : Fact) → IsIn f (needs c.types c.variables (ReturnBy (i ∷ q) e)) → IsTrue (has f)) → wants name c (ReturnBy (i ∷ q) e) b ≡ Some (to_answer caller call r)
      → IsReplyTo c.types (Some t) r
  raised-reply e declared needed want =
      let places = kept_for (list_of raises_of (shape_at c.types c.variables (i ∷ q))) e in
      let there = present c.types c.variables (i ∷ q) in
      let fulls = full_of_each c.types c.variables (returned_by c.types c.variables (i ∷ q) e) in
      let lost = flat_map (λ p. excess_over_full c p b) (map (part_path i q) places) in
      let a = answered-with (raised e) (option_and_then caller_of (cell_at (i ∷ q) b.variables)) (take_all (map (part_path i q) places) (drop lost b)) caller call r want in
      subst (IsReplyTo c.types (Some t)) a.2 (
        subst (λ s. IsTrue (any_pass (λ (r : Raised). nat_eq r.exception e) (list_of raises_of s))) (sym shape) declared,
        taken-own places (types_kept c.types (Some t) e)
            (ap (λ s. flat_map (λ n. content_of (slice_get parameters n)) (kept_for (list_of raises_of s) e)) own-shape
            ∙ ap (λ s. flat_map (λ n. content_of (slice_get (list_of parameters_of s) n)) (kept_for (list_of raises_of s) e)) (sym shape))
            (λ f h. needed f (in-closed c.types c.variables (there ++ fulls) f (in-append_right f there fulls h))) a.0 a.1,
      )

pub returns-give : (c d : Module) (k : Calling) → ReturnsGiveReplies c d k
returns-give c d k = record {
  plain = λ i q is name has b caller call reply sound needed want. to-call i q is reply (plain-reply c i q is.type is.parameters is.raises is.at is.shape is.deep name has b sound caller call reply needed want);
  by_exception = λ i q e is declared name has b caller call reply sound needed want. to-call i q is reply (raised-reply c i q is.type is.parameters is.raises is.at is.shape is.deep name has b sound caller call reply e declared needed want);
}
  where
    to-call : (i : ℕ) (q : List ℕ) (is : IsCallAt c d k (i ∷ q)) (reply : CellReply Name) → IsReplyTo c.types (Some is.type) reply → IsReply d k reply
    to-call i q is reply h = subst (λ types. IsReplyTo types (call_type d k) reply) (sym is.types) (subst (λ o. IsReplyTo c.types o reply) (sym is.takes) h)
