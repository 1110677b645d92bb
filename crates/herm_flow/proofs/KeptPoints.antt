-- Points that are kept, one after the other.
use Rattle.std.proofs.Common.{◌≡◌, ℕ, suc, ◌+◌, ◌<◌, List, [], ◌∷◌, ◌++◌, map, drop, length, get_or, Vec, Global, Bor, refl, sym, ap, ap₂, subst, ◌∙◌, append-nil, append_assoc, arith}
use Rattle.std.proofs.Math.Seq.{drop-cons}
use Rattle.herm_base.specs.declared.numbers.ExcNo.{ExcNo}
use Rattle.herm_model.specs.Statements.{Block, Handlers, trying, numbers_of, numbers_of_block, nodes_of, nodes_of_block}
use Rattle.herm_model.specs.Targets.{Target}
use Rattle.herm_model.specs.Handlers.{Catch}
use Rattle.herm_model.specs.Nodes.{Node, Surroundings, catches_of, start_of_block, nodes, nodes_in, nodes_of_choices, nodes_of_catches}
use Rattle.herm_model.specs.ControlPaths.{Point}
use Rattle.herm_types.proofs.Extended.{map-append}
use Rattle.herm_typed.specs.declared.statements.TypedStmt.{TypedStmt}
use Rattle.herm_typed.specs.View.{typed_form_view, typed_stmts_view}
use Rattle.herm_typed.specs.Blocks.{handlers_list}
use Rattle.herm_flow.specs.declared.kept.Kept.{Kept}
use Rattle.herm_flow.specs.declared.kept.Kept.TheVariants.{All, Onward}
use Rattle.herm_flow.specs.Parts.{blocks_of}
use Rattle.herm_flow.specs.declared.kept.Points.{Points}
use Rattle.herm_flow.specs.declared.flow.Point.{Point as WholePoint}
use Rattle.herm_flow.specs.declared.onward.OnwardPoint.{OnwardPoint}
use Rattle.herm_flow.specs.View.{point_view}
use Rattle.herm_flow.specs.Onward.{IsOnwardPoint, AreOnward, none, more}
use Rattle.herm_flow.specs.OnwardView.{onward_point_view}
use Rattle.herm_flow.specs.Kept.{points_view, AreKept, Adds}

-- ---- points

onward-append : (ps qs rs ss : List Point) → AreOnward ps qs → AreOnward rs ss → AreOnward (ps ++ rs) (qs ++ ss)
onward-append _ _ rs ss none h = h
onward-append _ _ rs ss (more p q ps qs one g) h = more p q (ps ++ rs) (qs ++ ss) one (onward-append ps qs rs ss g h)

pub onward-length : (ps qs : List Point) → AreOnward ps qs → length qs ≡ length ps
onward-length _ _ none = refl
onward-length _ _ (more p q ps qs one g) = ap suc (onward-length ps qs g)

kept-none : (k : Kept) → AreKept k [] []
kept-none All = refl
kept-none Onward = none

kept-append : (k : Kept) (ps qs rs ss : List Point) → AreKept k ps qs → AreKept k rs ss → AreKept k (ps ++ rs) (qs ++ ss)
kept-append All ps qs rs ss g h = ap₂ ◌++◌ g h
kept-append Onward ps qs rs ss g h = onward-append ps qs rs ss g h

pub adds_none : (k : Kept) (old new : List Point) → new ≡ old → Adds k old new []
adds_none k old new e = ([], e ∙ sym (append-nil old), kept-none k)

pub adds_more : (k : Kept) (a b c ps qs all : List Point) → Adds k a b ps → Adds k b c qs → all ≡ ps ++ qs → Adds k a c all
adds_more k a b c ps qs all h g e = subst (Adds k a c) (sym e) (h.0 ++ g.0, g.1 ∙ (ap (λ xs. xs ++ g.0) h.1 ∙ append_assoc a h.0 g.0), kept-append k ps h.0 qs g.0 h.2 g.2)

pub adds_as : (k : Kept) (old new ps qs : List Point) → qs ≡ ps → Adds k old new ps → Adds k old new qs
adds_as k old new ps qs e h = subst (Adds k old new) (sym e) h

-- one point with all its edges
pub adds_whole : (k : Kept) (old new : Points) (p : Point) (w : WholePoint) → k ≡ All → new.whole.items ≡ old.whole.items ++ w ∷ [] → point_view w ≡ p → Adds k (points_view k old) (points_view k new) (p ∷ [])
adds_whole k old new p w e is seen =
    subst (λ k. Adds k (points_view k old) (points_view k new) (p ∷ [])) (sym e)
    (point_view w ∷ [], ap (map point_view) is ∙ map-append point_view old.whole.items (w ∷ []), ap (λ (q : Point). q ∷ []) seen)

-- one with those that cover the others
pub adds_onward : (k : Kept) (old new : Points) (p : Point) (w : OnwardPoint) → k ≡ Onward → new.onward.items ≡ old.onward.items ++ w ∷ [] → IsOnwardPoint p (onward_point_view w) → Adds k (points_view k old) (points_view k new) (p ∷ [])
adds_onward k old new p w e is seen =
    subst (λ k. Adds k (points_view k old) (points_view k new) (p ∷ [])) (sym e)
    (onward_point_view w ∷ [], ap (map onward_point_view) is ∙ map-append onward_point_view old.onward.items (w ∷ []), more p (onward_point_view w) [] [] seen none)

-- ---- blocks, one after the other

module _ (k : Kept) (view : Node → Point) where
  pub adds_end : (es : List Point) (ns : List Node) → ns ≡ [] → Adds k es es (map view ns)
  adds_end es ns e = adds_as k es es [] (map view ns) (ap (map view) e) (adds_none k es es refl)

  pub next_block : (blocks : List (Bor (List TypedStmt))) (i : ℕ) (b : Bor (List TypedStmt)) (m f m' f' : ℕ) (s : Surroundings) (old mid new : List Point) → i < length blocks → b ≡ get_or blocks i b
      → m' ≡ m + numbers_of_block (typed_stmts_view b.now) → f' ≡ f + nodes_of_block (typed_stmts_view b.now)
      → Adds k old mid (map view (nodes_in (typed_stmts_view b.now) m f s))
      → Adds k mid new (map view (nodes_of_choices (blocks_of (map (λ x. x.now) (drop (i + 1) blocks))) m' f' s))
      → Adds k old new (map view (nodes_of_choices (blocks_of (map (λ x. x.now) (drop i blocks))) m f s))
  next_block blocks i b m f m' f' s old mid new within is em ef h g =
      adds_more k old mid new (map view (nodes_in (typed_stmts_view b.now) m f s)) (map view (nodes_of_choices (blocks_of (map (λ x. x.now) (drop (i + 1) blocks))) m' f' s)) _ h g
      (ap (λ (xs : List (Bor (List TypedStmt))). map view (nodes_of_choices (blocks_of (map (λ x. x.now) xs)) m f s)) whole
      ∙ (map-append view (nodes_in (typed_stmts_view b.now) m f s) (nodes_of_choices (blocks_of (map (λ x. x.now) (drop (i + 1) blocks))) (m + numbers_of_block (typed_stmts_view b.now)) (f + nodes_of_block (typed_stmts_view b.now)) s)
      ∙ ap₂ (λ x y. map view (nodes_in (typed_stmts_view b.now) m f s) ++ map view (nodes_of_choices (blocks_of (map (λ x. x.now) (drop (i + 1) blocks))) x y s)) (sym em) (sym ef)))
    where
      whole : drop i blocks ≡ b ∷ drop (i + 1) blocks
      whole = let step : suc i ≡ i + 1 = omega arith in drop-cons blocks i b within ∙ ap₂ ◌∷◌ (sym is) (ap (λ n. drop n blocks) step)

  pub next_handler : (handled : List (ExcNo × Vec TypedStmt Global)) (i : ℕ) (a : ExcNo × Vec TypedStmt Global) (list again : List TypedStmt) (m f m' f' : ℕ) (s : Surroundings) (old mid new : List Point) → i < length handled → a ≡ get_or handled i a → list ≡ a.1.items → again ≡ a.1.items
      → m' ≡ m + numbers_of_block (typed_stmts_view again) → f' ≡ f + nodes_of_block (typed_stmts_view again)
      → Adds k old mid (map view (nodes_in (typed_stmts_view list) m f s))
      → Adds k mid new (map view (nodes_of_catches (handlers_list (drop (i + 1) handled)) m' f' s))
      → Adds k old new (map view (nodes_of_catches (handlers_list (drop i handled)) m f s))
  next_handler handled i a list again m f m' f' s old mid new within is one two em ef h g =
      adds_more k old mid new (map view (nodes_in (typed_stmts_view list) m f s)) (map view (nodes_of_catches (handlers_list (drop (i + 1) handled)) m' f' s)) _ h g
      (ap (λ (xs : List (ExcNo × Vec TypedStmt Global)). map view (nodes_of_catches (handlers_list xs) m f s)) whole
      ∙ (map-append view (nodes_in (typed_stmts_view a.1.items) m f s) (nodes_of_catches (handlers_list (drop (i + 1) handled)) (m + numbers_of_block (typed_stmts_view a.1.items)) (f + nodes_of_block (typed_stmts_view a.1.items)) s)
      ∙ (ap₂ (λ x y. map view (nodes_in (typed_stmts_view a.1.items) m f s) ++ map view (nodes_of_catches (handlers_list (drop (i + 1) handled)) x y s)) (sym (em ∙ ap (λ xs. m + numbers_of_block (typed_stmts_view xs)) two)) (sym (ef ∙ ap (λ xs. f + nodes_of_block (typed_stmts_view xs)) two))
      ∙ ap (λ xs. map view (nodes_in (typed_stmts_view xs) m f s) ++ map view (nodes_of_catches (handlers_list (drop (i + 1) handled)) m' f' s)) (sym one))))
    where
      whole : drop i handled ≡ a ∷ drop (i + 1) handled
      whole = let step : suc i ≡ i + 1 = omega arith in drop-cons handled i a within ∙ ap₂ ◌∷◌ (sym is) (ap (λ n. drop n handled) step)

  pub next_item : (list : List TypedStmt) (i : ℕ) (x : TypedStmt) (m f m' f' : ℕ) (to : Target) (s : Surroundings) (old mid new : List Point) → i < length list → x ≡ get_or list i x
      → m' ≡ m + numbers_of (typed_form_view x.form) → f' ≡ f + nodes_of (typed_form_view x.form)
      → to ≡ start_of_block (typed_stmts_view (drop (i + 1) list)) f' s.behind
      → Adds k old mid (map view (nodes (typed_form_view x.form) m f (record { behind = to; catches = s.catches; exit = s.exit })))
      → Adds k mid new (map view (nodes_in (typed_stmts_view (drop (i + 1) list)) m' f' s))
      → Adds k old new (map view (nodes_in (typed_stmts_view (drop i list)) m f s))
  next_item list i x m f m' f' to s old mid new within is em ef et h g =
      adds_more k old mid new (map view (nodes (typed_form_view x.form) m f (around to))) (map view (nodes_in (typed_stmts_view (drop (i + 1) list)) m' f' s)) _ h g
      (ap (λ (xs : List TypedStmt). map view (nodes_in (typed_stmts_view xs) m f s)) whole
      ∙ (map-append view (nodes (typed_form_view x.form) m f (around (start_of_block (typed_stmts_view (drop (i + 1) list)) (f + nodes_of (typed_form_view x.form)) s.behind))) (nodes_in (typed_stmts_view (drop (i + 1) list)) (m + numbers_of (typed_form_view x.form)) (f + nodes_of (typed_form_view x.form)) s)
      ∙ (ap₂ (λ y z. map view (nodes (typed_form_view x.form) m f (around (start_of_block (typed_stmts_view (drop (i + 1) list)) z s.behind))) ++ map view (nodes_in (typed_stmts_view (drop (i + 1) list)) y z s)) (sym em) (sym ef)
      ∙ ap (λ t. map view (nodes (typed_form_view x.form) m f (around t)) ++ map view (nodes_in (typed_stmts_view (drop (i + 1) list)) m' f' s)) (sym et))))
    where
      around : Target → Surroundings
      around t = record { behind = t; catches = s.catches; exit = s.exit }

      whole : drop i list ≡ x ∷ drop (i + 1) list
      whole = let step : suc i ≡ i + 1 = omega arith in drop-cons list i x within ∙ ap₂ ◌∷◌ (sym is) (ap (λ n. drop n list) step)

  -- the block of a `try`, and its handlers
  pub adds_trying : (b : Block) (hs : Handlers) (m f n m' f' : ℕ) (cs : List Catch) (s : Surroundings) (old mid new : List Point)
      → n ≡ m + 1 → m' ≡ n + numbers_of_block b → f' ≡ f + nodes_of_block b → cs ≡ catches_of hs f' s.behind ++ s.catches
      → Adds k old mid (map view (nodes_in b n f (record { behind = s.behind; catches = cs; exit = s.exit })))
      → Adds k mid new (map view (nodes_of_catches hs m' f' s))
      → Adds k old new (map view (nodes (trying b hs) m f s))
  adds_trying b hs m f n m' f' cs s old mid new en em ef ec h g =
      adds_more k old mid new (map view (nodes_in b n f (around cs))) (map view (nodes_of_catches hs m' f' s)) _ h g
      (map-append view (nodes_in b (m + 1) f (around (catches_of hs (f + nodes_of_block b) s.behind ++ s.catches))) (nodes_of_catches hs (m + 1 + numbers_of_block b) (f + nodes_of_block b) s)
      ∙ ap₂ ◌++◌
      (ap₂ (λ x c. map view (nodes_in b x f (around c))) (sym en) (ap (λ x. catches_of hs x s.behind ++ s.catches) (sym ef) ∙ sym ec))
      (ap₂ (λ x y. map view (nodes_of_catches hs x y s)) (sym (em ∙ ap (λ x. x + numbers_of_block b) en)) (sym ef)))
    where
      around : List Catch → Surroundings
      around c = record { behind = s.behind; catches = c; exit = s.exit }

-- a point, and points behind it
pub adds_first : (k : Kept) (old mid new : List Point) (p p' : Point) (ps ps' : List Point) → p' ≡ p → ps' ≡ ps → Adds k old mid (p ∷ []) → Adds k mid new ps → Adds k old new (p' ∷ ps')
adds_first k old mid new p p' ps ps' e f h g = adds_more k old mid new (p ∷ []) ps (p' ∷ ps') h g (ap₂ ◌∷◌ e f)
