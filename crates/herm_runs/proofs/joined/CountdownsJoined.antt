-- The two machines that count are joined, and keep numbers.
use Rattle.std.proofs.Common.{◌≡◌, ℕ, zero, suc, List, [], ◌∷◌, Option, Some, None, refl, ap, subst}
use Rattle.herm_model.specs.Values.{Name, an_inport, Cell, cell, no_parts}
use Rattle.herm_journal.specs.Actions.{make_port, make_process, put, take, close, answer, hear}
use Rattle.herm_journal.specs.Messages.{CellAction}
use Rattle.herm_system.specs.Ledger.{held_by}
use Rattle.herm_runs.specs.Joining.{BothOrNone, ShowTheSame, AreJoined}
use Rattle.herm_runs.specs.examples.Countdowns.{OwnPort, Down, begin_down, down_behind, counting_down, Up, begin_up, up_behind, counting_up, as_down, AtMostTwo, AtMostOne, CountTheSame}

module _ {N : Type 0} (name : Name → N) where
  abbrev up_with : (number made actions : ℕ) → List (Cell N) → List (OwnPort N) → List N → Up N
  up_with number made actions outbox unclosed gone = record { number = number; made = made; actions = actions; outbox = outbox; unclosed = unclosed; finalised = gone }

  held-same : (w : N → ℕ) (number made actions : ℕ) (outbox : List (Cell N)) (unclosed : List (OwnPort N)) (gone : List N) → AtMostOne outbox → AtMostOne unclosed
      → held_by w (counting_down name) (as_down (up_with number made actions outbox unclosed gone)) ≡ held_by w (counting_up name) (up_with number made actions outbox unclosed gone)
  held-same w number made actions [] [] gone one alone = refl
  held-same w number made actions [] (p ∷ []) gone one alone = refl
  held-same w number made actions (m ∷ []) [] gone one alone = refl
  held-same w number made actions (m ∷ []) (p ∷ []) gone one alone = refl
  held-same w number made actions (m ∷ n ∷ ms) unclosed gone one alone = absurd one
  held-same w number made actions outbox (p ∷ q ∷ ps) gone one alone = absurd alone

  ready-same : (limit number made actions : ℕ) (outbox : List (Cell N)) (unclosed : List (OwnPort N)) (gone : List N) → AtMostTwo made
      → (counting_down name).ready limit (as_down (up_with number made actions outbox unclosed gone)) ≡ (counting_up name).ready limit (up_with number made actions outbox unclosed gone)
  ready-same limit number made actions outbox [] gone few = refl
  ready-same limit number made actions (m ∷ ms) (p ∷ ps) gone few = refl
  ready-same limit number zero actions [] (p ∷ ps) gone few = refl
  ready-same limit number (suc zero) actions [] (p ∷ ps) gone few = refl
  ready-same limit number (suc (suc zero)) actions [] (p ∷ ps) gone few = refl
  ready-same limit number (suc (suc (suc made))) actions [] (p ∷ ps) gone few = absurd few

  wanted-same : (number made actions : ℕ) (outbox : List (Cell N)) (unclosed : List (OwnPort N)) (gone : List N) → AtMostTwo made
      → (counting_down name).wanted (as_down (up_with number made actions outbox unclosed gone)) ≡ (counting_up name).wanted (up_with number made actions outbox unclosed gone)
  wanted-same number made actions outbox [] gone few = refl
  wanted-same number made actions (m ∷ ms) (p ∷ ps) gone few = refl
  wanted-same number zero actions [] (p ∷ ps) gone few = refl
  wanted-same number (suc zero) actions [] (p ∷ ps) gone few = refl
  wanted-same number (suc (suc zero)) actions [] (p ∷ ps) gone few = refl
  wanted-same number (suc (suc (suc made))) actions [] (p ∷ ps) gone few = absurd few

  -- a state shows the same as the one that it stands for
  shows : (y : Up N) → AtMostTwo y.made → AtMostOne y.outbox → AtMostOne y.unclosed → ShowTheSame (counting_down name) (counting_up name) (as_down y) y
  shows y few one alone = record {
    module_number = refl;
    number = refl;
    serial = refl;
    steps = refl;
    actions = refl;
    exception = refl;
    held = λ w. held-same w y.number y.made y.actions y.outbox y.unclosed y.finalised one alone;
    finalised = λ w. refl;
    port_types = λ n. refl;
    open_calls = refl;
    ready = λ limit. ready-same limit y.number y.made y.actions y.outbox y.unclosed y.finalised few;
    wanted = wanted-same y.number y.made y.actions y.outbox y.unclosed y.finalised few;
  }

  -- local steps and answers
  steps-same : (number made actions : ℕ) (outbox : List (Cell N)) (unclosed : List (OwnPort N)) (gone : List N) → AtMostTwo made → AtMostOne outbox → AtMostOne unclosed
      → BothOrNone CountTheSame ((counting_down name).local_step (as_down (up_with number made actions outbox unclosed gone))) ((counting_up name).local_step (up_with number made actions outbox unclosed gone))
  steps-same number made actions outbox [] gone few one alone = tt
  steps-same number made actions (m ∷ ms) (p ∷ ps) gone few one alone = tt
  steps-same number zero actions [] (p ∷ ps) gone few one alone = (refl, tt, tt, alone)
  steps-same number (suc zero) actions [] (p ∷ ps) gone few one alone = (refl, tt, tt, alone)
  steps-same number (suc (suc zero)) actions [] (p ∷ ps) gone few one alone = tt
  steps-same number (suc (suc (suc made))) actions [] (p ∷ ps) gone few one alone = absurd few

  abbrev Behind : (number made actions : ℕ) → List (Cell N) → List (OwnPort N) → List N → CellAction N → Type 0
  Behind number made actions outbox unclosed gone a =
      BothOrNone CountTheSame (down_behind name (as_down (up_with number made actions outbox unclosed gone)) a (as_down (up_with number made actions outbox unclosed gone)).left (as_down (up_with number made actions outbox unclosed gone)).message (as_down (up_with number made actions outbox unclosed gone)).inport)
      (up_behind name (up_with number made actions outbox unclosed gone) a outbox unclosed)

  closed-behind : (number made actions : ℕ) (outbox : List (Cell N)) (unclosed : List (OwnPort N)) (gone : List N) (count : ℕ) (rest : List (Cell N)) → AtMostTwo made → AtMostOne unclosed → Behind number made actions outbox unclosed gone (close count rest)
  closed-behind number zero actions [] [] gone count rest few alone = tt
  closed-behind number (suc zero) actions [] [] gone count rest few alone = tt
  closed-behind number (suc (suc zero)) actions [] [] gone count rest few alone = tt
  closed-behind number zero actions (m ∷ ms) [] gone count rest few alone = tt
  closed-behind number (suc zero) actions (m ∷ ms) [] gone count rest few alone = tt
  closed-behind number (suc (suc zero)) actions (m ∷ ms) [] gone count rest few alone = tt
  closed-behind number zero actions (m ∷ ms) (p ∷ ps) gone count rest few alone = tt
  closed-behind number (suc zero) actions (m ∷ ms) (p ∷ ps) gone count rest few alone = tt
  closed-behind number (suc (suc zero)) actions (m ∷ ms) (p ∷ ps) gone count rest few alone = tt
  closed-behind number zero actions [] (p ∷ ps) gone count rest few alone = tt
  closed-behind number (suc zero) actions [] (p ∷ ps) gone count rest few alone = tt
  closed-behind number (suc (suc zero)) actions [] (p ∷ []) gone count rest few alone = (refl, tt, tt, tt)
  closed-behind number (suc (suc zero)) actions [] (p ∷ q ∷ ps) gone count rest few alone = absurd alone
  closed-behind number (suc (suc (suc made))) actions outbox unclosed gone count rest few alone = absurd few

  put-behind : (number made actions : ℕ) (outbox : List (Cell N)) (unclosed : List (OwnPort N)) (gone : List N) (k : Option ℕ) (sent : Cell N) → AtMostTwo made → AtMostOne outbox → AtMostOne unclosed
      → Behind number made actions outbox unclosed gone (put k sent)
  put-behind number made actions (m ∷ []) (p ∷ ps) gone (Some k) sent few one alone = (refl, few, tt, alone)
  put-behind number made actions (m ∷ []) (p ∷ ps) gone None sent few one alone = (refl, few, tt, alone)
  put-behind number made actions [] [] gone (Some k) sent few one alone = tt
  put-behind number made actions [] [] gone None sent few one alone = tt
  put-behind number made actions [] (p ∷ ps) gone (Some k) sent few one alone = tt
  put-behind number made actions [] (p ∷ ps) gone None sent few one alone = tt
  put-behind number made actions (m ∷ []) [] gone (Some k) sent few one alone = tt
  put-behind number made actions (m ∷ []) [] gone None sent few one alone = tt
  put-behind number made actions (m ∷ n ∷ ms) unclosed gone k sent few one alone = absurd one

  answers-same : (number made actions : ℕ) (outbox : List (Cell N)) (unclosed : List (OwnPort N)) (gone : List N) (a : CellAction N) → AtMostTwo made → AtMostOne outbox → AtMostOne unclosed → Behind number made actions outbox unclosed gone a
  answers-same number made actions outbox unclosed gone (put k sent) few one alone = put-behind number made actions outbox unclosed gone k sent few one alone
  answers-same number made actions outbox unclosed gone (close count rest) few one alone = closed-behind number made actions outbox unclosed gone count rest few alone
  answers-same number made actions outbox unclosed gone (make_port k) few one alone = tt
  answers-same number made actions outbox unclosed gone (make_process code k) few one alone = tt
  answers-same number made actions outbox unclosed gone (take k m) few one alone = tt
  answers-same number made actions outbox unclosed gone (answer k r) few one alone = tt
  answers-same number made actions outbox unclosed gone (hear k r) few one alone = tt

  -- a beginning
  begins-same : (code number port : ℕ) (n : N) → BothOrNone CountTheSame (begin_down name code number (cell n (an_inport port) no_parts)) (begin_up name code number (cell n (an_inport port) no_parts))
  begins-same zero number port n = (refl, tt, tt, tt)
  begins-same (suc code) number port n = tt

  pub counts-joined : AreJoined (counting_down name) (counting_up name) CountTheSame
  counts-joined = record {
    types = refl;
    main = refl;
    shows = λ x y r. subst (λ x. ShowTheSame (counting_down name) (counting_up name) x y) r.0 (shows y r.1 r.2 r.3);
    begins = begins-same;
    local_steps = λ limit x y r is. subst (λ x. BothOrNone CountTheSame ((counting_down name).local_step x) ((counting_up name).local_step y)) r.0 (steps-same y.number y.made y.actions y.outbox y.unclosed y.finalised r.1 r.2 r.3);
    answers = λ x y place action r fulfils suits.
        subst (λ x. BothOrNone CountTheSame (down_behind name x action x.left x.message x.inport) (up_behind name y action y.outbox y.unclosed)) r.0 (answers-same y.number y.made y.actions y.outbox y.unclosed y.finalised action r.1 r.2 r.3);
    puts_aside = λ x y r. (ap (λ (v : Down N). record v { actions = suc v.actions }) r.0, r.1, r.2, r.3);
  }
