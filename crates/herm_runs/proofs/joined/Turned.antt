-- Two joined machines are joined the other way round.
use Rattle.std.proofs.Common.{◌≡◌, ℕ, List, [], ◌∷◌, Option, Some, None, sym, ap, subst, ◌∙◌}
use Rattle.std.specs.Prelude.{IsTrue}
use Rattle.herm_model.specs.Lists.{any_pass}
use Rattle.herm_journal.specs.Actions.{make_port, make_process, put, take, close, answer, hear}
use Rattle.herm_journal.specs.Entries.{Place, same_place}
use Rattle.herm_journal.specs.Messages.{CellAction, IsMessage, IsReplyTo}
use Rattle.herm_system.specs.Machines.{Machine, is_local}
use Rattle.herm_system.specs.Systems.{places_for, number_of}
use Rattle.herm_system.specs.Suiting.{Fulfils, Suits}
use Rattle.herm_runs.specs.Joining.{BothOrNone, ShowTheSame, AreJoined, EachOf, turned}

pub both-turned : {X Y : Type 0} (R : X → Y → Type 0) (o : Option X) (p : Option Y) → BothOrNone R o p → BothOrNone (turned R) p o
both-turned R None None h = tt
both-turned R None (Some y) h = absurd h
both-turned R (Some x) None h = absurd h
both-turned R (Some x) (Some y) h = h

pub shows-turned : {N P Q : Type 0} (a : Machine N P) (b : Machine N Q) (x : P) (y : Q) → ShowTheSame a b x y → ShowTheSame b a y x
shows-turned a b x y h = record {
  module_number = sym h.module_number;
  number = sym h.number;
  serial = sym h.serial;
  steps = sym h.steps;
  actions = sym h.actions;
  exception = sym h.exception;
  held = λ w. sym (h.held w);
  finalised = λ w. sym (h.finalised w);
  port_types = λ n. sym (h.port_types n);
  open_calls = sym h.open_calls;
  ready = λ limit. sym (h.ready limit);
  wanted = sym h.wanted;
}

-- what suits the one state, and what it wants and gets, are what suits the other, and what that wants and gets
module _ {N P Q : Type 0} (a : Machine N P) (b : Machine N Q) (types : a.types ≡ b.types) (x : P) (y : Q) (shows : ShowTheSame a b x y) where
  pub suits-same : (at : ℕ) (action : CellAction N) → Suits a x at action → Suits b y at action
  suits-same at (take k m) h = (h.0, sym (shows.port_types at) ∙ h.1, subst (λ types. IsMessage types h.0 m) types h.2)
  suits-same at (hear k r) h = (h.0, sym shows.open_calls ∙ h.1, h.2, subst (λ types. IsReplyTo types (h.0).call_type r) types h.3)
  suits-same at (make_port made) h = tt
  suits-same at (make_process code made) h = tt
  suits-same at (put number m) h = tt
  suits-same at (close count left) h = h
  suits-same at (answer call r) h = tt

  pub fulfils-same : (place : Place) (action : CellAction N) → Fulfils a x place action → Fulfils b y place action
  fulfils-same place action h =
      (h.0, sym shows.wanted ∙ h.1, subst (λ p. IsTrue (any_pass (same_place place) (places_for p h.0))) shows.number h.2, h.3)

pub joined-turned : {N P Q : Type 0} (a : Machine N P) (b : Machine N Q) (R : P → Q → Type 0) → AreJoined a b R → AreJoined b a (turned R)
joined-turned a b R j = record {
  types = sym j.types;
  main = sym j.main;
  shows = λ y x r. shows-turned a b x y (j.shows x y r);
  begins = λ code number port n. both-turned R _ _ (j.begins code number port n);
  local_steps = λ limit y x r is. both-turned R _ _ (j.local_steps limit x y r (ap is_local ((j.shows x y r).ready limit) ∙ is));
  answers = λ y x place action r fulfils suits.
      let back = shows-turned a b x y (j.shows x y r) in
      both-turned R _ _ (j.answers x y place action r (fulfils-same b a (sym j.types) y x back place action fulfils) (suits-same b a (sym j.types) y x back (number_of place) action suits));
  puts_aside = λ y x r. j.puts_aside x y r;
}

pub each-turned : {P Q : Type 0} (R : P → Q → Type 0) (xs : List P) (ys : List Q) → EachOf R xs ys → EachOf (turned R) ys xs
each-turned R [] [] h = tt
each-turned R [] (y ∷ ys) h = absurd h
each-turned R (x ∷ xs) [] h = absurd h
each-turned R (x ∷ xs) (y ∷ ys) h = (h.0, each-turned R xs ys h.1)
