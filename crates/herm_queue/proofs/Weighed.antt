-- What cells weigh where each weighs one.
use Rattle.std.proofs.Common.{◌≡◌, ℕ, suc, ◌+◌, ◌^◌, List, [], ◌∷◌, ◌++◌, map, min, refl, sym, ap, ap₂, ◌∙◌, arith}
use Rattle.std.specs.Prelude.{⊤}
use Rattle.herm_model.specs.CellNames.{count, count_in}
use Rattle.herm_model.specs.Lists.{total}
use Rattle.herm_model.specs.Values.{Cell, cell, Parts, no_parts, gap, part}
use Rattle.herm_journal.specs.Weights.{weigh, weigh_in, weigh_reply}
use Rattle.herm_system.specs.Summary.{cut}
use Rattle.herm_values.specs.View.{value_view}
use Rattle.herm_values.specs.declared.value.Value.{Value}
use Rattle.herm_letters.specs.View.{reply_view}
use Rattle.herm_letters.specs.declared.parcel.Parcel.{Parcel}
use Rattle.herm_queue.specs.AnsweredReplies.{waiting_of}
use Rattle.herm_queue.specs.CellStates.{value_text}
use Rattle.herm_queue.specs.MessageStates.{queue_of, texts_of_parcels, values_of}
use Rattle.herm_letters.specs.declared.reply.Reply.{Reply}
use Rattle.herm_queue.specs.declared.answers.Answered.{Answered}

abbrev each : ⊤ → ℕ
each n = 1

more : (a b : ℕ) → a ≡ b → 1 + a ≡ suc b
more a b e = omega (arith, e)

mutual
  weighed : (c : Cell ⊤) → weigh each c ≡ count c
  weighed (cell n k ps) = more (weigh_in each ps) (count_in ps) (weighed_in ps)

  weighed_in : (ps : Parts ⊤) → weigh_in each ps ≡ count_in ps
  weighed_in no_parts = refl
  weighed_in (gap ps) = weighed_in ps
  weighed_in (part c ps) = ap₂ ◌+◌ (weighed c) (weighed_in ps)

pub weighed_count : (c : Cell ⊤) → min (count c) (2 ^ 63) ≡ cut (weigh (λ n. 1) c)
weighed_count c = ap cut (sym (weighed c))

-- a count that is cut, with more
pub cut_on : (a b c : ℕ) → cut (cut (a + cut b) + c) ≡ cut (a + (b + c))
cut_on a b c = omega arith

abbrev weight_of : ℕ × Reply → ℕ
weight_of r = weigh_reply (λ n. 1) (reply_view r.1)

total-joined : (xs ys : List Answered) → total weight_of (waiting_of (xs ++ ys)) ≡ total weight_of (waiting_of xs) + total weight_of (waiting_of ys)
total-joined [] ys = omega arith
total-joined (x ∷ xs) ys = omega (arith, total-joined xs ys)

cut_both : (a b : ℕ) → cut (cut a + cut b) ≡ cut (a + b)
cut_both a b = omega arith

-- counts that are cut add up to the cut count
pub joined_cut : (xs ys : List Answered) → cut (cut (total weight_of (waiting_of xs)) + cut (total weight_of (waiting_of ys))) ≡ cut (total weight_of (waiting_of (xs ++ ys)))
joined_cut xs ys = cut_both (total weight_of (waiting_of xs)) (total weight_of (waiting_of ys)) ∙ ap cut (sym (total-joined xs ys))

-- the messages of a queue
pub texts-queued : (ps : List Parcel) → texts_of_parcels ps ≡ map (λ (m : ℕ × Value). value_text m.1) (queue_of ps)
texts-queued [] = refl
texts-queued (p ∷ ps) = ap (value_text p.value ∷◌) (texts-queued ps)

pub values-queued : (ps : List Parcel) → map value_view (values_of ps) ≡ map (λ (m : ℕ × Value). value_view m.1) (queue_of ps)
values-queued [] = refl
values-queued (p ∷ ps) = ap (value_view p.value ∷◌) (values-queued ps)
