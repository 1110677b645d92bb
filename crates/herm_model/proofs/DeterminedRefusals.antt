-- What is missing is determined, and nothing is missing exactly where every demand is held.
use Rattle.std.proofs.Common.{◌≡◌, ◌↔◌, ℕ, List, [], ◌∷◌, false, refl, sym, ap, subst, inl, inr, true≢false}
use Rattle.herm_model.specs.Lists.{IsIn}
use Rattle.herm_model.specs.Paths.{Fact}
use Rattle.herm_model.specs.Types.{TypeTable}
use Rattle.herm_model.specs.Statements.{Process}
use Rattle.herm_model.specs.ControlPaths.{Flow, flow_of, Hop, Holds, LacksBy}
use Rattle.herm_model.specs.MissingFacts.{Demand, demands, Refusal, AreRefusals, none, missing, holds, IsAccepted}
use Rattle.herm_model.specs.laws.FlowLaws.{said}

-- a fact is not both held on every path and lacking on one
not-both : {A : Type 0} (flow : Flow) (f : Fact) (i : ℕ) (hops : List Hop) → Holds flow f i → LacksBy flow f i hops → A
not-both flow f i hops h lacks = absurd (true≢false (sym (h hops false lacks)))

pub refusals-determined : (flow : Flow) (ds : List Demand) (rs others : List Refusal) → AreRefusals flow ds rs → AreRefusals flow ds others → said rs ≡ said others
refusals-determined flow [] _ _ none none = refl
refusals-determined flow _ _ _ (missing d ds hops rs lacks rest) (missing _ _ hops' rs' lacks' rest') = ap ((d.number, d.fact) ∷◌) (refusals-determined flow ds rs rs' rest rest')
refusals-determined flow _ _ _ (missing d ds hops rs lacks rest) (holds _ _ rs' h rest') = not-both flow d.fact d.at hops h lacks
refusals-determined flow _ _ _ (holds d ds rs h rest) (missing _ _ hops' rs' lacks' rest') = not-both flow d.fact d.at hops' h lacks'
refusals-determined flow _ _ _ (holds d ds rs h rest) (holds _ _ rs' h' rest') = refusals-determined flow ds rs rs' rest rest'

all-held : (flow : Flow) (ds : List Demand) → AreRefusals flow ds [] → (d : Demand) → IsIn d ds → Holds flow d.fact d.at
all-held flow [] none d member = absurd member
all-held flow _ (holds e ds _ h rest) d (inl same) = subst (λ (x : Demand). Holds flow x.fact x.at) (sym same) h
all-held flow _ (holds e ds _ h rest) d (inr member) = all-held flow ds rest d member

none-missing : (flow : Flow) (ds : List Demand) → ((d : Demand) → IsIn d ds → Holds flow d.fact d.at) → AreRefusals flow ds []
none-missing flow [] h = none
none-missing flow (d ∷ ds) h = holds d ds [] (h d (inl refl)) (none-missing flow ds (λ e member. h e (inr member)))

pub accepted-held : (types : TypeTable) (p : Process) → IsAccepted types p ↔ ((d : Demand) → IsIn d (demands (flow_of types p)) → Holds (flow_of types p) d.fact d.at)
accepted-held types p = (all-held (flow_of types p) (demands (flow_of types p)), none-missing (flow_of types p) (demands (flow_of types p)))
