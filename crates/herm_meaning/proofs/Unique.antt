-- Places have one list of faults.
use Rattle.std.proofs.Common.{◌≡◌, ◌<◌, inl, inr, [], ◌∷◌, refl, sym, ◌∙◌, ap, arith}
use Rattle.herm_meaning.specs.Names.{NamedTable}
use Rattle.herm_meaning.specs.Marks.{Place}
use Rattle.herm_meaning.specs.DefinitionFaults.{Code, unknown, twice, cycle, deep, bad_key, bad_state, rank, IsFirst}
use Rattle.herm_meaning.specs.laws.FaultLaws.{HasOneList}

same-rank : (c d : Code) → (rank c < rank d → ⊥) → (rank d < rank c → ⊥) → c ≡ d
same-rank unknown unknown l m = refl
same-rank unknown twice l m = absurd (l (omega arith))
same-rank unknown cycle l m = absurd (l (omega arith))
same-rank unknown deep l m = absurd (l (omega arith))
same-rank unknown bad_key l m = absurd (l (omega arith))
same-rank unknown bad_state l m = absurd (l (omega arith))
same-rank twice unknown l m = absurd (m (omega arith))
same-rank twice twice l m = refl
same-rank twice cycle l m = absurd (l (omega arith))
same-rank twice deep l m = absurd (l (omega arith))
same-rank twice bad_key l m = absurd (l (omega arith))
same-rank twice bad_state l m = absurd (l (omega arith))
same-rank cycle unknown l m = absurd (m (omega arith))
same-rank cycle twice l m = absurd (m (omega arith))
same-rank cycle cycle l m = refl
same-rank cycle deep l m = absurd (l (omega arith))
same-rank cycle bad_key l m = absurd (l (omega arith))
same-rank cycle bad_state l m = absurd (l (omega arith))
same-rank deep unknown l m = absurd (m (omega arith))
same-rank deep twice l m = absurd (m (omega arith))
same-rank deep cycle l m = absurd (m (omega arith))
same-rank deep deep l m = refl
same-rank deep bad_key l m = absurd (l (omega arith))
same-rank deep bad_state l m = absurd (l (omega arith))
same-rank bad_key unknown l m = absurd (m (omega arith))
same-rank bad_key twice l m = absurd (m (omega arith))
same-rank bad_key cycle l m = absurd (m (omega arith))
same-rank bad_key deep l m = absurd (m (omega arith))
same-rank bad_key bad_key l m = refl
same-rank bad_key bad_state l m = absurd (l (omega arith))
same-rank bad_state unknown l m = absurd (m (omega arith))
same-rank bad_state twice l m = absurd (m (omega arith))
same-rank bad_state cycle l m = absurd (m (omega arith))
same-rank bad_state deep l m = absurd (m (omega arith))
same-rank bad_state bad_key l m = absurd (m (omega arith))
same-rank bad_state bad_state l m = refl

one-first : (table : NamedTable) (p : Place) (c d : Code) → IsFirst table c p → IsFirst table d p → c ≡ d
one-first table p c d f g = same-rank c d (λ l. g.1 c l f.0) (λ l. f.1 d l g.0)

pub one-list : HasOneList
one-list table [] faults others a b = a ∙ sym b
one-list table (p ∷ ps) faults others (inl a) (inl b) = one-list table ps faults others a.1 b.1
one-list table (p ∷ ps) faults others (inl a) (inr b) = absurd (a.0 b.0 b.2.0)
one-list table (p ∷ ps) faults others (inr a) (inl b) = absurd (b.0 a.0 a.2.0)
one-list table (p ∷ ps) faults others (inr a) (inr b) =
    let same = one-first table p a.0 b.0 a.2 b.2 in
    let rest = one-list table ps a.1 b.1 a.4 b.4 in
    a.3 ∙ (ap (λ c. record { code = c; module' = p.0; span = p.1.name.span } ∷ a.1) same ∙ (ap (λ r. record { code = b.0; module' = p.0; span = p.1.name.span } ∷ r) rest ∙ sym b.3))
