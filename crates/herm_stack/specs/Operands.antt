-- The scalars that operands are, and what two of them give.
use Rattle.std.specs.Prelude.{ℕ, List, Bool, false, ℤ, Option, Some, None}
use Rattle.std.specs.Ordering.{nat_cmp, int_cmp}
use Rattle.std.specs.Cmp.Lexicographic.{slice_cmp}
use Rattle.std.specs.declared.cmp.Ordering.{Ordering}
use Rattle.herm_model.specs.Values.{Scalar, a_boolean, an_integer, a_text, a_tag, a_scalar, a_record, a_variant, a_table, a_polymorph, a_callmessage, an_inport, an_outport, Cell, cell}
use Rattle.herm_model.specs.Tables.{same_scalar}
use Rattle.herm_forms.specs.Evaluate.{Evaluated, no_value, gives_boolean}

-- the scalar that a value is, if it is one
abbrev pub scalar_in : {N : Type 0} → Cell N → Option Scalar
scalar_in (cell n (a_scalar s) ps) = Some s
scalar_in (cell n a_record ps) = None
scalar_in (cell n (a_variant c) ps) = None
scalar_in (cell n a_table ps) = None
scalar_in (cell n (a_polymorph t) ps) = None
scalar_in (cell n (a_callmessage caller call) ps) = None
scalar_in (cell n (an_inport port) ps) = None
scalar_in (cell n (an_outport port) ps) = None

-- the truth value, the integer, the bytes of a string, and the place of an enumeration's name
abbrev pub boolean_in : Option Scalar → Option Bool
boolean_in None = None
boolean_in (Some (a_boolean b)) = Some b
boolean_in (Some (an_integer z)) = None
boolean_in (Some (a_text bytes)) = None
boolean_in (Some (a_tag i)) = None

abbrev pub integer_in : Option Scalar → Option ℤ
integer_in None = None
integer_in (Some (a_boolean b)) = None
integer_in (Some (an_integer z)) = Some z
integer_in (Some (a_text bytes)) = None
integer_in (Some (a_tag i)) = None

abbrev pub text_in : Option Scalar → Option (List ℕ)
text_in None = None
text_in (Some (a_boolean b)) = None
text_in (Some (an_integer z)) = None
text_in (Some (a_text bytes)) = Some bytes
text_in (Some (a_tag i)) = None

abbrev pub tag_in : Option Scalar → Option ℕ
tag_in None = None
tag_in (Some (a_boolean b)) = None
tag_in (Some (an_integer z)) = None
tag_in (Some (a_text bytes)) = None
tag_in (Some (a_tag i)) = Some i

-- both, where both are there
abbrev pub both_of : {X : Type 0} → Option X → Option X → Option (X × X)
both_of None y = None
both_of (Some x) None = None
both_of (Some x) (Some y) = Some (x, y)

-- what is there given to a function of two, and no value without it
abbrev pub given_both : {X : Type 0} → (X → X → Evaluated) → Option (X × X) → Evaluated
given_both f None = no_value
given_both f (Some p) = f p.0 p.1

-- a truth value, and no value without it
abbrev pub tested : Option Bool → Evaluated
tested None = no_value
tested (Some b) = gives_boolean b

-- whether two scalars are equal
abbrev pub sameness : Option Scalar → Option Scalar → Option Bool
sameness None y = None
sameness (Some x) None = None
sameness (Some x) (Some y) = Some (same_scalar x y)

-- how two integers or two strings are ordered
abbrev pub ordering : Option Scalar → Option Scalar → Option Ordering
ordering None y = None
ordering (Some (a_boolean b)) y = None
ordering (Some (an_integer y)) None = None
ordering (Some (an_integer y)) (Some (a_boolean b)) = None
ordering (Some (an_integer y)) (Some (an_integer z)) = Some (int_cmp y z)
ordering (Some (an_integer y)) (Some (a_text t)) = None
ordering (Some (an_integer y)) (Some (a_tag i)) = None
ordering (Some (a_text s)) None = None
ordering (Some (a_text s)) (Some (a_boolean b)) = None
ordering (Some (a_text s)) (Some (an_integer z)) = None
ordering (Some (a_text s)) (Some (a_text t)) = Some (slice_cmp nat_cmp s t)
ordering (Some (a_text s)) (Some (a_tag i)) = None
ordering (Some (a_tag i)) y = None

-- a scalar that is of another kind is not equal
abbrev pub differing : Option Scalar → Option Bool
differing None = None
differing (Some s) = Some false

-- what one operand gives, and no value without it
abbrev pub given_one : {X : Type 0} → (X → Evaluated) → Option X → Evaluated
given_one f None = no_value
given_one f (Some x) = f x
