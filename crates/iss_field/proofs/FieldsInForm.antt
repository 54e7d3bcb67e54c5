-- What holds of each value that a form takes holds of a field in that form.
use Rattle.std.proofs.Common.{Bool, true, false, Option, Some, None, option_map, option_and_then, IfOk, IfSome}
use Rattle.std.specs.Option.{ok_or}
use Rattle.serde_json.specs.Data.{Data}
use Rattle.iss_field.specs.declared.name.Name.{Name}
use Rattle.iss_field.specs.Fields.{field, form_if, required_field, found_unless, required_field_unless, field_or, optional_field, optional_field_or}

ok_or-is : {A : Type 0} (o : Option A) (name : Name) (P : A → Type 0) → IfSome o P → IfOk (ok_or o name) P
ok_or-is None name P h = tt
ok_or-is (Some x) name P h = h

then_form : {A : Type 0} (form : Data → Option A) (o : Option Data) (P : A → Type 0) → ((d : Data) → IfSome (form d) P) → IfSome (option_and_then form o) P
then_form form None P h = tt
then_form form (Some d) P h = h d

pub required-is : {A : Type 0} (form : Data → Option A) (name : Name) (d : Data) (P : A → Type 0) → ((e : Data) → IfSome (form e) P) → IfOk (required_field form name d) P
unfolding required_field
required-is form name d P h = ok_or-is (option_and_then form (field name d)) name P (then_form form (field name d) P h)

found_or-is : {A : Type 0} (form : Data → Option A) (absent : A) (name : Name) (o : Option Data) (P : A → Type 0)
    → P absent → ((e : Data) → IfSome (form e) P) → IfOk (field_or form absent name o) P
found_or-is form absent name None P given h = given
found_or-is form absent name (Some found) P given h = ok_or-is (form found) name P (h found)

pub optional_or-is : {A : Type 0} (form : Data → Option A) (absent : A) (name : Name) (d : Data) (P : A → Type 0)
    → P absent → ((e : Data) → IfSome (form e) P) → IfOk (optional_field_or form absent name d) P
unfolding optional_field_or
optional_or-is form absent name d P given h = found_or-is form absent name (field name d) P given h

-- what holds of the value, if there is one
some_of : {A : Type 0} (o : Option A) (P : A → Type 0) → IfSome o P → IfSome (option_map Some o) (λ found. IfSome found P)
some_of None P h = tt
some_of (Some x) P h = h

pub optional-is : {A : Type 0} (form : Data → Option A) (name : Name) (d : Data) (P : A → Type 0) → ((e : Data) → IfSome (form e) P)
    → IfOk (optional_field form name d) (λ found. IfSome found P)
unfolding optional_field
optional-is {A} form name d P h =
    found_or-is {A = Option A} (λ found. option_map Some (form found)) None name (field name d) (λ found. IfSome found P) tt (λ e. some_of (form e) P (h e))

unless-is : {A : Type 0} (excused : Bool) (form : Data → Option A) (name : Name) (o : Option Data) (P : A → Type 0) → ((e : Data) → IfSome (form e) P)
    → IfOk (found_unless excused form name o) (λ found. IfSome found P)
unless-is true form name None P h = tt
unless-is false form name None P h = tt
unless-is {A} excused form name (Some found) P h = ok_or-is {A = Option A} (option_map Some (form found)) name (λ o. IfSome o P) (some_of (form found) P (h found))

pub required_unless-is : {A : Type 0} (excused : Bool) (form : Data → Option A) (name : Name) (d : Data) (P : A → Type 0) → ((e : Data) → IfSome (form e) P)
    → IfOk (required_field_unless excused form name d) (λ found. IfSome found P)
unfolding required_field_unless
required_unless-is excused form name d P h = unless-is excused form name (field name d) P h

-- what a form takes if the field may be there
pub form_if-is : {A : Type 0} (allowed : Bool) (form : Data → Option A) (d : Data) (P : A → Type 0) → IfSome (form d) P → IfSome (form_if allowed form d) P
form_if-is true form d P h = h
form_if-is false form d P h = tt
