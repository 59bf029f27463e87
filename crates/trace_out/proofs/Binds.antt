-- What a chain of readings was read from.
use Rattle.std.proofs.Common.{◌≡◌, Option, Some, None, refl, inl, inr}
use Rattle.std.specs.Prelude.{◌⊎◌}
use Rattle.std.specs.Option.{option_map, option_map_or}
use Rattle.trace_out.specs.Front.{◌>>=◌}

-- what was found first
pub record Bound {A B : Type 0} (o : Option A) (f : A → Option B) (y : B) : Type 0 where
  pub value : A
  pub was : o ≡ Some value
  pub goes_on : f value ≡ Some y

pub bound : {A B : Type 0} {f : A → Option B} {y : B} (o : Option A) → (o >>= f) ≡ Some y
    → Bound o f y
bound None read = cc
bound (Some value) read = record { value = value; was = refl; goes_on = read }

-- what a value was made of
pub record Made {A B : Type 0} (f : A → B) (o : Option A) (y : B) : Type 0 where
  pub value : A
  pub was : o ≡ Some value
  pub is : f value ≡ y

pub made : {A B : Type 0} {f : A → B} {y : B} (o : Option A) → option_map f o ≡ Some y → Made f o y
made None read = cc
made (Some value) read = record { value = value; was = refl; is = cc }

-- which way a choice went
pub record Taken {A B : Type 0} (f : A → Option B) (o : Option A) (y : B) : Type 0 where
  pub value : A
  pub was : o ≡ Some value
  pub goes_on : f value ≡ Some y

pub record Passed {A B : Type 0} (o : Option A) (other : Option B) (y : B) : Type 0 where
  pub was : o ≡ None
  pub goes_on : other ≡ Some y

pub chosen : {A B : Type 0} {f : A → Option B} {other : Option B} {y : B} (o : Option A)
    → option_map_or f o other ≡ Some y → Taken f o y ⊎ Passed o other y
chosen None read = inr (record { was = refl; goes_on = read })
chosen (Some value) read = inl (record { value = value; was = refl; goes_on = read })
