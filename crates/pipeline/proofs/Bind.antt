-- `bind` at each case, for the proofs of the calls. Assumes nothing.
use mathlib.Core.Path.{◌≡◌, refl}
use mathlib.Core.Option.{Option, some, none, bind}

pub at_none : {A B : Type 0} (f : A → Option B) → bind none f ≡ none
unfolding bind
at_none f = refl

pub at_some : {A B : Type 0} (f : A → Option B) (a : A) → bind (some a) f ≡ f a
unfolding bind
at_some f a = refl
