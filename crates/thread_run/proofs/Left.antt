-- What holds of what a run leaves, where it leaves it.
use Rattle.std.specs.Prelude.{Result, Ok, Err, IfOk}

pub of_left : {A E : Type 0} (P Q R S T : A → Type 0) (left : Result A E) → ((a : A) → P a → Q a → R a → S a → T a) → IfOk left P → IfOk left Q → IfOk left R → IfOk left S → IfOk left T
of_left P Q R S T (Ok a) holds p q r s = holds a p q r s
of_left P Q R S T (Err e) holds p q r s = tt
