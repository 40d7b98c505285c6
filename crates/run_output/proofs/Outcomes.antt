-- What holds of an outcome.
use Rattle.std.proofs.Common.{Result, Ok, Err}
use Rattle.std.specs.Prelude.{OnOk, OnErr}

-- an outcome of which one fact gives another
pub on_ok : {T E : Type 0} (result : Result T E) (P Q : Type 0) → (P → Q) → OnOk result P → OnOk result Q
on_ok (Ok x) P Q f h = f h
on_ok (Err e) P Q f h = h

pub on_err : {T E : Type 0} (result : Result T E) (P Q : Type 0) → (P → Q) → OnErr result P → OnErr result Q
on_err (Ok x) P Q f h = h
on_err (Err e) P Q f h = f h

pub on_err_always : {T E : Type 0} (result : Result T E) (P : Type 0) → P → OnErr result P
on_err_always (Ok x) P h = tt
on_err_always (Err e) P h = h
