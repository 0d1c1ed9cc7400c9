-- What stands stands on an error, too.
use Rattle.std.proofs.Common.{Result, Ok, Err, OnErr}

pub on_error : {T E P : Type 0} (r : Result T E) → P → OnErr r P
on_error (Ok x) p = tt
on_error (Err e) p = p
