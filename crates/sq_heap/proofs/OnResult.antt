-- What a clause on a result gives for another.
use Rattle.std.proofs.Common.{Result, Ok, Err}
use Rattle.std.specs.Prelude.{IfOk, OnErr, OnOk}

pub if_ok : {T E : Type 0} (r : Result T E) (P : Type 0) (Q R : T → Type 0) → (P → (v : T) → Q v → R v) → OnOk r P → IfOk r Q → IfOk r R
if_ok (Ok v) P Q R f p q = f p v q
if_ok (Err e) P Q R f p q = tt {0}

pub on_err : {T E : Type 0} (r : Result T E) (P Q : Type 0) → (P → Q) → OnErr r P → OnErr r Q
on_err (Ok v) P Q f h = tt {0}
on_err (Err e) P Q f h = f h

pub so_if_ok : {T E : Type 0} (r : Result T E) (Q R : T → Type 0) → ((v : T) → Q v → R v) → IfOk r Q → IfOk r R
so_if_ok (Ok v) Q R f q = f v q
so_if_ok (Err e) Q R f q = tt {0}
